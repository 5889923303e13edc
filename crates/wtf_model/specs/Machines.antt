-- The machine: committed transactions run whole, one by one, on one tree.
use Rattle.std.specs.Prelude.{◌≡◌, ◌<◌, ℕ, ◌*◌, ◌==◌, Bool, nat_le, List, [], ◌∷◌, length, Option, None}
use Rattle.std.specs.FinMap.{FinMap, empty}
use Rattle.std.specs.FinSet.{FinSet}
use Rattle.std.specs.FinSet as set
use Rattle.std.specs.Ordering.{nat_cmp}
use Rattle.wtf_base.specs.declared.settings.Settings.{Settings}
use Rattle.wtf_model.specs.declared.limits.TheConstants.{MAX_LOGGED, MAX_REGIONS}
use Rattle.wtf_model.specs.declared.answer.Answer.{Answer}
use Rattle.wtf_model.specs.declared.op.Op.{Op}
use Rattle.wtf_model.specs.Tree.{Tree}
use Rattle.wtf_model.specs.Session.{Session}
use Rattle.wtf_model.specs.Call.{call}
use Rattle.wtf_model.specs.Transaction.{Transaction, Job, session_after}

-- The settings, the number of installs and the tree now; the next stamp; open transactions by client and jobs by label;
-- of the scans the stamps that were open when the last one began, the parts that are left of a running one, and how many
-- have finished; the servers that are down; and the trees that the saved image may stand for.
pub record Machine : Type 0 where
  pub settings : Settings
  pub number : ℕ
  pub now : Tree
  pub next_stamp : ℕ
  pub transactions : FinMap nat_cmp Transaction
  pub jobs : FinMap nat_cmp Job
  pub scan_list : List ℕ
  pub parts_left : Option ℕ
  pub scans : ℕ
  pub down : FinSet nat_cmp
  pub may_be_saved : List Tree

-- the machine before the first event
abbrev pub start : Settings → ℕ → Tree → Machine
start settings number tree = record {
  settings = settings;
  number = number;
  now = tree;
  next_stamp = 0;
  transactions = empty;
  jobs = empty;
  scan_list = [];
  parts_left = None;
  scans = 0;
  down = set.empty;
  may_be_saved = tree ∷ [];
}

-- the greatest length of a file
abbrev pub cap_of : Machine → ℕ
cap_of m = MAX_REGIONS * m.settings.region

-- server k is down
abbrev pub is_down : Machine → ℕ → Bool
is_down m k = set.contains m.down k

-- others have installed since what began with so many installs, which tells so by both numbers
abbrev pub IsBehind : (number began base now : ℕ) → Type 0
IsBehind number began base now = (base ≡ began) × (now ≡ number) × (base < now)

-- what a transaction's calls have left of its base tree
abbrev pub session_of : Machine → Transaction → Session
session_of m t = session_after (cap_of m) t.tree t.ops

-- what a transaction answers to one more call
abbrev pub due : Machine → Transaction → Op (List ℕ) → Answer
due m t o = (call (cap_of m) (session_of m t) o).answer

-- a transaction is live where all of its calls were replayed
abbrev pub is_live : Transaction → Bool
is_live t = t.replayed == length t.ops

-- its log is full
abbrev pub is_full : Transaction → Bool
is_full t = nat_le MAX_LOGGED (length t.ops)
