-- The steps of the machine: what it is after its answer to an event, and the runs that it accepts.
-- NSDI 2016, sections 2.6 and 2.7; refusals and limits are this store's own.
use Rattle.std.specs.Prelude.{ℕ, ◌+◌, Bool, true, false, if◌then◌else◌, List, [], ◌∷◌, ◌++◌, map, Option, Some, None}
use Rattle.std.specs.Bool.{MatchBool}
use Rattle.std.specs.FinMap.{FinMap, get, insert, remove, entries, from_entries}
use Rattle.std.specs.FinSet.{FinSet}
use Rattle.std.specs.FinSet as set
use Rattle.std.specs.Ordering.{nat_cmp}
use Rattle.wtf_model.specs.declared.answer.Answer.{Answer, Aborted'}
use Rattle.wtf_model.specs.declared.answer.Answer.TheVariants as answer
use Rattle.wtf_model.specs.declared.answer.Word.{Word}
use Rattle.wtf_model.specs.declared.answer.Word.TheVariants.{Exists, NoParent, NoEnt, NotDir, Root, NotEmpty, IsDir, Busy, InUse, NoHandle, Range, TooBig, NoSlice}
use Rattle.wtf_model.specs.declared.op.Op.{Op}
use Rattle.wtf_model.specs.declared.event.Verb.{Verb}
use Rattle.wtf_model.specs.declared.event.Verb.TheVariants as verb
use Rattle.wtf_model.specs.declared.event.Event.{Event}
use Rattle.wtf_model.specs.declared.event.Event.TheVariants as event
use Rattle.wtf_model.specs.declared.op.JobKind.{JobKind}
use Rattle.wtf_model.specs.declared.item.Item.{Item}
use Rattle.wtf_model.specs.declared.limits.TheConstants.{SCAN_PARTS}
use Rattle.wtf_model.specs.Items.{writes_of}
use Rattle.wtf_model.specs.Transaction.{Transaction, Job, session_after}
use Rattle.wtf_model.specs.Jobs.{job_changes}
use Rattle.wtf_model.specs.Scans.{open_stamps}
pub use Rattle.wtf_model.specs.Machines.{Machine, start, cap_of, is_down, session_of, due, is_live, is_full}
pub use Rattle.wtf_model.specs.Lawful.{MayFailRead, MayFailWrite, MayFail, MayCall, MayTry, MayAsk, MayClient, server_answer, May}

-- the refusals of a call itself; all others are the machine's
abbrev pub is_call_refusal : Word → Bool
is_call_refusal Exists = true
is_call_refusal NoParent = true
is_call_refusal NoEnt = true
is_call_refusal NotDir = true
is_call_refusal Root = true
is_call_refusal NotEmpty = true
is_call_refusal IsDir = true
is_call_refusal Busy = true
is_call_refusal InUse = true
is_call_refusal NoHandle = true
is_call_refusal Range = true
is_call_refusal TooBig = true
is_call_refusal NoSlice = true
is_call_refusal w = false

-- the answers of a call, which its transaction logs
abbrev pub is_logged : Answer → Bool
is_logged answer.Okay = true
is_logged (answer.Shown bytes) = true
is_logged (answer.At off) = true
is_logged (answer.Len len) = true
is_logged answer.Dir = true
is_logged (answer.File len links) = true
is_logged (answer.Names names) = true
is_logged (answer.Refused w) = is_call_refusal w
is_logged a = false

abbrev pub IsLogged : Answer → Type 0
IsLogged a = MatchBool (is_logged a) (Unit {0}) ⊥

abbrev pub with_transaction : Machine → ℕ → Transaction → Machine
with_transaction m c t = record m { transactions = insert m.transactions c t }

-- a transaction has ended
abbrev pub ended : Machine → ℕ → Machine
ended m c = record m { transactions = remove m.transactions c }

-- a transaction begins on the tree now
abbrev pub begun : Machine → ℕ → Answer → Machine
begun m c (answer.Begun n) =
    record (with_transaction m c (record { stamp = m.next_stamp; base = m.number; tree = m.now; ops = []; shown = []; replayed = 0; touched = [] }))
    { next_stamp = m.next_stamp + 1 }
begun m c a = m

-- a transaction with one more call, and what was shown of it
abbrev pub logged : Transaction → Op (List ℕ) → Answer → Transaction
logged t o a = record t { ops = t.ops ++ o ∷ []; shown = t.shown ++ a ∷ []; replayed = t.replayed + 1 }

-- a call is logged with its answer; a refusal of the machine and a fault leave the machine
abbrev pub called : Machine → ℕ → Transaction → Op (List ℕ) → Answer → Machine
called m c t o a = if is_logged a then with_transaction m c (logged t o a) else m

-- the same clients or labels, each with what f makes of what it had
unfoldable pub with_each : {X : Type 0} → (X → X) → FinMap nat_cmp X → FinMap nat_cmp X
with_each f open_ones = from_entries (map (λ e. (e.0, f e.1)) (entries open_ones))

-- others have changed these items since a transaction or a job began
abbrev pub touch : List Item → Transaction → Transaction
touch items t = record t { touched = t.touched ++ items }

abbrev pub touch_job : List Item → Job → Job
touch_job items j = record j { touched = j.touched ++ items }

-- an install has changed these items: so each transaction and each job that is open sees it
abbrev pub touching : Machine → List Item → Machine
touching m items = record m { transactions = with_each (touch items) m.transactions; jobs = with_each (touch_job items) m.jobs }

-- an install: the calls have run on the tree now, and the transaction has ended
abbrev pub installed : Machine → ℕ → Transaction → ℕ → Machine
installed m c t n =
    touching (record m { number = n; now = (session_after (cap_of m) m.now t.ops).tree; transactions = remove m.transactions c })
    (writes_of (cap_of m) m.now t.ops)

-- a transaction on the tree now, none of whose calls was replayed
abbrev pub rebased : Machine → Transaction → Transaction
rebased m t = record t { base = m.number; tree = m.now; replayed = 0; touched = [] }

abbrev pub tried : Machine → ℕ → Transaction → Answer → Machine
tried m c t (answer.Committed n) = installed m c t n
tried m c t (answer.Retry base now) = with_transaction m c (rebased m t)
tried m c t a = m

abbrev pub stepped : Machine → ℕ → Transaction → Answer → Machine
stepped m c t (answer.Replayed i) = with_transaction m c (record t { replayed = i })
stepped m c t (Aborted' i box a) = ended m c
stepped m c t a = m

abbrev pub committed : Machine → ℕ → Transaction → Answer → Machine
committed m c t (answer.Committed n) = installed m c t n
committed m c t (Aborted' i box a) = ended m c
committed m c t a = m

abbrev pub aborted : Machine → ℕ → Answer → Machine
aborted m c answer.Okay = ended m c
aborted m c a = m

abbrev pub after_client : Machine → ℕ → Option Transaction → Verb → Answer → Machine
after_client m c None verb.Begin a = begun m c a
after_client m c (Some t) verb.Try a = tried m c t a
after_client m c (Some t) verb.Step a = stepped m c t a
after_client m c (Some t) verb.Commit a = committed m c t a
after_client m c (Some t) verb.Abort a = aborted m c a
after_client m c (Some t) (verb.Call o) a = called m c t o a
after_client m c t v a = m

-- other servers are down
abbrev pub with_down : Machine → FinSet nat_cmp → Answer → Machine
with_down m down answer.Okay = record m { down = down }
with_down m down a = m

-- The image that is saved is that of the tree now. After a fault it is that, or one of those that it may have been.
abbrev pub saved : Machine → Answer → Machine
saved m (answer.Saved n) = record m { may_be_saved = m.now ∷ [] }
saved m answer.FaultSave = record m { may_be_saved = m.may_be_saved ++ m.now ∷ [] }
saved m a = m

-- a job begins on the tree now
abbrev pub with_job : Machine → ℕ → JobKind → List ℕ → ℕ → Answer → Machine
with_job m j kind p r answer.Planned =
    record m {
      jobs = insert m.jobs j (record { stamp = m.next_stamp; path = p; region = r; kind = kind; base = m.number; touched = [] });
      next_stamp = m.next_stamp + 1;
    }
with_job m j kind p r a = m

-- a job has ended
abbrev pub without_job : Machine → ℕ → Machine
without_job m j = record m { jobs = remove m.jobs j }

-- what a job made is in place: the next number, and the tree as it was; others see that the file's bytes stand elsewhere
abbrev pub put_in_place : Machine → ℕ → Answer → Machine
put_in_place m j (answer.Installed n) = touching (record (without_job m j) { number = n }) (job_changes m.now (get m.jobs j))
put_in_place m j (answer.Stale base now) = without_job m j
put_in_place m j a = m

abbrev pub dropped : Machine → ℕ → Answer → Machine
dropped m j answer.Okay = without_job m j
dropped m j a = m

-- a scan begins with all its parts, and notes what is open
abbrev pub scanning : Machine → Answer → Machine
scanning m answer.Scanning = record m { scan_list = open_stamps m; parts_left = Some SCAN_PARTS }
scanning m a = m

-- some parts are done, or all are
abbrev pub scanned : Machine → Answer → Machine
scanned m (answer.More left) = record m { parts_left = Some left }
scanned m answer.Done = record m { parts_left = None; scans = m.scans + 1 }
scanned m a = m

abbrev pub after : Machine → Event → Answer → Machine
after m (event.Client c v) a = after_client m c (get m.transactions c) v a
after m (event.Plan j kind p r) a = with_job m j kind p r a
after m (event.Put j) a = put_in_place m j a
after m (event.DropJob j) a = dropped m j a
after m event.Scan a = scanning m a
after m (event.Piece k) a = scanned m a
after m (event.Collect k) a = m
after m (event.Down k) a = with_down m (set.insert m.down k) a
after m (event.Up k) a = with_down m (set.remove m.down k) a
after m event.Save a = saved m a
after m (event.Dump p) a = m
after m event.Tree a = m

-- The machine may give these answers to these events, one after another, and what it is then
unfoldable pub Accepts : Machine → List Event → List Answer → Type 0
Accepts m [] [] = Unit {0}
Accepts m (e ∷ es) (a ∷ answers) = May m e a × Accepts (after m e a) es answers
Accepts m [] (a ∷ answers) = ⊥
Accepts m (e ∷ es) [] = ⊥

unfoldable pub after_all : Machine → List Event → List Answer → Machine
after_all m (e ∷ es) (a ∷ answers) = after_all (after m e a) es answers
after_all m es answers = m
