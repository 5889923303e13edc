-- Whole transactions: their calls run one after another on one tree.
-- NSDI 2016, section 2.6 (a transaction logs its calls with what was shown of them).
use Rattle.std.specs.Prelude.{ℕ, List, [], ◌∷◌}
use Rattle.wtf_model.specs.declared.answer.Answer.{Answer}
use Rattle.wtf_model.specs.declared.op.Op.{Op}
use Rattle.wtf_model.specs.declared.op.JobKind.{JobKind}
use Rattle.wtf_model.specs.declared.item.Item.{Item}
use Rattle.wtf_model.specs.Tree.{Tree}
use Rattle.wtf_model.specs.Session.{Session, fresh}
use Rattle.wtf_model.specs.Call.{call}

-- the session that calls leave, and their answers, from a session on
unfoldable pub session_from : ℕ → Session → List (Op (List ℕ)) → Session
session_from cap s [] = s
session_from cap s (o ∷ ops) = session_from cap (call cap s o).session ops

unfoldable pub answers_from : ℕ → Session → List (Op (List ℕ)) → List Answer
answers_from cap s [] = []
answers_from cap s (o ∷ ops) = (call cap s o).answer ∷ answers_from cap (call cap s o).session ops

-- a run of calls on a tree: the session that it leaves, and its answers
abbrev pub session_after : ℕ → Tree → List (Op (List ℕ)) → Session
session_after cap tree ops = session_from cap (fresh tree) ops

abbrev pub answers_of : ℕ → Tree → List (Op (List ℕ)) → List Answer
answers_of cap tree ops = answers_from cap (fresh tree) ops

-- An open transaction: its stamp, the number of installs and the tree that it began with, its calls and what was
-- shown of each, how many of them were replayed, and what others changed since. It is live where all were replayed.
pub record Transaction : Type 0 where
  pub stamp : ℕ
  pub base : ℕ
  pub tree : Tree
  pub ops : List (Op (List ℕ))
  pub shown : List Answer
  pub replayed : ℕ
  pub touched : List Item

-- a job: its stamp, the region that it is for, the number of installs that it began with, and what others changed since
pub record Job : Type 0 where
  pub stamp : ℕ
  pub path : List ℕ
  pub region : ℕ
  pub kind : JobKind
  pub base : ℕ
  pub touched : List Item
