-- What the machine keeps as the session of a transaction, and when a call was made on it.
use Rattle.std.specs.Prelude.{◌≡◌, ℕ, List}
use Rattle.wtf_machine.specs.declared.workspace.Workspace.{Workspace}
use Rattle.wtf_model.specs.declared.answer.Answer.{Answer}
use Rattle.wtf_model.specs.declared.op.Op.{Op}
use Rattle.wtf_model.specs.Session.{Session}
use Rattle.wtf_model.specs.Call.{call}

abbrev pub session_in : Workspace → Session
session_in w = record { tree = w.tree; handles = w.handles; slices = w.slices }

-- a call was made on a session: what it left, and what it answered
abbrev pub IsCalled : ℕ → Op (List ℕ) → Workspace → Workspace → Answer → Type 0
IsCalled cap o old new a = call cap (session_in old) o ≡ record { session = session_in new; answer = a }
