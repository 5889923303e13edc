use Rattle.std.proofs.Common.{◌≡◌, ◌++◌, drop}
use Rattle.wtf_model.specs.Items.{writes_from, writes_of}
use Rattle.wtf_machine.specs.Sessions.{session_in}
use Rattle.wtf_machine.specs.Logs.{ops_of}
use Rattle.wtf_machine.proofs.runs.changed_by.Given as goal

-- what the calls so far have changed, and what is left to run changes, is all
abbrev pub invariant-loop-logged : goal.invariant-loop-logged
invariant-loop-logged l =
    l.changed.items ++ writes_from l.cap (session_in l.session) (ops_of (drop l.logged-index l.calls)) ≡ writes_of l.cap l.tree (ops_of l.calls)
