use Rattle.std.proofs.Common.{◌≡◌, drop}
use Rattle.wtf_model.specs.Transaction.{session_from, session_after}
use Rattle.wtf_machine.specs.Sessions.{session_in}
use Rattle.wtf_machine.specs.Logs.{ops_of}
use Rattle.wtf_machine.proofs.log.rerun.Given as goal

-- what is left to run leads to the session of all
abbrev pub invariant-loop-logged : goal.invariant-loop-logged
invariant-loop-logged l = session_from l.cap (session_in l.session) (ops_of (drop l.logged-index l.calls)) ≡ session_after l.cap l.tree (ops_of l.calls)
