use Rattle.std.proofs.Common.{◌≡◌}
use Rattle.wtf_machine.specs.Sessions.{session_in}
use Rattle.wtf_machine.proofs.LogLaws.{Agree}
use Rattle.wtf_machine.proofs.log.replay.Given as goal

-- the calls so far have left this session, and answered as was shown
abbrev pub invariant-loop-logged : goal.invariant-loop-logged
invariant-loop-logged l = record { counted : l.number ≡ l.logged-index; agree : Agree l.cap l.tree l.calls l.logged-index (session_in l.session) }
