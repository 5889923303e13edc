use Rattle.std.proofs.Common.{◌≡◌, drop}
use Rattle.wtf_model.specs.Items.{meets, reads_from, reads_of}
use Rattle.wtf_machine.specs.Sessions.{session_in}
use Rattle.wtf_machine.specs.Logs.{ops_of}
use Rattle.wtf_machine.proofs.runs.reads_one.Given as goal

-- none of the calls so far reads one of the items, so what is left to run decides
abbrev pub invariant-loop-logged : goal.invariant-loop-logged
invariant-loop-logged l =
    meets l.touched (reads_from l.cap (session_in l.session) (ops_of (drop l.logged-index l.calls))) ≡ meets l.touched (reads_of l.cap l.tree (ops_of l.calls))
