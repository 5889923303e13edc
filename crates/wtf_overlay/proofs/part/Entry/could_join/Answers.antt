use Rattle.std.proofs.Common.{sym}
use Rattle.wtf_overlay.proofs.part.Entry.could_join.Goals as goal

pub returns-in-None : goal.returns-in-None
returns-in-None c = sym c.in-None.ensures

pub returns-in-Some : goal.returns-in-Some
returns-in-Some c = sym c.in-Some.ensures.one
