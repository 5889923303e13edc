use Rattle.std.proofs.Common.{eqb-true}
use Rattle.wtf_script.proofs.PlainLaws.{none_less}
use Rattle.wtf_script.proofs.plain.none_below.Goals as goal

pub returns : goal.returns
returns c = λ empty. none_less c.args.lanes c.args.least c.fits-lanes.0 (eqb-true _ _ empty)
