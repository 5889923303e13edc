use Rattle.std.proofs.Common.{eqb-true}
use Rattle.wtf_script.proofs.PlainLaws.{none_more}
use Rattle.wtf_script.proofs.plain.none_above.Goals as goal

pub returns : goal.returns
returns c = λ empty. none_more c.args.lanes c.args.most c.fits-lanes.0 (eqb-true _ _ empty)
