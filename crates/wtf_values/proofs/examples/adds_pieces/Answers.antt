use Rattle.std.proofs.Common.{◌∙◌, Some, None, arith}
use Rattle.wtf_values.proofs.OutcomeLaws.{outcome-fits, outcome-unfit}
use Rattle.wtf_values.proofs.RegionLaws.{fits_when, unfit_when, with_pieces-end}
use Rattle.wtf_values.proofs.examples.adds_pieces.Goals as goal

pub returns : goal.returns
returns c = record {
  fits = λ v ps end len. outcome-fits (Some v) ps 64 (fits_when (Some v) ps 64 (omega (arith, end, len)));
  end = λ v ps end len. with_pieces-end v ps (omega (arith, end, len)) ∙ omega (arith, end, len);
  unfit = λ v ps end len. outcome-unfit (Some v) ps 64 (unfit_when (Some v) ps 64 (omega (arith, end, len)));
  missing = λ ps len. outcome-unfit None ps 64 (unfit_when None ps 64 (omega (arith, len)));
}
