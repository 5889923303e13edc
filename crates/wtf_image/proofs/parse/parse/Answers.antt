use Rattle.std.proofs.Common.{sym, subst, arith}
use Rattle.wtf_image.specs.Images.{IsNoneOr}
use Rattle.wtf_image.proofs.Parsed.{is_image, none_or}
use Rattle.wtf_image.proofs.parse.parse.Goals as goal

pub returns-in-Ok-clause-image : goal.returns-in-Ok-clause-image
returns-in-Ok-clause-image c = is_image c.args.bytes.now c.in-Ok.image (λ i. omega (arith, c.type_inv.bytes i)) c.in-Ok.ensures

pub returns-in-Err-clause-cause : goal.returns-in-Err-clause-cause
returns-in-Err-clause-cause c = subst (λ e. IsNoneOr c.args.bytes.now e) (sym c.no_image.ensures) (none_or c.args.bytes.now c.in-Err.why c.in-Err.ensures)
