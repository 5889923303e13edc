use Rattle.std.proofs.Common.{arith}
use Rattle.wtf_imagefmt.specs.Rows.{image_rows}
use Rattle.wtf_imagefmt.proofs.Parsed.{is_image}
use Rattle.wtf_changes_rows.proofs.applied.applied.Goals as goal

pub apply-requires : goal.apply-requires
apply-requires c = record { rows = image_rows c.in-Ok.field-0; text = is_image c.args.image.now c.in-Ok.field-0 (λ i. omega (arith, c.type_inv.image i)) c.in-Ok.ensures }
