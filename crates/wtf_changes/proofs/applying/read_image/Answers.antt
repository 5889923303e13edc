use Rattle.std.proofs.Common.{arith}
use Rattle.wtf_imagefmt.proofs.Parsed.{is_image}
use Rattle.wtf_changes.proofs.applying.read_image.Goals as goal

pub returns-in-Ok : goal.returns-in-Ok
returns-in-Ok c = is_image c.args.image.now c.in-Ok.image (λ i. omega (arith, c.type_inv.image i)) c.in-Ok.ensures
