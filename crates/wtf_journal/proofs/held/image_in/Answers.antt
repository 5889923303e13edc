use Rattle.std.proofs.Common.{◌≡◌, arith, rules}
use Rattle.wtf_imagefmt.specs.Rows.{image_rows}
use Rattle.wtf_journal.proofs.Gives.{image_made}
use Rattle.wtf_journal.proofs.held.image_in.Goals as goal

pub returns : goal.returns
returns c =
    let items : c.extend_from_slice.new.self.items ≡ c.args.bytes.now = search rules in
    image_made c.args.bytes.now (image_rows c.in-Ok.field-0) c.extend_from_slice.new.self (λ i. omega (arith, c.type_inv.bytes i)) c.in-Ok.ensures items
