use Rattle.std.proofs.Common.{◌∙◌, arith, sym}
use Rattle.wtf_journal.proofs.Keeping.{read_image}
use Rattle.wtf_journal.proofs.journal.is_image.Goals as goal

pub returns : goal.returns
returns c = λ is. read_image c.image_of.result c.args.bytes.now (λ i. omega (arith, c.type_inv.bytes i)) c.image_of.ensures (sym c.is_ok.ensures.value ∙ is)
