use Rattle.std.proofs.Common.{subst, sym}
use Rattle.wtf_journal.specs.declared.held.Shown.{Shown}
use Rattle.wtf_journal.specs.Held.{IsKeptAs, IsTextOf, rows_shown}
use Rattle.wtf_journal.proofs.Gives.{some_text}
use Rattle.wtf_journal.proofs.held.bytes_of.Goals as goal

pub returns-in-Image : goal.returns-in-Image
returns-in-Image c =
    let image = c.in-Image.image.items in
    subst (λ (s : Shown). IsTextOf (rows_shown s) image) (sym c.in-Image.is) (some_text image (subst (λ (s : Shown). IsKeptAs s) c.in-Image.is c.requires))
