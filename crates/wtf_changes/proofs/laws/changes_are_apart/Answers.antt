use Rattle.std.proofs.Common.{sym, ap, ◌++◌, ◌∙◌}
use Rattle.wtf_changes.proofs.Forms.{one_changes}
use Rattle.wtf_changes.proofs.laws.changes_are_apart.Goals as goal

pub returns : goal.returns
returns c = λ x y a rest first second. one_changes x y rest first.shape second.shape (sym second.text ∙ ap (λ t. t ++ rest) first.text)
