use Rattle.std.proofs.Common.{sym, ap, ◌++◌, ◌∙◌}
use Rattle.wtf_imagefmt.proofs.Forms.{one_image}
use Rattle.wtf_image.proofs.examples.images_are_apart.Goals as goal

pub returns : goal.returns
returns c = λ x y a rest first second. one_image x y rest first.shape second.shape (sym second.text ∙ ap (λ t. t ++ rest) first.text)
