-- What was read of bytes, by whether they are the text of an image.
use Rattle.std.proofs.Common.{◌≡◌, ℕ, List, Some, None, sym, ap, ◌∙◌}
use Rattle.wtf_spillfmt.proofs.Codecs.{IsBytes}
use Rattle.wtf_imagefmt.specs.declared.records.Image.{Image}
use Rattle.wtf_imagefmt.specs.Rows.{image_rows}
use Rattle.wtf_imagefmt.specs.Images.{HasText, IsNoImage}
use Rattle.wtf_imagefmt.specs.Reading.{image_of}
use Rattle.wtf_imagefmt.proofs.Forms.{image_takes, image_again}

pub is_image : (bytes : List ℕ) (image : Image) → IsBytes bytes → image_of bytes ≡ Some (image_rows image) → HasText (image_rows image) bytes
is_image bytes image fits given = let t = image_takes bytes (image_rows image) fits given in record { shape = t.0; text = t.1 }

pub no_image : (bytes : List ℕ) → image_of bytes ≡ None → IsNoImage bytes
no_image bytes none x has =
    let again : None ≡ Some x = sym none ∙ ap image_of has.text ∙ image_again x has.shape in
    absurd (cc)
