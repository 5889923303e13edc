-- Which bytes are an image, and what it is.
use Rattle.std.specs.Prelude.{◌≡◌, ℕ, List}
use Rattle.wtf_imagefmt.specs.Rows.{ImageRows}
use Rattle.wtf_imagefmt.specs.Shapes.{IsImage}
use Rattle.wtf_imagefmt.specs.Texts.{image_text}

-- the bytes are the text of these rows, which have the shape of an image
pub record HasText (x : ImageRows) (bytes : List ℕ) : Type 0 where
  pub shape : IsImage x
  pub text : bytes ≡ image_text x

-- no image has the bytes for its text
abbrev pub IsNoImage : List ℕ → Type 0
IsNoImage bytes = (x : ImageRows) → HasText x bytes → ⊥
