-- Why bytes are no image.
use Rattle.std.specs.Prelude.{ℕ, List, ⊤}
use Rattle.wtf_spillfmt.specs.declared.error.ListError.{ListError}
use Rattle.wtf_spillfmt.specs.declared.error.ListError.TheVariants as unread
use Rattle.wtf_image.specs.declared.error.LoadError.{LoadError}
use Rattle.wtf_image.specs.declared.error.LoadError.TheVariants as error
pub use Rattle.wtf_imagefmt.specs.Images.{HasText, IsNoImage}

-- a refusal of bytes that are no image, unless memory ran out
abbrev pub IsNoneOr : List ℕ → LoadError → Type 0
IsNoneOr bytes error.NotAnImage = IsNoImage bytes
IsNoneOr bytes error.Memory = ⊤
IsNoneOr bytes error.BadSettings = ⊥
IsNoneOr bytes error.BadTree = ⊥
IsNoneOr bytes error.PointerOutside = ⊥

-- why bytes that could not be read are no image
abbrev pub no_image_by : ListError → LoadError
no_image_by unread.NotAList = error.NotAnImage
no_image_by unread.Memory = error.Memory
