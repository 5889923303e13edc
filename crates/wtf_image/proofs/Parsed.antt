-- What a parser answers, by whether the bytes are the text of an image.
use Rattle.std.proofs.Common.{ℕ, List}
use Rattle.wtf_spillfmt.specs.declared.error.ListError.{ListError}
use Rattle.wtf_spillfmt.specs.declared.error.ListError.TheVariants as unread
use Rattle.wtf_spillfmt.specs.Parses as gives
use Rattle.wtf_imagefmt.specs.Reading.{image_of}
use Rattle.wtf_image.specs.Images.{IsNoneOr, no_image_by}
pub use Rattle.wtf_imagefmt.proofs.Parsed.{is_image, no_image}

pub none_or : (bytes : List ℕ) (why : ListError) → gives.IsNoneOr (image_of bytes) why → IsNoneOr bytes (no_image_by why)
none_or bytes unread.NotAList fails = no_image bytes fails
none_or bytes unread.Memory fails = tt
