-- Which metadata can be saved so that they are loaded again.
use Rattle.std.specs.Prelude.{ℕ, ◌<◌, IsSome}
use Rattle.wtf_base.specs.declared.ids.InodeId.{InodeId}
use Rattle.wtf_values.specs.declared.key.Key.TheVariants.{Inode}
use Rattle.wtf_meta.specs.Maps.{Map}
pub use Rattle.wtf_imagefmt.specs.Savable.{IsNodeValue, IsLastValue, IsRegionValue, end_now, IsListingOf, HasListing, HasNames, IsSavable}

-- each inode of a map is of a transaction before this one
abbrev pub AreBefore : ℕ → Map → Type 0
AreBefore n w = (i : InodeId) → IsSome (w (Inode i)) → i.tx.0 < n
