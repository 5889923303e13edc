-- Ranges of regions and of files that were read as pieces. Over all lists that agree with those that were read the pieces show
-- the range's bytes; and they name no bytes but those of the regions and of the lists that were read.
use Rattle.std.specs.Prelude.{◌≡◌, ℕ, ◌+◌, Bool, true, List, [], Option}
use Rattle.wtf_base.specs.declared.slice.Slice.{Slice}
use Rattle.wtf_overlay.specs.Origin.{Place, Plans, pieces_len}
use Rattle.wtf_overlay.specs.declared.part.Piece.{Piece}
use Rattle.wtf_values.specs.declared.region.RegionValue.{RegionValue}
use Rattle.wtf_meta.specs.Lists.{Lists, ListFact, TellLists}
use Rattle.wtf_meta.specs.Files.{FileView, region_origin, file_origin}
use Rattle.wtf_meta.specs.Bytes.{PiecesBytes, MaybeBytes, FileBytes, ListSlices, ListsBytes}

-- n bytes of a region, which may be missing, from off on
pub record ReadsRegion (now : Option RegionValue) (off n : ℕ) (facts : List ListFact) (ps : List Piece) : Type 0 where
  pub len : pieces_len ps ≡ n
  pub plans : (lists : Lists) → TellLists lists facts → Plans ps n (λ i. region_origin lists now (off + i))
  pub names : (P : List Place → Bool) (Q : Slice → Bool) → P [] ≡ true → MaybeBytes P Q now → ListsBytes P Q facts → PiecesBytes P ps
  pub slices : (P : List Place → Bool) (Q : Slice → Bool) → MaybeBytes P Q now → ListSlices P Q facts

-- n bytes of a file from off on, where a region has b
pub record ReadsFile (b : ℕ) (v : FileView) (off n : ℕ) (facts : List ListFact) (ps : List Piece) : Type 0 where
  pub len : pieces_len ps ≡ n
  pub plans : (lists : Lists) → TellLists lists facts → Plans ps n (λ i. file_origin b lists v (off + i))
  pub names : (P : List Place → Bool) (Q : Slice → Bool) → P [] ≡ true → FileBytes P Q v → ListsBytes P Q facts → PiecesBytes P ps
  pub slices : (P : List Place → Bool) (Q : Slice → Bool) → FileBytes P Q v → ListSlices P Q facts
