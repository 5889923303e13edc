-- Whole files as the values of their regions.
use Rattle.std.specs.Prelude.{ℕ, ◌+◌, List, [], ◌∷◌, ◌++◌, map, Option, None, Some}
use Rattle.wtf_base.specs.declared.ids.InodeId.{InodeId}
use Rattle.wtf_kv.specs.declared.changes.Change.TheVariants as change
use Rattle.wtf_values.specs.declared.key.Key.TheVariants.{Inode, Region}
use Rattle.wtf_values.specs.declared.region.RegionValue.{RegionValue}
use Rattle.wtf_values.specs.declared.value.Value.TheVariants as value
use Rattle.wtf_values.specs.declared.value.Delta.TheVariants as delta
use Rattle.wtf_meta.specs.Maps.{Edits}
use Rattle.wtf_meta.specs.Files.{FileView}
use Rattle.wtf_meta.specs.Appends.{count_from}

-- the values of a file's regions, from its first one to its last
abbrev pub regions_of : FileView → List (Option RegionValue)
regions_of v = map v.region (count_from 0 (v.last + 1))

-- a region is set, where it is there
abbrev pub put_region : InodeId → ℕ → Option RegionValue → Edits
put_region i r None = []
put_region i r (Some v) = change.Delta (Region i r) (delta.Put (value.Region v)) ∷ []

-- regions are set, from region r on
abbrev pub put_regions : InodeId → ℕ → List (Option RegionValue) → Edits
put_regions i r [] = []
put_regions i r (v ∷ vs) = put_region i r v ++ put_regions i (r + 1) vs

-- a file gets all regions of another, and the number of its last one
abbrev pub fill_edits : InodeId → ℕ → List (Option RegionValue) → Edits
fill_edits i last vs = put_regions i 0 vs ++ change.Delta (Inode i) (delta.Put (value.Last last)) ∷ []
