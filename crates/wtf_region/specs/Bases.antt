-- The slices of the bases of a file's regions: what has to be read of them.
use Rattle.std.specs.Prelude.{ℕ, List, [], ◌∷◌, ◌++◌, map, Option, None, Some}
use Rattle.wtf_base.specs.declared.slice.Slice.{Slice}
use Rattle.wtf_values.specs.declared.region.RegionValue.{RegionValue}
use Rattle.wtf_values.specs.declared.region.Spill.{Spill}
use Rattle.wtf_meta.specs.Appends.{touched}
use Rattle.wtf_meta.specs.Files.{FileView}
use Rattle.wtf_meta.specs.Lists.{ListFact}

-- the slices of lists that were read, in order
abbrev pub slices_of : List ListFact → List Slice
slices_of fs = map (λ (f : ListFact). f.slice) fs

-- the slice of a base, if there is one
abbrev pub base_slices : Option Spill → List Slice
base_slices None = []
base_slices (Some base) = base.slice ∷ []

-- of a region's base; the region may be missing
abbrev pub region_slices : Option RegionValue → List Slice
region_slices None = []
region_slices (Some v) = base_slices v.base

-- of the bases of these regions of a file, in order
abbrev pub bases_of : FileView → List ℕ → List Slice
bases_of file [] = []
bases_of file (r ∷ rs) = region_slices (file.region r) ++ bases_of file rs

-- of those in which n bytes from off on lie, where a region has b bytes
abbrev pub bases_in : (b : ℕ) → FileView → (off n : ℕ) → List Slice
bases_in b file off n = bases_of file (touched b off n)
