-- What values name, hidden bytes too.
use Rattle.std.specs.Prelude.{◌+◌, Bool, false, ◌&&◌, ◌||◌, nat_eq, nat_le, nat_lt, List, Option, None, Some}
use Rattle.std.specs.List.{list_any}
use Rattle.wtf_base.specs.declared.pointer.Pointer.{Pointer}
use Rattle.wtf_base.specs.declared.slice.Slice.{Slice}
use Rattle.wtf_base.specs.Places.{Place}
use Rattle.wtf_base.specs.Slices.{pointers_of}
use Rattle.wtf_overlay.specs.declared.part.Part.{Part}
use Rattle.wtf_overlay.specs.declared.part.Part.TheVariants.{Zero, Held}
use Rattle.wtf_overlay.specs.declared.part.Entry.{Entry}
use Rattle.wtf_values.specs.declared.region.RegionValue.{RegionValue}
use Rattle.wtf_values.specs.declared.region.Spill.{Spill}
use Rattle.wtf_meta.specs.Lists.{Lists, ListFact, or_none}

-- what a pointer points to has the byte at a place
abbrev pub pointer_has : Pointer → Place → Bool
pointer_has q p = nat_eq p.server q.server.0 && (nat_eq p.file q.file && (nat_le q.at p.at && nat_lt p.at (q.at + q.len)))

-- a copy of a slice does
abbrev pub slice_has : Slice → Place → Bool
slice_has s p = list_any (λ q. pointer_has q p) (pointers_of s)

-- a part of a list; its slice has its length
abbrev pub part_has : Part → Place → Bool
part_has Zero p = false
part_has (Held s) p = slice_has s p

-- an entry of a list, also one that later entries hide
abbrev pub list_has : List Entry → Place → Bool
list_has es p = list_any (λ e. part_has e.part p) es

-- the slice of a base
abbrev pub base_has : Option Spill → Place → Bool
base_has None p = false
base_has (Some s) p = slice_has s.slice p

-- a region's value names the byte at a place, but for what the list in its base's slice names
abbrev pub own_has : RegionValue → Place → Bool
own_has v p = base_has v.base p || list_has v.list p

-- and the list in the slice of a base, also what is not seen of it
abbrev pub under_has : Lists → Option Spill → Place → Bool
under_has lists None p = false
under_has lists (Some s) p = list_has (or_none (lists s.slice)) p

-- a region's value names it, itself or by its base's list
abbrev pub region_has : Lists → RegionValue → Place → Bool
region_has lists v p = own_has v p || under_has lists v.base p

-- one of the lists that were read of slices
abbrev pub facts_have : List ListFact → Place → Bool
facts_have fs p = list_any (λ (f : ListFact). list_has f.list p) fs
