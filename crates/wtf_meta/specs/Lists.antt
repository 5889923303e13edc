-- Lists that lie in slices. What each slice decodes to is a function of its own, beside what the stores tell at each place:
-- what a region or a file is is said over any such function, and nothing here knows how the lists come about.
use Rattle.std.specs.Prelude.{◌≡◌, ◌++◌, List, [], ◌∷◌, Option, None, Some, ⊤}
use Rattle.wtf_base.specs.declared.slice.Slice.{Slice}
use Rattle.wtf_overlay.specs.declared.part.Entry.{Entry}
use Rattle.wtf_overlay.specs.Clips.{clip_list}
use Rattle.wtf_values.specs.declared.region.RegionValue.{RegionValue}
use Rattle.wtf_values.specs.declared.region.Spill.{Spill}

-- the list that each slice decodes to, if it does
abbrev pub Lists : Type 0
Lists = Slice → Option (List Entry)

abbrev pub or_none : Option (List Entry) → List Entry
or_none None = []
or_none (Some es) = es

-- the list under a region's entries: that of its base, as far as it is seen
abbrev pub seen_list : Lists → Option Spill → List Entry
seen_list lists None = []
seen_list lists (Some s) = clip_list s.visible (or_none (lists s.slice))

-- the whole list of a region
abbrev pub list_of : Lists → RegionValue → List Entry
list_of lists v = seen_list lists v.base ++ v.list

-- a slice, and the list that was read of it
pub record ListFact : Type 0 where
  pub slice : Slice
  pub list : List Entry

-- the slices decode to these lists
abbrev pub TellLists : Lists → List ListFact → Type 0
TellLists lists [] = ⊤
TellLists lists (f ∷ fs) = (lists f.slice ≡ Some f.list) × TellLists lists fs

-- what is read of a region's base: nothing where it has none
abbrev pub base_facts : Option Spill → List Entry → List ListFact
base_facts None es = []
base_facts (Some s) es = record { slice = s.slice; list = es } ∷ []

-- of a region, which may be missing
abbrev pub region_facts : Option RegionValue → List Entry → List ListFact
region_facts None es = []
region_facts (Some v) es = base_facts v.base es
