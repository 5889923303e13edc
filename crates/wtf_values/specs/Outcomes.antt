-- What comes of a change, by the value that a key has.
use Rattle.std.specs.Prelude.{ℕ, ◌+◌, ◌-◌, ◌^◌, nat_le, Bool, true, false, min, max, if◌then◌else◌, Option, None, Some}
use Rattle.wtf_kv.specs.declared.cell.Applied.{Applied}
use Rattle.wtf_kv.specs.declared.cell.Applied.TheVariants.{Is, Gone, Unfit}
use Rattle.wtf_values.specs.declared.region.RegionValue.{RegionValue}
use Rattle.wtf_values.specs.declared.value.Node as node
use Rattle.wtf_values.specs.declared.value.Value.{Value}
use Rattle.wtf_values.specs.declared.value.Value.TheVariants.{Node, Names, Last, Region, Count}
use Rattle.wtf_values.specs.declared.value.Delta.{Delta}
use Rattle.wtf_values.specs.declared.value.Delta.TheVariants.{Push, PushRel, Clip, ZeroWithin, RaiseLast, SetLast, DirAdd, DirDel, LinkAdd, LinkSub, Put}
use Rattle.wtf_values.specs.declared.value.Delta.TheVariants.{Remove}
use Rattle.wtf_values.specs.Names.{NamesOf, with_name, without_name}
use Rattle.wtf_values.specs.Regions.{or_empty, pushed, clipped, zeroed, with_pieces, fits_at_end}

-- a region, or none
abbrev pub applied : Option RegionValue → Applied Value
applied None = Gone
applied (Some v) = Is (Region v)

-- whether a change makes a missing region
abbrev pub makes_region : Delta → Bool
makes_region (Push e) = true
makes_region (PushRel ps b) = true
makes_region (Clip end) = true
makes_region _ = false

-- of a region, which may be missing
abbrev pub outcome_region : Option RegionValue → Delta → Applied Value
outcome_region now (Push e) = Is (Region (pushed now e))
outcome_region now (PushRel ps b) = if fits_at_end now ps b then Is (Region (with_pieces (or_empty now) ps)) else Unfit
outcome_region now (Clip end) = Is (Region (clipped end now))
outcome_region now (ZeroWithin from upto) = applied (zeroed from upto now)
outcome_region now _ = applied now

-- of the number of a last region
abbrev pub outcome_last : ℕ → Delta → Applied Value
outcome_last n (RaiseLast r) = Is (Last (max n r))
outcome_last n (SetLast r) = Is (Last r)
outcome_last n _ = Is (Last n)

-- of the names in a directory
abbrev pub outcome_names : NamesOf → Delta → Applied Value
outcome_names s (DirAdd name) = Is (Names (with_name s name))
outcome_names s (DirDel name) = Is (Names (without_name s name))
outcome_names s _ = Is (Names s)

-- of the number of a file's paths
abbrev pub outcome_count : ℕ → Delta → Applied Value
outcome_count n LinkAdd = Is (Count (min (n + 1) (2 ^ 64 - 1)))
outcome_count n LinkSub = if nat_le n 2 then Gone else Is (Count (n - 1))
outcome_count n _ = Is (Count n)

-- whether a change adds a path
abbrev pub adds_link : Delta → Bool
adds_link LinkAdd = true
adds_link d = false

-- of a missing value: a region or a number of paths may be made
abbrev pub outcome_none : Delta → Applied Value
outcome_none LinkAdd = Is (Count 2)
outcome_none d = outcome_region None d

-- of what stands at a path, which only stays, is set or goes
abbrev pub outcome_node : node.Node → Delta → Applied Value
outcome_node n _ = Is (Node n)

-- of a change that neither sets nor takes out, by the kind of the value
abbrev pub outcome_kind : Option Value → Delta → Applied Value
outcome_kind None d = outcome_none d
outcome_kind (Some (Region v)) d = outcome_region (Some v) d
outcome_kind (Some (Last n)) d = outcome_last n d
outcome_kind (Some (Names s)) d = outcome_names s d
outcome_kind (Some (Count n)) d = outcome_count n d
outcome_kind (Some (Node n)) d = outcome_node n d

-- of any change
abbrev pub outcome_of : Option Value → Delta → Applied Value
outcome_of now (Put v) = Is v
outcome_of now Remove = Gone
outcome_of now d = outcome_kind now d
