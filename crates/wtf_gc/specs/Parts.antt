-- The parts of a scan, and the versions that stand in them.
use Rattle.std.specs.Prelude.{◌≡◌, ◌⊎◌, ℕ, Bool, true, false, cond, ◌&&◌, nat_le, nat_lt, ◌%◌, List, [], ◌∷◌, ◌++◌, Option, None, Some}
use Rattle.std.specs.List.{list_any, Contains}
use Rattle.wtf_base.specs.declared.ids.InodeId.{InodeId}
use Rattle.wtf_base.specs.Places.{Place}
use Rattle.wtf_kv.specs.Seen.{IsAmong}
use Rattle.wtf_kv.specs.Stores.{Store, versions_of}
use Rattle.wtf_kv.specs.Order.{is_before}
use Rattle.wtf_values.specs.declared.key.Key.{Key}
use Rattle.wtf_values.specs.declared.key.Key.TheVariants as key
use Rattle.wtf_values.specs.declared.region.RegionValue.{RegionValue}
use Rattle.wtf_values.specs.declared.region.Spill.{Spill}
use Rattle.wtf_values.specs.declared.value.Value.{Value}
use Rattle.wtf_values.specs.declared.value.Value.TheVariants as value
use Rattle.wtf_values.specs.Keys.{key_cmp}
use Rattle.wtf_meta.specs.Lists.{Lists}
use Rattle.wtf_gc.specs.declared.parts.Parts.{Parts}
use Rattle.wtf_gc.specs.declared.gather.Base.{Base}
use Rattle.wtf_gc.specs.Named.{own_has, region_has}
use Rattle.wtf_gc.specs.Extents.{extents_cover}
use Rattle.wtf_gc.specs.declared.extent.Extent.{Extent}

-- the part that a file's regions stand in
abbrev pub part_of : InodeId → ℕ
part_of i = i.tx.0 % 64

-- an inode's part is one of these
abbrev pub stands_in : Parts → InodeId → Bool
stands_in parts i = nat_le parts.first (part_of i) && nat_lt (part_of i) parts.end

-- a key is a region's that stands in these parts
abbrev pub key_stands_in : Parts → Key → Bool
key_stands_in parts (key.Path p) = false
key_stands_in parts (key.Dir p) = false
key_stands_in parts (key.Inode i) = false
key_stands_in parts (key.Region i r) = stands_in parts i
key_stands_in parts (key.Links i) = false

-- a version of a key of these parts has this value of a region
pub record IsIn (kv : Store Key Value) (parts : Parts) (v : RegionValue) : Type 0 where
  pub at : Key
  pub stands : key_stands_in parts at ≡ true
  pub number : ℕ
  pub among : IsAmong (number, Some (value.Region v)) (versions_of key_cmp kv at)

-- and names the byte at a place
pub record NamedIn (lists : Lists) (kv : Store Key Value) (parts : Parts) (p : Place) : Type 0 where
  pub region : RegionValue
  pub there : IsIn kv parts region
  pub names : region_has lists region p ≡ true

-- What parts find is what was found and what the versions of their keys name, through the lists of bases too.
pub record Finds (lists : Lists) (kv : Store Key Value) (parts : Parts) (old new : Place → Bool) : Type 0 where
  pub keeps : (p : Place) → old p ≡ true → new p ≡ true
  pub finds : (p : Place) → NamedIn lists kv parts p → new p ≡ true
  pub only : (p : Place) → new p ≡ true → (old p ≡ true) ⊎ NamedIn lists kv parts p

-- ---- what a walk gathers
-- what the value of a version names itself; only a region's value names bytes
abbrev pub value_has : Option Value → Place → Bool
value_has (Some (value.Region v)) p = own_has v p
value_has v p = false

abbrev pub versions_have : List (ℕ × Option Value) → Place → Bool
versions_have vs p = list_any (λ v. value_has v.1 p) vs

-- the bases of versions, each with the part of their key
abbrev pub bases_of : ℕ → Option Spill → List Base
bases_of part None = []
bases_of part (Some s) = record { part = part; slice = s.slice } ∷ []

abbrev pub value_bases : ℕ → Option Value → List Base
value_bases part (Some (value.Region v)) = bases_of part v.base
value_bases part v = []

abbrev pub versions_bases : ℕ → List (ℕ × Option Value) → List Base
versions_bases part [] = []
versions_bases part (v ∷ vs) = value_bases part v.1 ++ versions_bases part vs

abbrev pub key_part : Key → ℕ
key_part (key.Path p) = 0
key_part (key.Dir p) = 0
key_part (key.Inode i) = 0
key_part (key.Region i r) = part_of i
key_part (key.Links i) = 0

-- the bases of the versions of a key, where it stands in these parts
abbrev pub key_bases : Store Key Value → Parts → Key → List Base
key_bases kv parts q = cond (key_stands_in parts q) (versions_bases (key_part q) (versions_of key_cmp kv q)) []

-- a key of these parts whose versions have the byte
pub record KeyHas (kv : Store Key Value) (parts : Parts) (p : Place) : Type 0 where
  pub at : Key
  pub stands : key_stands_in parts at ≡ true
  pub names : versions_have (versions_of key_cmp kv at) p ≡ true

-- or whose versions have a base
pub record KeyBase (kv : Store Key Value) (parts : Parts) (b : Base) : Type 0 where
  pub at : Key
  pub is : Contains (key_bases kv parts at) b

-- what was gathered is what the versions of the keys of these parts have that lie before a key
pub record GathersUpto (kv : Store Key Value) (parts : Parts) (at : Option Key) (found : List Extent) (bases : List Base) : Type 0 where
  pub finds : (q : Key) (p : Place) → is_before key_cmp at q ≡ true → key_stands_in parts q ≡ true → versions_have (versions_of key_cmp kv q) p ≡ true
      → extents_cover found p ≡ true
  pub only : (p : Place) → extents_cover found p ≡ true → KeyHas kv parts p
  pub lists : (q : Key) (b : Base) → is_before key_cmp at q ≡ true → Contains (key_bases kv parts q) b → Contains bases b
  pub only_lists : (b : Base) → Contains bases b → KeyBase kv parts b
