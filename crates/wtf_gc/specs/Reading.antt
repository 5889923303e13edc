-- What parts of a scan read, and why they do not.
use Rattle.std.specs.Prelude.{◌≡◌, ◌⊎◌, Bool, ◌||◌, List, [], map}
use Rattle.std.specs.List.{All, Contains}
use Rattle.wtf_base.specs.declared.fault.Fault.{Fault}
use Rattle.wtf_base.specs.declared.fault.Fault.TheVariants as fault
use Rattle.wtf_base.specs.declared.slice.Slice.{Slice}
use Rattle.wtf_base.specs.Places.{Place}
use Rattle.wtf_dev.specs.Store.{StoreKind}
use Rattle.wtf_kv.specs.Stores.{Store}
use Rattle.wtf_values.specs.declared.key.Key.{Key}
use Rattle.wtf_values.specs.declared.value.Value.{Value}
use Rattle.wtf_values.specs.declared.region.RegionValue.{RegionValue}
use Rattle.wtf_meta.specs.Lists.{Lists, ListFact, TellLists}
use Rattle.wtf_region.specs.declared.dev.Dev.{Dev}
use Rattle.wtf_meta.specs.Bytes.{BaseBytes, ListSlices, any_slice}
use Rattle.wtf_region.specs.Devs.{GoesOn, inside_of, remembered}
use Rattle.wtf_region.specs.Reads.{Recalls, TellsFacts, AreInsideLists, IsOfBase, IsSliceFault, IsBaseFault}
use Rattle.wtf_gc.specs.declared.extent.Extent.{Extent}
use Rattle.wtf_gc.specs.declared.gather.Base.{Base}
use Rattle.wtf_gc.specs.declared.parts.Parts.{Parts}
use Rattle.wtf_gc.specs.Extents.{extents_cover}
use Rattle.wtf_gc.specs.Named.{facts_have}
use Rattle.wtf_gc.specs.Parts.{IsIn, Finds}

-- the lists of slices were read, those of equal neighbours once, and what they name was added
pub record ListsRead {S : Type 0} (kind : StoreKind S) (old new : Dev S) (slices : List Slice) (before after : List Extent) : Type 0 where
  pub facts : List ListFact
  pub asked : List ListFact
  pub recalls : Recalls kind old new asked
  pub among : All (λ (f : ListFact). Contains slices f.slice) asked
  pub each : map (λ (f : ListFact). f.slice) facts ≡ slices
  pub adds : (p : Place) → extents_cover after p ≡ (extents_cover before p || facts_have facts p)
  pub lie : ListSlices (inside_of kind new) any_slice facts
  pub inside : AreInsideLists kind new facts
  pub told : TellsFacts kind old new facts

-- The list of one of these was not read, at a moment to which the call had gone on: lists of others of them were read before, and stay
-- remembered, and no other list was asked for.
pub record LacksOne {S : Type 0} (kind : StoreKind S) (old new : Dev S) (bases : List Base) (why : Fault) : Type 0 where
  pub mid : Dev S
  pub goes : GoesOn kind old mid []
  pub before : List ListFact
  pub recalls : Recalls kind old mid before
  pub among : All (λ (f : ListFact). Contains (map (λ (b : Base). b.slice) bases) f.slice) before
  pub base : Base
  pub one : Contains bases base
  pub cause : IsSliceFault kind mid new base.slice why
  pub left : remembered new ≡ remembered mid

abbrev pub IsBasesFault : {S : Type 0} → StoreKind S → (old new : Dev S) → List Base → Fault → Type 0
IsBasesFault kind old new bases why = (why ≡ fault.Memory) ⊎ LacksOne kind old new bases why

-- Parts were read: over all lists that agree with what was read of bases, what was found before and now is what the parts find.
-- Each base that a version has was read, and no other slice; the lists that were asked for are remembered.
pub record PartsRead {S : Type 0} (kind : StoreKind S) (old new : Dev S) (kv : Store Key Value) (parts : Parts) (before after : Place → Bool) : Type 0 where
  pub facts : List ListFact
  pub slices : (P : List Place → Bool) (Q : Slice → Bool) → ((v : RegionValue) → IsIn kv parts v → BaseBytes P Q v.base) → ListSlices P Q facts
  pub asked : List ListFact
  pub recalls : Recalls kind old new asked
  pub among : All (λ (f : ListFact). (v : RegionValue) × IsIn kv parts v × IsOfBase v.base f.slice) asked
  pub finds : (lists : Lists) → TellLists lists facts → Finds lists kv parts before after
  pub inside : AreInsideLists kind new facts
  pub told : TellsFacts kind old new facts

-- the base of a version of a region of these parts was not read; lists of others were read before, and stay remembered, and no other list
-- was asked for
pub record PartLacksBase {S : Type 0} (kind : StoreKind S) (old new : Dev S) (kv : Store Key Value) (parts : Parts) (why : Fault) : Type 0 where
  pub mid : Dev S
  pub goes : GoesOn kind old mid []
  pub before : List ListFact
  pub recalls : Recalls kind old mid before
  pub among : All (λ (f : ListFact). (v : RegionValue) × IsIn kv parts v × IsOfBase v.base f.slice) before
  pub region : RegionValue
  pub there : IsIn kv parts region
  pub cause : IsBaseFault kind mid new region.base why
  pub left : remembered new ≡ remembered mid

abbrev pub IsPartsFault : {S : Type 0} → StoreKind S → (old new : Dev S) → Store Key Value → Parts → Fault → Type 0
IsPartsFault kind old new kv parts why = (why ≡ fault.Memory) ⊎ PartLacksBase kind old new kv parts why
