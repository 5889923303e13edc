-- What calls on slices tell of the stores, and why bytes of a slice were not shown.
use Rattle.std.specs.Prelude.{◌≡◌, ◌⊎◌, ◌+◌, ℕ, Bool, List, [], Option, None, Some}
use Rattle.wtf_base.specs.declared.fault.Fault.{Fault}
use Rattle.wtf_base.specs.declared.fault.Fault.TheVariants as fault
use Rattle.wtf_base.specs.declared.slice.Slice.{Slice}
use Rattle.wtf_dev.specs.Store.{StoreKind}
use Rattle.wtf_overlay.specs.Origin.{Place, pieces_origin}
use Rattle.wtf_overlay.specs.declared.part.Piece.{Piece}
use Rattle.wtf_replica.specs.Bytes.{byte_at}
use Rattle.wtf_meta.specs.Bytes.{MapBytes, ListSlices}
use Rattle.wtf_meta.specs.Contents.{is_told}
use Rattle.wtf_meta.specs.Maps.{Map}
use Rattle.wtf_meta.specs.Sessions.{SessionView, SessionBytes}
use Rattle.wtf_meta.specs.Calls.{Did, TellFacts}
use Rattle.wtf_region.specs.declared.dev.Dev.{Dev}
use Rattle.wtf_region.specs.Devs.{remembered}
use Rattle.wtf_region.specs.Reads.{TellsFacts, AreInsideLists}
use Rattle.wtf_steps.specs.Faults.{LacksBytes, ShowPlaces}

-- A call read no byte of a file and stored none. The lists that it read are of bases of the map, and are those of their slices,
-- if these were told and not punched since the cache was true.
pub record TellsLists {S : Type 0} (kind : StoreKind S) (old new : Dev S) (b : Map) (did : Did) : Type 0 where
  pub facts : did.facts ≡ []
  pub stored : did.stored ≡ []
  pub slices : (P : List Place → Bool) (Q : Slice → Bool) → MapBytes P Q b → ListSlices P Q did.lists
  pub inside : AreInsideLists kind new did.lists
  pub lists : TellsFacts kind old new did.lists

-- a call stored no byte and read no list, and stores that told each byte of the slices in hand tell what it read
pub record TellsSlices {S : Type 0} (kind : StoreKind S) (old new : List S) (s : SessionView) (did : Did) : Type 0 where
  pub stored : did.stored ≡ []
  pub lists : did.lists ≡ []
  pub told : SessionBytes (is_told (byte_at kind old)) s → TellFacts (byte_at kind new) did.facts

-- Why n bytes of a slice from off on were not shown; memory may be short at any time. The lists that are remembered stay. What was
-- never set gives no fault.
abbrev pub LacksSlice : {S : Type 0} → StoreKind S → (old new : Dev S) → Option (List Piece) → ℕ → ℕ → Fault → Type 0
LacksSlice kind old new None off n why = ⊥
LacksSlice kind old new (Some ps) off n why =
    ((why ≡ fault.Memory) ⊎ LacksBytes kind old new n (ShowPlaces n (λ i. pieces_origin ps (off + i))) why) × (remembered new ≡ remembered old)
