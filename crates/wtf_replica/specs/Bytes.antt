-- What the stores of a shelf hold: the byte at a place, the places that there are, and the bytes of a slice.
use Rattle.std.specs.Prelude.{◌≡◌, ◌⊎◌, ℕ, ◌+◌, ◌<◌, Bool, true, List, length, Option, Some, None, slice_get, slice_index, slice_index_or}
use Rattle.std.specs.List.{All}
use Rattle.wtf_base.specs.declared.slice.Slice.{Slice}
use Rattle.wtf_base.specs.Places.{Place, places_of, HasByte}
use Rattle.wtf_dev.specs.Store.{StoreKind}

-- the byte that a store tells at a place; none where there is no store
abbrev pub told_by : {S : Type 0} → StoreKind S → Option S → Place → Option ℕ
told_by kind None p = None
told_by kind (Some s) p = (kind.view s).told p.file p.at

-- the byte that the stores of a shelf tell at a place
abbrev pub byte_at : {S : Type 0} → StoreKind S → List S → Place → Option ℕ
byte_at kind shelf p = told_by kind (slice_get shelf p.server) p

-- the byte that a read of a store gives at a place, and one of the stores of a shelf
abbrev pub shown_by : {S : Type 0} → StoreKind S → Option S → Place → Option ℕ
shown_by kind None p = None
shown_by kind (Some s) p = (kind.view s).shown p.file p.at

abbrev pub shown_byte : {S : Type 0} → StoreKind S → List S → Place → Option ℕ
shown_byte kind shelf p = shown_by kind (slice_get shelf p.server) p

-- a place lies inside the stores: in one of the eight files of a server that is there, before its end
abbrev pub IsPlaceInside : {S : Type 0} → StoreKind S → List S → Place → Type 0
IsPlaceInside {S} kind shelf p =
    (p.server < length shelf) × (p.file < 8) × ((d : S) → p.at < (kind.view (slice_index_or shelf p.server d)).size p.file)

-- every copy of a slice holds these bytes, where `bytes_at` says what is held at a place
abbrev pub HoldsSlice : (Place → Option ℕ) → Slice → List ℕ → Type 0
HoldsSlice bytes_at s bytes = (i : ℕ) → i < length bytes → HasByte bytes_at s i (slice_index bytes i)

-- these bytes were read from byte off of a slice on: a byte that every copy holds is the one there
abbrev pub ShowsSlice : (Place → Option ℕ) → Slice → ℕ → List ℕ → Type 0
ShowsSlice bytes_at s off bytes =
    (i b : ℕ) → i < length bytes → HasByte bytes_at s (off + i) b → slice_index bytes i ≡ b

-- every copy of the byte at i of a slice on a server that is not down holds b
abbrev pub HasByteUp : (ℕ → Bool) → (Place → Option ℕ) → Slice → ℕ → ℕ → Type 0
HasByteUp down bytes_at s i b = All (λ q. (down q.server ≡ true) ⊎ (bytes_at q ≡ Some b)) (places_of s i)

-- these bytes were read from byte off of a slice on: a byte that every copy on a server that is not down holds is the one
-- there, whatever the servers that are down hold
abbrev pub ShowsUp : (ℕ → Bool) → (Place → Option ℕ) → Slice → ℕ → List ℕ → Type 0
ShowsUp down bytes_at s off bytes =
    (i b : ℕ) → i < length bytes → HasByteUp down bytes_at s (off + i) b → slice_index bytes i ≡ b
