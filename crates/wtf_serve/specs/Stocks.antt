-- What a run leaves behind it: the stores, and the keeper of the image.
use Rattle.std.specs.Prelude.{◌≡◌, ◌⊎◌, ◌<◌, ◌≤◌, ◌+◌, ◌-◌, ◌^◌, ℕ, true, List, [], length, Some, slice_index_or}
use Rattle.wtf_base.specs.declared.settings.Settings.{Settings}
use Rattle.wtf_dev.specs.Counts.{Rose}
use Rattle.wtf_dev.specs.Keep.{KeeperView}
use Rattle.wtf_dev.specs.Store.{StoreKind}
use Rattle.wtf_dev.specs.Sums.{all_faults}
use Rattle.wtf_replica.specs.Bytes.{byte_at}
use Rattle.wtf_replica.specs.Inside.{size_in}
use Rattle.wtf_replica.specs.Spans.{Span}
use Rattle.wtf_model.specs.Tree.{Tree}
use Rattle.wtf_core.specs.Outcomes.{SomeOut}
use Rattle.wtf_core.specs.Pictured.{HoldsTree, HoldsTaken, HoldsWith}

-- the stores, and what contracts see of the keeper
pub record Stock (S : Type 0) : Type 0 where
  pub shelf : List S
  pub keeper : KeeperView

abbrev pub stock : {S : Type 0} → List S → KeeperView → Stock S
stock shelf keeper = record { shelf = shelf; keeper = keeper }

-- the counts of faults of all stores and of the keeper together
abbrev pub faults_in : {S : Type 0} → StoreKind S → Stock S → ℕ
faults_in kind s = all_faults kind s.shelf + s.keeper.faults

-- no count of faults stands at its type's end
abbrev pub AreCounting : {S : Type 0} → StoreKind S → Stock S → Type 0
AreCounting {S} kind s =
    ((k : ℕ) (d : S) → k < length s.shelf → (kind.view (slice_index_or s.shelf k d)).faults < 2 ^ 64 - 1)
    × (s.keeper.faults < 2 ^ 64 - 1)

-- the counts of faults rose by n, unless one of them stands at its type's end
abbrev pub RoseBy : {S : Type 0} → StoreKind S → Stock S → Stock S → ℕ → Type 0
RoseBy kind before after n = AreCounting kind after → faults_in kind before + n ≤ faults_in kind after

-- why a save fails: a server is out, or the keeper's count of faults rose
abbrev pub IsSaveFault : {S : Type 0} → StoreKind S → Span S → ℕ → KeeperView → KeeperView → Type 0
IsSaveFault kind t servers old new = SomeOut kind t servers ⊎ Rose old.faults new.faults

-- the keeper tells what it is handed, and what it holds
pub record IsTelling (k : KeeperView) (bytes : List ℕ) : Type 0 where
  pub tells : k.tells ≡ true
  pub held : k.held ≡ Some bytes

-- the keeper tells what it holds, and that is the image of one of these trees
abbrev pub HoldsOneOf : {S : Type 0} → StoreKind S → Stock S → List Tree → Type 0
HoldsOneOf kind s may = HoldsTree s.keeper (byte_at kind s.shelf) may

-- it tells what it holds, and a run can begin with that: no byte, or an image that is taken over the stores, with these settings
-- and with numbers that are at most these
abbrev pub HoldsStart : {S : Type 0} → StoreKind S → Stock S → Settings → ℕ → ℕ → Type 0
HoldsStart kind s settings number next = HoldsTaken s.keeper (size_in kind s.shelf) settings number next

-- or such an image, with just these numbers
abbrev pub HoldsJust : {S : Type 0} → StoreKind S → Stock S → Settings → ℕ → ℕ → Type 0
HoldsJust kind s settings number next = HoldsWith s.keeper (size_in kind s.shelf) settings number next

-- a keeper that tells what it is handed holds an image
abbrev pub HoldsSome : KeeperView → KeeperView → Type 0
HoldsSome old new = old.tells ≡ true → (image : List ℕ) × (new.held ≡ Some image) × (image ≡ [] → ⊥)

-- a later view of a keeper: its count of faults does not fall
pub record KeeperGoesOn (old new : KeeperView) : Type 0 where
  pub faults : old.faults ≤ new.faults
  pub tells : new.tells ≡ old.tells

-- what a keeper tells that it holds stays, as where it was handed nothing
pub record KeeperStays (old new : KeeperView) : Type 0 where
  pub goes_on : KeeperGoesOn old new
  pub held : (bytes : List ℕ) → old.held ≡ Some bytes → new.held ≡ Some bytes

-- some images, or none, were handed to the keeper
abbrev pub HandsOver : (List (List ℕ) → Type 0) → Type 0
HandsOver handed = (images : List (List ℕ)) × handed images
