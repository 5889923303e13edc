-- What the parts of a run promise to each other.
use Rattle.std.specs.Prelude.{◌≡◌, ◌⊎◌, ℕ, ◌+◌, ◌<◌, List, [], ◌∷◌, length, nat_lt, if◌then◌else◌, false}
use Rattle.wtf_base.specs.declared.settings.Settings.{Settings}
use Rattle.wtf_dev.specs.Counts.{Rose}
use Rattle.wtf_dev.specs.Keep.{KeeperView}
use Rattle.wtf_dev.specs.Store.{StoreKind}
use Rattle.wtf_dev.specs.Streams.{SinkView}
use Rattle.wtf_kv.specs.declared.changes.Change.{Change}
use Rattle.wtf_kv.specs.Stores.{Store}
use Rattle.wtf_replica.specs.declared.replicas.Replicas.{Replicas}
use Rattle.wtf_replica.specs.Downs.{settings_of, is_down}
use Rattle.wtf_replica.specs.Outs.{HasRisen, HasSynced}
use Rattle.wtf_values.specs.declared.value.Delta.{Delta}
use Rattle.wtf_values.specs.declared.key.Key.{Key}
use Rattle.wtf_values.specs.declared.value.Value.{Value}
use Rattle.wtf_meta.specs.Maps.{Map, metadata_at, with}
use Rattle.wtf_region.specs.declared.dev.Dev.{Dev}
use Rattle.wtf_region.specs.Devs.{stores, GoesOn, between}
use Rattle.wtf_healer.specs.Regions.{CanHeal}
use Rattle.wtf_healer.specs.Restored.{OnlyStored}
use Rattle.wtf_healer.specs.Runs.{SaysText}

-- a text was said, with this status, or no memory was had for it, and nothing was written
abbrev pub SaysOrNot : {O : Type 0} → (view : O → SinkView) → (text : List ℕ) → (wanted status : ℕ) → (old new : O) → Type 0
SaysOrNot view text wanted status old new = ((status ≡ 7) × (new ≡ old)) ⊎ SaysText text wanted status (view old) (view new)

-- a store after an install of all of these changes, or the same where there are none
pub record IsPutIn (changes : List (Change Key Delta)) (old new : Store Key Value) : Type 0 where
  pub number : new.number ≡ old.number + (if nat_lt 0 (length changes) then 1 else 0)
  pub map : metadata_at new new.number ≡ with changes (metadata_at old old.number)

-- all stores of servers that are up were synced
abbrev pub AreUpSynced : {S : Type 0} → StoreKind S → Replicas → (before after : List S) → Type 0
AreUpSynced kind replicas before after =
    (k : ℕ) → k < (settings_of replicas).servers → is_down replicas k ≡ false → HasSynced kind before after k

-- a store of a server that is up failed
abbrev pub HasUpFailed : {S : Type 0} → StoreKind S → Replicas → (before after : List S) → Type 0
HasUpFailed kind replicas before after =
    (k : ℕ) × (k < (settings_of replicas).servers) × (is_down replicas k ≡ false) × HasRisen kind before after k

-- a store of a server that is up failed, and the keeper was not touched; or all of them were synced, the image was handed to the keeper,
-- and that failed
abbrev pub IsKeepFault : {S K : Type 0} → StoreKind S → (K → KeeperView) → (K → K → List (List ℕ) → Type 0) → Replicas → List ℕ → List S × K → List S × K
    → Type 0
IsKeepFault kind view follows replicas image (before, old) (after, new) =
    (HasUpFailed kind replicas before after × (new ≡ old))
    ⊎ (AreUpSynced kind replicas before after × follows old new (image ∷ []) × Rose (view old).faults (view new).faults)

-- these stores are lent to these servers, for these settings
pub record IsLentTo {S : Type 0} (shelf : List S) (replicas : Replicas) (settings : Settings) (dev : Dev S) : Type 0 where
  pub stores_are : stores dev ≡ shelf
  pub replicas_are : dev.replicas.now ≡ replicas
  pub settings_are : dev.settings ≡ settings

-- all of a map can be healed while they are
abbrev pub CanHealOver : {S : Type 0} → StoreKind S → List S → Replicas → Settings → Map → Type 0
CanHealOver {S} kind shelf replicas settings w = (dev : Dev S) → IsLentTo shelf replicas settings dev → CanHeal kind dev w

-- what was done while they were lent
pub record Passed {S : Type 0} (kind : StoreKind S) (replicas : Replicas) (settings : Settings) (old new : List S) (Did : Dev S → Dev S → Type 0) : Type 0 where
  pub before : Dev S
  pub before_is : IsLentTo old replicas settings before
  pub after : Dev S
  pub after_is : IsLentTo new replicas settings after
  pub stored : OnlyStored kind (between before after)
  pub goes : GoesOn kind before after []
  pub did : Did before after
