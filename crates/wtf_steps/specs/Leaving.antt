-- What a call leaves alone of the stores.
use Rattle.std.specs.Prelude.{ℕ, Option, Some, None}
use Rattle.wtf_dev.specs.Store.{StoreKind}
use Rattle.wtf_replica.specs.Spans.{Span}
use Rattle.wtf_ring.specs.Points.{PlaceView}
use Rattle.wtf_replica.specs.Copies.{GrowsOnce}
use Rattle.wtf_replica.specs.Outs.{IsLeftDown, SameLengths, SameSyncs}

-- no file of a store grew, but the one of the place to which n bytes may go, once
abbrev pub GrowsOnly : {S : Type 0} → StoreKind S → (into : Option PlaceView) → (n : ℕ) → Span S → Type 0
GrowsOnly kind None n t = SameLengths kind t.before t.after
GrowsOnly kind (Some place) n t = GrowsOnce kind t place n

-- none on a server that is down was touched, none was synced, and no other file of a store grew
pub record LeavesStores {S : Type 0} (kind : StoreKind S) (into : Option PlaceView) (n : ℕ) (t : Span S) : Type 0 where
  pub down : IsLeftDown t
  pub syncs : SameSyncs kind t.before t.after
  pub files : GrowsOnly kind into n t
