-- What holds of a bench at every moment, so that no call on it asks for it.
use Rattle.std.specs.Prelude.{◌≡◌, ◌≤◌, Bool, true, List, [], length}
use Rattle.wtf_base.specs.declared.settings.Settings.{Settings}
use Rattle.wtf_base.specs.declared.slice.Slice.{Slice}
use Rattle.wtf_dev.specs.Memory.{StoreState, mem_store}
use Rattle.wtf_kv.specs.Stores.{Store}
use Rattle.wtf_overlay.specs.Origin.{Place}
use Rattle.wtf_replica.specs.declared.replicas.Replicas.{Replicas}
use Rattle.wtf_replica.specs.Downs.{settings_of}
use Rattle.wtf_ring.specs.Points.{RingView}
use Rattle.wtf_values.specs.declared.key.Key.{Key}
use Rattle.wtf_values.specs.declared.value.Value.{Value}
use Rattle.wtf_meta.specs.Bytes.{MapBytes}
use Rattle.wtf_meta.specs.Maps.{Map, metadata_at}
use Rattle.wtf_region.specs.Cached.{CacheView, AreFrom, CacheInside}
use Rattle.wtf_region.specs.Inside.{is_inside, IsStoredInside}
use Rattle.wtf_replay.specs.Views.{TxnView}
use Rattle.wtf_replay.specs.Fits.{IsFit}
use Rattle.wtf_replay.specs.Insides.{IsInsideTxn}

-- no byte stands in a map but those of holes
abbrev pub IsBareMap : Map → Type 0
IsBareMap w = (P : List Place → Bool) (Q : Slice → Bool) → P [] ≡ true → MapBytes P Q w

-- what a transaction is lent
pub record IsTxnLent (shelf : List StoreState) (replicas : Replicas) (ring : RingView) (cache : CacheView) (settings : Settings) : Type 0 where
  pub replicas_are : settings_of replicas ≡ settings
  pub ring_is : ring.servers ≡ settings.servers
  pub enough : settings.servers ≤ length shelf
  pub places_are : AreFrom ring cache.places
  pub lists_are : CacheInside (is_inside mem_store shelf settings) cache.lists

-- the transaction fits its store, and all that it and the map now name lies inside the stores
pub record IsTxnHeld (shelf : List StoreState) (settings : Settings) (kv : Store Key Value) (txn : TxnView) : Type 0 where
  pub fit : IsFit kv txn
  pub inside : IsInsideTxn mem_store shelf settings kv txn
  pub now : IsStoredInside mem_store shelf settings (metadata_at kv kv.number)
