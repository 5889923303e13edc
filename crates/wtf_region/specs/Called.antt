-- What the calls on bytes do and leave: a record for each kind of call.
use Rattle.std.specs.Prelude.{◌≡◌, ◌+◌, ℕ, List, [], length, Result, IfOk, IfErr, OnOk, OnErr}
use Rattle.wtf_base.specs.declared.fault.Fault.{Fault}
use Rattle.wtf_base.specs.declared.slice.Slice.{Slice}
use Rattle.wtf_dev.specs.Store.{StoreKind}
use Rattle.wtf_dev.specs.Sums.{TellsAll}
use Rattle.wtf_overlay.specs.Origin.{pieces_origin}
use Rattle.wtf_overlay.specs.declared.part.Piece.{Piece}
use Rattle.wtf_replica.specs.Bytes.{byte_at, HoldsSlice}
use Rattle.wtf_replica.specs.Copies.{IsStored, IsInside, GrowsOnce}
use Rattle.wtf_replica.specs.Faults.{IsWriteFault}
use Rattle.wtf_replica.specs.Outs.{IsLeftDown, SameSyncs}
use Rattle.wtf_ring.specs.Orders.{IsOrder}
use Rattle.wtf_ring.specs.Points.{PlaceView}
use Rattle.wtf_region.specs.Inside.{IsOnServers}
use Rattle.wtf_region.specs.Devs.{GoesOn, stores, remembered, is_down_in, between}
use Rattle.wtf_region.specs.Showing.{Shown, ShownLive, BeginsWith, IsShowFault, OnlyRead, pieces_in}
use Rattle.wtf_region.specs.declared.dev.Dev.{Dev}

-- Bytes were to be stored at a place, which names each server of the settings once: a slice of them that lies inside the stores, or why
-- there is none. Servers that are down are left alone, none is synced, each store grows by nothing or by these bytes in the place's file,
-- and the lists that are remembered stay.
pub record StoresBytes {S : Type 0} (kind : StoreKind S) (old new : Dev S) (place : PlaceView) (bytes : List ℕ) (r : Result Slice Fault) : Type 0 where
  pub stored : IfOk r (IsStored kind (between old new) old.settings.replicas place bytes)
  pub holds : IfOk r (λ s. TellsAll kind (stores old) → HoldsSlice (byte_at kind (stores new)) s bytes)
  pub inside : IfOk r (IsInside kind (stores new))
  pub known : IfOk r (IsOnServers old.settings.servers)
  pub fault : IfErr r (IsWriteFault kind (between old new) old.settings)
  pub down : IsLeftDown (between old new)
  pub order : IsOrder old.settings.servers place.servers
  pub grows : GrowsOnce kind (between old new) place (length bytes)
  pub lists : remembered new ≡ remembered old
  pub syncs : SameSyncs kind (stores old) (stores new)
  pub dev : GoesOn kind old new []

-- what was appended of pieces is begun with what was there, and the stores were only read, whatever comes of it
pub record Appends {S : Type 0} (kind : StoreKind S) (old new : Dev S) (was now : List ℕ) : Type 0 where
  pub begins : BeginsWith was now
  pub reads : OnlyRead kind (between old new)
  pub lists : remembered new ≡ remembered old

-- the bytes that are to be shown: so many of pieces, from one of their bytes on
pub record AskedBytes : Type 0 where
  pub pieces : List Piece
  pub off : ℕ
  pub len : ℕ

-- Bytes of pieces were to be appended: they were, or nothing was, and why. The stores were only read, and the lists that are
-- remembered stay.
pub record ShowsBytesOf {S : Type 0} (kind : StoreKind S) (old new : Dev S) (ask : AskedBytes) (was now : List ℕ) (r : Result (Unit {0}) Fault) : Type 0 where
  pub shown : OnOk r (Shown (byte_at kind (stores old)) ask.len (λ i. pieces_origin ask.pieces (ask.off + i)) was now)
  pub live : OnOk r (ShownLive (is_down_in old) (byte_at kind (stores old)) ask.len (λ i. pieces_origin ask.pieces (ask.off + i)) was now)
  pub err : OnErr r (now ≡ was)
  pub fault : IfErr r (IsShowFault kind (between old new) (pieces_in ask.off ask.len ask.pieces))
  pub reads : OnlyRead kind (between old new)
  pub lists : remembered new ≡ remembered old
  pub dev : GoesOn kind old new []
