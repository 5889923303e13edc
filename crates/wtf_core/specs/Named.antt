-- The bytes that a core names: those of the map at each number that is pinned and now, of each open transaction and job, and of the lists that it remembers.
use Rattle.std.specs.Prelude.{Bool, List}
use Rattle.wtf_base.specs.declared.slice.Slice.{Slice}
use Rattle.wtf_dev.specs.Store.{StoreKind}
use Rattle.wtf_overlay.specs.Origin.{Place}
use Rattle.wtf_meta.specs.Bytes.{any_slice}
use Rattle.wtf_region.specs.Cached.{CacheInside}
use Rattle.wtf_region.specs.Inside.{is_inside}
use Rattle.wtf_replica.specs.Inside.{size_in}
use Rattle.wtf_clients.specs.Safe.{LieIn}
use Rattle.wtf_clients.specs.Serves.{AreBased, AreBare, AreFull}
use Rattle.wtf_core.specs.Views.{CoreView}
pub use Rattle.wtf_clients.specs.Named.{TablesBytes, any_byte, no_slice, has_copies}

-- P holds of the places of each byte that the tables name, and Q of the slice of each base; and P of each byte of each slice whose list
-- is remembered, and of each byte of that list
pub record CoreBytes (P : List Place → Bool) (Q : Slice → Bool) (core : CoreView) : Type 0 where
  pub tables : TablesBytes P Q core.tables
  pub lists : CacheInside P core.lists

-- All that a core names lies inside the stores, and so does what its scans know of them: the marks, and what was freed.
pub record IsInside {S : Type 0} (kind : StoreKind S) (shelf : List S) (core : CoreView) : Type 0 where
  pub tables : TablesBytes (is_inside kind shelf core.settings) any_slice core.tables
  pub lists : CacheInside (is_inside kind shelf core.settings) core.lists
  pub scans : LieIn core.tables.beside.gc (size_in kind shelf)

-- the slice of each base passes a test
abbrev pub IsBased : CoreView → (Slice → Bool) → Type 0
IsBased core Q = AreBased core.tables Q

-- no region has a base: all lists of regions are in the metadata
abbrev pub IsBareCore : CoreView → Type 0
IsBareCore core = AreBare core.tables

-- and each byte that a core names has as many copies as there are replicas
abbrev pub IsFull : CoreView → Type 0
IsFull core = AreFull core.settings core.tables
