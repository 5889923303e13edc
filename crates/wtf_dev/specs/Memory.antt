-- What contracts see of the devices in memory. Of each: what it holds, and its calls so far.
use Rattle.std.specs.Prelude.{◌≡◌, ℕ, ◌-◌, ◌^◌, ◌<◌, ◌≤◌, ◌⊎◌, ◌&&◌, nat_lt, if◌then◌else◌, true, Option, Some, None, List, [], length, min, slice_get, slice_set, slice_index_or, Vec, map}
use Rattle.std.specs.declared.alloc.Global.{Global}
use Rattle.wtf_dev.specs.Calls.{CallCounts, CallsGoOn}
use Rattle.wtf_dev.specs.Streams.{SourceView, SinkView}
use Rattle.wtf_dev.specs.Store.{Range, StoreView, Kept, StoreKind}
use Rattle.wtf_dev.specs.Keep.{KeeperView, KeeperKept}

pub record SourceState : Type 0 where
  pub rest : List ℕ
  pub calls : CallCounts
  pub given : ℕ

abbrev pub source_view : SourceState → SourceView
source_view s = record { faults = s.calls.faults; given = s.given; rest = Some s.rest }

pub record SinkState : Type 0 where
  pub taken : List ℕ
  pub calls : CallCounts

abbrev pub sink_view : SinkState → SinkView
sink_view s = record { faults = s.calls.faults; taken = Some s.taken }

pub record StoreState : Type 0 where
  pub files : List (List ℕ)
  pub calls : CallCounts
  pub syncs : ℕ

abbrev pub file_lists : List (Vec ℕ Global) → List (List ℕ)
file_lists vs = map (λ (v : Vec ℕ Global). v.items) vs

-- the bytes of a file
abbrev pub file_bytes : StoreState → ℕ → List ℕ
file_bytes s f = slice_index_or s.files f []

-- A file is never longer than 2^61 - 1 bytes: `min` says so of each state that can be written down.
abbrev pub file_size : StoreState → ℕ → ℕ
file_size s f = min (length (file_bytes s f)) (2 ^ 61 - 1)

-- the byte at a place of a file; none past its length, and none in a ninth file
abbrev pub file_told : StoreState → ℕ → ℕ → Option ℕ
file_told s f i = if nat_lt f 8 && nat_lt i (file_size s f) then slice_get (file_bytes s f) i else None

abbrev pub store_view : StoreState → StoreView
store_view s = record { faults = s.calls.faults; syncs = s.syncs; size = file_size s; told = file_told s; shown = file_told s; tells = true }

pub record StoreFollows (old new : StoreState) (punched : List Range) : Type 0 where
  pub kept : Kept (store_view old) (store_view new) punched
  pub calls : CallsGoOn old.calls new.calls

abbrev pub mem_store : StoreKind StoreState
mem_store = record { view = store_view; follows = StoreFollows }

-- new is old with zeros from one place to another
pub record Zeroed (old new : List ℕ) (from to : ℕ) : Type 0 where
  pub len : length new ≡ length old
  pub zeros : (k : ℕ) → from ≤ k → k < to → slice_index_or new k 0 ≡ 0
  pub others : (k : ℕ) → (k < from) ⊎ (to ≤ k) → slice_index_or new k 0 ≡ slice_index_or old k 0

-- the files are the old ones, with zeros in one of them from one place to another
abbrev pub ZeroedIn : List (List ℕ) → List (List ℕ) → ℕ → ℕ → ℕ → Type 0
ZeroedIn old new f from to = (v : List ℕ) × (new ≡ slice_set old f v) × Zeroed (slice_index_or old f []) v from to

pub record KeeperState : Type 0 where
  pub bytes : List ℕ
  pub calls : CallCounts

abbrev pub keeper_view : KeeperState → KeeperView
keeper_view k = record { faults = k.calls.faults; held = Some k.bytes; tells = true }

pub record KeeperFollows (old new : KeeperState) (images : List (List ℕ)) : Type 0 where
  pub kept : KeeperKept (keeper_view old) (keeper_view new) images
  pub calls : CallsGoOn old.calls new.calls
