-- What is remembered: where regions go, and the lists of slices.
use Rattle.std.specs.Prelude.{◌≡◌, ◌⊎◌, ℕ, Bool, List, [], ◌∷◌, take, Option, None, Some, option_map, slice_get}
use Rattle.std.specs.List.{All, Contains}
use Rattle.std.specs.Map.{lookup, remove_entry}
use Rattle.wtf_base.specs.declared.slice.Slice.{Slice}
use Rattle.wtf_base.specs.contracts.slice.SlicePartialEq.TheImpl as slice_eq
use Rattle.wtf_dev.specs.Store.{Range}
use Rattle.wtf_overlay.specs.Origin.{Place}
use Rattle.wtf_overlay.specs.Spilled.{decoded}
use Rattle.wtf_overlay.specs.declared.part.Entry.{Entry}
use Rattle.wtf_ring.specs.Points.{RingView, PlaceView, place_of}
use Rattle.wtf_ring.specs.Orders.{IsOrder}
use Rattle.wtf_meta.specs.Bytes.{EntryBytes, SliceBytes}
use Rattle.wtf_meta.specs.Contents.{Told, SliceTells}
use Rattle.wtf_meta.specs.Lists.{ListFact}
use Rattle.wtf_region.specs.declared.cache.RegionKey.{RegionKey}
use Rattle.wtf_region.specs.Apart.{are_apart}

-- slices, each with the list that was read of it
abbrev pub Remembered : Type 0
Remembered = List (Slice × List Entry)

-- regions with their places and slices with their lists, what was asked for last first
pub record CacheView : Type 0 where
  pub places : List (RegionKey × PlaceView)
  pub lists : Remembered

-- where a region goes on a ring: to each of its servers, in some order
pub record IsPlaceOf (ring : RingView) (key : RegionKey) (place : PlaceView) : Type 0 where
  pub value : place ≡ place_of ring.points key.inode key.region
  pub order : IsOrder ring.servers place.servers

-- each place that is remembered is that of the ring
abbrev pub AreFrom : RingView → List (RegionKey × PlaceView) → Type 0
AreFrom ring entries = (e : RegionKey × PlaceView) → Contains entries e → IsPlaceOf ring e.0 e.1

-- the region is the first that is remembered
abbrev pub BeginsAt : RegionKey → List (RegionKey × PlaceView) → Type 0
BeginsAt key entries = option_map (λ e. e.0) (slice_get entries 0) ≡ Some key

-- the list that is remembered of a slice, if one is
abbrev pub cached : Remembered → Slice → Option (List Entry)
cached es s = lookup (slice_eq.eq-value.it s) es

-- a list is that of a slice
abbrev pub list_fact : Slice → List Entry → ListFact
list_fact s es = record { slice = s; list = es }

-- a list was asked for: it stands first, behind it the others without an older one of its slice, and the first 64 are kept
abbrev pub recalled_one : ListFact → Remembered → Remembered
recalled_one f es = take 64 ((f.slice, f.list) ∷ remove_entry (slice_eq.eq-value.it f.slice) es)

-- lists were asked for, one after another
abbrev pub recalled : List ListFact → Remembered → Remembered
recalled [] es = es
recalled (f ∷ fs) es = recalled fs (recalled_one f es)

-- a slice was looked up, of which this is remembered
abbrev pub looked_up : Slice → Option (List Entry) → Remembered → Remembered
looked_up s None es = es
looked_up s (Some list) es = recalled_one (list_fact s list) es

-- no list came to be remembered but of slices of which P holds; others may be forgotten
abbrev pub RemembersOnly : (Slice → Type 0) → (old new : Remembered) → Type 0
RemembersOnly P old new = (e : Slice × List Entry) → Contains new e → Contains old e ⊎ P e.0

-- P holds of each byte of each slice that is remembered, and of each byte of its list
abbrev pub CacheInside : (List Place → Bool) → Remembered → Type 0
CacheInside P es = (e : Slice × List Entry) → Contains es e → SliceBytes P e.0 × All (EntryBytes P) e.1

-- each list that is remembered of a slice no byte of which lies in these ranges is, where it is known what a read of the slice gives, what that
-- decodes to for a region of b bytes
abbrev pub CacheTrue : Told → ℕ → List (ℕ × Range) → Remembered → Type 0
CacheTrue shown b ranges es =
    (e : Slice × List Entry) → Contains es e → SliceBytes (are_apart ranges) e.0 → (bytes : List ℕ) → SliceTells shown e.0 bytes → decoded b bytes ≡ Some e.1

-- what is known of lists that are remembered: whether they are true but those of slices of which a byte lies in these ranges
abbrev pub TrueBut : Type 1
TrueBut = List (ℕ × Range) → Type 0
