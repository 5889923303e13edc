-- What comes of the entries of a list whose slices have too few copies.
use Rattle.std.specs.Prelude.{◌≡◌, ℕ, ◌+◌, ◌*◌, ◌<◌, Bool, true, false, List, [], ◌∷◌, length, slice_index_or, Some, ⊤}
use Rattle.std.specs.List.{All, Contains}
use Rattle.wtf_base.specs.declared.fault.Fault.{Fault}
use Rattle.wtf_base.specs.declared.fault.Fault.TheVariants as fault
use Rattle.wtf_base.specs.declared.slice.Slice.{Slice}
use Rattle.wtf_base.specs.Slices.{len_of}
use Rattle.wtf_base.specs.Places.{places_of}
use Rattle.wtf_dev.specs.Store.{StoreKind}
use Rattle.wtf_dev.specs.Sums.{all_stored}
use Rattle.wtf_overlay.specs.Clips.{Within}
use Rattle.wtf_overlay.specs.Meaning.{meaning}
use Rattle.wtf_overlay.specs.Origin.{part_origin}
use Rattle.wtf_overlay.specs.declared.part.Entry.{Entry}
use Rattle.wtf_overlay.specs.declared.part.Part.TheVariants.{Held}
use Rattle.wtf_replica.specs.Copies.{IsStored}
use Rattle.wtf_replica.specs.Faults.{IsWriteFault}
use Rattle.wtf_replica.specs.Outs.{HasRisen, IsLeftDown, SameSyncs}
use Rattle.wtf_replica.specs.Spans.{Span}
use Rattle.wtf_ring.specs.Points.{PlaceView}
use Rattle.wtf_meta.specs.Bytes.{EntryBytes, SliceBytes}
use Rattle.wtf_meta.specs.Contents.{Told}
use Rattle.wtf_region.specs.declared.cache.RegionKey.{RegionKey}
use Rattle.wtf_region.specs.declared.dev.Dev.{Dev}
use Rattle.wtf_region.specs.Devs.{GoesOn, stores, is_down_in, told_in, place_in, between}
use Rattle.wtf_region.specs.Showing.{meaning_up, LacksPart, IsPartFault}
use Rattle.wtf_healer.specs.Bases.{inside_left}
use Rattle.wtf_healer.specs.Sparse.{is_sparse, is_sparse_part, has_sparse, sparse_bytes}

-- the stores of the servers that are up tell their content
abbrev pub TellUp : {S : Type 0} → StoreKind S → (ℕ → Bool) → List S → Type 0
TellUp {S} kind down shelf = (k : ℕ) (d : S) → k < length shelf → down k ≡ false → (kind.view (slice_index_or shelf k d)).tells ≡ true

-- f stands where e stood
pub record IsPlaced (e f : Entry) : Type 0 where
  pub off : f.off ≡ e.off
  pub len : f.len ≡ e.len

-- and each byte of e that its copies on servers that are up told is told by all copies of f now
pub record KeepsToldBytes (down : ℕ → Bool) (told now : Told) (e f : Entry) : Type 0 where
  pub placed : IsPlaced e f
  pub bytes : (i b : ℕ) → i < e.len → meaning_up down told (part_origin e.part i) ≡ Some b → meaning now (part_origin f.part i) ≡ Some b

-- the entries of a list, one by one
abbrev pub AreKept : (ℕ → Bool) → Told → Told → List Entry → List Entry → Type 0
AreKept down told now [] [] = ⊤
AreKept down told now (e ∷ es) (f ∷ fs) = KeepsToldBytes down told now e f × AreKept down told now es fs
AreKept down told now [] (f ∷ fs) = ⊥
AreKept down told now (e ∷ es) [] = ⊥

-- no store failed in a span
abbrev pub NoneRose : {S : Type 0} → StoreKind S → Span S → Type 0
NoneRose kind t = (k : ℕ) → HasRisen kind t.before t.after k → ⊥

-- so many bytes were stored anew, each with as many copies as the settings ask for: where no store failed, that is all that the
-- stores together grew by
abbrev pub Grew : {S : Type 0} → StoreKind S → (old new : Dev S) → ℕ → Type 0
Grew kind old new n = NoneRose kind (between old new) → all_stored kind (stores new) ≡ all_stored kind (stores old) + old.settings.replicas * n

-- where the bytes of an entry of a region go: the place of their offset in the file
abbrev pub place_for : {S : Type 0} → Dev S → RegionKey → Entry → PlaceView
place_for dev key e = place_in dev key.inode (key.region * dev.settings.region + e.off)

-- At some time between `old` and `new` a slice was stored at a place, with as many copies as the settings ask for.
pub record WasStored {S : Type 0} (kind : StoreKind S) (old new : Dev S) (place : PlaceView) (s : Slice) : Type 0 where
  pub before : Dev S
  pub after : Dev S
  pub since : GoesOn kind old before []
  pub goes : GoesOn kind before after []
  pub until : GoesOn kind after new []
  pub bytes : List ℕ
  pub stored : IsStored kind (between before after) before.settings.replicas place bytes s

-- A slice of the bytes of an entry of a region was stored anew, at their place: what the copies of the entry on servers that are up
-- told, all copies of the slice tell. It has as many copies as the settings ask for, none on a server that is down.
pub record IsStoredFor {S : Type 0} (kind : StoreKind S) (old new : Dev S) (key : RegionKey) (e : Entry) (s : Slice) : Type 0 where
  pub len : len_of s ≡ e.len
  pub keeps : TellUp kind (is_down_in old) (stores old) → (i b : ℕ) → i < e.len
      → meaning_up (is_down_in old) (told_in kind old) (part_origin e.part i) ≡ Some b → meaning (told_in kind new) (places_of s i) ≡ Some b
  pub whole : is_sparse (is_down_in old) old.settings.replicas s ≡ false
  pub inside : SliceBytes (inside_left kind new) s
  pub grew : Grew kind old new e.len
  pub place : WasStored kind old new (place_for old key e) s

-- f was made of an entry e of a region: e itself where it is not sparse; else its slice was stored at the place of the bytes
pub record IsMadeOf {S : Type 0} (kind : StoreKind S) (old new : Dev S) (key : RegionKey) (e f : Entry) : Type 0 where
  pub stays : is_sparse_part (is_down_in old) old.settings.replicas e.part ≡ false → f ≡ e
  pub stored : is_sparse_part (is_down_in old) old.settings.replicas e.part ≡ true
      → (s : Slice) × (f.part ≡ Held s) × WasStored kind old new (place_for old key e) s

-- the entries of a list, one by one
abbrev pub AreMadeOf : {S : Type 0} → StoreKind S → (old new : Dev S) → RegionKey → List Entry → List Entry → Type 0
AreMadeOf kind old new key [] [] = ⊤
AreMadeOf kind old new key (e ∷ es) (f ∷ fs) = IsMadeOf kind old new key e f × AreMadeOf kind old new key es fs
AreMadeOf kind old new key [] (f ∷ fs) = ⊥
AreMadeOf kind old new key (e ∷ es) [] = ⊥

-- the entry f stands in the place of e, and no slice of it is sparse
pub record IsRestored {S : Type 0} (kind : StoreKind S) (old new : Dev S) (key : RegionKey) (e f : Entry) : Type 0 where
  pub placed : IsPlaced e f
  pub keeps : TellUp kind (is_down_in old) (stores old) → KeepsToldBytes (is_down_in old) (told_in kind old) (told_in kind new) e f
  pub whole : is_sparse_part (is_down_in old) old.settings.replicas f.part ≡ false
  pub inside : EntryBytes (inside_left kind new) f
  pub grew : Grew kind old new (sparse_bytes (is_down_in old) old.settings.replicas (e ∷ []))
  pub made : IsMadeOf kind old new key e f

-- The list fs stands in the place of the list es of a region: it shows the same bytes, no slice of it is sparse, and all that it names
-- lies inside the stores. The sparse entries of es were stored anew at their places, n bytes, and the other ones stay.
pub record AreRestored {S : Type 0} (kind : StoreKind S) (old new : Dev S) (key : RegionKey) (es fs : List Entry) (n : ℕ) : Type 0 where
  pub keeps : TellUp kind (is_down_in old) (stores old) → AreKept (is_down_in old) (told_in kind old) (told_in kind new) es fs
  pub whole : has_sparse (is_down_in old) old.settings.replicas fs ≡ false
  pub within : (end : ℕ) → Within end es → Within end fs
  pub inside : All (EntryBytes (inside_left kind new)) fs
  pub bytes : n ≡ sparse_bytes (is_down_in old) old.settings.replicas es
  pub made : AreMadeOf kind old new key es fs

-- the stores were read and written, no other way: none on a server that is down was touched, and none was synced
pub record OnlyStored {S : Type 0} (kind : StoreKind S) (t : Span S) : Type 0 where
  pub down : IsLeftDown t
  pub syncs : SameSyncs kind t.before t.after

-- an entry was not read, as all servers of its slice are out, the last of them k
abbrev pub IsEntryFault : {S : Type 0} → StoreKind S → Span S → Entry → Fault → Type 0
IsEntryFault kind t e why = IsPartFault kind t e.part why

-- why an entry was not stored anew; memory may be short at any time
abbrev pub IsAnewFault : {S : Type 0} → StoreKind S → (old new : Dev S) → Entry → Fault → Type 0
IsAnewFault kind old new e (fault.Read k) = LacksPart kind (between old new) e.part k.0
IsAnewFault kind old new e fault.Write = IsWriteFault kind (between old new) old.settings fault.Write
IsAnewFault kind old new e fault.Memory = ⊤
IsAnewFault kind old new e other = ⊥

-- a sparse entry of a list was not read, as all servers of its slice are out, the last of them k
pub record LacksEntry {S : Type 0} (kind : StoreKind S) (old new : Dev S) (es : List Entry) (k : ℕ) : Type 0 where
  pub entry : Entry
  pub there : Contains es entry
  pub sparse : is_sparse_part (is_down_in old) old.settings.replicas entry.part ≡ true
  pub lacks : LacksPart kind (between old new) entry.part k

-- a sparse entry of a list was not stored, as too few servers are not out
pub record LacksServers {S : Type 0} (kind : StoreKind S) (old new : Dev S) (es : List Entry) : Type 0 where
  pub entry : Entry
  pub there : Contains es entry
  pub sparse : is_sparse_part (is_down_in old) old.settings.replicas entry.part ≡ true
  pub few : IsWriteFault kind (between old new) old.settings fault.Write

-- why a list was not restored; memory may be short at any time
abbrev pub IsRestoreFault : {S : Type 0} → StoreKind S → (old new : Dev S) → List Entry → Fault → Type 0
IsRestoreFault kind old new es (fault.Read k) = LacksEntry kind old new es k.0
IsRestoreFault kind old new es fault.Write = LacksServers kind old new es
IsRestoreFault kind old new es fault.Memory = ⊤
IsRestoreFault kind old new es other = ⊥
