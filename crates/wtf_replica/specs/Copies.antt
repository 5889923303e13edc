-- The copies of a slice on the stores of a shelf: where they lie, how they are made, and how they are read.
use Rattle.std.specs.Prelude.{◌≡◌, ◌⊎◌, ◌↔◌, ℕ, ◌+◌, ◌*◌, ◌<◌, ◌≤◌, ◌^◌, ◌≢◌, ◌==◌, ◌&&◌, if◌then◌else◌, Bool, true, false, List, [], ◌∷◌, length, map, take, slice_get, slice_index_or, Some}
use Rattle.std.specs.List.{All, Contains}
use Rattle.wtf_base.specs.declared.pointer.Pointer.{Pointer}
use Rattle.wtf_base.specs.declared.slice.Slice.{Slice}
use Rattle.wtf_base.specs.Slices.{pointers_of, len_of}
use Rattle.wtf_dev.specs.Store.{StoreKind, Holds, Agrees}
use Rattle.wtf_dev.specs.Sums.{all_stored}
use Rattle.wtf_ring.specs.Points.{PlaceView}
use Rattle.wtf_replica.specs.Spans.{Span}
use Rattle.wtf_replica.specs.Outs.{HasRisen, IsOut, LeavesOut, OtherFilesStay}

-- a copy lies inside its store: in one of the eight files of a server that is there
abbrev pub IsCopyInside : {S : Type 0} → StoreKind S → List S → Pointer → Type 0
IsCopyInside {S} kind shelf p =
    (p.server.0 < length shelf) × (p.file < 8) × ((d : S) → p.at + p.len ≤ (kind.view (slice_index_or shelf p.server.0 d)).size p.file)

-- every copy of a slice lies inside its store
abbrev pub IsInside : {S : Type 0} → StoreKind S → List S → Slice → Type 0
IsInside kind shelf s = All (IsCopyInside kind shelf) (pointers_of s)

-- each copy of a slice on a server that is not down lies inside its store
abbrev pub IsReadable : {S : Type 0} → StoreKind S → (ℕ → Bool) → List S → Slice → Type 0
IsReadable kind down shelf s = All (λ p. (down p.server.0 ≡ true) ⊎ IsCopyInside kind shelf p) (pointers_of s)

-- the servers of a slice's copies, in ascending order
abbrev pub servers_of : Slice → List ℕ
servers_of s = map (λ (p : Pointer). p.server.0) (pointers_of s)

-- the stores of the servers that have none of these copies are as they were
abbrev pub SameBeside : {S : Type 0} → List Pointer → List S → List S → Type 0
SameBeside {S} copies old new =
    (k : ℕ) (d : S) → All (λ (p : Pointer). p.server.0 ≢ k) copies → slice_index_or new k d ≡ slice_index_or old k d

-- how many bytes of these copies lie in a file of a server
abbrev pub bytes_in : List Pointer → ℕ → ℕ → ℕ
bytes_in [] k f = 0
bytes_in (p ∷ ps) k f = (if p.server.0 == k && p.file == f then p.len else 0) + bytes_in ps k f

-- a new copy of these bytes in a file of a server that is up: it begins where the file ended, and it is all that the
-- store grew by
pub record IsNewCopy {S : Type 0} (kind : StoreKind S) (t : Span S) (in_file : ℕ) (bytes : List ℕ) (p : Pointer) : Type 0 where
  pub server : p.server.0 < length t.before
  pub up : t.down p.server.0 ≡ false
  pub file : p.file ≡ in_file
  pub len : p.len ≡ length bytes
  pub at : (d : S) → p.at ≡ (kind.view (slice_index_or t.before p.server.0 d)).size in_file
  pub size : (d : S) → (kind.view (slice_index_or t.after p.server.0 d)).size in_file ≡ p.at + length bytes
  pub others : (d : S) (f : ℕ) → f ≢ in_file → (kind.view (slice_index_or t.after p.server.0 d)).size f ≡ (kind.view (slice_index_or t.before p.server.0 d)).size f
  pub low : p.at + p.len < 2 ^ 61
  pub holds : (d : S) → (kind.view (slice_index_or t.before p.server.0 d)).tells ≡ true → Holds (kind.view (slice_index_or t.after p.server.0 d)) in_file p.at bytes

-- A slice of these bytes was stored at a place, with so many copies
pub record IsStored {S : Type 0} (kind : StoreKind S) (t : Span S) (replicas : ℕ) (place : PlaceView) (bytes : List ℕ) (s : Slice) : Type 0 where
  pub width : length (pointers_of s) ≡ replicas
  pub len : len_of s ≡ length bytes
  -- how many servers of the place's order were tried, and those that took the bytes, in that order: the first ones that
  -- are up and did not fail
  pub tried : ℕ
  pub took : List ℕ
  pub took_len : length took ≡ replicas
  pub written : LeavesOut (IsOut kind t) (take tried place.servers) took
  -- the slice's copies are on just these servers
  pub servers : (k : ℕ) → Contains (servers_of s) k ↔ Contains took k
  pub copies : All (IsNewCopy kind t place.file bytes) (pointers_of s)
  -- a store that was not tried is as it was
  pub untouched : (k : ℕ) (d : S) → (Contains (take tried place.servers) k → ⊥) → slice_index_or t.after k d ≡ slice_index_or t.before k d
  -- a store that did not fail grew by its copy alone
  pub grew : (k f : ℕ) (d : S) → k < length t.before → HasRisen kind t.before t.after k
      ⊎ ((kind.view (slice_index_or t.after k d)).size f ≡ (kind.view (slice_index_or t.before k d)).size f + bytes_in (pointers_of s) k f)
  -- where none failed the stores together grew by the bytes of the copies
  pub total : ((k : ℕ) → HasRisen kind t.before t.after k → ⊥) → all_stored kind t.after ≡ all_stored kind t.before + replicas * length bytes

-- No file of a store grew but that of a place, and only on servers that the place names: on each of them that did not fail by nothing,
-- or by n bytes.
pub record GrowsOnce {S : Type 0} (kind : StoreKind S) (t : Span S) (place : PlaceView) (n : ℕ) : Type 0 where
  pub others : OtherFilesStay kind t.before t.after place.file
  pub beside : (k : ℕ) (d : S) → (Contains place.servers k → ⊥) → slice_index_or t.after k d ≡ slice_index_or t.before k d
  pub once : (k : ℕ) (d : S) → k < length t.before → HasRisen kind t.before t.after k
      ⊎ (((kind.view (slice_index_or t.after k d)).size place.file ≡ (kind.view (slice_index_or t.before k d)).size place.file)
      ⊎ ((kind.view (slice_index_or t.after k d)).size place.file ≡ (kind.view (slice_index_or t.before k d)).size place.file + n))

-- The bytes of a slice from offset off on were read from its copy on server k: each byte that is told there is the one in
-- `out`. The server is up, and the servers of the copies before it are out.
pub record IsFetched {S : Type 0} (kind : StoreKind S) (t : Span S) (s : Slice) (off : ℕ) (out : List ℕ) (k : ℕ) : Type 0 where
  pub copy : ℕ
  pub pointer : Pointer
  pub is_copy : slice_get (pointers_of s) copy ≡ Some pointer
  pub server : pointer.server.0 ≡ k
  pub known : k < length t.before
  pub up : t.down k ≡ false
  pub bytes : (d : S) → Agrees (kind.view (slice_index_or t.before k d)) pointer.file (pointer.at + off) out
  pub earlier : All (λ p. IsOut kind t p.server.0) (take copy (pointers_of s))
