-- What contracts see of a device with eight files, and what a stop at any moment may leave of them.
use Rattle.std.specs.Prelude.{◌≡◌, ◌≢◌, ◌⊎◌, ℕ, ◌+◌, ◌<◌, ◌≤◌, Bool, true, max, Option, Some, List, ◌++◌, length, take, drop, slice_get}

-- one file, as its device tells it
pub record DiskFileView : Type 0 where
  -- what a read gives
  pub seen : List ℕ
  -- the bytes that a stop leaves as they are: those that are not pending
  pub told : ℕ → Option ℕ
  -- the lengths that a stop may leave
  pub least : ℕ
  pub most : ℕ

-- the counts, the length of each file, and whether and what the device tells of its files
pub record DiskView : Type 0 where
  pub faults : ℕ
  pub moment : ℕ
  pub size : ℕ → ℕ
  pub tells : Bool
  pub file : ℕ → DiskFileView

-- the bytes of each file
abbrev pub DiskContent : Type 0
DiskContent = ℕ → List ℕ

-- a stop may leave this of a file
pub record IsFileImage (v : DiskFileView) (c : List ℕ) : Type 0 where
  pub least : v.least ≤ length c
  pub most : length c ≤ v.most
  pub bytes : (i b : ℕ) → v.told i ≡ Some b → slice_get c i ≡ Some b

-- a stop at this moment may leave these files
abbrev pub MayLeave : DiskView → DiskContent → Type 0
MayLeave v c = (f : ℕ) → IsFileImage (v.file f) (c f)

-- A kind of disk: what contracts see of one, and the files that a stop at some moment from one on might have left.
pub record DiskKind (D : Type 0) : Type 1 where
  pub view : D → DiskView
  pub left_since : D → ℕ → DiskContent → Type 0

-- A stop at any moment between the two states leaves files with P, or what a stop at the first might have left.
pub record DiskLeaves {D : Type 0} (kind : DiskKind D) (old new : D) (P : DiskContent → Type 0) : Type 0 where
  pub later : (kind.view old).moment ≤ (kind.view new).moment
  pub since : (t : ℕ) (c : DiskContent) → t ≤ (kind.view old).moment → kind.left_since new t c → kind.left_since old t c ⊎ P c

-- Time goes on in a call: a stop in it leaves what a stop before or behind it may leave, and no moment is forgotten.
pub record Elapses {D : Type 0} (kind : DiskKind D) (old new : D) : Type 0 where
  pub leaves : DiskLeaves kind old new (MayLeave (kind.view new))
  pub keeps : (t : ℕ) (c : DiskContent) → t ≤ (kind.view old).moment → kind.left_since old t c → kind.left_since new t c

-- what every call keeps to, and several in a row
pub record DiskGoesOn {D : Type 0} (kind : DiskKind D) (old new : D) : Type 0 where
  pub faults : (kind.view old).faults ≤ (kind.view new).faults
  pub size : (f : ℕ) → (kind.view old).size f ≤ (kind.view new).size f
  pub tells : (kind.view new).tells ≡ (kind.view old).tells

-- what every kind of disk keeps to
pub record DiskLaws {D : Type 0} (kind : DiskKind D) : Type 0 where
  -- this moment is one of those since an earlier one
  pub counts_now : (d : D) (t : ℕ) (c : DiskContent) → (kind.view d).tells ≡ true → t ≤ (kind.view d).moment → MayLeave (kind.view d) c → kind.left_since d t c
  -- since this moment there is no other
  pub only_now : (d : D) (c : DiskContent) → (kind.view d).tells ≡ true → kind.left_since d (kind.view d).moment c → MayLeave (kind.view d) c
  -- what a read gives is what a stop may leave
  pub reads : (d : D) → (kind.view d).tells ≡ true → MayLeave (kind.view d) (λ f. ((kind.view d).file f).seen)
  pub lengths : (d : D) (f : ℕ) → (kind.view d).tells ≡ true → length ((kind.view d).file f).seen ≡ (kind.view d).size f

-- all bytes of the file are these, and nothing is pending
pub record IsSettled (s : List ℕ) (v : DiskFileView) : Type 0 where
  pub seen : v.seen ≡ s
  pub told : (i : ℕ) → v.told i ≡ slice_get s i
  pub least : v.least ≡ length s
  pub most : v.most ≡ length s

-- After a write of n bytes, done or failed: no more than its range and the part past the old end is pending beside what was, and a
-- read gives the same elsewhere.
pub record Pends (at n : ℕ) (old new : DiskFileView) : Type 0 where
  pub told : (i b : ℕ) → (i < at) ⊎ (at + n ≤ i) → old.told i ≡ Some b → new.told i ≡ Some b
  pub seen : (i b : ℕ) → (i < at) ⊎ (at + n ≤ i) → slice_get old.seen i ≡ Some b → slice_get new.seen i ≡ Some b
  pub least : old.least ≤ new.least
  pub most : new.most ≤ max old.most (at + n)

-- after a sync that failed: no more is pending than was, and a read gives the same
pub record Remains (old new : DiskFileView) : Type 0 where
  pub seen : new.seen ≡ old.seen
  pub told : (i b : ℕ) → old.told i ≡ Some b → new.told i ≡ Some b
  pub least : old.least ≤ new.least
  pub most : new.most ≤ old.most

-- these bytes at a place, over what was there
abbrev pub overwritten : List ℕ → ℕ → List ℕ → List ℕ
overwritten old at bytes = take at old ++ bytes ++ drop (at + length bytes) old

-- the other files are as they were
abbrev pub SameElsewhere : ℕ → DiskView → DiskView → Type 0
SameElsewhere file old new = (f : ℕ) → f ≢ file → new.file f ≡ old.file f

-- the lengths after a write: that of its file may stop short where the write failed
pub record DiskGrows (file at n : ℕ) (old new : DiskView) : Type 0 where
  pub most : new.size file ≤ max (old.size file) (at + n)
  pub others : (f : ℕ) → f ≢ file → new.size f ≡ old.size f

-- what a read keeps to, done or failed
pub record DiskReads {D : Type 0} (kind : DiskKind D) (old new : D) : Type 0 where
  pub goes_on : DiskGoesOn kind old new
  pub sizes : (f : ℕ) → (kind.view new).size f ≡ (kind.view old).size f
  pub files : (kind.view old).tells ≡ true → (f : ℕ) → (kind.view new).file f ≡ (kind.view old).file f
  pub time : (kind.view old).tells ≡ true → Elapses kind old new

-- what a write of n bytes keeps to, done or failed
pub record DiskWrites {D : Type 0} (kind : DiskKind D) (file at n : ℕ) (old new : D) : Type 0 where
  pub goes_on : DiskGoesOn kind old new
  pub grows : DiskGrows file at n (kind.view old) (kind.view new)
  pub pending : (kind.view old).tells ≡ true → Pends at n ((kind.view old).file file) ((kind.view new).file file)
  pub elsewhere : (kind.view old).tells ≡ true → SameElsewhere file (kind.view old) (kind.view new)
  pub time : (kind.view old).tells ≡ true → Elapses kind old new

-- what a sync keeps to, done or failed
pub record DiskSyncs {D : Type 0} (kind : DiskKind D) (file : ℕ) (old new : D) : Type 0 where
  pub goes_on : DiskGoesOn kind old new
  pub sizes : (f : ℕ) → (kind.view new).size f ≡ (kind.view old).size f
  pub elsewhere : (kind.view old).tells ≡ true → SameElsewhere file (kind.view old) (kind.view new)
  pub time : (kind.view old).tells ≡ true → Elapses kind old new
