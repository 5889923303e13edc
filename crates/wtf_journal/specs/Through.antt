-- What writes leave that are brought to where they last.
use Rattle.std.specs.Prelude.{◌≡◌, ◌≢◌, ℕ, true, List, take, replicate}
use Rattle.wtf_dev.specs.Disk.{DiskContent, DiskFileView, DiskView, DiskKind, DiskLeaves, DiskGoesOn, DiskGrows, IsFileImage, Pends, SameElsewhere}

-- at most 4,096 zeros
abbrev pub zero_piece : ℕ → List ℕ
zero_piece n = take n (replicate 4096 0)

-- A stop in writes within n bytes: the file is one that these may leave, and each other file one that could be left before.
pub record TornFrom (old : DiskView) (file at n : ℕ) (c : DiskContent) : Type 0 where
  pub view : DiskFileView
  pub pends : Pends at n (old.file file) view
  pub here : IsFileImage view (c file)
  pub others : (f : ℕ) → f ≢ file → IsFileImage (old.file f) (c f)

-- What writes within n bytes of a file and syncs of it keep to, done or failed.
pub record WritesWithin {D : Type 0} (kind : DiskKind D) (file at n : ℕ) (old new : D) : Type 0 where
  pub goes_on : DiskGoesOn kind old new
  pub grows : DiskGrows file at n (kind.view old) (kind.view new)
  pub pending : (kind.view old).tells ≡ true → Pends at n ((kind.view old).file file) ((kind.view new).file file)
  pub elsewhere : (kind.view old).tells ≡ true → SameElsewhere file (kind.view old) (kind.view new)
  pub moments : (kind.view old).tells ≡ true → DiskLeaves kind old new (TornFrom (kind.view old) file at n)
