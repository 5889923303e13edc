-- Changes of files that bring no byte.
use Rattle.std.specs.Prelude.{◌≡◌, ℕ, ◌+◌, ◌-◌, ◌*◌, ◌/◌, ◌%◌, min, Bool, List, [], ◌∷◌}
use Rattle.wtf_base.specs.declared.ids.InodeId.{InodeId}
use Rattle.wtf_base.specs.declared.slice.Slice.{Slice}
use Rattle.wtf_overlay.specs.Origin.{Place}
use Rattle.wtf_model.specs.declared.limits.TheConstants.{MAX_REGIONS}
use Rattle.wtf_meta.specs.FileEdits.{FileEdit, SetLast, Clip, CutAbove, ZeroWithin, edits_of}
use Rattle.wtf_meta.specs.Bytes.{EditsBytes}
use Rattle.wtf_meta.specs.Ranges.{Truncates, Clears, Punches}

-- the changes name no byte, and no base
abbrev pub NamesNothing : InodeId → List FileEdit → Type 0
NamesNothing i ds = (P : List Place → Bool) (Q : Slice → Bool) → EditsBytes P Q (edits_of i ds)

-- the changes that make a file n bytes long, where a region has b: its last region, that region's end, and a cut of all
-- regions above
abbrev pub cut_to : ℕ → ℕ → List FileEdit
cut_to b n = SetLast ((n - 1) / b) ∷ Clip ((n - 1) / b) (n - (n - 1) / b * b) ∷ CutAbove ((n - 1) / b) ∷ []

-- Of n bytes from off on the changes make holes from `done` up to `upto`: one on each region that they touch, and nothing else
abbrev pub AreHoles : (b off n done : ℕ) → List FileEdit → ℕ → Type 0
AreHoles b off n done [] upto = done ≡ upto
AreHoles b off n done (ZeroWithin r from until ∷ ds) upto =
    (r ≡ (off + done) / b) × (from ≡ (off + done) % b) × (until ≡ min b (from + (n - done))) × AreHoles b off n (done + (until - from)) ds upto
AreHoles b off n done (d ∷ ds) upto = ⊥

-- how many of n bytes from off on lie below the greatest length
abbrev pub below_cap : ℕ → ℕ → ℕ → ℕ
below_cap b off n = min n (MAX_REGIONS * b - off)

-- a hole of n bytes, as far as regions may go
abbrev pub IsPunched : (b off n : ℕ) → List FileEdit → Type 0
IsPunched b off n ds = AreHoles b off (below_cap b off n) 0 ds (below_cap b off n)

-- they make every file n bytes long
pub record CutsTo (b : ℕ) (i : InodeId) (n : ℕ) (ds : List FileEdit) : Type 0 where
  pub truncates : Truncates b ds n
  pub exact : ds ≡ cut_to b n
  pub names : NamesNothing i ds

-- they make holes of n bytes of every file, as far as it goes
pub record Zeroes (b : ℕ) (i : InodeId) (off n : ℕ) (ds : List FileEdit) : Type 0 where
  pub clears : Clears b ds off n
  pub exact : IsPunched b off n ds
  pub names : NamesNothing i ds

-- they make holes of the first n of so many bytes of every file's regions
pub record ZeroesRegions (b : ℕ) (i : InodeId) (off len n : ℕ) (ds : List FileEdit) : Type 0 where
  pub punches : Punches b ds off n
  pub exact : AreHoles b off len 0 ds n
  pub names : NamesNothing i ds
