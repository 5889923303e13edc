-- what a contract sees of a slice
use Rattle.std.specs.Prelude.{◌≡◌, ℕ, List, ⊤, Option, Some, None}
use Rattle.std.proofs.Props.{props}
use Rattle.wtf_base.specs.declared.pointer.Pointer.{Pointer}
use Rattle.wtf_base.specs.declared.slice.Slice.{Slice}
use Rattle.wtf_base.specs.Extents.{pointers_to}

-- the number of bytes of a slice
abbrev pub len_of : Slice → ℕ
len_of s = s.len

-- the pointers of a slice, one for each copy
abbrev pub pointers_of : Slice → List Pointer
pointers_of s = pointers_to s.len s.extents

-- a slice that is kept has n bytes
abbrev pub HasLength : ℕ → Option Slice → Type 0
HasLength n None = ⊤
HasLength n (Some s) = len_of s ≡ n

pub HasLength_prop : (n : ℕ) (s : Option Slice) → IsProp (HasLength n s)
HasLength_prop n None = hlevel props
HasLength_prop n (Some s) = hlevel props
