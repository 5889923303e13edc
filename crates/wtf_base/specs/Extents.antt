-- The extents of a slice: their places, and when they are those of a slice.
use Rattle.std.specs.Prelude.{ℕ, ◌+◌, ◌-◌, ◌<◌, ◌≤◌, ◌^◌, List, [], ◌∷◌}
use Rattle.wtf_base.specs.declared.slice.Extent.{Extent}
use Rattle.std.proofs.Props.{props}
use Rattle.wtf_base.specs.declared.pointer.Pointer.{Pointer}
use Rattle.wtf_base.specs.declared.slice.Extents.{Extents}
use Rattle.wtf_base.specs.declared.slice.Extents.TheVariants.{One, Two, Three}

-- the extent of n bytes ends at a number below 2^63
abbrev pub Fits : ℕ → Extent → Type 0
Fits n e = e.at + n ≤ 2 ^ 63 - 1

-- a's server comes before b's
abbrev pub Before : Extent → Extent → Type 0
Before a b = a.server.0 < b.server.0

abbrev pub IsSound : ℕ → Extents → Type 0
IsSound n (One a) = (0 < n) × Fits n a
IsSound n (Two a b) = (0 < n) × Fits n a × Fits n b × Before a b
IsSound n (Three a b c) = (0 < n) × Fits n a × Fits n b × Fits n c × Before a b × Before b c

-- the pointer to n bytes of an extent
abbrev pub pointer_to : ℕ → Extent → Pointer
pointer_to n e = record { server = e.server; file = e.file; at = e.at; len = n }

abbrev pub pointers_to : ℕ → Extents → List Pointer
pointers_to n (One a) = pointer_to n a ∷ []
pointers_to n (Two a b) = pointer_to n a ∷ pointer_to n b ∷ []
pointers_to n (Three a b c) = pointer_to n a ∷ pointer_to n b ∷ pointer_to n c ∷ []

-- the extent of a pointer
abbrev pub extent_of : Pointer → Extent
extent_of p = record { server = p.server; file = p.file; at = p.at }

pub IsSound_prop : (n : ℕ) (e : Extents) → IsProp (IsSound n e)
IsSound_prop n (One a) = hlevel props
IsSound_prop n (Two a b) = hlevel props
IsSound_prop n (Three a b c) = hlevel props
