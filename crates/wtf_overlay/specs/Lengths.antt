-- How long a part is.
use Rattle.std.specs.Prelude.{◌≡◌, ◌≤◌, ℕ, ⊤}
use Rattle.std.proofs.Props.{props}
use Rattle.wtf_base.specs.Slices.{len_of}
use Rattle.wtf_overlay.specs.declared.part.Part.{Part}
use Rattle.wtf_overlay.specs.declared.part.Part.TheVariants.{Zero, Held}

-- a slice that the part holds has n bytes; zeros are as many as is said
abbrev pub HasLength : ℕ → Part → Type 0
HasLength n Zero = ⊤
HasLength n (Held s) = len_of s ≡ n

pub HasLength_prop : (n : ℕ) (p : Part) → IsProp (HasLength n p)
HasLength_prop n Zero = hlevel props
HasLength_prop n (Held s) = hlevel props

-- a slice that the part holds has at least n bytes
abbrev pub Reaches : ℕ → Part → Type 0
Reaches n Zero = ⊤
Reaches n (Held s) = n ≤ len_of s
