-- Parts of parts.
use Rattle.std.specs.Prelude.{◌≡◌, ℕ, map}
use Rattle.wtf_base.specs.Slices.{pointers_of}
use Rattle.wtf_base.specs.Pointers.{part_of}
use Rattle.wtf_overlay.specs.declared.part.Part.{Part}
use Rattle.wtf_overlay.specs.declared.part.Part.TheVariants.{Zero, Held}

-- q is the part of n bytes from byte off of p: zeros of zeros, and of a slice the same bytes in each copy
abbrev pub IsCut : ℕ → ℕ → Part → Part → Type 0
IsCut off n Zero Zero = Unit {0}
IsCut off n Zero (Held t) = ⊥
IsCut off n (Held s) Zero = ⊥
IsCut off n (Held s) (Held t) = pointers_of t ≡ map (part_of off n) (pointers_of s)
