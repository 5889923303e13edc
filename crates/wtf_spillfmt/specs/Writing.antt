-- What a function wrote at the end of bytes.
use Rattle.std.specs.Prelude.{◌≡◌, ◌++◌, ℕ, List, ⊤}
use Rattle.wtf_base.specs.Slices.{pointers_of, len_of}
use Rattle.wtf_overlay.specs.declared.part.Part.{Part}
use Rattle.wtf_overlay.specs.declared.part.Part.TheVariants.{Zero, Held}
use Rattle.wtf_overlay.specs.Shapes.{IsSlice}

-- a text was added, of something in form
pub record Writes (old new text : List ℕ) (Form : Type 0) : Type 0 where
  pub text_is : new ≡ old ++ text
  pub form : Form

-- what a part holds is in form
abbrev pub IsHeld : Part → Type 0
IsHeld Zero = ⊤
IsHeld (Held s) = IsSlice (len_of s) (pointers_of s)
