-- The lines that the healer writes, and how a text is written.
use Rattle.std.specs.Prelude.{◌≡◌, ℕ, List, [], ◌∷◌, ◌++◌, codes, decimal, Option, Some, Result, Ok, Err}
use Rattle.wtf_base.specs.declared.fault.Fault.{Fault}
use Rattle.wtf_base.specs.declared.fault.Fault.TheVariants as fault
use Rattle.wtf_image.specs.declared.error.LoadError.{LoadError}
use Rattle.wtf_image.specs.declared.error.LoadError.TheVariants as error

-- the byte at the end of a line
abbrev pub line_feed : ℕ
line_feed = 10

-- a line of a word and a number
abbrev pub numbered : List ℕ → ℕ → List ℕ
numbered word n = word ++ decimal n ++ line_feed ∷ []

-- so many regions were healed, and so many of their bytes stored anew
abbrev pub done_lines : ℕ → ℕ → List ℕ
done_lines regions bytes = numbered (codes "regions ") regions ++ numbered (codes "bytes ") bytes

-- a fault; a range is never freed, and want of memory has no line
abbrev pub fault_line : Fault → List ℕ
fault_line (fault.Read k) = numbered (codes "fault read ") k.0
fault_line (fault.Damaged k) = numbered (codes "damaged ") k.0
fault_line fault.Write = codes "fault write" ++ line_feed ∷ []
fault_line (fault.Punch k) = []
fault_line fault.Memory = []

-- a refused image: the number of the refusal, and its name
abbrev pub refusal_text : LoadError → List ℕ
refusal_text error.NotAnImage = codes "image refused 1 notanimage"
refusal_text error.BadTree = codes "image refused 2 badtree"
refusal_text error.PointerOutside = codes "image refused 3 pointeroutside"
refusal_text error.BadSettings = codes "image refused 4 badsettings"
refusal_text error.Memory = []

abbrev pub refusal_line : LoadError → List ℕ
refusal_line why = refusal_text why ++ line_feed ∷ []

-- a front of a text was written, and no more
abbrev pub ReportFront : List ℕ → List ℕ → Option (List ℕ) → Type 0
ReportFront old text new = (front : List ℕ) × (back : List ℕ) × (text ≡ front ++ back) × (new ≡ Some (old ++ front))

-- all of a text was taken, or a front of it where the sink failed
abbrev pub ReportTaken : {E : Type 0} → List ℕ → List ℕ → Option (List ℕ) → Result (Unit {0}) E → Type 0
ReportTaken old text new (Ok u) = new ≡ Some (old ++ text)
ReportTaken old text new (Err e) = ReportFront old text new
