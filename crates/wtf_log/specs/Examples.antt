-- What the worked examples speak of.
use Rattle.std.specs.Prelude.{ℕ, List, Bool, IsTrue}
use Rattle.wtf_base.specs.declared.slice.Slice.{Slice}

-- a slice holds bytes where a test says so
abbrev pub told_by : (Slice → List ℕ → Bool) → Slice → List ℕ → Type 0
told_by test s bytes = IsTrue (test s bytes)
