-- The lines that read a file, and how they come to be written.
use Rattle.std.specs.Prelude.{◌≡◌, ℕ, ◌≤◌, List, [], ◌∷◌, ◌++◌, length, Option, Some}
use Rattle.std.specs.List.{All}
use Rattle.wtf_model.specs.declared.limits.TheConstants.{MAX_SHOWN}
use Rattle.wtf_carry.specs.Asked.{Asked, Asks, asked_text, begin_line, abort_line, open_line, total, carried, shows}

-- the lines that read pieces of these lengths, one behind the other
abbrev pub read_lines : List ℕ → List ℕ → List Asked
read_lines path sizes = begin_line ∷ open_line path ∷ (carried shows path 0 0 sizes ++ abort_line ∷ [])

-- what one read may show
abbrev pub IsShare : ℕ → Type 0
IsShare n = (1 ≤ n) × (n ≤ MAX_SHOWN)

-- the lines that read a file of `len` bytes were written
pub record ReadsWholeFile (path : List ℕ) (len : ℕ) (old : List ℕ) (new : Option (List ℕ)) : Type 0 where
  pub sizes : List ℕ
  pub size : total (λ n. n) sizes ≡ len
  pub each : All IsShare sizes
  pub new_is : new ≡ Some (old ++ asked_text (read_lines path sizes))
  pub asks : All Asks (read_lines path sizes)

-- so far the lines of i reads, of `at` bytes together, were written
pub record ReadSofar (path old : List ℕ) (i at : ℕ) (new : Option (List ℕ)) : Type 0 where
  pub sizes : List ℕ
  pub each : All IsShare sizes
  pub count : i ≡ length sizes
  pub size : at ≡ total (λ n. n) sizes
  pub new_is : new ≡ Some (old ++ asked_text (begin_line ∷ open_line path ∷ carried shows path 0 0 sizes))
