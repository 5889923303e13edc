-- Bytes of a line that need no second look.
use Rattle.std.specs.Prelude.{ℕ, ◌+◌, ◌<◌, ◌≤◌, max, List, slice_index}

-- byte k can be shown, and it and the one behind it are not both spaces; behind the last byte there is none
pub record IsPlainAt (line : List ℕ) (k : ℕ) : Type 0 where
  pub low : 32 ≤ slice_index line k
  pub high : slice_index line k ≤ 126
  pub apart : 33 ≤ max (slice_index line k) (slice_index line (k + 1))

-- the same of the bytes from i up to j
abbrev pub ArePlain : List ℕ → ℕ → ℕ → Type 0
ArePlain line i j = (k : ℕ) → i ≤ k → k < j → IsPlainAt line k
