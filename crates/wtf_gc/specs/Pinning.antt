-- Pins of a row of numbers.
use Rattle.std.specs.Prelude.{◌≡◌, ℕ, ◌+◌, nat_eq, count_by, List}
use Rattle.wtf_kv.specs.Stores.{Store, times_pinned}
use Rattle.wtf_values.specs.declared.key.Key.{Key}
use Rattle.wtf_values.specs.declared.value.Value.{Value}

-- each of these numbers is pinned once more than before for each time that it stands there, and all else is as it was
pub record IsPinnedFor (numbers : List ℕ) (old new : Store Key Value) : Type 0 where
  pub pins : (n : ℕ) → times_pinned new n ≡ times_pinned old n + count_by (nat_eq n) numbers
  pub number : new.number ≡ old.number
  pub cells : new.cells ≡ old.cells
