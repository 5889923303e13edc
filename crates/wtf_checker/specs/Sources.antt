-- What a source gave.
use Rattle.std.specs.Prelude.{◌≡◌, ◌⊎◌, ◌↔◌, ◌<◌, ◌≤◌, ℕ, ◌+◌, ◌-◌, ◌^◌, min, List, length, Some, Result, Err}
use Rattle.wtf_dev.specs.Counts.{Rose}
use Rattle.wtf_dev.specs.Streams.{SourceView}
use Rattle.wtf_script.specs.declared.limits.TheConstants.{SCRIPT_BYTES}
use Rattle.wtf_checker.specs.declared.stop.Stop.{Stop}
use Rattle.wtf_checker.specs.declared.stop.Stop.TheVariants as stop

-- a source gave `taken` bytes more, and its count of faults did not fall
pub record Gave (old new : SourceView) (taken : ℕ) : Type 0 where
  pub given : old.given ≤ 2 ^ 64 - 1 → new.given ≡ min (old.given + taken) (2 ^ 64 - 1)
  pub counted : (all left : List ℕ) → old.rest ≡ Some all → new.rest ≡ Some left → length all ≡ length left + taken
  pub faults : old.faults ≤ new.faults

-- All of a source was read, or it could not be
pub record HasTaken {A : Type 0} (old new : SourceView) (result : Result A Stop) : Type 0 where
  pub taken : ℕ
  pub gave : Gave old new taken
  pub limit : (result ≡ Err stop.TooMuch) ↔ (SCRIPT_BYTES < taken)
  pub cause : result ≡ Err stop.Unanswered → Rose old.faults new.faults
  pub is : (why : Stop) → result ≡ Err why → (why ≡ stop.Unanswered) ⊎ (why ≡ stop.TooMuch) ⊎ (why ≡ stop.Memory)
