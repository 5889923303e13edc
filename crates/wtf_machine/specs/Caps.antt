-- What holds of all transactions and jobs of a machine: a file has the same greatest length in all of them, and each has begun when so
-- many items at most had been changed.
use Rattle.std.specs.Prelude.{◌≡◌, ◌≤◌, ℕ, List, Some}
use Rattle.std.proofs.Props.{props}
use Rattle.std.specs.Ordering.{nat_cmp}
use Rattle.std.specs.Map.{lookup}
use Rattle.std.specs.BTreeMap.{is_at}
use Rattle.wtf_machine.specs.declared.begun.Begun.{Begun}
use Rattle.wtf_machine.specs.declared.jobs.PlannedJob.{PlannedJob}

abbrev pub HaveCap : ℕ → List (ℕ × Begun) → Type 0
HaveCap cap es = (c : ℕ) (t : Begun) → lookup (is_at (nat_cmp c)) es ≡ Some t → t.cap ≡ cap

pub HaveCap_prop : (cap : ℕ) (es : List (ℕ × Begun)) → IsProp (HaveCap cap es)
HaveCap_prop cap es = hlevel props

abbrev pub BeganWithin : ℕ → List (ℕ × Begun) → Type 0
BeganWithin most es = (c : ℕ) (t : Begun) → lookup (is_at (nat_cmp c)) es ≡ Some t → t.since ≤ most

pub BeganWithin_prop : (most : ℕ) (es : List (ℕ × Begun)) → IsProp (BeganWithin most es)
BeganWithin_prop most es = hlevel props

abbrev pub PlannedWithin : ℕ → List (ℕ × PlannedJob) → Type 0
PlannedWithin most es = (j : ℕ) (p : PlannedJob) → lookup (is_at (nat_cmp j)) es ≡ Some p → p.since ≤ most

pub PlannedWithin_prop : (most : ℕ) (es : List (ℕ × PlannedJob)) → IsProp (PlannedWithin most es)
PlannedWithin_prop most es = hlevel props
