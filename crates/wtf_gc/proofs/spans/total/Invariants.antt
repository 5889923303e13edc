use Rattle.std.proofs.Common.{◌≡◌, ◌≤◌, ◌+◌, ℕ, drop}
use Rattle.wtf_gc.specs.Spans.{Apart, sum_of}
use Rattle.wtf_gc.proofs.spans.total.Given as goal

abbrev pub invariant-loop-s : goal.invariant-loop-s
invariant-loop-s l = (lo : ℕ) × (l.sum ≤ lo) × (lo ≤ l.mark) × Apart lo l.mark (drop l.s-index l.spans) ×
    (l.sum + sum_of (drop l.s-index l.spans) ≡ sum_of l.spans)
