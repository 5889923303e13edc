use Rattle.std.proofs.Common.{◌≡◌, ◌≤◌, ℕ, ◌||◌, take}
use Rattle.std.specs.List.{All}
use Rattle.wtf_gc.specs.Extents.{extents_cover}
use Rattle.wtf_gc.specs.Spans.{spans_cover}
use Rattle.wtf_gc.specs.Unused.{place_at}
use Rattle.wtf_gc.proofs.garbage.add_spans.Given as goal

abbrev pub invariant-loop-e : goal.invariant-loop-e
invariant-loop-e l = All (λ s. s.from ≤ s.to) l.to.items
    × ((x : ℕ) → spans_cover l.to.items x ≡ (spans_cover l.fn.to.items x || extents_cover (take l.e-index l.extents) (place_at l.k l.file x)))
