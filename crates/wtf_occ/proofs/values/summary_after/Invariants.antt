use Rattle.std.proofs.Common.{◌≡◌, Option, drop}
use Rattle.wtf_occ.specs.Positions.{after_positions}
use Rattle.wtf_occ.proofs.values.summary_after.Given as goal

abbrev pub invariant-loop-position : goal.invariant-loop-position
invariant-loop-position g l =
    (start : Option g.row.C.Denot) → l.fn.before ≡ g.C.Summarized.summary_of start →
    (now : Option g.row.C.Denot) × (l.summary ≡ g.C.Summarized.summary_of now)
    × (after_positions g.K.Ord.cmp g.C.Cell.outcome l.changes l.key l.from (drop l.position-index l.positions) now ≡ after_positions g.K.Ord.cmp g.C.Cell.outcome l.changes l.key l.from l.positions start)
