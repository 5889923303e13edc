use Rattle.std.proofs.Common.{◌≡◌, drop}
use Rattle.wtf_occ.specs.Positions.{after_positions}
use Rattle.wtf_occ.proofs.values.value_after.Given as goal

abbrev pub invariant-loop-position : goal.invariant-loop-position
invariant-loop-position g l = after_positions g.K.Ord.cmp g.C.Cell.outcome l.changes l.key l.from (drop l.position-index l.positions) l.now ≡ after_positions g.K.Ord.cmp g.C.Cell.outcome l.changes l.key l.from l.positions l.fn.before
