use Rattle.std.proofs.Common.{◌≡◌, drop}
use Rattle.wtf_occ.specs.Positions.{past_cover}
use Rattle.wtf_occ.proofs.values.past_cuts.Given as goal

abbrev pub invariant-loop-position : goal.invariant-loop-position
invariant-loop-position g l = past_cover g.K.Ord.cmp l.changes l.key (drop l.position-index l.cuts) l.past ≡ past_cover g.K.Ord.cmp l.changes l.key l.cuts 0
