use Rattle.std.proofs.Common.{◌≡◌, ◌≤◌, length, take}
use Rattle.wtf_occ.proofs.write_set.WriteSet.shorten.Given as goal

abbrev pub invariant-loop-self : goal.invariant-loop-self
invariant-loop-self g l = record {
  shorter : l.self ≡ take (length l.self) l.initial.self;
  within : l.n ≤ length l.self;
}

abbrev pub decreases-loop-self : goal.decreases-loop-self
decreases-loop-self g l = length l.self
