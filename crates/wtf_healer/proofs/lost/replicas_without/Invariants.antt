use Rattle.std.proofs.Common.{◌≡◌, ◌<◌, ◌≤◌, ℕ, false}
use Rattle.wtf_replica.specs.Downs.{settings_of, is_down}
use Rattle.wtf_image.specs.Rules.{is_lost}
use Rattle.wtf_healer.proofs.lost.replicas_without.Given as goal

abbrev pub invariant-loop-k : goal.invariant-loop-k
invariant-loop-k l = record {
  settings : settings_of l.replicas ≡ l.fn.settings;
  tried : (j : ℕ) → j < l.k → is_down l.replicas j ≡ is_lost l.lost.mask j;
  others : (j : ℕ) → l.k ≤ j → is_down l.replicas j ≡ false;
}
