use Rattle.std.proofs.Common.{◌≡◌, ◌≤◌}
use Rattle.wtf_image.specs.Rules.{is_lost}
use Rattle.wtf_healer.specs.Spared.{left_of}
use Rattle.wtf_healer.proofs.lost.Lost.left_of.Given as goal

abbrev pub invariant-loop-k : goal.invariant-loop-k
invariant-loop-k l = record { is : l.left ≡ left_of (is_lost l.self.mask) l.k; few : l.left ≤ l.k }
