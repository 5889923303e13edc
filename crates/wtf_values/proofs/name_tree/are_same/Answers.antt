use Rattle.std.proofs.Common.{◌≡◌, length, arith}
use Rattle.wtf_values.specs.Trees.{listed}
use Rattle.wtf_values.proofs.TreeLaws.{same_list}
use Rattle.wtf_values.proofs.name_tree.are_same.Goals as goal

pub returns : goal.returns
returns c =
    let long : length (listed c.args.tree.now) ≡ length (listed c.args.other.now) = omega arith in
    λ _. same_list (listed c.args.tree.now) (listed c.args.other.now) long (λ k lt. c.loop-i.invariant k (omega arith))
