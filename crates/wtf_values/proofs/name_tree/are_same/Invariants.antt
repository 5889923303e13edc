use Rattle.std.proofs.Common.{◌≡◌, ℕ, ◌<◌, slice_get}
use Rattle.wtf_values.specs.Trees.{listed}
use Rattle.wtf_values.proofs.name_tree.are_same.Given as goal

abbrev pub invariant-loop-i : goal.invariant-loop-i
invariant-loop-i l = (k : ℕ) → k < l.i → slice_get (listed l.tree) k ≡ slice_get (listed l.other) k
