use Rattle.std.proofs.Common.{◌≡◌, ◌++◌, map}
use Rattle.wtf_kv.specs.declared.changes.Change.TheVariants.{Delta}
use Rattle.wtf_occ.proofs.write_set.WriteSet.each_delta.Given as goal

-- the deltas so far were added
abbrev pub invariant-loop-d : goal.invariant-loop-d
invariant-loop-d g l =
    (goal.iterator-loop-d g).can_next l.d-iterator ×
    (goal.iterator-loop-d g).is_finite l.d-iterator ×
    (l.self ≡ l.initial.self ++ map (Delta l.key) l.yielded)
