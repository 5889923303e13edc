use Rattle.std.proofs.Common.{◌≡◌, ◌++◌, is_some}
use Rattle.std.specs.List.{AllByRecursion, filter}
use Rattle.std.specs.Map.{keys_of}
use Rattle.std.specs.BTreeMap.Range.{entries_between}
use Rattle.std.specs.declared.ops.Bound.TheVariants.{Included}
use Rattle.wtf_kv.specs.Seen.{ascends}
use Rattle.wtf_kv.specs.Staging.{value_next}
use Rattle.wtf_kv.proofs.cells.valued_keys.Given as goal

abbrev pub invariant-loop-key : goal.invariant-loop-key
invariant-loop-key g l = record {
  sorted : AllByRecursion (λ e. ascends e.1.items) l.key-iterator;
  done : l.keys.items ++ keys_of (filter (λ e. is_some (value_next l.number e.1.items)) l.key-iterator) ≡ keys_of (filter (λ e. is_some (value_next l.number e.1.items)) (entries_between g.K.Ord.cmp (Included l.from) (Included l.to) l.cells.entries));
}
