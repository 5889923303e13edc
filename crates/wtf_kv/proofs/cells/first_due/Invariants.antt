use Rattle.std.proofs.Common.{◌≡◌, true, ◌&&◌}
use Rattle.std.specs.List.{AllByRecursion}
use Rattle.std.specs.List.Sorted.{IsStrictlySortedBy}
use Rattle.std.specs.Map.{keys_of}
use Rattle.std.specs.Range.Bound.{bound_map}
use Rattle.std.specs.BTreeMap.Range.{is_from_start}
use Rattle.wtf_kv.specs.Recents.{is_among, is_due}
use Rattle.wtf_kv.specs.Stores.{listed, versions_in}
use Rattle.wtf_kv.proofs.cells.first_due.Given as goal

abbrev pub invariant-loop-key : goal.invariant-loop-key
invariant-loop-key g l = record {
  sorted : IsStrictlySortedBy g.K.Ord.cmp (keys_of l.key-iterator);
  inside : AllByRecursion (λ e. is_from_start g.K.Ord.cmp (bound_map (λ k. k.now) l.start) e.0 ≡ true) l.key-iterator;
  left : (q : g.row.K.Denot) → is_from_start g.K.Ord.cmp (bound_map (λ k. k.now) l.start) q ≡ true → (is_among g.K.Ord.cmp l.keys.entries q && is_due l.pins l.number l.since (versions_in g.K.Ord.cmp (listed l.cells.entries) q)) ≡ (is_among g.K.Ord.cmp l.key-iterator q && is_due l.pins l.number l.since (versions_in g.K.Ord.cmp (listed l.cells.entries) q));
}
