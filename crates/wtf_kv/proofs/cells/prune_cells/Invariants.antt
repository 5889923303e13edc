use Rattle.std.proofs.Common.{◌≡◌, ◌≤◌, ◌⊎◌, false, true, length, take}
use Rattle.wtf_kv.specs.Seen.{kept_versions, is_settled}
use Rattle.wtf_kv.specs.Stores.{listed, names, versions_in}
use Rattle.wtf_kv.proofs.cells.prune_cells.Given as goal

abbrev pub invariant-loop-i : goal.invariant-loop-i
invariant-loop-i g l = record {
  within : l.i ≤ length l.touched.items;
  either : (q : g.row.K.Denot) → (versions_in g.K.Ord.cmp (listed l.cells.entries) q ≡ versions_in g.K.Ord.cmp (listed l.initial.cells.entries) q) ⊎ (versions_in g.K.Ord.cmp (listed l.cells.entries) q ≡ kept_versions l.pins (versions_in g.K.Ord.cmp (listed l.initial.cells.entries) q));
  done : (q : g.row.K.Denot) → names g.K.Ord.cmp (take l.i l.touched.items) q ≡ false → versions_in g.K.Ord.cmp (listed l.cells.entries) q ≡ kept_versions l.pins (versions_in g.K.Ord.cmp (listed l.initial.cells.entries) q);
  loose : (q : g.row.K.Denot) → names g.K.Ord.cmp l.touched.items q ≡ false → is_settled (versions_in g.K.Ord.cmp (listed l.cells.entries) q) ≡ true;
}

abbrev pub decreases-loop-i : goal.decreases-loop-i
decreases-loop-i g l = l.i
