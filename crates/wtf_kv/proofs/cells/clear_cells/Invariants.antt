use Rattle.std.proofs.Common.{◌≡◌, take, vec_len}
use Rattle.wtf_kv.specs.Stores.{listed}
use Rattle.wtf_kv.specs.Inside.{AllGood, Noted}
use Rattle.wtf_kv.specs.Staging.{SameUpto}
use Rattle.wtf_kv.proofs.cells.clear_cells.Given as goal

abbrev pub invariant-loop-touched : goal.invariant-loop-touched
invariant-loop-touched g l = record {
  good : AllGood g.K.Ord.cmp l.number (listed l.cells.entries);
  noted : Noted g.K.Ord.cmp l.number l.fresh l.touched.items (listed l.cells.entries);
  front : take l.fresh l.touched.items ≡ take l.fresh l.initial.touched.items;
  same : SameUpto g.K.Ord.cmp l.number (listed l.initial.cells.entries) (listed l.cells.entries);
}

abbrev pub decreases-loop-touched : goal.decreases-loop-touched
decreases-loop-touched g l = vec_len l.touched
