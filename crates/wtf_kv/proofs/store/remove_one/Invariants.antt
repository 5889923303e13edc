use Rattle.std.proofs.Common.{◌≡◌, ◌≤◌, ◌-◌, ◌++◌, length, take, drop, vec_len, nat_eq}
use Rattle.std.specs.Set.{remove_key}
use Rattle.wtf_kv.proofs.store.remove_one.Given as goal

abbrev pub invariant-loop-i : goal.invariant-loop-i
invariant-loop-i l = record {
  same : l.pins.items ≡ l.initial.pins.items;
  within : l.i ≤ length l.pins.items;
  rest : remove_key (nat_eq l.n) l.pins.items ≡ take l.i l.pins.items ++ remove_key (nat_eq l.n) (drop l.i l.pins.items);
}

abbrev pub decreases-loop-i : goal.decreases-loop-i
decreases-loop-i l = vec_len l.pins - l.i
