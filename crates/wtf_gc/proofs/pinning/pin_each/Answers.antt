use Rattle.std.proofs.Common.{ℕ, ◌≤◌, nat_eq, count_by, take, sym, subst, add-one}
use Rattle.wtf_kv.specs.Stores.{Store, times_pinned}
use Rattle.wtf_values.specs.declared.key.Key.{Key}
use Rattle.wtf_values.specs.declared.value.Value.{Value}
use Rattle.wtf_gc.specs.Pinning.{IsPinnedFor}
use Rattle.wtf_gc.proofs.Pins.{next_for, still_live, enough_pinned, all_undone, in_list}
use Rattle.wtf_gc.proofs.pinning.pin_each.Goals as goal

pub pin-requires : goal.pin-requires
pin-requires c = still_live (take c.loop-i.i c.args.numbers.now) c.args.kv.now c.loop-i.kv _ c.loop-i.invariant
    (c.requires _ (in_list c.args.numbers.now c.loop-i.i c.loop-i-test.true))

pub loop-i-preserved : goal.loop-i-preserved
loop-i-preserved c =
    subst (λ (k : ℕ). IsPinnedFor (take k c.args.numbers.now) c.args.kv.now c.pin.new.self) (sym (add-one c.loop-i.i))
    (next_for c.args.numbers.now c.loop-i.i c.loop-i-test.true c.args.kv.now c.loop-i.kv c.pin.new.self
    c.loop-i.invariant c.in_default.ensures.once _ c.in_default.ensures.ok)

pub unpin_each-requires : goal.unpin_each-requires
unpin_each-requires c =
    subst (λ (s : Store Key Value). (n : ℕ) → count_by (nat_eq n) (take c.loop-i.i c.args.numbers.now) ≤ times_pinned s n) (sym c.in-Err.ensures.err)
    (enough_pinned (take c.loop-i.i c.args.numbers.now) c.args.kv.now c.loop-i.kv c.loop-i.invariant)

pub returns-in-Err-clause-err : goal.returns-in-Err-clause-err
returns-in-Err-clause-err c =
    all_undone (take c.loop-i.i c.args.numbers.now) c.args.kv.now c.loop-i.kv c.unpin_each.new.kv c.loop-i.invariant
    (subst (λ (s : Store Key Value). IsPinnedFor (take c.loop-i.i c.args.numbers.now) c.unpin_each.new.kv s) c.in-Err.ensures.err c.unpin_each.ensures)
