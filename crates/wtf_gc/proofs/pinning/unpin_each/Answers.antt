use Rattle.std.proofs.Common.{ℕ, take, sym, subst, arith, add-one}
use Rattle.wtf_gc.specs.Pinning.{IsPinnedFor}
use Rattle.wtf_gc.proofs.Pins.{next_is_pinned, next_undone}
use Rattle.wtf_gc.proofs.pinning.unpin_each.Goals as goal

pub unpin-requires : goal.unpin-requires
unpin-requires c =
    next_is_pinned c.args.numbers.now c.loop-number.number-index
    (omega arith) c.args.kv.now c.loop-number.kv c.loop-number.kv c.requires c.loop-number.invariant

pub loop-number-preserved : goal.loop-number-preserved
loop-number-preserved c =
    subst (λ (k : ℕ). IsPinnedFor (take k c.args.numbers.now) c.unpin.new.self c.args.kv.now) (sym (add-one c.loop-number.number-index))
    (next_undone c.args.numbers.now c.loop-number.number-index
    (omega arith) c.args.kv.now c.loop-number.kv c.unpin.new.self c.loop-number.invariant c.unpin.ensures.once _ c.unpin.ensures.rest)
