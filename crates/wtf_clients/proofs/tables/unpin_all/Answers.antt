use Rattle.wtf_clients.proofs.Common.{take-length, times_pinned, ◌≡◌, ◌+◌, ℕ, nat_eq, count_by, List, take, sym, ap, ◌∙◌, subst, arith, add-one}
use Rattle.wtf_clients.proofs.Pinning.{any_pins, Undone, next_pinned, next_undone}
use Rattle.wtf_clients.proofs.tables.unpin_all.Goals as goal

pub unpin-requires : goal.unpin-requires
unpin-requires c = next_pinned c.args.kv.now c.loop-number.kv c.args.numbers.now c.loop-number.number-index (omega arith) c.requires c.loop-number.invariant

pub loop-number-preserved : goal.loop-number-preserved
loop-number-preserved c =
    subst (λ (k : ℕ). Undone c.args.kv.now c.unpin.new.self c.args.numbers.now k) (sym (add-one c.loop-number.number-index))
    (next_undone c.args.kv.now c.loop-number.kv c.args.numbers.now c.loop-number.number-index (omega arith) c.requires c.loop-number.invariant c.unpin.new.self
    c.unpin.ensures.once (any_pins c.loop-number.kv c.unpin.new.self _ c.unpin.ensures.rest))

pub returns-clause-pins : goal.returns-clause-pins
returns-clause-pins c = λ n.
    let left = c.loop-number.invariant.pins n in
    let all : take c.loop-number.number-index c.args.numbers.now ≡ c.args.numbers.now = ap (λ (k : ℕ). take k c.args.numbers.now) (omega arith)
    ∙ take-length c.args.numbers.now in
    ap (λ (l : List ℕ). times_pinned c.loop-number.kv n + count_by (nat_eq n) l) (sym all) ∙ left
