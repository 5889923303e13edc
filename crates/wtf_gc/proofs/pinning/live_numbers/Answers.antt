use Rattle.std.proofs.Common.{◌≤◌, ℕ, Some, IsTrue, subst, sym}
use Rattle.wtf_kv.specs.Stores.{is_pinned}
use Rattle.wtf_gc.proofs.Pins.{ListsUpto, IsDue, lists_step, due}
use Rattle.wtf_gc.proofs.pinning.live_numbers.Goals as goal

pub loop-at-preserved : goal.loop-at-preserved
loop-at-preserved c =
    let kv = c.args.kv.now in
    let n = c.in-Some.n in
    let next = c.next_pinned-at-in-Some.result in
    let was : IsDue kv (Some n) = subst (λ o. IsDue kv o) c.in-Some.is c.loop-at.invariant.next in
    let listed : ListsUpto kv (Some n) c.loop-at.numbers.items = subst (λ o. ListsUpto kv o c.loop-at.numbers.items) c.in-Some.is c.loop-at.invariant.so_far in
    let bound : (p : ℕ) → IsTrue (is_pinned kv p) → p ≤ kv.number = λ p e. subst (λ m. p ≤ m) c.number.ensures.number (c.number.ensures.pins p e) in
    record {
      so_far = subst (λ l. ListsUpto kv next l) (sym c.in_ok-push-2.ensures.items)
          (lists_step kv n next c.loop-at.numbers.items listed was.0 c.next_pinned-at-in-Some.ensures);
      next = due kv (Some n) next c.next_pinned-at-in-Some.ensures bound;
    }
