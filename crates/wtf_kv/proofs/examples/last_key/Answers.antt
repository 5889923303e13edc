use Rattle.std.proofs.Common.{◌≡◌, ◌<◌, Some, subst, sym, ap}
use Rattle.std.specs.Option.{option_copied}
use Rattle.wtf_kv.specs.Order.{IsReached, left_from}
use Rattle.wtf_kv.proofs.KeyLaws.{left_less}
use Rattle.wtf_kv.proofs.examples.last_key.Goals as goal

pub loop-at-smaller : goal.loop-at-smaller
loop-at-smaller g c =
    let kv = c.args.kv.now in
    let k = c.in-Some.key.now in
    let next = option_copied c.next_key-at-in-Some.result in
    let here : option_copied c.loop-at.at ≡ Some k = ap option_copied c.in-Some.is in
    subst (λ o. left_from g.K.Ord.cmp kv next < left_from g.K.Ord.cmp kv o) (sym here)
    (left_less g.K.Ord.cmp g.met.K.Ord.total g.met.K.StoreKey.exact kv k next (subst (IsReached g.K.Ord.cmp kv) here c.loop-at.invariant.has_version) c.next_key-at-in-Some.ensures)
