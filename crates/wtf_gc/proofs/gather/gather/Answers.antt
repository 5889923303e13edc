use Rattle.std.proofs.Common.{◌≡◌, ◌<◌, Some, subst, sym, ap, []}
use Rattle.std.specs.Option.{option_copied}
use Rattle.wtf_kv.specs.Order.{IsReached, left_from}
use Rattle.wtf_kv.proofs.KeyLaws.{left_less, reached}
use Rattle.wtf_values.specs.declared.key.Key.TheVariants as key
use Rattle.wtf_values.specs.Keys.{key_cmp, same_key, last_inode}
use Rattle.wtf_values.proofs.KeyLaws.{key_total}
use Rattle.wtf_gc.specs.Parts.{GathersUpto}
use Rattle.wtf_gc.proofs.Walks.{parts_past, gathers_start, gathers_step}
use Rattle.wtf_gc.proofs.gather.gather.Goals as goal

pub loop-at-init : goal.loop-at-init
loop-at-init c =
    let kv = c.args.kv.now in
    let next = option_copied c.next_key-at.result in
    record {
      so_far = subst (λ l. GathersUpto kv c.args.parts next l c.new-2.result.items) (sym c.new.ensures)
          (subst (λ l. GathersUpto kv c.args.parts next [] l) (sym c.new-2.ensures.items)
          (gathers_start kv c.args.parts (Some (key.Inode last_inode)) next (parts_past last_inode c.args.parts) c.next_key-at.ensures));
      next = reached key_cmp key_total same_key kv (Some (key.Inode last_inode)) next c.next_key-at.ensures;
    }

pub loop-at-smaller : goal.loop-at-smaller
loop-at-smaller c =
    let kv = c.args.kv.now in
    let k = c.in-Some.key.now in
    let next = option_copied c.next_key-at-in-Some.result in
    let here : option_copied c.loop-at.at ≡ Some k = ap option_copied c.in-Some.is in
    subst (λ o. left_from key_cmp kv next < left_from key_cmp kv o) (sym here)
    (left_less key_cmp key_total same_key kv k next (subst (IsReached key_cmp kv) here c.loop-at.invariant.next) c.next_key-at-in-Some.ensures)

pub loop-at-preserved : goal.loop-at-preserved
loop-at-preserved c =
    let kv = c.args.kv.now in
    let k = c.in-Some.key.now in
    let next = option_copied c.next_key-at-in-Some.result in
    let here : option_copied c.loop-at.at ≡ Some k = ap option_copied c.in-Some.is in
    record {
      so_far = gathers_step kv c.args.parts k next c.loop-at.to.found c.add_key.new.to.found c.loop-at.to.bases.items c.add_key.new.to.bases.items
          (subst (λ o. GathersUpto kv c.args.parts o c.loop-at.to.found c.loop-at.to.bases.items) here c.loop-at.invariant.so_far)
          c.in_ok-add_key.ensures.found c.in_ok-add_key.ensures.bases c.next_key-at-in-Some.ensures;
      next = reached key_cmp key_total same_key kv (Some k) next c.next_key-at-in-Some.ensures;
    }
