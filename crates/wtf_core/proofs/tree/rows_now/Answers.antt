use Rattle.wtf_core.proofs.Common.{option_copied, IsNextKey, left_from, left_less, key_cmp, same_key, Key, Path, key_total, ◌≡◌, ◌<◌, Some, subst, sym, ap, ◌∙◌}
use Rattle.wtf_core.proofs.RowsWalk.{Walked, walk_begins, walk_goes_on}
use Rattle.wtf_core.proofs.tree.rows_now.Goals as goal

pub loop-at-init : goal.loop-at-init
loop-at-init c =
    let b = c.args.settings.region in
    let kv = c.args.kv.now in
    let next = option_copied c.next_key-at.result in
    subst (λ rs. Walked b kv next rs) (sym c.new-rows.ensures.items) (walk_begins b kv next c.next_key-at.ensures)

pub loop-at-smaller : goal.loop-at-smaller
loop-at-smaller c =
    let kv = c.args.kv.now in
    let k = c.in-Some.key.now in
    let next = option_copied c.next_key-at-in-Some.result in
    let here : option_copied c.loop-at.at ≡ Some k = ap option_copied c.in-Some.is in
    let walked : Walked c.args.settings.region kv (Some k) c.loop-at.rows.items = subst
    (λ o. Walked c.args.settings.region kv o c.loop-at.rows.items) here c.loop-at.invariant in
    subst (λ o. left_from key_cmp kv next < left_from key_cmp kv o) (sym here)
    (left_less key_cmp key_total same_key kv k next walked.has_version c.next_key-at-in-Some.ensures)

pub loop-at-preserved : goal.loop-at-preserved
loop-at-preserved c =
    let kv = c.args.kv.now in
    let b = c.args.settings.region in
    let rows = c.loop-at.rows.items in
    let p = c.in-Path.path in
    let next = option_copied c.next_key-at-in-Some.result in
    let here : option_copied c.loop-at.at ≡ Some (Path p) = ap option_copied c.in-Some.is ∙ ap (λ (k : Key). Some k) c.in-Path.is in
    let walked : Walked b kv (Some (Path p)) rows = subst (λ o. Walked b kv o rows) here c.loop-at.invariant in
    let is : IsNextKey key_cmp kv (Some (Path p)) next = subst (λ (k : Key). IsNextKey key_cmp kv (Some k) next) c.in-Path.is c.next_key-at-in-Some.ensures in
    subst (λ rs. Walked b kv next rs) (sym c.in_ok-add_row.ensures) (walk_goes_on b kv p rows walked.so_far next is)
