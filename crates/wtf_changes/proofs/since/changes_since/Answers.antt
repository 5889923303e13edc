use Rattle.std.proofs.Common.{◌≡◌, Some, None, ap, ◌∙◌}
use Rattle.std.specs.Option.{option_copied}
use Rattle.wtf_changes.specs.Rows.{change_rows}
use Rattle.wtf_changes.specs.Walk.{none_yet}
use Rattle.wtf_changes.proofs.Drafted.{none_by}
use Rattle.wtf_changes.proofs.Walking.{walk_starts, walk_steps, walk_falls, walk_stops}
use Rattle.wtf_changes.proofs.since.changes_since.Goals as goal

pub loop-at-init : goal.loop-at-init
loop-at-init c =
    let made = c.none_yet-made.ensures ∙ ap (λ n. none_yet n c.args.next_tx) c.number.ensures.number in
    walk_starts c.args.kv.now c.args.since c.args.next_tx (option_copied c.next_changed-at.result)
    (change_rows c.none_yet-made.result) made c.next_changed-at.ensures

pub loop-at-smaller : goal.loop-at-smaller
loop-at-smaller c =
    let k = c.in-Some.key.now in
    let here : option_copied c.loop-at.at ≡ Some k = ap option_copied c.in-Some.is in
    walk_falls c.args.kv.now c.args.since c.args.next_tx (option_copied c.loop-at.at) (change_rows c.loop-at.made) k here c.loop-at.invariant
    (option_copied c.next_changed-at-in-Some.result) c.next_changed-at-in-Some.ensures

pub loop-at-preserved : goal.loop-at-preserved
loop-at-preserved c =
    let k = c.in-Some.key.now in
    let here : option_copied c.loop-at.at ≡ Some k = ap option_copied c.in-Some.is in
    walk_steps c.args.kv.now c.args.since c.args.next_tx (option_copied c.loop-at.at) (change_rows c.loop-at.made) k here c.loop-at.invariant
    (option_copied c.next_changed-at-in-Some.result) c.next_changed-at-in-Some.ensures (change_rows c.add_key.new.made) c.in_ok-add_key.ensures

pub returns : goal.returns
returns c =
    let here : option_copied c.loop-at.at ≡ None = ap option_copied (none_by c.loop-at.at c.in_default.not-Some) in
    walk_stops c.args.kv.now c.args.since c.args.next_tx (option_copied c.loop-at.at) (change_rows c.loop-at.made) here c.loop-at.invariant
