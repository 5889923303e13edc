use Rattle.std.proofs.Common.{◌≡◌, ◌<◌, Some, None, length, sym, ap, subst, arith}
use Rattle.std.specs.Option.{option_copied}
use Rattle.wtf_kv.specs.Order.{left_from}
use Rattle.wtf_kv.proofs.KeyLaws.{left_less}
use Rattle.wtf_values.specs.Keys.{key_cmp, same_key}
use Rattle.wtf_values.proofs.KeyLaws.{key_total}
use Rattle.wtf_meta.specs.Maps.{metadata_at}
use Rattle.wtf_region.proofs.Spans.{goes_on}
use Rattle.wtf_healer.specs.Progress.{IsProgress}
use Rattle.wtf_healer.proofs.Progressing.{no_progress, progress_on}
use Rattle.wtf_healer.proofs.Passing.{Passed, pass_begins, pass_on, pass_ends}
use Rattle.wtf_healer.proofs.Sincing.{can_later, heal_since}
use Rattle.wtf_healer.proofs.regions.heal_all.Goals as goal

pub loop-at-init : goal.loop-at-init
loop-at-init g c = record {
  walked = pass_begins g.met.S.SliceStore.laws c.args.kv.now c.args.dev.now c.requires.sound (option_copied c.next_key-at.result) c.next_key-at.ensures
      c.none-healed.result c.none-healed.ensures.changes c.none-healed.ensures.bytes;
  told = no_progress 0 (length c.none-healed.result.changes) (omega arith) (g.P.Sink.view c.args.progress.now);
}

pub heal_at-requires-clause-can : goal.heal_at-requires-clause-can
heal_at-requires-clause-can g c =
    can_later g.met.S.SliceStore.laws c.args.dev.now c.loop-at.dev c.requires.sound c.loop-at.invariant.walked.goes
    (metadata_at c.args.kv.now c.args.kv.now.number) c.requires.can

pub returns-in-Err-clause-fault : goal.returns-in-Err-clause-fault
returns-in-Err-clause-fault g c =
    let kv = c.args.kv.now in
    let k = c.in-Some.key.now in
    let here : option_copied c.loop-at.at ≡ Some k = ap option_copied c.in-Some.is in
    let walked : Passed g.S.SliceStore.kind c.args.dev.now c.loop-at.dev kv (Some k) c.loop-at.healed =
    subst (λ o. Passed g.S.SliceStore.kind c.args.dev.now c.loop-at.dev kv o c.loop-at.healed) here c.loop-at.invariant.walked in
    heal_since g.met.S.SliceStore.laws kv c.args.dev.now c.loop-at.dev c.heal_at.new.dev c.heal_at.ensures.dev k c.loop-at.healed walked
    c.in-Err.why c.in-Err.ensures.fault

pub returns-in-Err-clause-dev : goal.returns-in-Err-clause-dev
returns-in-Err-clause-dev g c = goes_on g.met.S.SliceStore.laws c.loop-at.invariant.walked.goes c.heal_at.ensures.dev

pub loop-at-smaller : goal.loop-at-smaller
loop-at-smaller g c =
    let kv = c.args.kv.now in
    let k = c.in-Some.key.now in
    let next = option_copied c.next_key-at-in-Some.result in
    let here : option_copied c.loop-at.at ≡ Some k = ap option_copied c.in-Some.is in
    let walked : Passed g.S.SliceStore.kind c.args.dev.now c.loop-at.dev kv (Some k) c.loop-at.healed =
    subst (λ o. Passed g.S.SliceStore.kind c.args.dev.now c.loop-at.dev kv o c.loop-at.healed) here c.loop-at.invariant.walked in
    subst (λ o. left_from key_cmp kv next < left_from key_cmp kv o) (sym here)
    (left_less key_cmp key_total same_key kv k next walked.has_version_is c.next_key-at-in-Some.ensures)

pub loop-at-preserved : goal.loop-at-preserved
loop-at-preserved g c =
    let kv = c.args.kv.now in
    let k = c.in-Some.key.now in
    let here : option_copied c.loop-at.at ≡ Some k = ap option_copied c.in-Some.is in
    let walked : Passed g.S.SliceStore.kind c.args.dev.now c.loop-at.dev kv (Some k) c.loop-at.healed =
    subst (λ o. Passed g.S.SliceStore.kind c.args.dev.now c.loop-at.dev kv o c.loop-at.healed) here c.loop-at.invariant.walked in
    let view = g.P.Sink.view in
    record {
      walked = pass_on g.met.S.SliceStore.laws kv c.args.dev.now c.loop-at.dev c.heal_at.new.dev k (option_copied c.next_key-at-in-Some.result)
          c.next_key-at-in-Some.ensures c.loop-at.healed c.heal_at.new.healed walked c.heal_at.ensures.dev c.heal_at.ensures.stores c.in-Ok.ensures.at;
      told = progress_on 0 (length c.loop-at.healed.changes) (length c.heal_at.new.healed.changes) (view c.args.progress.now) (view c.loop-at.progress)
          (view c.heal_at.new.progress) c.loop-at.invariant.told c.in-Ok.ensures.progress;
    }

pub returns-in-Err-clause-progress : goal.returns-in-Err-clause-progress
returns-in-Err-clause-progress g c =
    let view = g.P.Sink.view in
    let n = length c.loop-at.healed.changes in
    (n, subst (λ p. IsProgress 0 n (view c.args.progress.now) (view p)) (sym c.in-Err.ensures.silent) c.loop-at.invariant.told)

pub returns-clause-progress : goal.returns-clause-progress
returns-clause-progress g c = (length c.loop-at.healed.changes, c.loop-at.invariant.told)

pub returns-clause-healed : goal.returns-clause-healed
returns-clause-healed g c =
    let kv = c.args.kv.now in
    let here : option_copied c.loop-at.at ≡ None = ap option_copied c.in_default.is in
    pass_ends g.met.S.SliceStore.laws kv c.args.dev.now c.loop-at.dev c.loop-at.healed
    (subst (λ o. Passed g.S.SliceStore.kind c.args.dev.now c.loop-at.dev kv o c.loop-at.healed) here c.loop-at.invariant.walked)
