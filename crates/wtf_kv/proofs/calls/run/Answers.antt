use Rattle.std.proofs.Common.{sym, ap, subst, ◌∙◌, ◌≡◌, ◌≤◌, ◌+◌, ◌∷◌, ◌++◌, [], take, drop, length, arith}
use Rattle.std.proofs.lemmas.List.{take_more, drop_more, take-append-drop}
use Rattle.std.proofs.Math.Seq.{take-length}
use Rattle.wtf_kv.specs.Calls.{Steps, StopsIn}
use Rattle.wtf_kv.proofs.CallLaws.{on_err, steps_more, steps_keep, stops_more, stops_keep}
use Rattle.wtf_kv.proofs.calls.run.Goals as goal

pub loop-call-preserved : goal.loop-call-preserved
loop-call-preserved g c =
    let i = c.loop-call.call-index in
    let all = c.args.calls.now in
    let call = c.call-item.result in
    let order = g.K.Ord.cmp in
    let outcome = g.C.Cell.outcome in
    let front : take (i + 1) all ≡ take i all ++ call ∷ [] = take_more all i call (omega arith) ∙ ap (λ x. take i all ++ x ∷ []) (sym c.call-item.is) in
    subst (λ cs. Steps order outcome c.args.m cs c.args.kv.now c.make.new.kv) (sym front)
    (steps_more order outcome c.args.m (take i all) call c.args.kv.now c.loop-call.kv c.make.new.kv c.loop-call.invariant c.in_ok-make.ensures.step)

pub returns-clause-keeps : goal.returns-clause-keeps
returns-clause-keeps g c =
    let all = c.args.calls.now in
    let i = c.loop-call.call-index in
    let end : i ≡ length all = omega arith in
    let whole : take i all ≡ all = ap (λ n. take n all) end ∙ take-length all in
    steps_keep g.K.Ord.cmp g.C.Cell.outcome c.args.m all c.args.kv.now c.loop-call.kv
    (record { pinned = c.requires; reached = subst (λ n. c.args.m ≤ n) c.number-reached.ensures.number (c.number-reached.ensures.pins c.args.m c.requires) })
    (subst (λ cs. Steps g.K.Ord.cmp g.C.Cell.outcome c.args.m cs c.args.kv.now c.loop-call.kv) whole c.loop-call.invariant)

pub returns-in_err-make-clause-stops : goal.returns-in_err-make-clause-stops
returns-in_err-make-clause-stops g c =
    let i = c.loop-call.call-index in
    let all = c.args.calls.now in
    let call = c.call-item.result in
    let order = g.K.Ord.cmp in
    let outcome = g.C.Cell.outcome in
    let split : take i all ++ call ∷ drop (i + 1) all ≡ all = ap (λ l. take i all ++ l) (ap (λ x. x ∷ drop (i + 1) all) c.call-item.is ∙ sym (drop_more all i call (omega arith))) ∙ take-append-drop i all in
    on_err c.from_residual.result _
    (subst (λ cs. StopsIn order outcome c.args.m cs c.args.kv.now c.make.new.kv) split
    (stops_more order outcome c.args.m (take i all) call (drop (i + 1) all) c.args.kv.now c.loop-call.kv c.make.new.kv c.loop-call.invariant c.in_err-make.ensures.stop))

pub returns-in_err-make-clause-keeps : goal.returns-in_err-make-clause-keeps
returns-in_err-make-clause-keeps g c =
    let i = c.loop-call.call-index in
    let all = c.args.calls.now in
    let call = c.call-item.result in
    let order = g.K.Ord.cmp in
    let outcome = g.C.Cell.outcome in
    stops_keep order outcome c.args.m (take i all ++ call ∷ []) c.args.kv.now c.make.new.kv
    (record { pinned = c.requires; reached = subst (λ n. c.args.m ≤ n) c.number-reached.ensures.number (c.number-reached.ensures.pins c.args.m c.requires) })
    (stops_more order outcome c.args.m (take i all) call [] c.args.kv.now c.loop-call.kv c.make.new.kv c.loop-call.invariant c.in_err-make.ensures.stop)
