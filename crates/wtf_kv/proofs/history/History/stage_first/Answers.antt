use Rattle.std.proofs.Common.{refl, sym, ap, subst, ◌∙◌, ◌≡◌, ◌+◌, ◌-◌, ◌∷◌, length, take, drop, None, Some, cond, arith}
use Rattle.std.proofs.lemmas.List.{take-append-drop}
use Rattle.wtf_kv.specs.declared.changes.Change.TheVariants.{Delta}
use Rattle.wtf_kv.specs.Causes.{IsCause}
use Rattle.wtf_kv.specs.Stores.{versions_in}
use Rattle.wtf_kv.specs.Staging.{AreDeltasOf, next_value}
use Rattle.wtf_kv.proofs.Fits.{cause_early}
use Rattle.wtf_kv.proofs.Runs.{take-first, itself, unfit, run_by}
use Rattle.wtf_kv.proofs.history.History.stage_first.Goals as goal

pub returns-in-Ok-stage_run-clause-ok : goal.returns-in-Ok-stage_run-clause-ok
returns-in-Ok-stage_run-clause-ok g c = λ q.
    let order = g.K.Ord.cmp in
    let all = c.args.changes.now in
    let key = c.in-Delta.key in
    let count = c.run_len-count.result in
    let behind = take count (take (length all - 1) (drop 1 all)) in
    let shape : take (count + 1) all ≡ Delta key c.in-Delta.field-1 ∷ behind = take-first all count c.index-changes-0.result c.requires.some c.index-changes-0.is ∙ ap (λ x. x ∷ behind) c.in-Delta.is in
    let of : AreDeltasOf key (take (count + 1) all) = subst (AreDeltasOf key) (sym shape) (refl, c.run_len-count.ensures.run) in
    c.in-Ok-stage_run.ensures.ok q
    ∙ run_by order g.C.Cell.outcome key (itself order g.met.K.Ord.total key) g.met.K.StoreKey.exact (take (count + 1) all) c.args.self.now.number (versions_in order c.args.self.now.cells)
    (let long = ap length shape in omega arith) of c.in-Ok-stage_run.ensures.fit q

pub returns-in-Ok-stage_run-clause-fit : goal.returns-in-Ok-stage_run-clause-fit
returns-in-Ok-stage_run-clause-fit g c =
    let order = g.K.Ord.cmp in
    let all = c.args.changes.now in
    let key = c.in-Delta.key in
    let count = c.run_len-count.result in
    let behind = take count (take (length all - 1) (drop 1 all)) in
    let shape : take (count + 1) all ≡ Delta key c.in-Delta.field-1 ∷ behind = take-first all count c.index-changes-0.result c.requires.some c.index-changes-0.is ∙ ap (λ x. x ∷ behind) c.in-Delta.is in
    let of : AreDeltasOf key (take (count + 1) all) = subst (AreDeltasOf key) (sym shape) (refl, c.run_len-count.ensures.run) in
    unfit order g.C.Cell.outcome key (itself order g.met.K.Ord.total key) (take (count + 1) all) (next_value order c.args.self.now) of
    ∙ ap (λ b. cond b None (Some key)) c.in-Ok-stage_run.ensures.fit

pub returns-in-Err-stage_run-clause-cause : goal.returns-in-Err-stage_run-clause-cause
returns-in-Err-stage_run-clause-cause g c =
    let order = g.K.Ord.cmp in
    let all = c.args.changes.now in
    let key = c.in-Delta.key in
    let count = c.run_len-count.result in
    let behind = take count (take (length all - 1) (drop 1 all)) in
    let shape : take (count + 1) all ≡ Delta key c.in-Delta.field-1 ∷ behind = take-first all count c.index-changes-0.result c.requires.some c.index-changes-0.is ∙ ap (λ x. x ∷ behind) c.in-Delta.is in
    let of : AreDeltasOf key (take (count + 1) all) = subst (AreDeltasOf key) (sym shape) (refl, c.run_len-count.ensures.run) in
    cause_early order g.C.Cell.outcome (take (count + 1) all) (drop (count + 1) all) all (next_value order c.args.self.now) c.in-Err-stage_run.why (take-append-drop (count + 1) all)
    (subst (IsCause c.in-Err-stage_run.why) (sym (unfit order g.C.Cell.outcome key (itself order g.met.K.Ord.total key) (take (count + 1) all) (next_value order c.args.self.now) of)) c.in-Err-stage_run.ensures.cause)
