use Rattle.std.proofs.Common.{ℕ, refl, sym, ◌∙◌, subst}
use Rattle.wtf_replica.specs.Downs.{is_down}
use Rattle.wtf_replica.specs.Spans.{span}
use Rattle.wtf_serve.specs.Beginnings.{Closes}
use Rattle.wtf_serve.specs.Cores.{engine}
use Rattle.wtf_serve.specs.Engines.{step}
use Rattle.wtf_serve.specs.Sparing.{EndSpares}
use Rattle.wtf_serve.specs.Stocks.{stock}
use Rattle.wtf_serve.proofs.Closing.{save_follows, closes_saved, closes_failed}
use Rattle.wtf_serve.proofs.Sparing.{saved_spares, failed_spares, wanted_spares}
use Rattle.wtf_serve.proofs.service.close.Goals as goal
use Rattle.wtf_serve.proofs.service.close.Goals.{in-Saved, in_default-answer}

pub answer-requires-clause-number : goal.answer-requires-clause-number
answer-requires-clause-number g c = λ other. absurd (other refl)

pub answer-requires-clause-next_tx : goal.answer-requires-clause-next_tx
answer-requires-clause-next_tx g c = λ other. absurd (other refl)

pub returns-clause-closes : goal.returns-clause-closes
returns-clause-closes g c =
    let kind = g.S.SliceStore.kind in
    let view = g.K.Keeper.view in
    let bad = c.args.bad in
    let t = step (stock c.args.shelf.now (view c.args.keeper.now)) (stock c.answer.new.shelf (view c.answer.new.keeper)) c.args.core.now c.answer.new.core in
    let is = c.in-Ok.ensures.is in
    elim c.match-answer-2.branch [
      | in-Saved w ↦
          subst (λ (n : ℕ). Closes (engine kind) t bad n) (sym (w.result-is ∙ w.ended.ensures))
          (closes_saved (engine kind) t bad c.in-Ok.answer w.in-Saved.field-0 w.in-Saved.is is)
      | in_default-answer w ↦
          subst (λ (n : ℕ). Closes (engine kind) t bad n) (sym w.result-is)
          (closes_failed (engine kind) t bad c.in-Ok.answer (λ n. w.in_default-answer.not-Saved n) is)
    ]

pub returns-clause-follows : goal.returns-clause-follows
returns-clause-follows g c =
    let view = g.K.Keeper.view in
    let t = step (stock c.args.shelf.now (view c.args.keeper.now)) (stock c.answer.new.shelf (view c.answer.new.keeper)) c.args.core.now c.answer.new.core in
    save_follows (engine g.S.SliceStore.kind) t c.in-Ok.answer c.in-Ok.ensures.is.punched

pub returns-clause-spares : goal.returns-clause-spares
returns-clause-spares g c =
    let kind = g.S.SliceStore.kind in
    let handed = g.K.Keeper.follows c.args.keeper.now c.answer.new.keeper in
    let t = span (is_down c.args.core.now.replicas) c.args.shelf.now c.answer.new.shelf in
    let servers = c.args.core.now.settings.servers in
    let spares = c.in-Ok.ensures.spares in
    elim c.match-answer-2.branch [
      | in-Saved w ↦
          subst (λ (n : ℕ). EndSpares kind handed servers t n) (sym (w.result-is ∙ w.ended.ensures))
          (saved_spares kind handed servers t c.args.bad c.in-Ok.answer w.in-Saved.field-0 w.in-Saved.is spares)
      | in_default-answer w ↦
          subst (λ (n : ℕ). EndSpares kind handed servers t n) (sym w.result-is)
          (failed_spares kind handed servers t c.in-Ok.answer (λ n. w.in_default-answer.not-Saved n) spares)
    ]

pub returns-in_default-clause-spares : goal.returns-in_default-clause-spares
returns-in_default-clause-spares g c =
    wanted_spares g.S.SliceStore.kind (g.K.Keeper.follows c.args.keeper.now c.answer.new.keeper) c.args.core.now.settings.servers
    (span (is_down c.args.core.now.replicas) c.args.shelf.now c.answer.new.shelf) c.in_default.ensures.spares
