use Rattle.std.proofs.Common.{rules, ◌≡◌, refl, ap, sym, ◌∙◌, subst}
use Rattle.wtf_gen.specs.Scripts.{script_view}
use Rattle.wtf_serve.specs.Endings.{devices}
use Rattle.wtf_serve.specs.Generated.{IsGeneratedRun}
use Rattle.wtf_serve.specs.Stocks.{stock}
use Rattle.wtf_serve.proofs.Generating.{generated_run}
use Rattle.wtf_serve.proofs.program.serve_generated.Goals as goal

pub returns-clause-served : goal.returns-clause-served
returns-clause-served g c = λ source.
    let K = g.K.Keeper in
    let before = c.new-shown.result in
    let after = c.serve-status.new.out in
    let all = generated_run g.S.SliceStore.kind (K.follows c.args.keeper.now c.serve-status.new.keeper) c.args.settings c.args.recipe c.serve-status.result
    source _ (script_view c.serve-status.new.script) (g.O.Sink.view c.args.out.now) (g.O.Sink.view after.out.now)
    (stock c.args.shelf.now (K.view c.args.keeper.now)) (stock c.serve-status.new.shelf (K.view c.serve-status.new.keeper))
    before.out.ghost_name after.out.ghost_name before.state after.state
    c.new-script.ensures refl c.new-shown.ensures.faults c.new-shown.ensures.lines c.new-shown.ensures.first c.new-shown.ensures.text after.sound
    c.serve-status.ensures.served in
    let same : c.finish.new.self.0 ≡ c.out-1.given.0 = search (rules, all.0) in
    let ends = sym c.finish.ensures.kept ∙ same in
    subst (λ o. IsGeneratedRun g.S.SliceStore.kind (K.follows c.args.keeper.now c.serve-status.new.keeper) c.args.settings c.args.recipe c.serve-status.result
    (devices source (g.O.Sink.view c.args.out.now) c.args.shelf.now (K.view c.args.keeper.now))
    (devices source (g.O.Sink.view o) c.serve-status.new.shelf (K.view c.serve-status.new.keeper))) ends all.1

pub returns-clause-unwritten : goal.returns-clause-unwritten
returns-clause-unwritten g c = λ e.
    let back = c.serve-status.ensures.unwritten e in
    let name = ap (λ w. w.out.ghost_name) back in
    let same : c.finish.new.self.0 ≡ c.out-1.given.0 = search (rules, name) in
    sym same ∙ c.finish.ensures.kept ∙ ap (λ w. w.out.now) back ∙ c.new-shown.ensures.untouched
