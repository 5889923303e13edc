use Rattle.std.proofs.Common.{◌≡◌, Some, Ok, sym, ap, subst}
use Rattle.wtf_replica.specs.Downs.{is_down}
use Rattle.wtf_replica.specs.Spans.{span}
use Rattle.wtf_model.specs.declared.event.Event.{Event}
use Rattle.wtf_model.specs.declared.event.Event.TheVariants as event
use Rattle.wtf_model.specs.Lines.{Line}
use Rattle.wtf_core.proofs.Lent.{on_any}
use Rattle.wtf_serve.specs.Engines.{IsAnswer, step}
use Rattle.wtf_serve.specs.Cores.{engine}
use Rattle.wtf_serve.specs.Sparing.{LineSpares}
use Rattle.wtf_serve.specs.Stocks.{stock}
use Rattle.wtf_serve.proofs.Keeping.{keeper_same, handed_on, event_kept}
use Rattle.wtf_serve.proofs.Sparing.{event_spares}
use Rattle.wtf_serve.specs.Answering.{IsFormLine}
use Rattle.wtf_serve.proofs.LineLaws.{bad_is, event_goes_on, event_told, event_punches, event_obeys}
use Rattle.wtf_serve.proofs.service.answer.Goals as goal

-- the line is no save where the event is none
ok_same : (a b : Event) (line : Line) → line ≡ Ok a → line ≡ Ok b → a ≡ b
ok_same a b line is also = cc

pub take-requires-clause-number : goal.take-requires-clause-number
take-requires-clause-number g c = λ other. c.requires.number (λ is. other (ok_same c.in-Ok.event event.Save c.args.line c.in-Ok.is is))

pub take-requires-clause-next_tx : goal.take-requires-clause-next_tx
take-requires-clause-next_tx g c = λ other. c.requires.next_tx (λ is. other (ok_same c.in-Ok.event event.Save c.args.line c.in-Ok.is is))

pub returns-in_ok-answer-in-Ok-clause-is : goal.returns-in_ok-answer-in-Ok-clause-is
returns-in_ok-answer-in-Ok-clause-is g c =
    let kind = g.S.SliceStore.kind in
    let view = g.K.Keeper.view in
    let t = step (stock c.args.shelf.now (view c.args.keeper.now)) (stock c.take.new.shelf (view c.take.new.keeper)) c.args.core.now c.take.new.self in
    let is = c.in_ok-answer-in-Ok.ensures in
    let a = c.in_ok-answer-in-Ok.answer in
    subst (λ (e : Line). IsAnswer (engine kind) t e a) (sym c.in-Ok.is) (record {
      goes_on = event_goes_on kind t c.in-Ok.event a c.requires.sound is.does.goes_on is.stays.core is.does.punched is.does.kept.held;
      lawful = event_obeys kind t c.in-Ok.event a c.requires.sound is.does.lawful;
      stored = is.does.stored.adds;
      caused = is.does.caused.cause;
      told = event_told kind t c.in-Ok.event a is.does.told;
      punched = event_punches kind t c.in-Ok.event a is.does.punched;
      kept = event_kept view g.K.Keeper.follows g.K.Keeper.refused c.args.keeper.now c.take.new.keeper kind c.args.shelf.now c.take.new.shelf
          c.args.core.now c.take.new.self c.in-Ok.event a is.does.kept.turn is.does.turn;
    })

pub returns-in_ok-answer-in-Ok-clause-spares : goal.returns-in_ok-answer-in-Ok-clause-spares
returns-in_ok-answer-in-Ok-clause-spares g c =
    let kind = g.S.SliceStore.kind in
    let is = c.in_ok-answer-in-Ok.ensures in
    let did = event_spares g.K.Keeper.view g.K.Keeper.follows g.met.K.Keeper.follows_itself g.K.Keeper.refused c.args.keeper.now c.take.new.keeper kind
    c.args.shelf.now c.take.new.shelf c.args.core.now c.take.new.self c.in-Ok.event c.in_ok-answer-in-Ok.answer is.does.kept.turn is.does.turn is.stays in
    subst (λ (e : Line). LineSpares kind (g.K.Keeper.follows c.args.keeper.now c.take.new.keeper) c.args.core.now.settings.servers
    (span (is_down c.args.core.now.replicas) c.args.shelf.now c.take.new.shelf) e (Some c.in_ok-answer-in-Ok.answer)) (sym c.in-Ok.is) did

pub returns-in_ok-answer-in-Ok-clause-keeper : goal.returns-in_ok-answer-in-Ok-clause-keeper
returns-in_ok-answer-in-Ok-clause-keeper g c =
    let did = returns-in_ok-answer-in-Ok-clause-spares g c in
    handed_on g.K.Keeper.view g.K.Keeper.follows g.met.K.Keeper.keeps c.args.keeper.now c.take.new.keeper
    (did.images, did.handed_are)

pub returns-in-Err-clause-is : goal.returns-in-Err-clause-is
returns-in-Err-clause-is g c =
    let kind = g.S.SliceStore.kind in
    let here = stock c.args.shelf.now (g.K.Keeper.view c.args.keeper.now) in
    subst (λ (e : Line). IsAnswer (engine kind) (step here here c.args.core.now c.args.core.now) e c.in-Err.bad) (sym c.in-Err.is)
    (bad_is kind g.met.S.SliceStore.laws here c.args.core.now c.in-Err.bad c.requires.sound (subst IsFormLine c.in-Err.is c.requires.form))

-- after want of memory the keeper is as it was
pub returns-in_err-answer-in-Ok-clause-unkept : goal.returns-in_err-answer-in-Ok-clause-unkept
returns-in_err-answer-in-Ok-clause-unkept g c =
    let view = g.K.Keeper.view in
    on_any c.from_residual.result
    (keeper_same (view c.args.keeper.now) (view c.take.new.keeper) (ap view c.in_err-answer-in-Ok.ensures.fails.untouched))
