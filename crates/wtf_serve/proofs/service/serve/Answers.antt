use Rattle.std.proofs.Common.{◌≡◌, ◌++◌, ◌≤◌, ℕ, Bool, false, List, [], Some, None, Ok, Err, Result, Option, sym, ◌∙◌, ap, subst}
use Rattle.std.specs.Prelude.{◌||◌}
use Rattle.wtf_dev.specs.Counts.{Rose}
use Rattle.wtf_dev.specs.Streams.{SinkView}
use Rattle.wtf_serve.specs.declared.service.Stop.{Stop}
use Rattle.wtf_script.specs.Reading.{Held}
use Rattle.wtf_serve.specs.Cores.{engine}
use Rattle.wtf_serve.specs.Endings.{devices}
use Rattle.wtf_serve.specs.Engines.{step}
use Rattle.wtf_serve.specs.Passes.{input, hand, PassDoes}
use Rattle.wtf_serve.specs.Scripts.{settings_line}
use Rattle.wtf_serve.specs.Stocks.{stock, KeeperGoesOn}
use Rattle.wtf_serve.specs.Unopened.{IsRunWith}
use Rattle.wtf_serve.proofs.Keeping.{handed_on}
use Rattle.wtf_serve.proofs.Leaving.{core_keeps}
use Rattle.wtf_serve.proofs.Serving.{Serving, serving_first, unwritten_first, serving_on, serving_end, serving_stop, run_handed}
use Rattle.wtf_serve.proofs.Underway.{stop_not_few, end_not_few}
use Rattle.wtf_serve.proofs.service.serve.Given.{Over}
use Rattle.wtf_serve.proofs.service.serve.Goals as goal
use Rattle.wtf_serve.proofs.service.serve.Goals.{After-write_all, After-finish}

-- the keeper goes on while it is loaded
loaded : (g : Over) (c : After-write_all g) → KeeperGoesOn (g.K.Keeper.view c.args.keeper.now) (g.K.Keeper.view c.open.new.keeper)
loaded g c =
    handed_on g.K.Keeper.view g.K.Keeper.follows g.met.K.Keeper.keeps c.args.keeper.now c.open.new.keeper
    ([], c.open.ensures.kept.nothing)

-- the text of the first line
first_text : (g : Over) (c : After-write_all g) → c.as_slice.result.now ≡ settings_line c.in-Ok.core.settings c.in-Ok.core.tables.kv.number
first_text g c =
    c.as_slice.ensures.value ∙ c.in-Ok-push_settings.ensures
    ∙ ap (λ (x : List ℕ). x ++ settings_line c.in-Ok.core.settings c.in-Ok.core.tables.kv.number) c.new-text.ensures.items

pub returns-in_default-write_all-clause-served : goal.returns-in_default-write_all-clause-served
returns-in_default-write_all-clause-served g c =
    let kind = g.S.SliceStore.kind in
    let view = g.O.Sink.view in
    let at = (goal.at.returns-in_default-write_all-clause-served g c).After-write_all in
    let start = devices (g.I.Source.view c.args.script.now) (view c.args.out.now) c.args.shelf.now (g.K.Keeper.view c.args.keeper.now) in
    let same : view c.open.new.out ≡ view c.args.out.now = ap view c.in-Ok.ensures.unwritten in
    unwritten_first (engine kind) g.met.S.SliceStore.laws (g.K.Keeper.follows c.args.keeper.now c.open.new.keeper) c.args.settings start
    (g.K.Keeper.view c.open.new.keeper) c.in-Ok.core
    (view c.write_all.new.out) c.as_slice.result.now c.in-Ok.ensures.opened c.open.ensures.kept (loaded g at) (first_text g at)
    (λ old e. c.in_default-write_all.ensures.told old (ap (λ (s : SinkView). s.taken) same ∙ e))
    (subst (λ (s : SinkView). Rose s.faults (view c.write_all.new.out).faults) same c.in_default-write_all.ensures.cause)
    (subst (λ (s : SinkView). s.faults ≤ (view c.write_all.new.out).faults) same c.write_all.ensures.faults)

pub loop-more-init : goal.loop-more-init
loop-more-init g c =
    let kind = g.S.SliceStore.kind in
    let view = g.O.Sink.view in
    let at = (goal.at.loop-more-init g c).After-write_all in
    let handed = g.K.Keeper.follows c.args.keeper.now c.open.new.keeper in
    let start = devices (g.I.Source.view c.args.script.now) (view c.args.out.now) c.args.shelf.now (g.K.Keeper.view c.args.keeper.now) in
    let same : view c.open.new.out ≡ view c.args.out.now = ap view c.in-Ok.ensures.unwritten in
    let now = stock c.args.shelf.now (g.K.Keeper.view c.open.new.keeper) in
    record {
      run = subst (λ (held : Held). Serving (engine kind) handed c.args.settings start
          (hand (input (g.I.Source.view c.args.script.now) held) (view c.write_all.new.out) now c.in-Ok.core) false)
          (sym c.in-Ok-new.ensures)
          (serving_first (engine kind) g.met.S.SliceStore.laws handed c.args.settings start
          (g.K.Keeper.view c.open.new.keeper) c.in-Ok.core
          (view c.write_all.new.out) c.as_slice.result.now c.in-Ok.ensures.opened c.open.ensures.kept (loaded g at) (first_text g at)
          (λ old e. c.in-Ok-write_all.ensures.told old (ap (λ (s : SinkView). s.taken) same ∙ e))
          (c.in-Ok-write_all.ensures.steady ∙ ap (λ (s : SinkView). s.faults) same));
    }

pub loop-more-preserved : goal.loop-more-preserved
loop-more-preserved g c =
    let kind = g.S.SliceStore.kind in
    let laws = g.met.S.SliceStore.laws in
    let view = g.K.Keeper.view in
    let follows = g.K.Keeper.follows in
    let start = devices (g.I.Source.view c.args.script.now) (g.O.Sink.view c.args.out.now) c.args.shelf.now (view c.args.keeper.now) in
    let now = hand (input (g.I.Source.view c.loop-more.script) c.loop-more.reader.lines) (g.O.Sink.view c.loop-more.out)
    (stock c.loop-more.shelf (view c.loop-more.keeper)) c.loop-more.core in
    let next = hand (input (g.I.Source.view c.pass.new.script) c.pass.new.reader.lines) (g.O.Sink.view c.pass.new.out)
    (stock c.pass.new.shelf (view c.pass.new.keeper)) c.pass.new.core in
    let more = follows c.loop-more.keeper c.pass.new.keeper in
    let is : c.pass.result ≡ Ok (Some c.in-Ok-Some.more) = cc in
    record {
      run = subst (λ (b : Bool). Serving (engine kind) (follows c.args.keeper.now c.pass.new.keeper) c.args.settings start next b)
          {x = c.loop-more.bad || c.in-Ok-Some.more} (sym {b = c.loop-more.bad || c.in-Ok-Some.more} c.either-bad.ensures)
          (serving_on (engine kind) laws (follows c.args.keeper.now c.loop-more.keeper) more (follows c.args.keeper.now c.pass.new.keeper)
          (g.met.K.Keeper.follows_on c.args.keeper.now c.loop-more.keeper c.pass.new.keeper) c.args.settings start now next c.loop-more.bad
          c.loop-more.invariant.run c.in-Ok-Some.more
          (subst (λ (r : Result (Option Bool) Stop). PassDoes (engine kind) more now next r) {x = c.pass.result} is c.pass.ensures));
    }

pub returns-in-Ok-None-clause-served : goal.returns-in-Ok-None-clause-served
returns-in-Ok-None-clause-served g c =
    let kind = g.S.SliceStore.kind in
    let laws = g.met.S.SliceStore.laws in
    let view = g.K.Keeper.view in
    let follows = g.K.Keeper.follows in
    let start = devices (g.I.Source.view c.args.script.now) (g.O.Sink.view c.args.out.now) c.args.shelf.now (view c.args.keeper.now) in
    let now = hand (input (g.I.Source.view c.loop-more.script) c.loop-more.reader.lines) (g.O.Sink.view c.loop-more.out)
    (stock c.loop-more.shelf (view c.loop-more.keeper)) c.loop-more.core in
    let next = hand (input (g.I.Source.view c.pass.new.script) c.pass.new.reader.lines) (g.O.Sink.view c.pass.new.out)
    (stock c.pass.new.shelf (view c.pass.new.keeper)) c.pass.new.core in
    let more = follows c.loop-more.keeper c.pass.new.keeper in
    let is : c.pass.result ≡ Ok None = cc in
    serving_end (engine kind) laws (follows c.args.keeper.now c.loop-more.keeper) more (follows c.args.keeper.now c.pass.new.keeper)
    (g.met.K.Keeper.follows_on c.args.keeper.now c.loop-more.keeper c.pass.new.keeper) c.args.settings start now next c.loop-more.bad
    c.loop-more.invariant.run (core_keeps kind) (follows c.pass.new.keeper c.finish.new.keeper) (follows c.args.keeper.now c.finish.new.keeper)
    (g.met.K.Keeper.follows_on c.args.keeper.now c.pass.new.keeper c.finish.new.keeper) c.finish.result (g.O.Sink.view c.finish.new.out)
    (stock c.finish.new.shelf (view c.finish.new.keeper)) c.finish.new.core
    (subst (λ (r : Result (Option Bool) Stop). PassDoes (engine kind) more now next r) {x = c.pass.result} is c.pass.ensures)
    c.finish.ensures.follows c.finish.ensures.keeper c.finish.ensures.ends c.finish.ensures.spares

-- with which status a run that has begun its lines does not end
ended_few : (g : Over) (c : After-finish g) → c.finish.result ≡ 2 → ⊥
ended_few g c e =
    let view = g.K.Keeper.view in
    end_not_few (engine g.S.SliceStore.kind) (step (stock c.pass.new.shelf (view c.pass.new.keeper))
    (stock c.finish.new.shelf (view c.finish.new.keeper)) c.pass.new.core c.finish.new.core)
    (g.O.Sink.view c.pass.new.out) (g.O.Sink.view c.finish.new.out) c.loop-more.bad c.finish.result c.finish.ensures.ends e

pub returns-in-Ok-None-clause-unread : goal.returns-in-Ok-None-clause-unread
returns-in-Ok-None-clause-unread g c = λ e. absurd (ended_few g (goal.at.returns-in-Ok-None-clause-unread g c).After-finish e)

pub returns-in-Ok-None-clause-unwritten : goal.returns-in-Ok-None-clause-unwritten
returns-in-Ok-None-clause-unwritten g c = λ e. absurd (ended_few g (goal.at.returns-in-Ok-None-clause-unwritten g c).After-finish e)

pub returns-in-Ok-None-clause-untouched : goal.returns-in-Ok-None-clause-untouched
returns-in-Ok-None-clause-untouched g c = λ e. absurd (ended_few g (goal.at.returns-in-Ok-None-clause-untouched g c).After-finish e)

pub returns-in-Ok-None-clause-unkept : goal.returns-in-Ok-None-clause-unkept
returns-in-Ok-None-clause-unkept g c = λ e. absurd (ended_few g (goal.at.returns-in-Ok-None-clause-unkept g c).After-finish e)

pub returns-in-Ok-None-clause-handed : goal.returns-in-Ok-None-clause-handed
returns-in-Ok-None-clause-handed g c =
    run_handed g.S.SliceStore.kind (g.K.Keeper.follows c.args.keeper.now c.finish.new.keeper) c.args.settings c.finish.result _ _
    (returns-in-Ok-None-clause-served g c)

pub returns-in-Err-pass-clause-served : goal.returns-in-Err-pass-clause-served
returns-in-Err-pass-clause-served g c =
    let kind = g.S.SliceStore.kind in
    let laws = g.met.S.SliceStore.laws in
    let view = g.K.Keeper.view in
    let follows = g.K.Keeper.follows in
    let handed = follows c.args.keeper.now c.pass.new.keeper in
    let start = devices (g.I.Source.view c.args.script.now) (g.O.Sink.view c.args.out.now) c.args.shelf.now (view c.args.keeper.now) in
    let now = hand (input (g.I.Source.view c.loop-more.script) c.loop-more.reader.lines) (g.O.Sink.view c.loop-more.out)
    (stock c.loop-more.shelf (view c.loop-more.keeper)) c.loop-more.core in
    let next = hand (input (g.I.Source.view c.pass.new.script) c.pass.new.reader.lines) (g.O.Sink.view c.pass.new.out)
    (stock c.pass.new.shelf (view c.pass.new.keeper)) c.pass.new.core in
    let more = follows c.loop-more.keeper c.pass.new.keeper in
    let is : c.pass.result ≡ Err c.in-Err-pass.stop = cc in
    subst (λ (n : ℕ). IsRunWith kind handed c.args.settings n start (record { source = next.input.source; sink = next.sink; stock = next.stock }))
    (sym c.status.ensures)
    (serving_stop (engine kind) laws (follows c.args.keeper.now c.loop-more.keeper) more handed
    (g.met.K.Keeper.follows_on c.args.keeper.now c.loop-more.keeper c.pass.new.keeper) c.args.settings start now next c.loop-more.bad
    c.loop-more.invariant.run (core_keeps kind) c.in-Err-pass.stop
    (subst (λ (r : Result (Option Bool) Stop). PassDoes (engine kind) more now next r) {x = c.pass.result} is c.pass.ensures))

pub returns-in-Err-pass-clause-unread : goal.returns-in-Err-pass-clause-unread
returns-in-Err-pass-clause-unread g c = λ e. absurd (stop_not_few c.in-Err-pass.stop (sym c.status.ensures ∙ e))

pub returns-in-Err-pass-clause-unwritten : goal.returns-in-Err-pass-clause-unwritten
returns-in-Err-pass-clause-unwritten g c = λ e. absurd (stop_not_few c.in-Err-pass.stop (sym c.status.ensures ∙ e))

pub returns-in-Err-pass-clause-untouched : goal.returns-in-Err-pass-clause-untouched
returns-in-Err-pass-clause-untouched g c = λ e. absurd (stop_not_few c.in-Err-pass.stop (sym c.status.ensures ∙ e))

pub returns-in-Err-pass-clause-unkept : goal.returns-in-Err-pass-clause-unkept
returns-in-Err-pass-clause-unkept g c = λ e. absurd (stop_not_few c.in-Err-pass.stop (sym c.status.ensures ∙ e))

pub returns-in-Err-pass-clause-handed : goal.returns-in-Err-pass-clause-handed
returns-in-Err-pass-clause-handed g c =
    run_handed g.S.SliceStore.kind (g.K.Keeper.follows c.args.keeper.now c.pass.new.keeper) c.args.settings c.status.result _ _
    (returns-in-Err-pass-clause-served g c)
