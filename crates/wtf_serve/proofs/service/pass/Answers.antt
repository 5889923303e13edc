use Rattle.std.proofs.Common.{Option, Ok, sym, subst, arith}
use Rattle.wtf_model.specs.Lines.{Line}
use Rattle.wtf_serve.specs.Cores.{engine}
use Rattle.wtf_serve.specs.Passes.{HasLine, Came, input, hand}
use Rattle.wtf_serve.specs.Stocks.{stock}
use Rattle.wtf_serve.proofs.Keeping.{keeper_steady}
use Rattle.wtf_serve.proofs.Passing.{pass_stops, pass_done, pass_unread}
use Rattle.wtf_serve.proofs.service.pass.Goals as goal

pub returns-in-Err-turn : goal.returns-in-Err-turn
returns-in-Err-turn g c =
    let before = input (g.I.Source.view c.args.script.now) c.args.reader.now.lines in
    let behind = input (g.I.Source.view c.read_line.new.script) c.read_line.new.reader.lines in
    let read : HasLine before behind c.in-Ok-Some.line
    = subst (λ (o : Option Line). Came before behind (Ok o)) c.in-Ok-Some.field-0-is c.in-Ok-Some.ensures.came in
    let (came, spares) = pass_stops (engine g.S.SliceStore.kind) (g.K.Keeper.follows c.args.keeper.now c.turn.new.keeper)
    (hand before (g.O.Sink.view c.args.out.now) (stock c.args.shelf.now (g.K.Keeper.view c.args.keeper.now)) c.args.core.now)
    (hand behind (g.O.Sink.view c.turn.new.out) (stock c.turn.new.shelf (g.K.Keeper.view c.turn.new.keeper)) c.turn.new.core)
    c.in-Ok-Some.line c.in-Err-turn.stop read c.in-Err-turn.ensures.turn in
    record {
      is = record {
        came = came;
        drawn = c.in-Ok-Some.ensures.drawn;
        limit = λ _. c.in-Ok-Some.ensures.limit (λ e. cc);
        sink_faults = c.turn.ensures.faults;
        keeper = c.turn.ensures.keeper;
      };
      spares = spares;
    }

pub returns-in-Ok : goal.returns-in-Ok
returns-in-Ok g c =
    let before = input (g.I.Source.view c.args.script.now) c.args.reader.now.lines in
    let behind = input (g.I.Source.view c.read_line.new.script) c.read_line.new.reader.lines in
    let read : HasLine before behind c.in-Ok-Some.line
    = subst (λ (o : Option Line). Came before behind (Ok o)) c.in-Ok-Some.field-0-is c.in-Ok-Some.ensures.came in
    let (came, spares) = pass_done (engine g.S.SliceStore.kind) (g.K.Keeper.follows c.args.keeper.now c.turn.new.keeper)
    (hand before (g.O.Sink.view c.args.out.now) (stock c.args.shelf.now (g.K.Keeper.view c.args.keeper.now)) c.args.core.now)
    (hand behind (g.O.Sink.view c.turn.new.out) (stock c.turn.new.shelf (g.K.Keeper.view c.turn.new.keeper)) c.turn.new.core)
    c.in-Ok-Some.line c.is_err-bad.result (sym c.is_err-bad.ensures.value) read c.in-Ok.ensures.turn in
    record {
      is = record {
        came = came;
        drawn = c.in-Ok-Some.ensures.drawn;
        limit = λ _. c.in-Ok-Some.ensures.limit (λ e. cc);
        sink_faults = c.turn.ensures.faults;
        keeper = c.turn.ensures.keeper;
      };
      spares = spares;
    }

pub returns-in-Err : goal.returns-in-Err
returns-in-Err g c =
    let before = input (g.I.Source.view c.args.script.now) c.args.reader.now.lines in
    let behind = input (g.I.Source.view c.read_line.new.script) c.read_line.new.reader.lines in
    let keeper = c.args.keeper.now in
    let (came, spares) = pass_unread (engine g.S.SliceStore.kind) g.met.S.SliceStore.laws (g.K.Keeper.follows keeper keeper)
    (hand before (g.O.Sink.view c.args.out.now) (stock c.args.shelf.now (g.K.Keeper.view keeper)) c.args.core.now) behind
    (g.met.K.Keeper.follows_itself keeper) c.in-Err.stop c.in-Err.ensures.came in
    record {
      is = record {
        came = came;
        drawn = c.in-Err.ensures.drawn;
        limit = λ other. c.in-Err.ensures.limit (λ e. other (cc));
        sink_faults = omega arith;
        keeper = keeper_steady (g.K.Keeper.view keeper);
      };
      spares = spares;
    }
