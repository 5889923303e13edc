use Rattle.std.proofs.Common.{◌≡◌, Option, Result, Ok, Err, sym, ap, subst, inl, inr, arith}
use Rattle.wtf_journal.specs.Follows.{synced_laws}
use Rattle.wtf_model.specs.Lines.{Line}
use Rattle.wtf_serve.specs.Passes.{HasLine, Came, hand, input}
use Rattle.wtf_serve.specs.Stocks.{stock}
use Rattle.wtf_durable.specs.Views.{blind, durable_scene}
use Rattle.wtf_journaled.specs.Breaks.{SurvivesLine, stop_of}
use Rattle.wtf_journaled.specs.Engine.{journaled}
use Rattle.wtf_journaled.proofs.Adding.{pass_alone, pass_done, pass_stops}
use Rattle.wtf_journaled.proofs.LineLaws.{blind_on, disk_same}
use Rattle.wtf_journaled.proofs.lines.pass.Goals as goal

why_is : {T E : Type 0} {x y : E} → ◌≡◌ {A = Result T E} (Err x) (Err y) → x ≡ y
why_is e = cc

-- a line was read
pub returns-in-Err-turn-clause-pass : goal.returns-in-Err-turn-clause-pass
returns-in-Err-turn-clause-pass g c =
    let kind = g.D.Disk.kind in
    let before = input (g.I.Source.view c.args.script.now) c.args.reader.now.lines in
    let behind = input (g.I.Source.view c.read_line.new.script) c.read_line.new.reader.lines in
    let read : HasLine before behind c.in-Ok-Some.line
    = subst (λ (o : Option Line). Came before behind (Ok o)) c.in-Ok-Some.field-0-is c.in-Ok-Some.ensures.came in
    let (came, adds) = pass_stops g.S.Disk.kind kind
    (hand before (g.O.Sink.view c.args.out.now) (stock c.args.shelf.now (blind (kind.view c.args.disk.now))) (journaled c.args.durable.now c.args.disk.now))
    (hand behind (g.O.Sink.view c.turn.new.out) (stock c.turn.new.shelf (blind (kind.view c.turn.new.disk)))
    (journaled c.turn.new.durable c.turn.new.disk))
    c.in-Ok-Some.line (stop_of c.in-Err-turn.halt) read c.in-Err-turn.ensures.turn in
    record {
      is = record {
        came = came;
        drawn = c.in-Ok-Some.ensures.drawn;
        limit = λ _. c.in-Ok-Some.ensures.limit (λ e. cc);
        sink_faults = c.turn.ensures.faults;
        keeper = blind_on kind c.args.disk.now c.turn.new.disk c.turn.ensures.goes_on;
      };
      adds = adds;
    }

pub returns-in-Ok-clause-pass : goal.returns-in-Ok-clause-pass
returns-in-Ok-clause-pass g c =
    let kind = g.D.Disk.kind in
    let before = input (g.I.Source.view c.args.script.now) c.args.reader.now.lines in
    let behind = input (g.I.Source.view c.read_line.new.script) c.read_line.new.reader.lines in
    let read : HasLine before behind c.in-Ok-Some.line
    = subst (λ (o : Option Line). Came before behind (Ok o)) c.in-Ok-Some.field-0-is c.in-Ok-Some.ensures.came in
    let (came, adds) = pass_done g.S.Disk.kind kind
    (hand before (g.O.Sink.view c.args.out.now) (stock c.args.shelf.now (blind (kind.view c.args.disk.now))) (journaled c.args.durable.now c.args.disk.now))
    (hand behind (g.O.Sink.view c.turn.new.out) (stock c.turn.new.shelf (blind (kind.view c.turn.new.disk)))
    (journaled c.turn.new.durable c.turn.new.disk))
    c.in-Ok-Some.line c.is_err-bad.result (sym c.is_err-bad.ensures.value) read c.in-Ok.ensures.turn in
    record {
      is = record {
        came = came;
        drawn = c.in-Ok-Some.ensures.drawn;
        limit = λ _. c.in-Ok-Some.ensures.limit (λ e. cc);
        sink_faults = c.turn.ensures.faults;
        keeper = blind_on kind c.args.disk.now c.turn.new.disk c.turn.ensures.goes_on;
      };
      adds = adds;
    }

-- no line was read
pub returns-in-Err-clause-pass : goal.returns-in-Err-clause-pass
returns-in-Err-clause-pass g c =
    let kind = g.D.Disk.kind in
    let disk = c.args.disk.now in
    let before = input (g.I.Source.view c.args.script.now) c.args.reader.now.lines in
    let behind = input (g.I.Source.view c.read_line.new.script) c.read_line.new.reader.lines in
    let (came, adds) = pass_alone g.S.Disk.kind kind (synced_laws g.S.Disk.kind g.met.S.Disk.laws)
    (hand before (g.O.Sink.view c.args.out.now) (stock c.args.shelf.now (blind (kind.view disk))) (journaled c.args.durable.now disk)) behind
    c.in-Err.stop c.in-Err.ensures.came in
    record {
      is = record {
        came = came;
        drawn = c.in-Err.ensures.drawn;
        limit = λ other. c.in-Err.ensures.limit (λ e. other (cc));
        sink_faults = omega arith;
        keeper = blind_on kind disk disk (disk_same kind disk);
      };
      adds = adds;
    }

-- behind a line that was read, and not answered or not told of
pub returns-in-Err-turn-clause-breaks : goal.returns-in-Err-turn-clause-breaks
returns-in-Err-turn-clause-breaks g c = λ which.
    let before = input (g.I.Source.view c.args.script.now) c.args.reader.now.lines in
    let behind = input (g.I.Source.view c.read_line.new.script) c.read_line.new.reader.lines in
    let read : HasLine before behind c.in-Ok-Some.line
    = subst (λ (o : Option Line). Came before behind (Ok o)) c.in-Ok-Some.field-0-is c.in-Ok-Some.ensures.came in
    inr (record {
      line = read.line;
      came = read.came;
      survives = subst (λ (l : Line). SurvivesLine g.S.Disk.kind g.D.Disk.kind
          (durable_scene c.args.shelf.now c.args.disk.now c.args.durable.now)
          (durable_scene c.turn.new.shelf c.turn.new.disk c.turn.new.durable) l) (sym read.asks) (c.in-Err-turn.ensures.survives
          (elim which [ inl e ↦ inl (ap Err (why_is e)) | inr e ↦ inr (ap Err (why_is e)) ]));
    })

-- the journal failed at a line that was read
pub returns-in-Err-turn-clause-cause : goal.returns-in-Err-turn-clause-cause
returns-in-Err-turn-clause-cause g c = λ failed.
    let before = input (g.I.Source.view c.args.script.now) c.args.reader.now.lines in
    let behind = input (g.I.Source.view c.read_line.new.script) c.read_line.new.reader.lines in
    let read : HasLine before behind c.in-Ok-Some.line
    = subst (λ (o : Option Line). Came before behind (Ok o)) c.in-Ok-Some.field-0-is c.in-Ok-Some.ensures.came in
    record {
      line = read.line;
      came = read.came;
      rose = c.in-Err-turn.ensures.cause (ap Err (why_is failed));
    }
