use Rattle.std.proofs.Common.{◌≡◌, ℕ, List, [], Option, Some, None, Result, Ok, Err, sym, subst, arith, MatchOption, Bor}
use Rattle.wtf_model.specs.declared.event.Event.{Event}
use Rattle.wtf_model.specs.declared.answer.Kind.{Kind}
use Rattle.wtf_model.specs.Machines.{Machine}
use Rattle.wtf_machine.specs.Machines.{machine_in}
use Rattle.wtf_checker.specs.declared.stop.Stop.{Stop}
use Rattle.wtf_checker.specs.declared.verdict.Verdict.{Verdict}
use Rattle.wtf_checker.specs.Reading.{Next, HasLess}
use Rattle.wtf_checker.specs.Lawful.{RefusesAnswer, event_or_bad}
use Rattle.wtf_checker.specs.Judging.{IsAnswered, Judges}
use Rattle.wtf_checker.proofs.Counts.{answered_within}
use Rattle.wtf_checker.proofs.Scripted.{reading_stopped}
use Rattle.wtf_checker.proofs.Judged.{sofar_first, sofar_more, judged_end, judged_refused}
use Rattle.wtf_checker.proofs.judge.judge_lines.Goals as goal

abbrev Read : Type 0
Read = Result (Option (Result Event Kind)) Stop

abbrev IsFound : Machine → Result Event Kind → List ℕ → Machine → Option (Bor (List ℕ)) → Type 0
IsFound m asked left m' o = MatchOption o (RefusesAnswer m (event_or_bad asked) left) (λ rest. IsAnswered m (event_or_bad asked) left rest.now m')

pub loop-asked-init : goal.loop-asked-init
loop-asked-init g c = record {
  room = omega (arith, c.requires.room);
  within = c.requires.within;
  read = λ start was. ([], was);
  sofar = λ start settings output was is begins.
      sofar_first start (g.I.Source.view c.args.script.now) c.args.reader.now.lines settings output c.args.answers.now (machine_in c.args.machine.now) was
      is begins;
}

pub ended-requires : goal.ended-requires
ended-requires g c = omega (arith, c.loop-asked.invariant.room)

pub returns-in-Ok-None-clause-read : goal.returns-in-Ok-None-clause-read
returns-in-Ok-None-clause-read g c = λ start was.
    let now = c.loop-asked.invariant.read start was in
    let is : c.read_line.result ≡ Ok None = cc in
    let end = subst (λ (r : Read). Next start (g.I.Source.view c.read_line.new.script) c.read_line.new.reader.lines now.0 r) is
    (c.read_line.ensures.next start now.0 now.1) in
    (now.0, end.reading)

pub returns-in-Ok-None-clause-judged : goal.returns-in-Ok-None-clause-judged
returns-in-Ok-None-clause-judged g c = λ start settings output was at begins.
    let s = c.loop-asked.invariant.sofar start settings output was at begins in
    let is : c.read_line.result ≡ Ok None = cc in
    let end = subst (λ (r : Read). Next start (g.I.Source.view c.read_line.new.script) c.read_line.new.reader.lines s.lines r) is
    (c.read_line.ensures.next start s.lines s.reading) in
    subst (λ (v : Verdict). Judges start output (Ok v)) (sym c.ended.ensures)
    (judged_end start (g.I.Source.view c.loop-asked.script) (g.I.Source.view c.read_line.new.script) c.loop-asked.reader.lines c.read_line.new.reader.lines
    settings output c.loop-asked.left.now c.loop-asked.lines (machine_in c.loop-asked.machine) s end)

pub returns-in-Err-clause-read : goal.returns-in-Err-clause-read
returns-in-Err-clause-read g c = λ start was.
    let now = c.loop-asked.invariant.read start was in
    let is : c.read_line.result ≡ Err c.in-Err.stop = cc in
    subst (λ (r : Read). Next start (g.I.Source.view c.read_line.new.script) c.read_line.new.reader.lines now.0 r) is
    (c.read_line.ensures.next start now.0 now.1)

pub returns-in-Ok-None-found-clause-read : goal.returns-in-Ok-None-found-clause-read
returns-in-Ok-None-found-clause-read g c = λ start was.
    let now = c.loop-asked.invariant.read start was in
    let is : c.read_line.result ≡ Ok (Some c.in-Ok-Some.asked) = cc in
    let next = subst (λ (r : Read). Next start (g.I.Source.view c.read_line.new.script) c.read_line.new.reader.lines now.0 r) is
    (c.read_line.ensures.next start now.0 now.1) in
    (_, next.reading)

pub returns-in-Err-found-clause-read : goal.returns-in-Err-found-clause-read
returns-in-Err-found-clause-read g c = λ start was.
    let now = c.loop-asked.invariant.read start was in
    let is : c.read_line.result ≡ Ok (Some c.in-Ok-Some.asked) = cc in
    let next = subst (λ (r : Read). Next start (g.I.Source.view c.read_line.new.script) c.read_line.new.reader.lines now.0 r) is
    (c.read_line.ensures.next start now.0 now.1) in
    reading_stopped start (g.I.Source.view c.read_line.new.script) c.read_line.new.reader.lines _ next.reading

pub loop-asked-preserved : goal.loop-asked-preserved
loop-asked-preserved g c =
    let m = machine_in c.loop-asked.machine in
    let m' = machine_in c.answered-found.new.machine in
    let left = c.loop-asked.left.now in
    let asked = c.in-Ok-Some.asked in
    let behind = c.in-Ok-Some-found.behind in
    let held' = c.read_line.new.reader.lines in
    let now = g.I.Source.view c.read_line.new.script in
    let is : c.read_line.result ≡ Ok (Some asked) = cc in
    let some : c.in-Ok-Some-found.field-0 ≡ Some behind = cc in
    let less = subst (λ (r : Read). HasLess c.loop-asked.reader.lines held' r) is c.read_line.ensures.less in
    let given = subst (λ (o : Option (Bor (List ℕ))). IsFound m asked left m' o) some c.in-Ok-Some-found.ensures in
    record {
      room = omega (arith, c.loop-asked.invariant.room, less);
      within = answered_within c.loop-asked.lines m m' asked left behind.now given c.loop-asked.invariant.within;
      read = λ start was.
          let s = c.loop-asked.invariant.read start was in
          let next = subst (λ (r : Read). Next start now held' s.0 r) is (c.read_line.ensures.next start s.0 s.1) in
          (_, next.reading);
      sofar = λ start settings output was at begins.
          let s = c.loop-asked.invariant.sofar start settings output was at begins in
          let next = subst (λ (r : Read). Next start now held' s.lines r) is (c.read_line.ensures.next start s.lines s.reading) in
          sofar_more start (g.I.Source.view c.loop-asked.script) now c.loop-asked.reader.lines held' settings output left behind.now c.loop-asked.lines m m'
          asked s next given;
    }

pub returns-in-Ok-None-found-clause-judged : goal.returns-in-Ok-None-found-clause-judged
returns-in-Ok-None-found-clause-judged g c = λ start settings output was at begins.
    let m = machine_in c.loop-asked.machine in
    let m' = machine_in c.answered-found.new.machine in
    let left = c.loop-asked.left.now in
    let asked = c.in-Ok-Some.asked in
    let held' = c.read_line.new.reader.lines in
    let now = g.I.Source.view c.read_line.new.script in
    let s = c.loop-asked.invariant.sofar start settings output was at begins in
    let is : c.read_line.result ≡ Ok (Some asked) = cc in
    let none : c.in-Ok-None-found.field-0 ≡ None = cc in
    let next = subst (λ (r : Read). Next start now held' s.lines r) is (c.read_line.ensures.next start s.lines s.reading) in
    judged_refused start (g.I.Source.view c.loop-asked.script) now c.loop-asked.reader.lines held' settings output left c.loop-asked.lines m asked s next
    (subst (λ (o : Option (Bor (List ℕ))). IsFound m asked left m' o) none c.in-Ok-None-found.ensures)
