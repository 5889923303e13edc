use Rattle.std.proofs.Common.{◌≡◌, ℕ, List, None, Err, sym, ap, ◌∙◌, arith, subst}
use Rattle.wtf_carry.specs.declared.stop.Stop.TheVariants as stop
use Rattle.wtf_carry.specs.Gets.{is_first, Takes, NoneTakes}
use Rattle.wtf_carry.proofs.NoneLaws.{none-long_first, too_long-first, none-empty, none-first, none-long, too_long-line, none-line, none-end}
use Rattle.wtf_carry.proofs.GetLaws.{none_of, comes-some, comes-none, get-begin, get_sofar-more, get_sofar-end}
use Rattle.wtf_carry.proofs.getting.get.Goals as goal

pub loop-first-init : goal.loop-first-init
loop-first-init g c = record {
  within = omega arith;
  from_faults = c.next_line.ensures.faults;
  out_faults = omega arith;
  sofar = λ script from.
      get-begin c.args.len script c.in-Some.first c.in_ok-lines.lines c.next_line.new.lines (g.I.Source.view c.next_line.new.from).rest
      (g.O.Sink.view c.args.out.now).taken
      c.in_ok-first.field-0 c.in_ok-lines.ensures c.in-Some.is (sym (c.is_first.ensures ∙ ap is_first c.as_slice.ensures) ∙ c.if-not-is_first.false)
      (λ over. c.in_ok-first.ensures.came script from over);
}

pub loop-first-preserved : goal.loop-first-preserved
loop-first-preserved g c = record {
  within = omega (arith, c.loop-first.invariant.within);
  from_faults = omega (arith, c.loop-first.invariant.from_faults, c.next_line-in-loop-first.ensures.faults);
  out_faults = omega (arith, c.loop-first.invariant.out_faults, c.take_line.ensures.faults);
  sofar = λ script from.
      let s = c.loop-first.invariant.sofar script from in
      let line = c.in-Some-2.line in
      let n = c.in_ok-left.field-0 in
      let held = c.next_line-in-loop-first.new.lines in
      let from' = (g.I.Source.view c.next_line-in-loop-first.new.from).rest in
      let now = (g.O.Sink.view c.loop-first.out).taken in
      let now' = (g.O.Sink.view c.take_line.new.out).taken in
      let P : List ℕ → Type 0 = λ l. Takes l n now now' in
      get_sofar-more c.args.len c.loop-first.left n script line c.loop-first.lines held (g.I.Source.view c.loop-first.from).rest from'
      (g.O.Sink.view c.args.out.now).taken now now' s
      c.in_ok-left.ensures.within
      (comes-some line c.loop-first.lines held s.rest from' c.in_ok-line.field-0 c.in-Some-2.is (c.in_ok-line.ensures.came s.rest s.from_is s.over))
      (subst P c.as_slice-in-Some-2.ensures c.in_ok-left.ensures.takes);
}

pub returns-clause-gets : goal.returns-clause-gets
returns-clause-gets g c = λ script old from to.
    let s = c.loop-first.invariant.sofar script from in
    let none : c.loop-first.left ≡ 0 = omega (arith, c.if-left-gt0.false) in
    let e : c.in_ok-line.field-0 ≡ None = none_of c.in_ok-line.field-0 c.in_default-2.not-Some in
    get_sofar-end c.args.len c.loop-first.left script old c.loop-first.lines (g.I.Source.view c.loop-first.from).rest (g.O.Sink.view c.args.out.now).taken
    (g.O.Sink.view c.loop-first.out).taken s none
    (comes-none c.loop-first.lines c.next_line-in-loop-first.new.lines s.rest (g.I.Source.view c.next_line-in-loop-first.new.from).rest c.in_ok-line.field-0 e
    (c.in_ok-line.ensures.came s.rest s.from_is s.over)) to

pub returns-in_err-first-clause-wrong : goal.returns-in_err-first-clause-wrong
returns-in_err-first-clause-wrong g c = λ is script from.
    let e : c.next_line.result ≡ Err stop.Wrong = grind (arith, c.in_err-first.was) in
    none-long_first c.args.len script c.in_ok-lines.lines c.next_line.new.lines
    (g.I.Source.view c.next_line.new.from).rest c.next_line.result c.in_ok-lines.ensures e
    (λ over. c.next_line.ensures.came script from over)

pub returns-in_err-first-clause-too_long : goal.returns-in_err-first-clause-too_long
returns-in_err-first-clause-too_long g c = λ is script from.
    let e : c.next_line.result ≡ Err stop.TooLong = grind (arith, c.in_err-first.was) in
    too_long-first script c.in_ok-lines.lines c.next_line.new.lines (g.I.Source.view c.next_line.new.from).rest c.next_line.result c.in_ok-lines.ensures e
    (λ over. c.next_line.ensures.came script from over)

pub returns-in_default-clause-wrong : goal.returns-in_default-clause-wrong
returns-in_default-clause-wrong g c = λ is script from.
    none-empty c.args.len script c.in_ok-lines.lines c.next_line.new.lines
    (g.I.Source.view c.next_line.new.from).rest c.in_ok-first.field-0 c.in_ok-lines.ensures
    (none_of c.in_ok-first.field-0 c.in_default.not-Some) (λ over. c.in_ok-first.ensures.came script from over)

pub returns-then-not-is_first-clause-wrong : goal.returns-then-not-is_first-clause-wrong
returns-then-not-is_first-clause-wrong g c = λ is script from.
    none-first c.args.len script c.in-Some.first c.in_ok-lines.lines c.next_line.new.lines
    (g.I.Source.view c.next_line.new.from).rest c.in_ok-first.field-0 c.in_ok-lines.ensures c.in-Some.is
    (sym (c.is_first.ensures ∙ ap is_first c.as_slice.ensures) ∙ c.if-not-is_first.true) (λ over. c.in_ok-first.ensures.came script from over)

pub returns-in_err-line-clause-wrong : goal.returns-in_err-line-clause-wrong
returns-in_err-line-clause-wrong g c = λ is script from.
    let s = c.loop-first.invariant.sofar script from in
    let e : c.next_line-in-loop-first.result ≡ Err stop.Wrong = grind (arith, c.in_err-line.was) in
    none-long c.args.len c.loop-first.left script c.loop-first.lines c.next_line-in-loop-first.new.lines (g.I.Source.view c.loop-first.from).rest
    (g.I.Source.view c.next_line-in-loop-first.new.from).rest
    (g.O.Sink.view c.args.out.now).taken (g.O.Sink.view c.loop-first.out).taken s c.next_line-in-loop-first.result e
    (c.next_line-in-loop-first.ensures.came s.rest s.from_is s.over)

pub returns-in_err-line-clause-too_long : goal.returns-in_err-line-clause-too_long
returns-in_err-line-clause-too_long g c = λ is script from.
    let s = c.loop-first.invariant.sofar script from in
    let e : c.next_line-in-loop-first.result ≡ Err stop.TooLong = grind (arith, c.in_err-line.was) in
    too_long-line c.args.len c.loop-first.left script c.loop-first.lines c.next_line-in-loop-first.new.lines (g.I.Source.view c.loop-first.from).rest
    (g.I.Source.view c.next_line-in-loop-first.new.from).rest
    (g.O.Sink.view c.args.out.now).taken (g.O.Sink.view c.loop-first.out).taken s c.next_line-in-loop-first.result e
    (c.next_line-in-loop-first.ensures.came s.rest s.from_is s.over)

pub returns-in_err-left-clause-wrong : goal.returns-in_err-left-clause-wrong
returns-in_err-left-clause-wrong g c = λ is script from.
    let s = c.loop-first.invariant.sofar script from in
    let line = c.in-Some-2.line in
    let from' = (g.I.Source.view c.next_line-in-loop-first.new.from).rest in
    let e : c.take_line.result ≡ Err stop.Wrong = grind (arith, c.in_err-left.was) in
    let P : List ℕ → Type 0 = λ l. NoneTakes l c.loop-first.left in
    none-line c.args.len c.loop-first.left script line c.loop-first.lines c.next_line-in-loop-first.new.lines (g.I.Source.view c.loop-first.from).rest from'
    (g.O.Sink.view c.args.out.now).taken (g.O.Sink.view c.loop-first.out).taken s
    (comes-some line c.loop-first.lines c.next_line-in-loop-first.new.lines s.rest from' c.in_ok-line.field-0 c.in-Some-2.is
    (c.in_ok-line.ensures.came s.rest s.from_is s.over))
    (subst P c.as_slice-in-Some-2.ensures (c.take_line.ensures.wrong e))

pub returns-then-left-gt0-clause-wrong : goal.returns-then-left-gt0-clause-wrong
returns-then-left-gt0-clause-wrong g c = λ is script from.
    let s = c.loop-first.invariant.sofar script from in
    none-end c.args.len c.loop-first.left script c.loop-first.lines (g.I.Source.view c.loop-first.from).rest (g.O.Sink.view c.args.out.now).taken
    (g.O.Sink.view c.loop-first.out).taken s
    c.if-left-gt0.true
    (comes-none c.loop-first.lines c.next_line-in-loop-first.new.lines s.rest (g.I.Source.view c.next_line-in-loop-first.new.from).rest c.in_ok-line.field-0
    (none_of c.in_ok-line.field-0 c.in_default-2.not-Some) (c.in_ok-line.ensures.came s.rest s.from_is s.over))
