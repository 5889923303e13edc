use Rattle.std.proofs.Common.{◌≡◌, true, false, Bool, Some, None, Option, subst}
use Rattle.wtf_model.specs.declared.answer.Answer.{Answer}
use Rattle.wtf_model.specs.Lines.{MayLine, after_line}
use Rattle.wtf_machine.specs.Kept.{Decides}
use Rattle.wtf_machine.specs.Machines.{machine_in}
use Rattle.wtf_checker.specs.Lawful.{event_or_bad}
use Rattle.wtf_checker.specs.Judging.{IsAnswerOf}
use Rattle.wtf_checker.proofs.Answered.{refused_none, refused_untold, answered_so, refused_so}
use Rattle.wtf_checker.proofs.judge.answered.Goals as goal

pub returns-in_default : goal.returns-in_default
returns-in_default c = refused_none (machine_in c.args.machine.now) (event_or_bad c.args.asked.now) c.args.output.now c.in_default.ensures

pub returns-in-Ok-None : goal.returns-in-Ok-None
returns-in-Ok-None c =
    let none : c.in-Ok-None.field-0 ≡ None = cc in
    refused_untold (machine_in c.args.machine.now) (event_or_bad c.args.asked.now) c.in-Some.text.now c.in-Some.behind.now c.args.output.now c.in-Some.ensures
    (subst (λ (o : Option Answer). IsAnswerOf c.in-Some.text.now o) none c.in-Ok-None.ensures)

pub returns-in-Ok-true : goal.returns-in-Ok-true
returns-in-Ok-true c =
    let m = machine_in c.args.machine.now in
    let line = event_or_bad c.args.asked.now in
    let a = c.in-Ok-Some.answer in
    let some : c.in-Ok-Some.field-0 ≡ Some a = cc in
    let did : c.in-Ok-true.field-0 ≡ true = cc in
    answered_so m (machine_in c.may.new.machine) c.args.asked.now c.in-Some.text.now c.in-Some.behind.now c.args.output.now a c.in-Some.ensures
    (subst (λ (o : Option Answer). IsAnswerOf c.in-Some.text.now o) some c.in-Ok-Some.ensures)
    (subst (λ (b : Bool). Decides (MayLine m line a) m (after_line m line a) (machine_in c.may.new.machine) b) did c.in-Ok-true.ensures)

pub returns-in-Ok-false : goal.returns-in-Ok-false
returns-in-Ok-false c =
    let m = machine_in c.args.machine.now in
    let line = event_or_bad c.args.asked.now in
    let a = c.in-Ok-Some.answer in
    let some : c.in-Ok-Some.field-0 ≡ Some a = cc in
    let did : c.in-Ok-false.field-0 ≡ false = cc in
    refused_so m (machine_in c.may.new.machine) c.args.asked.now c.in-Some.text.now c.in-Some.behind.now c.args.output.now a c.in-Some.ensures
    (subst (λ (o : Option Answer). IsAnswerOf c.in-Some.text.now o) some c.in-Ok-Some.ensures)
    (subst (λ (b : Bool). Decides (MayLine m line a) m (after_line m line a) (machine_in c.may.new.machine) b) did c.in-Ok-false.ensures)
