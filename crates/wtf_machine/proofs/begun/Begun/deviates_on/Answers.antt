use Rattle.std.proofs.Common.{◌-◌, List, sym, ◌∙◌, subst}
use Rattle.std.proofs.lemmas.Bool.{ne_eqb}
use Rattle.wtf_model.specs.Session.{fresh}
use Rattle.wtf_model.specs.Transaction.{answers_of}
use Rattle.wtf_model.specs.Lawful.{Deviates}
use Rattle.wtf_machine.specs.declared.log.Logged.{Logged}
use Rattle.wtf_machine.specs.Logs.{ops_of, shown_of, IsOutcome}
use Rattle.wtf_machine.proofs.LogLaws.{not_so, IsLogged-at, Deviates-told}
use Rattle.wtf_machine.proofs.begun.Begun.deviates_on.Goals as goal
use Rattle.wtf_machine.proofs.begun.Begun.deviates_on.Goals.{In-Differs, then-i-number, else-i-number}

-- the calls deviate so
found : (c : In-Differs) → Deviates (answers_of c.args.self.now.cap c.args.now.now (ops_of c.args.self.now.calls.items))
    (shown_of c.args.self.now.calls.items) c.in-Differs.i c.in-Differs.due
found c =
    subst (λ (calls : List Logged). Deviates (answers_of c.args.self.now.cap c.args.now.now (ops_of calls)) (shown_of calls) c.in-Differs.i c.in-Differs.due)
    c.deref.ensures.value
    (subst (IsOutcome c.args.self.now.cap c.args.now.now (ops_of c.deref.result.now) (shown_of c.deref.result.now)) c.in-Differs.is c.in_ok-i.ensures)

pub is_same_answer-requires : goal.is_same_answer-requires
is_same_answer-requires c =
    IsLogged-at c.args.self.now.cap (fresh c.args.now.now) (ops_of c.args.self.now.calls.items) (c.in-Differs.i - 1) c.in-Differs.due
    (found (goal.at.is_same_answer-requires c).In-Differs).answer_is

pub returns-in-Differs : goal.returns-in-Differs
returns-in-Differs c =
    Deviates-told (answers_of c.args.self.now.cap c.args.now.now (ops_of c.args.self.now.calls.items)) (shown_of c.args.self.now.calls.items)
    c.in-Differs.i c.args.number c.in-Differs.due c.args.told.now c.if-i-number.result (found (goal.at.returns-in-Differs c).In-Differs)
    (elim c.if-i-number.branch [
      | then-i-number w ↦ λ h. (w.if-i-number.true, w.is_same_answer.ensures.0 (sym w.result-is ∙ h))
      | else-i-number w ↦ λ h. absurd (not_so (sym (ne_eqb c.in-Differs.i c.args.number w.if-i-number.false) ∙ (sym w.result-is ∙ h)))
    ])
    (elim c.if-i-number.branch [
      | then-i-number w ↦ λ _ same. w.result-is ∙ w.is_same_answer.ensures.1 same
      | else-i-number w ↦ λ e _. absurd (w.if-i-number.false e)
    ])
