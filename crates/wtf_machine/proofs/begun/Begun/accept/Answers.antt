use Rattle.std.proofs.Common.{◌+◌, ◌≤◌, refl, sym, ap, ◌∙◌, subst}
use Rattle.std.specs.Prelude.{Vec, vec_len}
use Rattle.std.specs.Vec.{vec_capacity}
use Rattle.std.specs.declared.alloc.Global.{Global}
use Rattle.wtf_model.specs.Transaction.{Transaction}
use Rattle.wtf_model.specs.Steps.{IsLogged, logged}
use Rattle.wtf_machine.specs.declared.log.Logged.{Logged}
use Rattle.wtf_machine.specs.Verdicts.{transaction_in}
use Rattle.wtf_machine.proofs.LogLaws.{not_so}
use Rattle.wtf_machine.proofs.BegunLaws.{lawful_due, other_unlawful, called_on-logged}
use Rattle.wtf_machine.proofs.begun.Begun.accept.Goals as goal

pub is_same_answer-requires : goal.is_same_answer-requires
is_same_answer-requires c = c.in_ok-session.ensures.logged

pub returns-then-not-is_same_answer-clause-lawful : goal.returns-then-not-is_same_answer-clause-lawful
returns-then-not-is_same_answer-clause-lawful c m most =
    other_unlawful m (transaction_in c.args.self.now) c.args.op c.in_ok-session.due c.args.answer.now (c.in_ok-session.ensures.due m most)
    (λ e. not_so (c.if-not-is_same_answer.ensures.1 e)) c.requires.sound

pub log-requires-clause-room : goal.log-requires-clause-room
log-requires-clause-room c = subst (λ (v : Vec Logged Global). vec_len v + 1 ≤ vec_capacity v) (sym c.in_ok-session.ensures.calls) c.requires.room

pub log-requires-clause-left : goal.log-requires-clause-left
log-requires-clause-left c = c.in_ok-session.ensures.left

pub returns-clause-lawful : goal.returns-clause-lawful
returns-clause-lawful c m most =
    lawful_due m (transaction_in c.args.self.now) c.args.op c.in_ok-session.due c.args.answer.now (c.in_ok-session.ensures.due m most)
    (c.if-not-is_same_answer.ensures.0 refl)

pub returns-clause-next : goal.returns-clause-next
returns-clause-next c _ =
    c.log.ensures.is ∙ ap (λ (x : Transaction). logged x c.args.op c.in_ok-session.due) c.in_ok-session.ensures.stays
    ∙ ap (logged (transaction_in c.args.self.now) c.args.op) (c.if-not-is_same_answer.ensures.0 refl)
    ∙ sym (called_on-logged (transaction_in c.args.self.now) c.args.op c.args.answer.now
    (subst IsLogged (c.if-not-is_same_answer.ensures.0 refl) c.in_ok-session.ensures.logged))
