use Rattle.std.proofs.Common.{◌≡◌, get_or, ap, ◌∙◌, subst}
use Rattle.wtf_model.specs.Call.{call}
use Rattle.wtf_model.specs.Transaction.{Transaction}
use Rattle.wtf_machine.specs.Sessions.{session_in}
use Rattle.wtf_machine.proofs.LogLaws.{IsLogged-called}
use Rattle.wtf_machine.proofs.BegunLaws.{next-left, next-answers}
use Rattle.wtf_machine.proofs.begun.Begun.replay_next.Goals as goal

-- the call is the next one
at_next : (c : goal.In_ok-due) → c.index.result.now ≡ get_or c.args.self.now.calls.items c.args.self.now.replayed c.index.result.now
at_next c = c.index.ensures ∙ ap (λ v. get_or v.items c.session.new.self.replayed c.index.result.now) c.session.ensures.calls
    ∙ ap (λ (t : Transaction). get_or c.args.self.now.calls.items t.replayed c.index.result.now) c.session.ensures.stays

called : (c : goal.In_ok-due) → call c.args.self.now.cap (session_in c.in_ok-session.session) c.index.result.now.op
    ≡ record { session = session_in c.call.new.self; answer = c.in_ok-due.due }
called c = subst (λ k. call k (session_in c.in_ok-session.session) c.index.result.now.op
    ≡ record { session = session_in c.call.new.self; answer = c.in_ok-due.due }) c.session.ensures.cap c.in_ok-due.ensures

pub returns-clause-left : goal.returns-clause-left
returns-clause-left c =
    next-left c.args.self.now.cap c.args.self.now.tree c.args.self.now.calls.items c.args.self.now.replayed c.index.result.now
    (session_in c.in_ok-session.session) (session_in c.call.new.self) c.in_ok-due.due c.requires.behind (at_next c) c.in_ok-session.ensures.left (called c)

pub returns-clause-answers : goal.returns-clause-answers
returns-clause-answers c =
    next-answers c.args.self.now.cap c.args.self.now.tree c.args.self.now.calls.items c.args.self.now.replayed c.index.result.now
    (session_in c.in_ok-session.session) (session_in c.call.new.self) c.in_ok-due.due c.requires.behind (at_next c) c.in_ok-session.ensures.left (called c)

pub returns-clause-logged : goal.returns-clause-logged
returns-clause-logged c = IsLogged-called c.session.new.self.cap (session_in c.in_ok-session.session)
    (session_in c.call.new.self) c.index.result.now.op c.in_ok-due.due c.in_ok-due.ensures
