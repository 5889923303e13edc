use Rattle.std.proofs.Common.{◌≡◌, ◌++◌, ◌∷◌, [], sym, ap, ◌∙◌, subst}
use Rattle.wtf_model.specs.Transaction.{Transaction, session_after}
use Rattle.wtf_model.specs.Call.{call}
use Rattle.wtf_machine.specs.Logs.{ops_of}
use Rattle.wtf_machine.specs.Sessions.{session_in}
use Rattle.wtf_machine.specs.Verdicts.{transaction_in}
use Rattle.wtf_machine.proofs.LogLaws.{IsLogged-called}
use Rattle.wtf_machine.proofs.BegunLaws.{all_ops, call-left, call_due}
use Rattle.wtf_machine.proofs.begun.Begun.make.Goals as goal

-- the call was made on the session of all calls
called : (c : goal.In_ok-due)
    → call c.args.self.now.cap (session_in c.in_ok-session.session) c.args.op.now ≡ record { session = session_in c.call.new.self; answer = c.in_ok-due.due }
called c =
    subst (λ k. call k (session_in c.in_ok-session.session) c.args.op.now ≡ record { session = session_in c.call.new.self; answer = c.in_ok-due.due })
    c.session.ensures.cap c.in_ok-due.ensures

pub returns-clause-left : goal.returns-clause-left
returns-clause-left c =
    subst (λ k. session_in c.call.new.self ≡ session_after k c.session.new.self.tree (ops_of c.session.new.self.calls.items ++ c.args.op.now ∷ []))
    (sym c.session.ensures.cap)
    (call-left c.args.self.now.cap (transaction_in c.args.self.now) c.args.op.now (session_in c.in_ok-session.session)
    (session_in c.call.new.self) c.in_ok-due.due
    (all_ops c.args.self.now.calls.items c.args.self.now.replayed c.requires.live) c.in_ok-session.ensures.left (called c)
    ∙ ap (λ (x : Transaction). session_after c.args.self.now.cap x.tree (x.ops ++ c.args.op.now ∷ [])) (sym c.session.ensures.stays))

pub returns-clause-due : goal.returns-clause-due
returns-clause-due c m most =
    call_due c.args.self.now.cap (transaction_in c.args.self.now) c.args.op.now (session_in c.in_ok-session.session)
    (session_in c.call.new.self) c.in_ok-due.due
    (all_ops c.args.self.now.calls.items c.args.self.now.replayed c.requires.live) c.in_ok-session.ensures.left (called c) m most

pub returns-clause-logged : goal.returns-clause-logged
returns-clause-logged c =
    IsLogged-called c.session.new.self.cap (session_in c.in_ok-session.session) (session_in c.call.new.self) c.args.op.now c.in_ok-due.due c.in_ok-due.ensures
