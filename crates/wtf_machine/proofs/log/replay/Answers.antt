use Rattle.std.proofs.Common.{◌+◌, refl, sym, subst, arith}
use Rattle.wtf_machine.specs.Sessions.{session_in}
use Rattle.wtf_machine.specs.Logs.{ops_of, shown_of}
use Rattle.wtf_model.specs.Lawful.{Deviates}
use Rattle.wtf_model.specs.Transaction.{answers_of}
use Rattle.wtf_machine.proofs.LogLaws.{not_so, Agree-more, Agree-not, Agree-all, IsLogged-called}
use Rattle.wtf_machine.proofs.log.replay.Goals as goal

pub is_same_answer-requires : goal.is_same_answer-requires
is_same_answer-requires c = IsLogged-called c.args.cap (session_in c.loop-logged.session)
    (session_in c.call.new.self) c.logged-item.result.op c.in_ok-due.due c.in_ok-due.ensures

pub returns-then-not-is_same_answer : goal.returns-then-not-is_same_answer
returns-then-not-is_same_answer c =
    subst (λ i. Deviates (answers_of c.args.cap c.args.tree.now (ops_of c.args.calls.now)) (shown_of c.args.calls.now) (i + 1) c.in_ok-due.due)
    (sym c.loop-logged.invariant.counted)
    (Agree-not _ _ _ c.loop-logged.logged-index _ c.loop-logged.invariant.agree (session_in c.call.new.self) c.logged-item.result _
    c.loop-logged-test.true c.logged-item.is c.in_ok-due.ensures (λ e. not_so (c.if-not-is_same_answer.ensures.1 e)))

pub loop-logged-preserved : goal.loop-logged-preserved
loop-logged-preserved c = record {
  counted = omega arith;
  agree = Agree-more _ _ _ c.loop-logged.logged-index _ c.loop-logged.invariant.agree (session_in c.call.new.self) c.logged-item.result c.in_ok-due.due
      c.loop-logged-test.true c.logged-item.is c.in_ok-due.ensures (c.if-not-is_same_answer.ensures.0 refl);
}

pub returns : goal.returns
returns c = Agree-all _ _ _ c.loop-logged.logged-index _ c.loop-logged.invariant.agree (omega arith)
