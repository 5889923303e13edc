use Rattle.std.proofs.Common.{◌↔◌, ◌<◌, ℕ, List, IsTrue, length, refl, sym, ap, ap₂, ◌∙◌, subst}
use Rattle.std.proofs.lemmas.Result.{IfOk-weaker}
use Rattle.wtf_model.specs.declared.op.Op.{Op}
use Rattle.wtf_model.specs.Transaction.{Transaction}
use Rattle.wtf_model.specs.Lawful.{MayCall, MayFail}
use Rattle.wtf_model.specs.Machines.{due}
use Rattle.wtf_machine.specs.Verdicts.{transaction_in, called_on}
use Rattle.wtf_machine.proofs.LogLaws.{not_so}
use Rattle.wtf_machine.proofs.ClientLaws.{on_error}
use Rattle.wtf_machine.proofs.BegunLaws.{called_on-fault, fault-lawful}
use Rattle.wtf_machine.proofs.begun.Begun.call.Goals as goal

pub returns-then-is_store_fault-clause-lawful : goal.returns-then-is_store_fault-clause-lawful
returns-then-is_store_fault-clause-lawful c =
    let t = transaction_in c.args.self.now in
    let o = c.args.op.now in
    IfOk-weaker c.may_fail.result _ _
    (λ b fails m runs. fault-lawful m t o c.args.answer.now (c.if-is_store_fault.ensures.0 refl) b
    (subst (λ n. IsTrue b ↔ MayFail n o (due m t o) c.args.answer.now) (sym runs.1) (fails m runs.0)))
    c.may_fail.ensures

pub returns-then-is_store_fault-clause-next : goal.returns-then-is_store_fault-clause-next
returns-then-is_store_fault-clause-next c =
    IfOk-weaker c.may_fail.result _ _
    (λ b fails lawful. sym (called_on-fault (transaction_in c.args.self.now) c.args.op.now c.args.answer.now (c.if-is_store_fault.ensures.0 refl)))
    c.may_fail.ensures

pub accept-requires : goal.accept-requires
accept-requires c = record {
  live = ap (λ (t : Transaction). t.replayed) c.make_room.ensures.stays ∙ c.requires.live ∙ ap length (sym c.make_room.ensures.items);
  few = subst (λ l. length l < 4096) (sym c.make_room.ensures.items) c.requires.room;
  room = c.in_ok-make_room.ensures.room;
  sound = λ fault. not_so (c.if-is_store_fault.ensures.1 fault);
}

pub returns-clause-lawful : goal.returns-clause-lawful
returns-clause-lawful c =
    IfOk-weaker c.accept.result _ _
    (λ b is m runs. subst (λ (t : Transaction). IsTrue b ↔ MayCall m t c.args.op.now c.args.answer.now) c.make_room.ensures.stays
    (subst (λ (o : Op (List ℕ)). IsTrue b ↔ MayCall m (transaction_in c.make_room.new.self) o c.args.answer.now) c.in_ok-own.ensures
    (is m (runs.0 ∙ sym c.make_room.ensures.cap))))
    c.accept.ensures.lawful

pub returns-clause-next : goal.returns-clause-next
returns-clause-next c =
    IfOk-weaker c.accept.result _ _
    (λ b is yes. is yes ∙ ap₂ (λ (t : Transaction) (o : Op (List ℕ)). called_on t o c.args.answer.now) c.make_room.ensures.stays c.in_ok-own.ensures)
    c.accept.ensures.next

pub returns-clause-stays : goal.returns-clause-stays
returns-clause-stays c = IfOk-weaker c.accept.result _ _ (λ b is no. is no ∙ c.make_room.ensures.stays) c.accept.ensures.stays

pub returns-clause-err : goal.returns-clause-err
returns-clause-err c = on_error c.accept.result _ _ (λ same. same ∙ c.make_room.ensures.stays) c.accept.ensures.err
