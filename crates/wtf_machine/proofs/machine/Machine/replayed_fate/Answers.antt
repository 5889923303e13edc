use Rattle.std.proofs.Common.{◌≡◌, None, Some, drop, refl, sym, subst, ◌∙◌}
use Rattle.std.proofs.lemmas.Result.{IfOk-weaker}
use Rattle.wtf_model.specs.Lawful.{MayCommit}
use Rattle.wtf_model.specs.Transaction.{Transaction}
use Rattle.wtf_machine.specs.Verdicts.{open_in, IsFate}
use Rattle.wtf_machine.specs.Machines.{machine_in}
use Rattle.wtf_machine.proofs.MachineWays.{found_same}
use Rattle.wtf_machine.proofs.machine.Machine.replayed_fate.Goals as goal

pub returns-in_default : goal.returns-in_default
returns-in_default c t there = let none : None ≡ Some t = c.in_default.ensures.value ∙ there in absurd (cc)

pub returns : goal.returns
returns c t there =
    let k = c.args.self.now in
    let m = machine_in k in
    let b = c.in-Some.t.now in
    let a = c.args.answer.now in
    let x = open_in k.clients.changed.items b in
    IfOk-weaker c.commit.result _ _
    (λ f comes. subst (λ (y : Transaction). IsFate (MayCommit m y a) m y a f) (found_same x t _ c.in-Some.ensures.value there)
    (comes m (drop b.since k.clients.changed.items) (sym k.cap_is ∙ sym c.in-Some.ensures.cap, refl) refl refl))
    c.commit.ensures
