use Rattle.std.proofs.Common.{◌↔◌, IsTrue, sym, subst}
use Rattle.wtf_model.specs.Lawful.{IsDone}
use Rattle.wtf_machine.proofs.begun.Begun.is_next_done.Goals as goal

pub returns : goal.returns
returns c = subst (λ x. IsTrue c.is_done-done.result ↔ IsDone x) (sym c.in_ok-due.ensures) c.is_done-done.ensures
