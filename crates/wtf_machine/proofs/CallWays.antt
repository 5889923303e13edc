-- A call in which the greatest length of a file plays no part is one for each.
use Rattle.std.proofs.Common.{◌≡◌, ℕ, List, Result, Ok, Err, IfOk, sym, subst}
use Rattle.wtf_model.specs.declared.answer.Answer.{Answer}
use Rattle.wtf_model.specs.declared.op.Op.{Op}
use Rattle.wtf_machine.specs.declared.workspace.Workspace.{Workspace}
use Rattle.wtf_machine.specs.Sessions.{IsCalled}

pub at_cap : {E : Type 0} (r : Result Answer E) (cap : ℕ) (o made : Op (List ℕ)) (old new : Workspace) → o ≡ made
    → IfOk r (λ a. (k : ℕ) → IsCalled k made old new a) → IfOk r (λ a. IsCalled cap o old new a)
at_cap (Ok a) cap o made old new is h = subst (λ x. IsCalled cap x old new a) (sym is) (h cap)
at_cap (Err e) cap o made old new is h = h

pub of_call : (a : Answer) (cap : ℕ) (o made : Op (List ℕ)) (old new : Workspace) → o ≡ made → ((k : ℕ) → IsCalled k made old new a) → IsCalled cap o old new a
of_call a cap o made old new is h = subst (λ x. IsCalled cap x old new a) (sym is) (h cap)
