use Rattle.std.proofs.Common.{List, ℕ, subst, ◌∙◌}
use Rattle.wtf_path.specs.Grammar.{IsPath}
use Rattle.wtf_path.specs.Slashes.{IsAroundLast}
use Rattle.wtf_path.proofs.LastName.{name-cut, name-is_name}
use Rattle.wtf_path.proofs.path.Path.name.Goals as goal

pub returns-clause-value : goal.returns-clause-value
returns-clause-value c =
    name-cut c.args.self.now _ _
    (subst (λ (t : List ℕ). IsAroundLast t c.around_last_slash.result.0.now c.around_last_slash.result.1.now) (c.as_slice.ensures.value ∙ c.self.view_is) c.around_last_slash.ensures)

pub returns-clause-well_formed : goal.returns-clause-well_formed
returns-clause-well_formed c =
    name-is_name c.args.self.now _ _
    (subst (λ (t : List ℕ). IsAroundLast t c.around_last_slash.result.0.now c.around_last_slash.result.1.now) (c.as_slice.ensures.value ∙ c.self.view_is) c.around_last_slash.ensures)
    (subst IsPath c.self.view_is c.self.invariant)
