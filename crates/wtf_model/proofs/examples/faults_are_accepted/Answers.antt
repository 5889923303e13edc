use Rattle.wtf_model.proofs.StepLaws.{fault_only, after-Damaged}
use Rattle.wtf_model.proofs.Worked.{faults}
use Rattle.wtf_model.proofs.examples.faults_are_accepted.Goals as goal

pub returns-clause-accepted : goal.returns-clause-accepted
returns-clause-accepted c = faults

pub returns-clause-damage_leaves : goal.returns-clause-damage_leaves
returns-clause-damage_leaves c = after-Damaged

pub returns-clause-only : goal.returns-clause-only
returns-clause-only c = fault_only
