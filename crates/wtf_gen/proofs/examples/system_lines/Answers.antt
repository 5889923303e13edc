use Rattle.std.proofs.Common.{refl}
use Rattle.wtf_gen.proofs.OnLiterals.{lines_on_literals}
use Rattle.wtf_gen.proofs.examples.system_lines.Goals as goal

pub returns-clause-plan_compact : goal.returns-clause-plan_compact
unfolding lines_on_literals
returns-clause-plan_compact c = refl

pub returns-clause-plan_spill : goal.returns-clause-plan_spill
unfolding lines_on_literals
returns-clause-plan_spill c = refl

pub returns-clause-put : goal.returns-clause-put
unfolding lines_on_literals
returns-clause-put c = refl

pub returns-clause-scan : goal.returns-clause-scan
unfolding lines_on_literals
returns-clause-scan c = refl

pub returns-clause-piece : goal.returns-clause-piece
unfolding lines_on_literals
returns-clause-piece c = refl

pub returns-clause-collect : goal.returns-clause-collect
unfolding lines_on_literals
returns-clause-collect c = refl
