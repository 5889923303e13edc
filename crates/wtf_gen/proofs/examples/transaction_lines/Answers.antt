use Rattle.std.proofs.Common.{refl}
use Rattle.wtf_gen.proofs.OnLiterals.{lines_on_literals}
use Rattle.wtf_gen.proofs.examples.transaction_lines.Goals as goal

pub returns-clause-begin : goal.returns-clause-begin
unfolding lines_on_literals
returns-clause-begin c = refl

pub returns-clause-begin_too : goal.returns-clause-begin_too
unfolding lines_on_literals
returns-clause-begin_too c = refl

pub returns-clause-attempt : goal.returns-clause-attempt
unfolding lines_on_literals
returns-clause-attempt c = refl

pub returns-clause-commit : goal.returns-clause-commit
unfolding lines_on_literals
returns-clause-commit c = refl

pub returns-clause-step : goal.returns-clause-step
unfolding lines_on_literals
returns-clause-step c = refl

pub returns-clause-abandon : goal.returns-clause-abandon
unfolding lines_on_literals
returns-clause-abandon c = refl
