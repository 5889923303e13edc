use Rattle.std.proofs.Common.{refl}
use Rattle.wtf_gen.proofs.OnLiterals.{lines_on_literals}
use Rattle.wtf_gen.proofs.examples.first_lines.Goals as goal

pub returns-clause-client : goal.returns-clause-client
unfolding lines_on_literals
returns-clause-client c = refl

pub returns-clause-line : goal.returns-clause-line
unfolding lines_on_literals
returns-clause-line c = refl

pub returns-clause-behind : goal.returns-clause-behind
unfolding lines_on_literals
returns-clause-behind c = refl

pub returns-clause-script : goal.returns-clause-script
unfolding lines_on_literals
returns-clause-script c = refl
