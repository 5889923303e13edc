use Rattle.std.proofs.Common.{refl}
use Rattle.wtf_gen.proofs.OnLiterals.{lines_on_literals}
use Rattle.wtf_gen.proofs.examples.slice_lines.Goals as goal

pub returns-clause-yank : goal.returns-clause-yank
unfolding lines_on_literals
returns-clause-yank c = refl

pub returns-clause-paste : goal.returns-clause-paste
unfolding lines_on_literals
returns-clause-paste c = refl

pub returns-clause-glue : goal.returns-clause-glue
unfolding lines_on_literals
returns-clause-glue c = refl

pub returns-clause-peek : goal.returns-clause-peek
unfolding lines_on_literals
returns-clause-peek c = refl
