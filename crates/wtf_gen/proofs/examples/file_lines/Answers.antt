use Rattle.std.proofs.Common.{refl}
use Rattle.wtf_gen.proofs.OnLiterals.{lines_on_literals}
use Rattle.wtf_gen.proofs.examples.file_lines.Goals as goal

pub returns-clause-create : goal.returns-clause-create
unfolding lines_on_literals
returns-clause-create c = refl

pub returns-clause-opened : goal.returns-clause-opened
unfolding lines_on_literals
returns-clause-opened c = refl

pub returns-clause-opened_too : goal.returns-clause-opened_too
unfolding lines_on_literals
returns-clause-opened_too c = refl

pub returns-clause-stat : goal.returns-clause-stat
unfolding lines_on_literals
returns-clause-stat c = refl

pub returns-clause-copy : goal.returns-clause-copy
unfolding lines_on_literals
returns-clause-copy c = refl

pub returns-clause-unlink : goal.returns-clause-unlink
unfolding lines_on_literals
returns-clause-unlink c = refl
