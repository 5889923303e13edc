use Rattle.std.proofs.Common.{refl}
use Rattle.wtf_gen.proofs.OnLiterals.{lines_on_literals}
use Rattle.wtf_gen.proofs.examples.byte_lines.Goals as goal

pub returns-clause-write : goal.returns-clause-write
unfolding lines_on_literals
returns-clause-write c = refl

pub returns-clause-write_too : goal.returns-clause-write_too
unfolding lines_on_literals
returns-clause-write_too c = refl

pub returns-clause-append : goal.returns-clause-append
unfolding lines_on_literals
returns-clause-append c = refl

pub returns-clause-read : goal.returns-clause-read
unfolding lines_on_literals
returns-clause-read c = refl

pub returns-clause-seek : goal.returns-clause-seek
unfolding lines_on_literals
returns-clause-seek c = refl

pub returns-clause-punch : goal.returns-clause-punch
unfolding lines_on_literals
returns-clause-punch c = refl

pub returns-clause-truncate : goal.returns-clause-truncate
unfolding lines_on_literals
returns-clause-truncate c = refl
