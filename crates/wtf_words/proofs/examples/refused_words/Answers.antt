use Rattle.std.proofs.Common.{refl}
use Rattle.clap.proofs.OnLiterals.{clap_on_literals}
use Rattle.wtf_words.proofs.examples.refused_words.Goals as goal

pub returns-clause-servers : goal.returns-clause-servers
unfolding clap_on_literals
returns-clause-servers c = refl

pub returns-clause-replicas : goal.returns-clause-replicas
unfolding clap_on_literals
returns-clause-replicas c = refl

pub returns-clause-twice : goal.returns-clause-twice
unfolding clap_on_literals
returns-clause-twice c = refl

pub returns-clause-sign : goal.returns-clause-sign
unfolding clap_on_literals
returns-clause-sign c = refl

pub returns-clause-zero : goal.returns-clause-zero
unfolding clap_on_literals
returns-clause-zero c = refl

pub returns-clause-other : goal.returns-clause-other
unfolding clap_on_literals
returns-clause-other c = refl

pub returns-clause-no_lines : goal.returns-clause-no_lines
unfolding clap_on_literals
returns-clause-no_lines c = refl

pub returns-clause-no_number : goal.returns-clause-no_number
unfolding clap_on_literals
returns-clause-no_number c = refl

pub returns-clause-few : goal.returns-clause-few
unfolding clap_on_literals
returns-clause-few c = refl

pub returns-clause-many : goal.returns-clause-many
unfolding clap_on_literals
returns-clause-many c = refl

pub returns-clause-large : goal.returns-clause-large
unfolding clap_on_literals
returns-clause-large c = refl
