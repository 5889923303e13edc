use Rattle.std.proofs.Common.{refl}
use Rattle.clap.proofs.OnLiterals.{clap_on_literals}
use Rattle.wtf_words.proofs.examples.taken_words.Goals as goal

pub returns-clause-none : goal.returns-clause-none
unfolding clap_on_literals
returns-clause-none c = refl

pub returns-clause-all : goal.returns-clause-all
unfolding clap_on_literals
returns-clause-all c = refl

pub returns-clause-generated : goal.returns-clause-generated
unfolding clap_on_literals
returns-clause-generated c = refl

pub returns-clause-greatest : goal.returns-clause-greatest
unfolding clap_on_literals
returns-clause-greatest c = refl
