use Rattle.wtf_image.specs.Rules.{none_lost}
use Rattle.wtf_image.proofs.Said.{saves_again, saves_the_same, loaded_before}
use Rattle.wtf_image.proofs.examples.what_was_loaded_is_its_image.Goals as goal

pub returns-clause-image : goal.returns-clause-image
returns-clause-image c = λ size bytes l load. saves_again none_lost size bytes l load

pub returns-clause-same : goal.returns-clause-same
returns-clause-same c = λ size bytes l load two. saves_the_same none_lost size bytes l load two

pub returns-clause-before : goal.returns-clause-before
returns-clause-before c = λ size bytes l load. loaded_before none_lost size bytes l load
