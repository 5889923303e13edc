use Rattle.std.proofs.Common.{refl}
use Rattle.wtf_image.proofs.LostLaws.{none_in_zero, taken_without}
use Rattle.wtf_image.proofs.examples.what_is_lost_is_not_tried.Goals as goal

pub returns-clause-none : goal.returns-clause-none
returns-clause-none c = λ k i. none_in_zero i k

pub returns-clause-whole : goal.returns-clause-whole
returns-clause-whole c = λ servers size p. refl

pub returns-clause-more : goal.returns-clause-more
returns-clause-more c = λ lost size bytes x taken. taken_without lost size bytes x taken
