use Rattle.std.proofs.Common.{refl, ap}
use Rattle.wtf_model.specs.declared.answer.Answer.TheVariants as answer
use Rattle.wtf_model.specs.NameCalls.{stat}
use Rattle.wtf_model.specs.Examples.{unchanged}
use Rattle.wtf_model.proofs.PathLaws.{count-only}
use Rattle.wtf_model.proofs.name_examples.tells_nodes.Goals as goal

pub returns : goal.returns
unfolding stat
returns c = record {
  file = λ cap s p paths there. rw there refl;
  alone = λ cap s p there. rw there (ap (λ n. unchanged s (answer.File 3 n)) (count-only p));
  directory = λ cap s p there. rw there refl;
  missing = λ cap s p none. rw none refl;
}
