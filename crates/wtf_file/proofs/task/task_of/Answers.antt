use Rattle.std.proofs.Common.{string_bytes, arith, sym}
use Rattle.std.proofs.lemmas.Bool.Decides.{nat_tests}
use Rattle.wtf_file.proofs.WordLaws.{others-no_task}
use Rattle.wtf_file.proofs.task.task_of.Goals as goal
use Rattle.wtf_file.proofs.task.task_of.Goals.{in_default-via-then-words-lt2, in_default-via-else-words-lt2+else-words-lt3+else-words-lt4}

pub returns-in_default-clause-asked : goal.returns-in_default-clause-asked
returns-in_default-clause-asked c = elim c.in_default.branch [
  | in_default-via-then-words-lt2 w ↦ sym (others-no_task string_bytes c.args.words.now (grind (arith, nat_tests)) (grind (arith, nat_tests)))
  | in_default-via-else-words-lt2+else-words-lt3+else-words-lt4 w ↦
      sym (others-no_task string_bytes c.args.words.now (grind (arith, nat_tests)) (grind (arith, nat_tests)))
]
