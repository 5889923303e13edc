use Rattle.wtf_print.proofs.Backs.{text-one}
use Rattle.wtf_print.proofs.print.print_answer.Goals as goal

pub returns-clause-one : goal.returns-clause-one
returns-clause-one c = λ other h k e. text-one c.args.answer.now other h k e
