use Rattle.wtf_meta.proofs.Running.{run_on}
use Rattle.wtf_meta.proofs.Nothing.{run_none}
use Rattle.wtf_meta.proofs.examples.runs_go_on.Goals as goal

pub returns-clause-none : goal.returns-clause-none
returns-clause-none c = run_none

pub returns-clause-one_more : goal.returns-clause-one_more
returns-clause-one_more c = run_on
