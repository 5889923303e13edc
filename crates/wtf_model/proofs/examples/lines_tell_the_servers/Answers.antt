use Rattle.wtf_model.proofs.LineLaws.{Accepts-from_lines}
use Rattle.wtf_model.proofs.ServerLaws.{is_down-none, is_down-lines}
use Rattle.wtf_model.proofs.examples.lines_tell_the_servers.Goals as goal

pub returns-clause-first : goal.returns-clause-first
returns-clause-first c = is_down-none

pub returns-clause-all : goal.returns-clause-all
returns-clause-all c = is_down-lines

pub returns-clause-accepted : goal.returns-clause-accepted
returns-clause-accepted c = Accepts-from_lines
