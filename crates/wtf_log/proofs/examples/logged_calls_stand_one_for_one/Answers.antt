use Rattle.wtf_log.specs.Examples.{told_by}
use Rattle.wtf_log.proofs.StandingLaws.{OpsStandFor-length, OpsStandFor-at, OpsStandFor-push}
use Rattle.wtf_log.proofs.examples.logged_calls_stand_one_for_one.Goals as goal

pub returns-clause-length : goal.returns-clause-length
returns-clause-length c = λ test. OpsStandFor-length (told_by test)

pub returns-clause-each : goal.returns-clause-each
returns-clause-each c = λ test. OpsStandFor-at (told_by test)

pub returns-clause-push : goal.returns-clause-push
returns-clause-push c = λ test. OpsStandFor-push (told_by test)
