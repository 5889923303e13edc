use Rattle.wtf_model.proofs.MachineLaws.{after-machine_refusal, after-call_refusal}
use Rattle.wtf_model.proofs.examples.refusals_of_the_machine_are_not_logged.Goals as goal

pub returns : goal.returns
returns c = record { leaves = after-machine_refusal; logged = after-call_refusal }
