use Rattle.wtf_model.proofs.ItemLaws.{writes-refused}
use Rattle.wtf_model.proofs.ItemExamples.{of_one}
use Rattle.wtf_model.proofs.item_examples.refused_calls.Goals as goal

pub returns : goal.returns
returns c = record { changes_nothing = writes-refused; run_of_one = of_one }
