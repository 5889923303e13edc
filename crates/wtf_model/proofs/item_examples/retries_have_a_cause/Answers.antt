use Rattle.wtf_model.proofs.ItemExamples.{needless, untouched, lawful}
use Rattle.wtf_model.proofs.item_examples.retries_have_a_cause.Goals as goal

pub returns : goal.returns
returns c = record { untouched = untouched; needless = needless; lawful = lawful }
