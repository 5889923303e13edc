use Rattle.wtf_model.proofs.ItemExamples.{seen_by_others, seen_by_jobs}
use Rattle.wtf_model.proofs.item_examples.commits_are_seen.Goals as goal

pub returns : goal.returns
returns c = record { transactions = seen_by_others; jobs = seen_by_jobs }
