-- Counts of lines by their first words.
use Rattle.std.specs.Prelude.{ℕ, ◌+◌, ◌<◌, cond, List, codes}
use Rattle.wtf_summary.specs.Summaries.{feeds, has_word, is_other, with_word, others}
use Rattle.wtf_summary.specs.declared.counts.Counts.{Counts}

-- one line more, of which this is the front
abbrev pub counted : Counts → List ℕ → Counts
counted counts line = record {
  lines = counts.lines + 1;
  committed = counts.committed + cond (has_word (codes "committed") line) 1 0;
  retry = counts.retry + cond (has_word (codes "retry") line) 1 0;
  aborted = counts.aborted + cond (has_word (codes "aborted") line) 1 0;
  installed = counts.installed + cond (has_word (codes "installed") line) 1 0;
  refused = counts.refused + cond (has_word (codes "refused") line) 1 0;
  other = counts.other + cond (is_other line) 1 0;
}

-- the counts of a text
abbrev pub counts_of : List ℕ → Counts
counts_of text = record {
  lines = feeds text;
  committed = with_word (codes "committed") text;
  retry = with_word (codes "retry") text;
  aborted = with_word (codes "aborted") text;
  installed = with_word (codes "installed") text;
  refused = with_word (codes "refused") text;
  other = others text;
}

-- each count is below n
pub record AreBelow (n : ℕ) (counts : Counts) : Type 0 where
  pub lines : counts.lines < n
  pub committed : counts.committed < n
  pub retry : counts.retry < n
  pub aborted : counts.aborted < n
  pub installed : counts.installed < n
  pub refused : counts.refused < n
  pub other : counts.other < n
