use Rattle.std.proofs.Common.{◌≡◌, length}
use Rattle.wtf_lex.specs.Words.{words_behind}
use Rattle.wtf_print.specs.Pieces.{each_of, row_of}
use Rattle.wtf_print.proofs.Lists.{with_front}
use Rattle.wtf_print.proofs.parts.rows_of.Given as goal

-- the rows so far, and those of the words left, are those of all words
abbrev pub invariant-loop-word : goal.invariant-loop-word
invariant-loop-word l =
    with_front l.rows.items (each_of row_of (words_behind l.behind)) ≡ each_of row_of (words_behind l.fn.words)

abbrev pub decreases-loop-word : goal.decreases-loop-word
decreases-loop-word l = length l.behind
