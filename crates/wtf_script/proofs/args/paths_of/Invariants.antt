use Rattle.std.proofs.Common.{◌≡◌, length}
use Rattle.wtf_lex.specs.Words.{words_behind}
use Rattle.wtf_script.specs.Arguments.{paths_of}
use Rattle.wtf_script.proofs.PathLaws.{with_front}
use Rattle.wtf_script.proofs.args.paths_of.Given as goal

-- the paths so far, and those of the words left, are those of all words
abbrev pub invariant-loop-word : goal.invariant-loop-word
invariant-loop-word l =
    with_front l.paths.items (paths_of (words_behind l.behind)) ≡ paths_of (words_behind l.fn.words)

abbrev pub decreases-loop-word : goal.decreases-loop-word
decreases-loop-word l = length l.behind
