use Rattle.std.proofs.Common.{◌≡◌, ◌≤◌, drop}
use Rattle.wtf_lex.specs.Numbers.{value_from}
use Rattle.wtf_lex.proofs.numbers.number_within.Given as goal

-- the digits so far spell the value, and those left go on from it
abbrev pub invariant-loop-d : goal.invariant-loop-d
invariant-loop-d l =
    (l.value ≤ l.most) × (value_from l.value (drop l.d-index l.word) ≡ value_from 0 l.word)
