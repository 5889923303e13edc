use Rattle.std.proofs.Common.{◌≡◌, ℕ, List, [], Some, drop, map}
use Rattle.std.specs.Prelude.{string_bytes}
use Rattle.wtf_healer.specs.Words.{with_words}
use Rattle.wtf_healer.specs.Spared.{IsLostOf}
use Rattle.wtf_healer.proofs.words.lost_by.Given as goal

abbrev pub invariant-loop-word : goal.invariant-loop-word
invariant-loop-word l =
    (ks : List ℕ) × IsLostOf ks l.lost
    × (with_words (Some ks) (map string_bytes (drop l.word-index l.words)) ≡ with_words (Some []) (map string_bytes l.words))
