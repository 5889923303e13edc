-- The servers that words name, one after another.
use Rattle.std.proofs.Common.{◌≡◌, ℕ, List, [], ◌∷◌, Some, None, refl}
use Rattle.wtf_healer.specs.Words.{with_words, lost_in}

-- once a word was refused all are
pub none_with : (ws : List (List ℕ)) → with_words None ws ≡ None
none_with [] = refl
none_with (w ∷ ws) = none_with ws

-- words that are some are named from the first on
pub named : (ws : List (List ℕ)) → (ws ≡ [] → ⊥) → lost_in ws ≡ with_words (Some []) ws
named [] some = absurd (some refl)
named (w ∷ ws) some = refl
