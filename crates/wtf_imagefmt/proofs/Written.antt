-- One text written behind another.
use Rattle.std.proofs.Common.{◌≡◌, ℕ, List, ◌++◌, ap, ◌∙◌, append_assoc}

pub text_then : (a b c s t : List ℕ) → b ≡ a ++ s → c ≡ b ++ t → c ≡ a ++ (s ++ t)
text_then a b c s t one two = two ∙ ap (λ (m : List ℕ). m ++ t) one ∙ append_assoc a s t
