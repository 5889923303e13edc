-- A text cut at its last slash.
use Rattle.std.specs.Prelude.{◌≡◌, ◌≢◌, ℕ, List, ◌∷◌, ◌++◌, All}

-- the text is these two with a slash between them, and the later one has none
pub record IsAroundLast (text before after : List ℕ) : Type 0 where
  pub joined : text ≡ before ++ 47 ∷ after
  pub last : All (λ b. b ≢ 47) after
