-- Spans of time of the stores of a shelf.
use Rattle.std.specs.Prelude.{ℕ, Bool, List}

-- A span of time of the stores of a shelf, as a call or an event: which servers are down in it, and the stores at its begin
-- and at its end.
pub record Span (S : Type 0) : Type 0 where
  pub down : ℕ → Bool
  pub before : List S
  pub after : List S

abbrev pub span : {S : Type 0} → (ℕ → Bool) → List S → List S → Span S
span down before after = record { down = down; before = before; after = after }
