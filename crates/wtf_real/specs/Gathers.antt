-- What contracts see of a writer and of what is held back for it.
use Rattle.std.specs.Prelude.{ℕ, Bool, List, Option}
use Rattle.std.specs.Io.KnownBytes.{append_known}

pub record Gather (W : Type 0) : Type 0 where
  pub to : W
  pub held : List ℕ
  -- a write failed
  pub broken : Bool

-- what the writer holds, where it is told, and behind it what is held back
abbrev pub all_of : {W : Type 0} → (W → Option (List ℕ)) → Gather W → Option (List ℕ)
all_of contents g = append_known (contents g.to) g.held
