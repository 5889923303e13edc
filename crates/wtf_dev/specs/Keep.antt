-- What contracts see of a keeper of one image, and what every call keeps of it.
use Rattle.std.specs.Prelude.{◌≡◌, ℕ, ◌≤◌, ◌⊎◌, Bool, Option, Some, List}
use Rattle.std.specs.List.{Contains}

-- the count of faults, and the bytes held, where they are told
pub record KeeperView : Type 0 where
  pub faults : ℕ
  pub held : Option (List ℕ)
  -- whether this keeper tells what it is handed
  pub tells : Bool

-- What a later state keeps of an earlier one, between which these images were handed to `replace`:
-- it holds what it held, or one of them.
pub record KeeperKept (old new : KeeperView) (images : List (List ℕ)) : Type 0 where
  pub faults : old.faults ≤ new.faults
  pub bytes : (b : List ℕ) → old.held ≡ Some b → (new.held ≡ Some b) ⊎ ((image : List ℕ) × Contains images image × (new.held ≡ Some image))
  pub tells : new.tells ≡ old.tells
