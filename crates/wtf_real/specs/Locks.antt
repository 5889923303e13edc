-- The lock on a folder.
use Rattle.std.specs.Prelude.{◌≡◌, ℕ, Bool, true, List, Option, IfSome}

pub record Locked (F : Type 0) : Type 0 where
  -- the file that is locked
  pub file : F
  -- the folder's path
  pub dir : List ℕ

-- no one else held the file, where it tells
abbrev pub WasFree : {F : Type 0} → (F → Option Bool) → F → Type 0
WasFree is_free file = IfSome (is_free file) (λ free. free ≡ true)
