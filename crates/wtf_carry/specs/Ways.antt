-- The directories on the way to a path.
use Rattle.std.specs.Prelude.{◌≡◌, ◌≢◌, ◌⊎◌, ℕ, List, [], ◌∷◌, ◌++◌, codes, Some, None}
use Rattle.wtf_path.specs.Grammar.{IsPath}
use Rattle.wtf_path.specs.Parts.{parent_of}
use Rattle.wtf_carry.specs.Asked.{Asked, mkdir_line, asked_text}

-- the directories that a path stands in, from the innermost one out, but not the root
abbrev pub IsWayUp : List ℕ → List (List ℕ) → Type 0
IsWayUp path [] = (parent_of path ≡ Some (codes "/")) ⊎ (parent_of path ≡ None)
IsWayUp path (d ∷ ds) = (parent_of path ≡ Some d) × (d ≢ codes "/") × IsPath d × IsWayUp d ds

-- the lines that make them, from the root down
abbrev pub mkdirs : List (List ℕ) → List Asked
mkdirs [] = []
mkdirs (d ∷ ds) = mkdirs ds ++ mkdir_line d ∷ []

-- the lines that make them were appended, from the root down
pub record HasWays (path old new : List ℕ) : Type 0 where
  pub up : List (List ℕ)
  pub is : IsWayUp path up
  pub new_is : new ≡ old ++ asked_text (mkdirs up)
