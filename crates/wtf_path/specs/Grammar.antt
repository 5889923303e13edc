-- What a path is. 47 is `/`, and 33 to 126 are the bytes that can be seen, `!` to `~`.
use Rattle.std.specs.Prelude.{◌≡◌, ◌≢◌, ℕ, ◌≤◌, List, [], ◌∷◌, length, codes, All}
use Rattle.std.specs.List.{join_with_byte}

-- a name has at least one byte, each of them one that can be seen and no slash, and is neither `.` nor `..`
pub record IsName (name : List ℕ) : Type 0 where
  pub some : name ≢ []
  pub not_dot : name ≢ codes "."
  pub not_dot_dot : name ≢ codes ".."
  pub bytes : All (λ b. (33 ≤ b) × (b ≤ 126) × (b ≢ 47)) name

-- the path with these names, from the root down; with none it is the root, `/`
abbrev pub spelling : List (List ℕ) → List ℕ
spelling names = 47 ∷ join_with_byte 47 names

-- the bytes spell at most 32 names in at most 1,023 bytes
pub record IsPath (bytes : List ℕ) : Type 0 where
  pub names : List (List ℕ)
  pub spelled : bytes ≡ spelling names
  pub each : All IsName names
  pub depth : length names ≤ 32
  pub size : length bytes ≤ 1023
