-- The names of a path, the last of them, and the path to the directory that it stands in.
use Rattle.std.specs.Prelude.{ℕ, Bool, ◌==◌, if◌then◌else◌, List, [], ◌∷◌, ◌++◌, Option, Some, None, codes, bytes_eq}
use Rattle.std.specs.List.{slice_split}
use Rattle.wtf_path.specs.Grammar.{spelling}

abbrev pub is_slash : ℕ → Bool
is_slash b = b == 47

-- the parts between slashes, empty ones too; no byte has no part
abbrev pub parts_of : List ℕ → List (List ℕ)
parts_of [] = []
parts_of (b ∷ bs) = slice_split is_slash (b ∷ bs)

-- the parts behind the first byte
abbrev pub names_of : List ℕ → List (List ℕ)
names_of [] = []
names_of (_ ∷ behind) = parts_of behind

abbrev pub last_name : List (List ℕ) → List ℕ
last_name [] = []
last_name (n ∷ []) = n
last_name (n ∷ m ∷ ns) = last_name (m ∷ ns)

abbrev pub without_last : List (List ℕ) → List (List ℕ)
without_last [] = []
without_last (n ∷ []) = []
without_last (n ∷ m ∷ ns) = n ∷ without_last (m ∷ ns)

-- the last name, and nothing for the root
abbrev pub name_of : List ℕ → List ℕ
name_of path = last_name (names_of path)

-- the path with these names but for the last of them
abbrev pub parent_with : List (List ℕ) → Option (List ℕ)
parent_with [] = None
parent_with (n ∷ ns) = Some (spelling (without_last (n ∷ ns)))

-- the directory that a path stands in; the root stands in none
abbrev pub parent_of : List ℕ → Option (List ℕ)
parent_of path = parent_with (names_of path)

-- what stands before each name in a directory: its path and a slash; in the root, only the slash
abbrev pub entry_prefix : List ℕ → List ℕ
entry_prefix directory = if bytes_eq directory (codes "/") then codes "/" else directory ++ codes "/"
