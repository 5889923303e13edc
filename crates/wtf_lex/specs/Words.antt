-- The words of a line.
use Rattle.std.specs.Prelude.{ℕ, ◌==◌, Bool, List, [], ◌∷◌, take, drop}
use Rattle.std.specs.List.{slice_split, position_or_len}

abbrev pub is_space : ℕ → Bool
is_space b = b == 32

-- the words of a line, parted by single spaces; two spaces in a row have an empty word between them
abbrev pub words_of : List ℕ → List (List ℕ)
words_of line = slice_split is_space line

-- the words behind a space, once those before it were taken off; where the line ends there is none
abbrev pub words_behind : List ℕ → List (List ℕ)
words_behind [] = []
words_behind (space ∷ rest) = words_of rest

-- a line cut at its first space: the word before it, and the space with what stands behind it
abbrev pub head_of : List ℕ → List ℕ
head_of line = take (position_or_len is_space line) line

abbrev pub behind_of : List ℕ → List ℕ
behind_of line = drop (position_or_len is_space line) line
