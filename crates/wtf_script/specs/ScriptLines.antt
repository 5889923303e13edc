-- The lines of a script.
use Rattle.std.specs.Prelude.{ℕ, ◌==◌, cond, List, [], ◌∷◌, ◌++◌}
use Rattle.std.specs.List.{flat_map, Contains}

-- the byte that ends a line
abbrev pub line_feed : ℕ
line_feed = 10

-- a byte before the first line; where there is no line it makes one
abbrev pub before_first : ℕ → List (List ℕ) → List (List ℕ)
before_first b [] = (b ∷ []) ∷ []
before_first b (line ∷ lines) = (b ∷ line) ∷ lines

-- each line without its line feed; bytes after the last line feed are a line too
abbrev pub lines_of : List ℕ → List (List ℕ)
lines_of [] = []
lines_of (b ∷ bs) = cond (b == line_feed) ([] ∷ lines_of bs) (before_first b (lines_of bs))

-- a byte before the first line, where there is one
abbrev pub onto_first : ℕ → List (List ℕ) → List (List ℕ)
onto_first b [] = []
onto_first b (line ∷ lines) = (b ∷ line) ∷ lines

-- the lines that a line feed ends
abbrev pub ended_of : List ℕ → List (List ℕ)
ended_of [] = []
ended_of (b ∷ bs) = cond (b == line_feed) ([] ∷ ended_of bs) (onto_first b (ended_of bs))

-- lines as they stand in a script, each with its line feed
abbrev pub fed : List (List ℕ) → List ℕ
fed lines = flat_map (λ line. line ++ line_feed ∷ []) lines

-- no line feed is among the bytes
abbrev pub HasNoFeed : List ℕ → Type 0
HasNoFeed bytes = Contains bytes line_feed → ⊥
