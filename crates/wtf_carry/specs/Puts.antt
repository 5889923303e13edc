-- The lines that put a file, and how they come to be written.
use Rattle.std.specs.Prelude.{◌≡◌, ◌≢◌, ◌⊎◌, ℕ, ◌+◌, ◌<◌, ◌≤◌, List, [], ◌∷◌, ◌++◌, length, Option, Some, None, Result, Ok, Err}
use Rattle.std.specs.List.{flat_map, All}
use Rattle.hex.specs.Hex.{IsBytes}
use Rattle.wtf_path.specs.Grammar.{IsPath}
use Rattle.wtf_model.specs.declared.limits.TheConstants.{MAX_WRITTEN}
use Rattle.wtf_script.specs.declared.limits.TheConstants.{SCRIPT_BYTES}
use Rattle.wtf_carry.specs.declared.stop.Stop.{Stop}
use Rattle.wtf_carry.specs.declared.stop.Stop.TheVariants as stop
use Rattle.wtf_carry.specs.declared.TheConstants.{MOST_BYTES}
use Rattle.wtf_carry.specs.Asked.{Asked, Asks, asked_text, begin_line, try_line, create_line, open_line, write_line, turn, total, carried, writes}
use Rattle.wtf_carry.specs.Ways.{IsWayUp, mkdirs}

-- the lines before the first piece: the directories on the way are made, from the root down, and the file is created
abbrev pub head_lines : List ℕ → List (List ℕ) → List Asked
head_lines path up = begin_line ∷ (mkdirs up ++ create_line path ∷ open_line path ∷ [])

-- the lines that put these pieces at a path, whose directories are these from the innermost one out
abbrev pub put_lines : List ℕ → List (List ℕ) → List (List ℕ) → List Asked
put_lines path up pieces = head_lines path up ++ (carried writes path 0 0 pieces ++ try_line ∷ [])

-- the bytes of all pieces, one after the other
abbrev pub joined : List (List ℕ) → List ℕ
joined pieces = flat_map (λ piece. piece) pieces

-- what one write may carry
abbrev pub IsPiece : List ℕ → Type 0
IsPiece piece = (1 ≤ length piece) × (length piece ≤ MAX_WRITTEN) × IsBytes piece

-- as much as one write may carry
abbrev pub IsFullPiece : List ℕ → Type 0
IsFullPiece piece = length piece ≡ MAX_WRITTEN

-- all of them but the last are full
abbrev pub AreFilled : List (List ℕ) → Type 0
AreFilled [] = Unit {0}
AreFilled (piece ∷ []) = Unit {0}
AreFilled (piece ∷ next ∷ pieces) = IsFullPiece piece × AreFilled (next ∷ pieces)

-- the bytes `all` were turned into the lines that put them, behind what the sink had
pub record Puts (path all old : List ℕ) (new : Option (List ℕ)) : Type 0 where
  pub up : List (List ℕ)
  pub pieces : List (List ℕ)
  -- the directories of the path
  pub way : IsWayUp path up
  -- the writes, laid one after the other, are the bytes
  pub bytes : joined pieces ≡ all
  pub sized : All IsPiece pieces
  pub filled : AreFilled pieces
  pub few : length all ≤ MOST_BYTES
  pub new_is : new ≡ Some (old ++ asked_text (put_lines path up pieces))
  -- all lines are within a script
  pub within : length (asked_text (put_lines path up pieces)) ≤ SCRIPT_BYTES
  -- each line is taken as the event that it is to ask for
  pub asks : All Asks (put_lines path up pieces)

-- the lines before the first piece were appended
pub record HasHead (path old new : List ℕ) : Type 0 where
  pub is_path : IsPath path
  pub up : List (List ℕ)
  pub way : IsWayUp path up
  pub new_is : new ≡ old ++ asked_text (head_lines path up)

-- what the source had and has left, and what the sink had and has taken
pub record Passage : Type 0 where
  pub rest : List ℕ
  pub old : List ℕ
  pub left : Option (List ℕ)
  pub new : Option (List ℕ)

abbrev pub passage : List ℕ → List ℕ → Option (List ℕ) → Option (List ℕ) → Passage
passage rest old left new = record { rest = rest; old = old; left = left; new = new }

-- a piece of n bytes was read and its lines written
pub record Carries (path : List ℕ) (i at n : ℕ) (p : Passage) : Type 0 where
  pub piece : List ℕ
  pub then : List ℕ
  pub rest_is : p.rest ≡ piece ++ then
  pub left_is : p.left ≡ Some then
  pub count : length piece ≡ n
  pub is : IsPiece piece
  -- it is full, or the last one
  pub full : IsFullPiece piece ⊎ (then ≡ [])
  pub new_is : p.new ≡ Some (p.old ++ asked_text (turn try_line path i at ++ write_line piece ∷ []))

-- nothing is left
pub record CarriesEnd (p : Passage) : Type 0 where
  pub rest_is : p.rest ≡ []
  pub new_is : p.new ≡ Some p.old

-- what came of asking for a piece
abbrev pub CarriesTo : List ℕ → ℕ → ℕ → Passage → Result (Option ℕ) Stop → Type 0
CarriesTo path i at p (Ok (Some n)) = Carries path i at n p
CarriesTo path i at p (Ok None) = CarriesEnd p
CarriesTo path i at p (Err stop.TooLong) = MOST_BYTES < at + length p.rest
CarriesTo path i at p (Err why) = Unit {0}

-- so far i pieces of `all`, of `at` bytes together, were read and their lines written
pub record Sofar (path all old : List ℕ) (i at : ℕ) (left new : Option (List ℕ)) : Type 0 where
  pub is_path : IsPath path
  pub up : List (List ℕ)
  pub pieces : List (List ℕ)
  pub rest : List ℕ
  pub way : IsWayUp path up
  pub bytes : all ≡ joined pieces ++ rest
  pub left_is : left ≡ Some rest
  pub sized : All IsPiece pieces
  pub filled : AreFilled pieces
  -- what is left comes behind full pieces
  pub full : rest ≢ [] → All IsFullPiece pieces
  pub count : i ≡ length pieces
  pub size : at ≡ total (λ piece. length piece) pieces
  pub new_is : new ≡ Some (old ++ asked_text (head_lines path up ++ carried writes path 0 0 pieces))
