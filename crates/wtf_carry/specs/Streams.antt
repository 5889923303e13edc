-- What filling a piece and writing a text give.
use Rattle.std.specs.Prelude.{◌≡◌, ℕ, min, List, ◌++◌, length, take, drop, Option, Some, Result, Ok, Err}

-- n bytes at the front of `out`, which has this room, came from a source that had `rest` left and has `left` now: as many as there is
-- room for, or all that were left
pub record Filled (n room : ℕ) (out rest : List ℕ) (left : Option (List ℕ)) : Type 0 where
  pub count : n ≡ min room (length rest)
  pub bytes : take n out ≡ take n rest
  pub left_is : left ≡ Some (drop n rest)

-- what came of filling a piece
abbrev pub Fills : {E : Type 0} → Result ℕ E → ℕ → List ℕ → List ℕ → Option (List ℕ) → Type 0
Fills (Ok n) room out rest left = Filled n room out rest left
Fills (Err e) room out rest left = Unit {0}

-- all of a text was taken, or a front of it where the sink failed
abbrev pub LinesTaken : {E : Type 0} → List ℕ → List ℕ → Option (List ℕ) → Result (Unit {0}) E → Type 0
LinesTaken old text new (Ok u) = new ≡ Some (old ++ text)
LinesTaken old text new (Err e) = (front : List ℕ) × (back : List ℕ) × (text ≡ front ++ back) × (new ≡ Some (old ++ front))
