-- How many arguments a verb takes.
use Rattle.std.specs.Prelude.{ℕ, nat_le, ◌&&◌, if◌then◌else◌, List, [], ◌∷◌, length, Result, Ok, Err}
use Rattle.wtf_model.specs.declared.answer.Kind.{Kind}
use Rattle.wtf_model.specs.declared.answer.Kind.TheVariants as kind
use Rattle.wtf_model.specs.declared.limits.TheConstants.{MAX_SOURCES}

-- the arguments, where there are just so many
abbrev pub none_of : List (List ℕ) → Result (Unit {0}) Kind
none_of [] = Ok tt
none_of (a ∷ more) = Err kind.Count

abbrev pub one_of : List (List ℕ) → Result (List ℕ) Kind
one_of (a ∷ []) = Ok a
one_of args = Err kind.Count

abbrev pub two_of : List (List ℕ) → Result (List ℕ × List ℕ) Kind
two_of (a ∷ b ∷ []) = Ok (a, b)
two_of args = Err kind.Count

abbrev pub three_of : List (List ℕ) → Result (List ℕ × List ℕ × List ℕ) Kind
three_of (a ∷ b ∷ c ∷ []) = Ok (a, b, c)
three_of args = Err kind.Count

abbrev pub four_of : List (List ℕ) → Result (List ℕ × List ℕ × List ℕ × List ℕ) Kind
four_of (a ∷ b ∷ c ∷ d ∷ []) = Ok (a, b, c, d)
four_of args = Err kind.Count

-- two arguments, and a third or none
abbrev pub two_and_maybe_one : List (List ℕ) → Result (List ℕ × List ℕ × List (List ℕ)) Kind
two_and_maybe_one (a ∷ b ∷ []) = Ok (a, b, [])
two_and_maybe_one (a ∷ b ∷ c ∷ []) = Ok (a, b, c ∷ [])
two_and_maybe_one args = Err kind.Count

-- one argument, and up to so many more as `concat` joins
abbrev pub one_and_many : List (List ℕ) → Result (List ℕ × List (List ℕ)) Kind
one_and_many [] = Err kind.Count
one_and_many (a ∷ more) =
    if nat_le 1 (length more) && nat_le (length more) MAX_SOURCES then Ok (a, more) else Err kind.Count
