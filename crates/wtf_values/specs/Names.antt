-- Sets of names, in the order of their bytes.
use Rattle.std.specs.Prelude.{◌≡◌, ℕ, ◌<◌, ◌≤◌, Bool, T, List, length, map, slice_index_or}
use Rattle.std.specs.FinSet.{FinSet}
use Rattle.std.specs.FinMap.{empty, insert, remove, contains_key, keys, from_sorted, is_sorted}
use Rattle.std.specs.Ordering.{nat_cmp}
use Rattle.std.specs.Cmp.Lexicographic.{slice_cmp}
use Rattle.std.specs.declared.cmp.Ordering.{Ordering}
use Rattle.std.specs.declared.cmp.Ordering.TheVariants.{Less, Greater}

-- the order of names
abbrev pub name_cmp : List ℕ → List ℕ → Ordering
name_cmp = slice_cmp nat_cmp

-- a set of names
abbrev pub NamesOf : Type 0
NamesOf = FinSet (slice_cmp nat_cmp)

-- the set with no name
abbrev pub no_names : NamesOf
no_names = empty

-- whether a set has a name
abbrev pub has_name : NamesOf → List ℕ → Bool
has_name s name = contains_key s name

-- a set with a name
abbrev pub with_name : NamesOf → List ℕ → NamesOf
with_name s name = insert s name tt

-- a set without a name
abbrev pub without_name : NamesOf → List ℕ → NamesOf
without_name s name = remove s name

-- the names of a set, in order
abbrev pub names_in : NamesOf → List (List ℕ)
names_in s = keys s

-- names, each as an entry of a set
abbrev pub as_entries : List (List ℕ) → List (List ℕ × Unit {0})
as_entries names = map (λ name. (name, tt)) names

-- each name comes before all after it
abbrev pub Rise : List (List ℕ) → Type 0
Rise names = T (is_sorted (slice_cmp nat_cmp) (as_entries names))

-- the set of names that rise
abbrev pub set_of : List (List ℕ) → NamesOf
set_of names = from_sorted (as_entries names)

-- the name stands at this place
pub record IsAt (names : List (List ℕ)) (name : List ℕ) (i : ℕ) : Type 0 where
  pub inside : i < length names
  pub is : slice_index_or names i name ≡ name

-- the names before this place come before the name, and those from it on after it
pub record IsGap (names : List (List ℕ)) (name : List ℕ) (i : ℕ) : Type 0 where
  pub inside : i ≤ length names
  pub before : (j : ℕ) → j < i → name_cmp (slice_index_or names j name) name ≡ Less
  pub after : (j : ℕ) → i ≤ j → j < length names → name_cmp (slice_index_or names j name) name ≡ Greater
