-- Keys in their order, and those that have versions.
use Rattle.std.specs.Prelude.{◌≡◌, ℕ, ◌≤◌, Bool, true, false, nat_lt, nat_le, nat_eq, cond, not, List, Option, None, Some}
use Rattle.std.specs.declared.ops.Bound.{Bound}
use Rattle.std.specs.BTreeMap.Range.{is_from_start}
use Rattle.std.specs.declared.cmp.Ordering.{Ordering}
use Rattle.std.specs.Ordering.{is_lt, is_gt}
use Rattle.std.specs.List.{list_any, count_by}
use Rattle.wtf_kv.specs.Seen.{has_any, has_upto}
use Rattle.wtf_kv.specs.Stores.{Store, versions_of, versions_in, version_of}

-- whether a number lies above another, or above none
abbrev pub is_above : Option ℕ → ℕ → Bool
is_above None n = true
is_above (Some m) n = nat_lt m n

-- the less of two numbers, where there are two
abbrev pub least_of : Option ℕ → ℕ → ℕ
least_of None n = n
least_of (Some m) n = cond (nat_le m n) m n

-- m is the least of the numbers above another, or there is none
abbrev pub IsLeastAbove : List ℕ → Option ℕ → Option ℕ → Type 0
IsLeastAbove ns after None = (n : ℕ) → list_any (nat_eq n) ns ≡ true → is_above after n ≡ false
IsLeastAbove ns after (Some m) = (list_any (nat_eq m) ns ≡ true) × (is_above after m ≡ true) × ((n : ℕ) → list_any (nat_eq n) ns ≡ true → is_above after n ≡ true → m ≤ n)

-- it is the least pinned number above another, or there is none
abbrev pub IsNextPinned : {K C : Type 0} → Store K C → Option ℕ → Option ℕ → Type 0
IsNextPinned s after next = IsLeastAbove s.pins after next

-- whether a key lies above another, or above none
abbrev pub is_past : {K : Type 0} → (K → K → Ordering) → Option K → K → Bool
is_past order None q = true
is_past order (Some k) q = is_lt (order k q)

-- whether a key lies below another, or there is none to reach
abbrev pub is_before : {K : Type 0} → (K → K → Ordering) → Option K → K → Bool
is_before order None q = true
is_before order (Some k) q = is_lt (order q k)

module _ {K : Type 0} (order : K → K → Ordering) where
  -- it is the least key of those that pass two tests, or there is none
  abbrev pub IsLeastKey : (K → Bool) → (K → Bool) → Option K → Type 0
  IsLeastKey from t None = (q : K) → from q ≡ true → t q ≡ false
  IsLeastKey from t (Some k) = (from k ≡ true) × (t k ≡ true) × ((q : K) → from q ≡ true → t q ≡ true → is_gt (order k q) ≡ false)

module _ {K C : Type 0} (order : K → K → Ordering) where
  -- whether a key has a version
  abbrev pub has_version : Store K C → K → Bool
  has_version s q = has_any (versions_of order s q)

  -- it is the least key above another that has a version, or there is none
  abbrev pub IsNextKey : Store K C → Option K → Option K → Type 0
  IsNextKey s after None = (q : K) → is_past order after q ≡ true → has_version s q ≡ false
  IsNextKey s after (Some k) = (is_past order after k ≡ true) × (has_version s k ≡ true) × ((q : K) → is_past order after q ≡ true → has_version s q ≡ true → is_gt (order k q) ≡ false)

  -- a walk over the keys has come to a key that has a version, or to its end
  abbrev pub IsReached : Store K C → Option K → Type 0
  IsReached s None = Unit {0}
  IsReached s (Some k) = has_version s k ≡ true

  -- how many keys are left to a walk that has come to a key: a measure that falls
  abbrev pub left_from : Store K C → Option K → ℕ
  left_from s None = 0
  left_from s (Some k) = count_by (λ e. not (is_lt (order e.0 k))) s.cells

  -- it is the least key from a start on that has a version at most the number, or there is none
  abbrev pub IsFirstFrom : Bound K → ℕ → List (K × List (ℕ × Option C)) → Option K → Type 0
  IsFirstFrom start number cells None = (q : K) → is_from_start order start q ≡ true → has_upto number (versions_in order cells q) ≡ false
  IsFirstFrom start number cells (Some k) = (is_from_start order start k ≡ true) × (has_upto number (versions_in order cells k) ≡ true) × ((q : K) → is_from_start order start q ≡ true → has_upto number (versions_in order cells q) ≡ true → is_gt (order k q) ≡ false)

  -- whether the version that the last install shows of a key lies above a number
  abbrev pub is_changed : Store K C → ℕ → K → Bool
  is_changed s since q = nat_lt since (version_of order s s.number q)

  -- it is the least key above another whose version lies above a number, or there is none
  abbrev pub IsNextChanged : Store K C → ℕ → Option K → Option K → Type 0
  IsNextChanged s since after next = IsLeastKey order (is_past order after) (is_changed s since) next
