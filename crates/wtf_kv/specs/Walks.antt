-- A walk over a map: its rows are the keys that have a value, each with it.
use Rattle.std.specs.Prelude.{◌≡◌, ℕ, ◌≤◌, cond, List, [], ◌∷◌, length, Option, None, Some}
use Rattle.std.specs.List.Sorted.{IsStrictlySortedBy}
use Rattle.std.specs.Map.{lookup, keys_of}
use Rattle.std.specs.BTreeMap.{is_at}
use Rattle.std.specs.BTreeMap.Range.{is_from_start}
use Rattle.std.specs.declared.ops.Bound.{Bound}
use Rattle.std.specs.declared.cmp.Ordering.{Ordering}
use Rattle.wtf_kv.specs.Seen.{last_seen, value_seen}

-- the rows are just the keys of a map from a start on that have a value, each once and in order, with that value
pub record AreRowsFrom {K C : Type 0} (order : K → K → Ordering) (start : Bound K) (m : K → Option C) (rows : List (K × C)) : Type 0 where
  pub ordered : IsStrictlySortedBy order (keys_of rows)
  pub each : (q : K) → lookup (is_at (order q)) rows ≡ cond (is_from_start order start q) (m q) None

-- there are at most so many of them
pub record HasRowsUpto {K C : Type 0} (order : K → K → Ordering) (start : Bound K) (m : K → Option C) (most : ℕ) : Type 0 where
  pub rows : List (K × C)
  pub are : AreRowsFrom order start m rows
  pub few : length rows ≤ most

module _ {K C : Type 0} where
  -- a key comes before other rows, if it has a value
  abbrev pub with_row : K → Option C → List (K × C) → List (K × C)
  with_row k None rows = rows
  with_row k (Some c) rows = (k, c) ∷ rows

  -- the rows that n sees in cells
  abbrev pub rows_seen : ℕ → List (K × List (ℕ × Option C)) → List (K × C)
  rows_seen n [] = []
  rows_seen n (e ∷ es) = with_row e.0 (value_seen (last_seen n e.1)) (rows_seen n es)
