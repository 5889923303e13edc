-- How the next version of a key is made ready among its versions.
use Rattle.std.specs.Prelude.{◌≡◌, ℕ, ◌+◌, ◌-◌, Bool, true, false, cond, ◌||◌, ◌&&◌, ◌⊎◌, List, [], ◌∷◌, ◌++◌, Option, is_some, nat_lt, length, slice_get}
use Rattle.std.specs.Option.{option_map, unwrap_or}
use Rattle.std.specs.declared.cmp.Ordering.{Ordering}
use Rattle.wtf_kv.specs.declared.cell.Applied.{Applied}
use Rattle.wtf_kv.specs.declared.changes.Change.{Change}
use Rattle.wtf_kv.specs.declared.changes.Change.TheVariants.{Delta, Cut}
use Rattle.wtf_kv.specs.Seen.{last_seen, value_seen, upto}
use Rattle.wtf_kv.specs.Stores.{Store, versions_in}
use Rattle.wtf_kv.specs.Edits.{is_between, value_made, fits, after_changes, any_touches, versions_with}

-- the value that the next number sees
abbrev pub value_next : {C : Type 0} → ℕ → List (ℕ × Option C) → Option C
value_next number vs = value_seen (last_seen (number + 1) vs)

-- the versions with the next one made ready: a key without a value before and after gets none
abbrev pub staged : {C : Type 0} → ℕ → Option C → List (ℕ × Option C) → List (ℕ × Option C)
staged number value vs = cond (is_some value || is_some (value_seen (last_seen number (upto number vs)))) (upto number vs ++ (number + 1, value) ∷ []) (upto number vs)

-- whether the last of the versions lies above the number
abbrev pub ends_above : {C : Type 0} → ℕ → List (ℕ × Option C) → Bool
ends_above number vs = unwrap_or (option_map (λ v. nat_lt number v.0) (slice_get vs (length vs - 1))) false

-- the versions that a key had, or those of them up to the number
abbrev pub IsKeptOrCut : {C : Type 0} → ℕ → List (ℕ × Option C) → List (ℕ × Option C) → Type 0
IsKeptOrCut number old new = (new ≡ old) ⊎ (new ≡ upto number old)

module _ {K C : Type 0} (order : K → K → Ordering) where
  -- up to the number, each key has the versions that it had
  abbrev pub SameUpto : ℕ → List (K × List (ℕ × Option C)) → List (K × List (ℕ × Option C)) → Type 0
  SameUpto number old new = (key : K) → upto number (versions_in order new key) ≡ upto number (versions_in order old key)

  -- the value that the next number sees of a key
  abbrev pub next_value : Store K C → K → Option C
  next_value s key = value_next s.number (versions_in order s.cells key)

  -- the keys that pass a test have their next version made ready with a value, the others have what they had
  abbrev pub IsStaged : (K → Bool) → Option C → Store K C → Store K C → Type 0
  IsStaged chosen value old new = (q : K) → versions_in order new.cells q ≡ cond (chosen q) (staged old.number value (versions_in order old.cells q)) (versions_in order old.cells q)

  -- whether a cut takes a key out: it lies in the range, and the next number sees a value
  abbrev pub is_taken : K → K → Store K C → K → Bool
  is_taken from to s q = is_between order from to q && is_some (next_value s q)

module _ {K C D : Type 0} (order : K → K → Ordering) (outcome : Option C → D → Applied C) where
  -- the versions of q with what changes make of its next value
  abbrev pub staged_by : List (Change K D) → ℕ → K → List (ℕ × Option C) → List (ℕ × Option C)
  staged_by cs number q vs = cond (any_touches order outcome cs q (value_next number vs)) (staged number (after_changes order outcome cs q (value_next number vs)) vs) vs

  -- each key has its next version made ready with what changes make of its next value
  abbrev pub IsStagedBy : List (Change K D) → Store K C → Store K C → Type 0
  IsStagedBy cs old new = (q : K) → versions_in order new.cells q ≡ staged_by cs old.number q (versions_in order old.cells q)

  -- over a store in which nothing was made ready, each key has what the changes make of its next value
  abbrev pub IsStagedByAll : List (Change K D) → Store K C → Store K C → Type 0
  IsStagedByAll cs old new = (q : K) → versions_in order new.cells q ≡ versions_with order outcome cs (old.number + 1) q (next_value order old q) (versions_in order old.cells q)

-- the changes are deltas of one key
abbrev pub AreDeltasOf : {K D : Type 0} → K → List (Change K D) → Type 0
AreDeltasOf key [] = Unit {0}
AreDeltasOf key (Delta k d ∷ cs) = (k ≡ key) × AreDeltasOf key cs
AreDeltasOf key (Cut from to ∷ cs) = ⊥

module _ {K C D : Type 0} (outcome : Option C → D → Applied C) where
  -- what deltas make of a value, up to the first that does not fit
  abbrev pub run_made : List (Change K D) → Option C → Option C
  run_made [] now = now
  run_made (Delta key d ∷ cs) now = cond (fits (outcome now d)) (run_made cs (value_made (outcome now d) now)) now
  run_made (Cut from to ∷ cs) now = run_made cs now

  -- whether each of the deltas fits what those before it made
  abbrev pub run_fits : List (Change K D) → Option C → Bool
  run_fits [] now = true
  run_fits (Delta key d ∷ cs) now = fits (outcome now d) && run_fits cs (value_made (outcome now d) now)
  run_fits (Cut from to ∷ cs) now = run_fits cs now
