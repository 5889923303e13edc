-- What a list of changes makes of a map, and of the versions of its keys.
use Rattle.std.specs.Prelude.{◌≡◌, ℕ, Bool, true, false, cond, ◌&&◌, ◌||◌, List, [], ◌∷◌, ◌++◌, Option, None, Some, is_some}
use Rattle.std.specs.BTreeMap.{is_at}
use Rattle.std.specs.Ordering.{is_le}
use Rattle.std.specs.declared.cmp.Ordering.{Ordering}
use Rattle.wtf_kv.specs.Seen.{number_seen, reported}
use Rattle.wtf_kv.specs.declared.cell.Applied.{Applied}
use Rattle.wtf_kv.specs.declared.cell.Applied.TheVariants.{Is, Gone, Unfit}
use Rattle.wtf_kv.specs.declared.changes.Change.{Change}
use Rattle.wtf_kv.specs.declared.changes.Change.TheVariants.{Delta, Cut}

-- the value that comes of applying a delta: one that does not fit leaves it
abbrev pub value_made : {C : Type 0} → Applied C → Option C → Option C
value_made (Is c) now = Some c
value_made Gone now = None
value_made Unfit now = now

-- whether a delta fits
abbrev pub fits : {C : Type 0} → Applied C → Bool
fits (Is c) = true
fits Gone = true
fits Unfit = false

-- whether a key lies from the first up to and with the second
abbrev pub is_between : {K : Type 0} → (K → K → Ordering) → K → K → K → Bool
is_between order from to key = is_le (order from key) && is_le (order key to)

-- two maps have the same at each of the keys
abbrev pub Agree : {K C : Type 0} → List K → (K → Option C) → (K → Option C) → Type 0
Agree [] at now = Unit {0}
Agree (q ∷ qs) at now = (now q ≡ at q) × Agree qs at now

module _ {K C D : Type 0} (order : K → K → Ordering) (outcome : Option C → D → Applied C) where
  -- what a change makes of the value of q
  abbrev pub after_change : Change K D → K → Option C → Option C
  after_change (Delta key delta) q now = cond (is_at (order key) q) (value_made (outcome now delta) now) now
  after_change (Cut from to) q now = cond (is_between order from to q) None now

  -- what changes make of the value of q, in order
  abbrev pub after_changes : List (Change K D) → K → Option C → Option C
  after_changes [] q now = now
  after_changes (c ∷ cs) q now = after_changes cs q (after_change c q now)

  -- the map with the changes made over it, in order
  abbrev pub over : List (Change K D) → (K → Option C) → K → Option C
  over cs at q = after_changes cs q (at q)

  -- the key of the first delta that does not fit, where each change finds the map that those before it made
  abbrev pub first_unfit : List (Change K D) → (K → Option C) → Option K
  first_unfit [] at = None
  first_unfit (Delta key delta ∷ cs) at = cond (fits (outcome (at key) delta)) (first_unfit cs (λ q. after_change (Delta key delta) q (at q))) (Some key)
  first_unfit (Cut from to ∷ cs) at = first_unfit cs (λ q. after_change (Cut from to) q (at q))

  -- each delta fits the value that the changes before it made of the map's
  abbrev pub Fits : List (Change K D) → (K → Option C) → Type 0
  Fits cs at = first_unfit cs at ≡ None

  -- whether a change touches q, which has the value now: a delta names it, or a cut removes its value
  abbrev pub touches : Change K D → K → Option C → Bool
  touches (Delta key delta) q now = is_at (order key) q
  touches (Cut from to) q now = is_between order from to q && is_some now

  -- whether some of the changes touches q
  abbrev pub any_touches : List (Change K D) → K → Option C → Bool
  any_touches [] q now = false
  any_touches (c ∷ cs) q now = touches c q now || any_touches cs q (after_change c q now)

  -- whether an install of the changes makes a version of q: they touch it, and it has a value before or after
  abbrev pub makes_version : List (Change K D) → K → Option C → Bool
  makes_version cs q now = any_touches cs q now && (is_some now || is_some (after_changes cs q now))

  -- the versions of q after install n of the changes, by those before it and the value that it had
  abbrev pub versions_with : List (Change K D) → ℕ → K → Option C → List (ℕ × Option C) → List (ℕ × Option C)
  versions_with cs n q now vs = cond (makes_version cs q now) (vs ++ (n, after_changes cs q now) ∷ []) vs

  -- the version that q has at install n of the changes, by the pinned numbers, its value before and its version before
  abbrev pub version_with : List ℕ → List (Change K D) → ℕ → K → Option C → ℕ → ℕ
  version_with pins cs n q now before = cond (makes_version cs q now) (number_seen (reported pins (Some (n, after_changes cs q now)))) before
