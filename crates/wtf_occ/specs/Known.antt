-- What is known of the values of keys, for all that changes have made of them so far.
use Rattle.std.specs.Prelude.{◌≡◌, List, [], cond, Option, None, Some}
use Rattle.std.specs.declared.cmp.Ordering.{Ordering}
use Rattle.std.specs.Map.{lookup}
use Rattle.std.specs.BTreeMap.{is_at}
use Rattle.wtf_kv.specs.declared.cell.Applied.{Applied}
use Rattle.wtf_kv.specs.declared.changes.Change.{Change}
use Rattle.wtf_kv.specs.declared.changes.Change.TheVariants.{Delta, Cut}
use Rattle.wtf_kv.specs.Edits.{after_changes}
use Rattle.wtf_occ.specs.declared.known.Known.{Known}
use Rattle.wtf_occ.specs.declared.known.Summed.{Summed}

module _ {K X D : Type 0} (order : K → K → Ordering) where
  module _ (Is : List (Change K D) → K → X → Type 0) where
    -- what is known of q, if something is, holds after these changes
    abbrev pub IsKnown : List (Change K D) → K → Option X → Type 0
    IsKnown cs q None = Unit {0}
    IsKnown cs q (Some x) = Is cs q x

    -- so it is of each key
    pub record AreKnown (cs : List (Change K D)) (entries : List (K × X)) : Type 0 where
      pub each : (q : K) → IsKnown cs q (lookup (is_at (order q)) entries)

  -- nothing is known any more of what a change changes
  abbrev pub Forgets : Change K D → List (K × X) → List (K × X) → Type 0
  Forgets (Delta k d) es fs = (q : K) → lookup (is_at (order q)) fs ≡ cond (is_at (order k) q) None (lookup (is_at (order q)) es)
  Forgets (Cut from to) es fs = fs ≡ []

module _ {K C D : Type 0} (order : K → K → Ordering) (outcome : Option C → D → Applied C) where
  -- it is what the changes make of the value before them
  abbrev pub IsMade : List (Change K D) → K → Known C → Type 0
  IsMade cs q known = known.after ≡ after_changes order outcome cs q known.before

  abbrev pub AreMade : List (Change K D) → List (K × Known C) → Type 0
  AreMade = AreKnown order IsMade

  module _ {S : Type 0} (summary : Option C → S) where
    -- it is the summary of what they make of each value of which the summary is the one before them
    abbrev pub IsSummed : List (Change K D) → K → Summed S → Type 0
    IsSummed cs q summed = (now : Option C) → summed.before ≡ summary now → summed.after ≡ summary (after_changes order outcome cs q now)

    -- so it is, where there is one in the place
    abbrev pub IsPlaced : List (Change K D) → K → Option (Summed S) → Type 0
    IsPlaced = IsKnown order IsSummed

    abbrev pub AreSummed : List (Change K D) → List (K × Option (Summed S)) → Type 0
    AreSummed = AreKnown order IsPlaced
