-- The base of a region, and what is left of it below an end.
use Rattle.std.specs.Prelude.{ℕ, ◌≤◌, ⊤, min, nat_lt, if◌then◌else◌, Option, None, Some}
use Rattle.std.proofs.Common.{arith, sym, subst, inl, inr}
use Rattle.std.proofs.Props.{props}
use Rattle.std.proofs.lemmas.Bool.{cases_lt, cond-true, cond-false, lt-ltb, le-ltb}
use Rattle.wtf_values.specs.declared.region.Spill.{Spill}

-- a base is seen up to 1 at least, and to the end at most
abbrev pub IsBelow : ℕ → Option Spill → Type 0
IsBelow end None = ⊤
IsBelow end (Some s) = (1 ≤ s.visible) × (s.visible ≤ end)

pub IsBelow_prop : (end : ℕ) (base : Option Spill) → IsProp (IsBelow end base)
IsBelow_prop end None = hlevel props
IsBelow_prop end (Some s) = hlevel props

-- a base that is seen up to n, and none where that is nothing
abbrev pub seen_upto : Spill → ℕ → Option Spill
seen_upto s n = if nat_lt 0 n then Some (record s { visible = n }) else None

-- a base with all at an end and above taken off
abbrev pub base_below : ℕ → Option Spill → Option Spill
base_below end None = None
base_below end (Some s) = seen_upto s (min s.visible end)

pub IsBelow-none : (end : ℕ) → IsBelow end None
IsBelow-none end = tt

-- a later end
pub IsBelow-more : (end later : ℕ) (base : Option Spill) → end ≤ later → IsBelow end base → IsBelow later base
IsBelow-more end later None le h = tt
IsBelow-more end later (Some s) le h = (h.0, omega (arith, h.1))

IsBelow-seen : (end n : ℕ) (s : Spill) → n ≤ end → IsBelow end (seen_upto s n)
IsBelow-seen end n s le = elim (cases_lt 0 n) [
  | inl some ↦ subst (IsBelow end) (sym (cond-true (nat_lt 0 n) (Some (record s { visible = n })) None (lt-ltb 0 n some))) (some, le)
  | inr none ↦ subst (IsBelow end) (sym (cond-false (nat_lt 0 n) (Some (record s { visible = n })) None (le-ltb 0 n none))) tt
]

-- what is left below an end is a base below it
pub IsBelow-cut : (end : ℕ) (base : Option Spill) → IsBelow end (base_below end base)
IsBelow-cut end None = tt
IsBelow-cut end (Some s) = IsBelow-seen end (min s.visible end) s (omega arith)
