-- Pruning keys one by one, some of them more than once.
use Rattle.std.proofs.Common.{◌≡◌, ℕ, ◌+◌, ◌-◌, ◌<◌, ◌≤◌, Bool, true, false, cond, ◌||◌, ◌&&◌, ◌⊎◌, inl, inr, List, [], ◌∷◌, Option, nat_le, nat_lt, refl, sym, ap, ◌∙◌, arith, ⊎_elim, length, take, get_or, not}
use Rattle.std.proofs.Math.ListN.{set}
use Rattle.std.proofs.lemmas.List.{take-set, take-take}
use Rattle.std.specs.declared.cmp.Ordering.{Ordering}
use Rattle.std.specs.BTreeMap.{is_at}
use Rattle.std.specs.List.{swap_remove}
use Rattle.std.proofs.lemmas.Bool.{cases_Bool, and_parts, and_from, ltb-true, lt-ltb}
use Rattle.std.proofs.lemmas.List.Folds.{list_any_more, list_any_at}
use Rattle.std.proofs.lemmas.List.Sorted.{IsPermutation-swap_remove, list_any-IsPermutation}
use Rattle.wtf_kv.specs.Seen.{any_between, is_seen, is_kept, kept_versions, above, ascends}
use Rattle.wtf_kv.specs.Stores.{names}
use Rattle.wtf_kv.proofs.Prune.{weaker}

later_seen : {C : Type 0} (pins : List ℕ) (v : ℕ) (w : ℕ × Option C) (ws : List (ℕ × Option C)) → above w.0 ws → any_between pins v w.0 ≡ true → is_seen pins v ws ≡ true
later_seen pins v w [] up h = refl
later_seen pins v w (x ∷ xs) up h =
    weaker (λ p. nat_le v p && nat_lt p w.0) (λ p. nat_le v p && nat_lt p x.0) pins
    (λ p e. let parts = and_parts _ _ e in let lt : p < w.0 = ltb-true p w.0 parts.1 in let next : w.0 < x.0 = up in and_from _ _ parts.0 (lt-ltb p x.0 (omega arith))) h

-- what a pinned number sees of a version stays where those after it are pruned
seen-kept : {C : Type 0} (pins : List ℕ) (v : ℕ) (vs : List (ℕ × Option C)) → ascends vs → is_seen pins v vs ≡ true → is_seen pins v (kept_versions pins vs) ≡ true
seen-kept pins v [] up h = refl
seen-kept pins v (w ∷ ws) up h =
    let rest = seen-kept pins v ws up.1 (later_seen pins v w ws up.0 h) in
    elim (is_kept pins w ws) as (λ b. is_seen pins v (cond b (w ∷ kept_versions pins ws) (kept_versions pins ws)) ≡ true) [ true ↦ h | false ↦ rest ]

-- pruning twice is pruning once
pub kept-kept : {C : Type 0} (pins : List ℕ) (vs : List (ℕ × Option C)) → ascends vs → kept_versions pins (kept_versions pins vs) ≡ kept_versions pins vs
kept-kept pins [] up = refl
kept-kept pins (v ∷ vs) up =
    let rest = kept-kept pins vs up.1 in
    ⊎_elim
    (λ kept. let parts = and_parts _ _ kept in
    let still : is_kept pins v (kept_versions pins vs) ≡ true = and_from _ _ parts.0 (seen-kept pins v.0 vs up.1 parts.1) in
    ap (λ b. kept_versions pins (cond b (v ∷ kept_versions pins vs) (kept_versions pins vs))) kept
    ∙ ap (λ b. cond b (v ∷ kept_versions pins (kept_versions pins vs)) (kept_versions pins (kept_versions pins vs))) still
    ∙ ap (λ l. v ∷ l) rest
    ∙ sym (ap (λ b. cond b (v ∷ kept_versions pins vs) (kept_versions pins vs)) kept))
    (λ gone. ap (λ b. kept_versions pins (cond b (v ∷ kept_versions pins vs) (kept_versions pins vs))) gone ∙ rest ∙ sym (ap (λ b. cond b (v ∷ kept_versions pins vs) (kept_versions pins vs)) gone))
    (cases_Bool (is_kept pins v vs))

-- one key of the cells, which is pruned where b holds
module _ {C : Type 0} (pins : List ℕ) (b : Bool) (old now new : List (ℕ × Option C)) (up : ascends old) (step : new ≡ cond b (kept_versions pins now) now) (before : (now ≡ old) ⊎ (now ≡ kept_versions pins old)) where
  pruned : b ≡ true → new ≡ kept_versions pins old
  pruned here = step ∙ ap (λ t. cond t (kept_versions pins now) now) here ∙ ⊎_elim (λ e. ap (kept_versions pins) e) (λ e. ap (kept_versions pins) e ∙ kept-kept pins old up) before

  left : b ≡ false → new ≡ now
  left apart = step ∙ ap (λ t. cond t (kept_versions pins now) now) apart

  pub step-either : (new ≡ old) ⊎ (new ≡ kept_versions pins old)
  step-either = ⊎_elim (λ here. inr (pruned here)) (λ apart. ⊎_elim (λ e. inl (left apart ∙ e)) (λ e. inr (left apart ∙ e)) before) (cases_Bool b)

  pub step-done : (b ≡ false → now ≡ kept_versions pins old) → new ≡ kept_versions pins old
  step-done h = ⊎_elim pruned (λ apart. left apart ∙ h apart) (cases_Bool b)

  pub step-left : b ≡ false → new ≡ now
  step-left = left

module _ {K : Type 0} (R : K → K → Ordering) (ts : List K) (i : ℕ) (k q : K) (positive : 0 < i) (le : i ≤ length ts) (is : k ≡ get_or ts (i - 1) k) where
  -- what the first i keys name, but for the last of them
  pub names-last : names R (take (i - 1) ts) q ≡ false → is_at (R k) q ≡ false → names R (take i ts) q ≡ false
  names-last none apart =
      let same : i ≡ (i - 1) + 1 = omega arith in
      ap (λ j. names R (take j ts) q) same ∙ list_any_more (λ x. is_at (R x) q) ts (i - 1) k (omega arith)
      ∙ ap (λ x. names R (take (i - 1) ts) q || is_at (R x) q) (sym is) ∙ ap (λ b. b || is_at (R k) q) none ∙ apart

  -- a key that is not named and is not the one taken out was not named
  pub names-swap_remove : names R (swap_remove ts (i - 1) k) q ≡ false → is_at (R k) q ≡ false → names R ts q ≡ false
  names-swap_remove none apart =
      list_any-IsPermutation (λ x. is_at (R x) q) ts (k ∷ swap_remove ts (i - 1) k) (IsPermutation-swap_remove ts (i - 1) k (omega arith) is)
      ∙ ap (λ b. b || names R (swap_remove ts (i - 1) k) q) apart ∙ none

  -- a key that is not named is not that one
  pub names-not : names R ts q ≡ false → is_at (R k) q ≡ false
  names-not none =
      ⊎_elim
      (λ here. let bad : true ≡ false = sym (list_any_at (λ x. is_at (R x) q) ts (i - 1) k (omega arith) (ap (λ x. is_at (R x) q) (sym is) ∙ here)) ∙ none in cc)
      (λ apart. apart)
      (cases_Bool (is_at (R k) q))

  -- the keys before the one taken out stay
  pub take-swap_remove : take (i - 1) (swap_remove ts (i - 1) k) ≡ take (i - 1) ts
  take-swap_remove =
      take-take (i - 1) (length ts - 1) (set ts (i - 1) (get_or ts (length ts - 1) k)) (omega arith)
      ∙ take-set ts (i - 1) (get_or ts (length ts - 1) k)

pub settled_reported : (s : Bool) (r : Bool) → r ≡ not s → r ≡ false → s ≡ true
settled_reported true r e f = refl
settled_reported false r e f = cc
