-- The version that is made ready, taken out.
use Rattle.std.proofs.Common.{◌≡◌, ℕ, ◌+◌, ◌-◌, ◌<◌, ◌≤◌, Bool, true, false, cond, List, [], ◌∷◌, ◌++◌, Option, Some, is_some, ◌||◌, nat_le, nat_lt, Result, Ok, Err, OnErr, refl, sym, ap, subst, ◌∙◌, arith, length, length-append, inl, inr, ⊎_elim}
use Rattle.std.specs.List.{slice_get}
use Rattle.std.specs.Option.{option_map, unwrap_or}
use Rattle.std.proofs.lemmas.Bool.{cases_Bool, le-leb, lt-leb, ltb-true}
use Rattle.wtf_kv.specs.Seen.{last_seen, value_seen, upto, ascends, within}
use Rattle.wtf_kv.specs.Staging.{value_next, staged, ends_above, IsKeptOrCut}
use Rattle.wtf_kv.proofs.Sees.{last_seen-push}
use Rattle.wtf_kv.proofs.Next.{upto-all, cut-same}

slice_get-last : {X : Type 0} (front : List X) (v : X) → slice_get (front ++ v ∷ []) (length front) ≡ Some v
slice_get-last [] v = refl
slice_get-last (w ∷ ws) v = slice_get-last ws v

module _ {C : Type 0} (n : ℕ) where
  last_within : (m : ℕ) (front : List (ℕ × Option C)) (v : ℕ × Option C) → within m (front ++ v ∷ []) → v.0 ≤ m
  last_within m [] v all = all.0
  last_within m (w ∷ ws) v all = last_within m ws v all.1

  front_within : (front : List (ℕ × Option C)) (v : ℕ × Option C) → ascends (front ++ v ∷ []) → v.0 ≤ n + 1 → within n front
  front_within [] v up le = tt
  front_within (w ∷ []) v up le = (let lt : w.0 < v.0 = up.0 in omega arith, tt)
  front_within (w ∷ x ∷ xs) v up le =
      let rest = front_within (x ∷ xs) v up.1 le in
      (let lt : w.0 < x.0 = up.0 in let here : x.0 ≤ n = rest.0 in omega arith, rest)

  upto-past : (front : List (ℕ × Option C)) (v : ℕ × Option C) → nat_le v.0 n ≡ false → upto n (front ++ v ∷ []) ≡ upto n front
  upto-past [] v past = ap (λ b. cond b (v ∷ []) []) past
  upto-past (w ∷ ws) v past = elim (nat_le w.0 n) as (λ b. cond b (w ∷ upto n (ws ++ v ∷ [])) (upto n (ws ++ v ∷ [])) ≡ cond b (w ∷ upto n ws) (upto n ws)) [ true ↦ ap (λ l. w ∷ l) (upto-past ws v past) | false ↦ upto-past ws v past ]

  -- whether the last version lies above the number goes by its own number
  ends_above-last : (front : List (ℕ × Option C)) (v : ℕ × Option C) → ends_above n (front ++ v ∷ []) ≡ nat_lt n v.0
  ends_above-last front v =
      let at : length (front ++ v ∷ []) - 1 ≡ length front = (let long = length-append front (v ∷ []) in omega arith) in
      ap (λ i. unwrap_or (option_map (λ w. nat_lt n w.0) (slice_get (front ++ v ∷ []) i)) false) at
      ∙ ap (λ o. unwrap_or (option_map (λ w. nat_lt n w.0) o) false) (slice_get-last front v)

  -- the last version, which lies above the number, goes: what is left is all up to the number
  pub taken_cut : (vs front : List (ℕ × Option C)) (v : ℕ × Option C) → vs ≡ front ++ v ∷ [] → ascends vs → within (n + 1) vs → ends_above n vs ≡ true → front ≡ upto n vs
  taken_cut vs front v is up all ends =
      let le : v.0 ≤ n + 1 = last_within (n + 1) front v (subst (within (n + 1)) is all) in
      let lt : n < v.0 = ltb-true n v.0 (sym (ends_above-last front v) ∙ ap (ends_above n) (sym is) ∙ ends) in
      sym (ap (upto n) is ∙ upto-past front v (lt-leb v.0 n lt) ∙ upto-all n front (front_within front v (subst ascends is up) le))

  -- the next number sees the last version's value
  pub taken_value : (vs front : List (ℕ × Option C)) (v : ℕ × Option C) → vs ≡ front ++ v ∷ [] → within (n + 1) vs → v.1 ≡ value_next n vs
  taken_value vs front v is all =
      let le : v.0 ≤ n + 1 = last_within (n + 1) front v (subst (within (n + 1)) is all) in
      sym (ap (value_next n) is ∙ ap value_seen (last_seen-push (n + 1) front v ∙ ap (λ b. cond b (Some v) (last_seen (n + 1) front)) (le-leb v.0 (n + 1) le)))

module _ {C : Type 0} where
  pub same_at : (b : Bool) (new old : List (ℕ × Option C)) → new ≡ cond b old old → new ≡ old
  same_at b new old e = e ∙ elim b as (λ t. cond t old old ≡ old) [ true ↦ refl | false ↦ refl ]

  pub cut_at : (n : ℕ) (b : Bool) (new old : List (ℕ × Option C)) → new ≡ cond b (upto n old) old → IsKeptOrCut n old new
  cut_at n b new old e = ⊎_elim (λ yes. inr (e ∙ ap (λ t. cond t (upto n old) old) yes)) (λ no. inl (e ∙ ap (λ t. cond t (upto n old) old) no)) (cases_Bool b)

-- what is made ready goes by the versions up to the number alone
pub staged-kept : {C : Type 0} (n : ℕ) (x : Option C) (old new : List (ℕ × Option C)) → IsKeptOrCut n old new → staged n x new ≡ staged n x old
staged-kept n x old new is = ap (λ us. cond (is_some x || is_some (value_seen (last_seen n us))) (us ++ (n + 1, x) ∷ []) us) (cut-same n new old is)

-- what holds anyway holds of an error
pub on_err_from : {A E P : Type 0} (r : Result A E) → P → OnErr r P
on_err_from (Ok x) p = tt
on_err_from (Err e) p = p
