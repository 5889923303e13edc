-- The versions that are made ready part by part are those of the whole list of changes.
use Rattle.std.proofs.Common.{◌≡◌, ℕ, ◌+◌, Bool, true, false, cond, ◌||◌, ◌&&◌, List, [], ◌∷◌, ◌++◌, Option, None, Some, is_some, refl, sym, ap, ◌∙◌, arith, ⊎_elim}
use Rattle.std.specs.declared.cmp.Ordering.{Ordering}
use Rattle.std.proofs.lemmas.Bool.{cases_Bool, or_parts, le-leb}
use Rattle.wtf_kv.specs.declared.cell.Applied.{Applied}
use Rattle.wtf_kv.specs.declared.changes.Change.{Change}
use Rattle.wtf_kv.specs.declared.changes.Change.TheVariants.{Delta, Cut}
use Rattle.wtf_kv.specs.Seen.{last_seen, value_seen, upto, within}
use Rattle.wtf_kv.specs.Staging.{value_next, staged, staged_by}
use Rattle.wtf_kv.specs.Edits.{is_between, value_made, after_change, after_changes, touches, any_touches, versions_with}
use Rattle.wtf_kv.proofs.EditLaws.{after_changes-append}
use Rattle.wtf_kv.proofs.Sees.{last_seen-push}
use Rattle.wtf_kv.proofs.Next.{seen-within, none_from, upto-next, upto-all}

module _ {K C D : Type 0} (order : K → K → Ordering) (outcome : Option C → D → Applied C) (q : K) where
  touches-append : (cs ds : List (Change K D)) (x : Option C) → any_touches order outcome (cs ++ ds) q x ≡ (any_touches order outcome cs q x || any_touches order outcome ds q (after_changes order outcome cs q x))
  touches-append [] ds x = refl
  touches-append (b ∷ cs) ds x =
      ap (λ t. touches order outcome b q x || t) (touches-append cs ds (after_change order outcome b q x))
      ∙ elim (touches order outcome b q x) as (λ t. (t || (any_touches order outcome cs q (after_change order outcome b q x) || any_touches order outcome ds q (after_changes order outcome cs q (after_change order outcome b q x)))) ≡ ((t || any_touches order outcome cs q (after_change order outcome b q x)) || any_touches order outcome ds q (after_changes order outcome cs q (after_change order outcome b q x)))) [ true ↦ refl | false ↦ refl ]

  cut-none : (b : Bool) (x : Option C) → (b && is_some x) ≡ false → cond b None x ≡ x
  cut-none true None e = refl
  cut-none true (Some x) e = cc
  cut-none false x e = refl

  -- a change that does not touch a key leaves its value
  untouched : (c : Change K D) (x : Option C) → touches order outcome c q x ≡ false → after_change order outcome c q x ≡ x
  untouched (Delta key delta) x e = ap (λ b. cond b (value_made (outcome x delta) x) x) e
  untouched (Cut from to) x e = cut-none (is_between order from to q) x e

  all_untouched : (cs : List (Change K D)) (x : Option C) → any_touches order outcome cs q x ≡ false → after_changes order outcome cs q x ≡ x
  all_untouched [] x e = refl
  all_untouched (c ∷ cs) x e =
      let parts = or_parts _ _ e in
      all_untouched cs (after_change order outcome c q x) parts.1 ∙ untouched c x parts.0

-- the versions of a key with the value x made ready, if f
abbrev pub state : {C : Type 0} → ℕ → Bool → Option C → Option C → List (ℕ × Option C) → List (ℕ × Option C)
state n f before x base = cond (f && (is_some before || is_some x)) (base ++ (n + 1, x) ∷ []) base

module _ {C : Type 0} (n : ℕ) (base : List (ℕ × Option C)) (all : within n base) where
  value-push : (x : Option C) → value_next n (base ++ (n + 1, x) ∷ []) ≡ x
  value-push x = ap value_seen (last_seen-push (n + 1) base (n + 1, x) ∙ ap (λ b. cond b (Some (n + 1, x)) (last_seen (n + 1) base)) (le-leb (n + 1) (n + 1) (omega arith)))

  pub state-value : (f : Bool) (x : Option C) → (f ≡ false → x ≡ value_next n base) → value_next n (state n f (value_next n base) x base) ≡ x
  state-value f x same =
      let choose : Bool → Option C = λ b. value_next n (cond b (base ++ (n + 1, x) ∷ []) base) in
      ⊎_elim
      (λ on. ⊎_elim
      (λ some. ap (λ b. choose (b && (is_some (value_next n base) || is_some x))) on ∙ ap choose some ∙ value-push x)
      (λ none. ap (λ b. choose (b && (is_some (value_next n base) || is_some x))) on ∙ ap choose none ∙ none_from _ (or_parts _ _ none).0 ∙ sym (none_from x (or_parts _ _ none).1))
      (cases_Bool (is_some (value_next n base) || is_some x)))
      (λ off. ap (λ b. choose (b && (is_some (value_next n base) || is_some x))) off ∙ sym (same off))
      (cases_Bool f)

  state-upto : (b : Bool) (x : Option C) → upto n (cond b (base ++ (n + 1, x) ∷ []) base) ≡ base
  state-upto b x = elim b as (λ t. upto n (cond t (base ++ (n + 1, x) ∷ []) base) ≡ base) [ true ↦ upto-next n x base ∙ upto-all n base all | false ↦ upto-all n base all ]

  pub number-value : value_seen (last_seen n base) ≡ value_next n base
  number-value = ap value_seen (sym (seen-within n None base None all))

  or-other : (a b : Bool) → (a || b) ≡ (b || a)
  or-other true b = elim b as (λ t. true ≡ (t || true)) [ true ↦ refl | false ↦ refl ]
  or-other false b = elim b as (λ t. t ≡ (t || false)) [ true ↦ refl | false ↦ refl ]

  -- one more value over what was made ready
  state-staged : (b : Bool) (x y : Option C) → staged n y (cond b (base ++ (n + 1, x) ∷ []) base) ≡ state n true (value_next n base) y base
  state-staged b x y =
      ap (λ us. cond (is_some y || is_some (value_seen (last_seen n us))) (us ++ (n + 1, y) ∷ []) us) (state-upto b x)
      ∙ ap (λ v. cond (is_some y || is_some v) (base ++ (n + 1, y) ∷ []) base) number-value
      ∙ ap (λ t. cond t (base ++ (n + 1, y) ∷ []) base) (or-other (is_some y) (is_some (value_next n base)))

module _ {K C D : Type 0} (order : K → K → Ordering) (outcome : Option C → D → Applied C) (q : K) (n : ℕ) (base : List (ℕ × Option C)) (all : within n base) (cs : List (Change K D)) where
  -- what the next number sees of what the changes made ready
  pub made-value : value_next n (versions_with order outcome cs (n + 1) q (value_next n base) base) ≡ after_changes order outcome cs q (value_next n base)
  made-value = state-value n base all (any_touches order outcome cs q (value_next n base)) (after_changes order outcome cs q (value_next n base)) (all_untouched order outcome q cs (value_next n base))

  -- some more changes
  pub made-append : (ds : List (Change K D)) → staged_by order outcome ds n q (versions_with order outcome cs (n + 1) q (value_next n base) base) ≡ versions_with order outcome (cs ++ ds) (n + 1) q (value_next n base) base
  made-append ds =
      let before = value_next n base in
      let x = after_changes order outcome cs q before in
      let y = after_changes order outcome ds q x in
      let f = any_touches order outcome cs q before in
      let now = versions_with order outcome cs (n + 1) q before base in
      let goal : versions_with order outcome (cs ++ ds) (n + 1) q before base ≡ state n (f || any_touches order outcome ds q x) before y base =
      ap (λ v. state n (any_touches order outcome (cs ++ ds) q before) before v base) (after_changes-append order outcome cs ds q before)
      ∙ ap (λ b. state n b before y base) (touches-append order outcome q cs ds before) in
      ap (λ v. cond (any_touches order outcome ds q v) (staged n (after_changes order outcome ds q v) now) now) made-value
      ∙ ⊎_elim
      (λ on. ap (λ b. cond b (staged n y now) now) on ∙ state-staged n base all (f && (is_some before || is_some x)) x y
      ∙ sym (ap (λ b. state n b before y base) (ap (λ t. f || t) on ∙ or-other n base all f true)))
      (λ off. ap (λ b. cond b (staged n y now) now) off ∙ ap (λ v. state n f before v base) (sym (all_untouched order outcome q ds x off))
      ∙ sym (ap (λ b. state n b before y base) (ap (λ t. f || t) off ∙ or-other n base all f false)))
      (cases_Bool (any_touches order outcome ds q x))
      ∙ sym goal

  pub made-next : (ds : List (Change K D)) (now new : List (ℕ × Option C)) → now ≡ versions_with order outcome cs (n + 1) q (value_next n base) base → new ≡ versions_with order outcome (cs ++ ds) (n + 1) q (value_next n base) base → value_next n new ≡ after_changes order outcome ds q (value_next n now)
  made-next ds now new is more =
      ap (value_next n) more
      ∙ state-value n base all (any_touches order outcome (cs ++ ds) q (value_next n base)) (after_changes order outcome (cs ++ ds) q (value_next n base)) (all_untouched order outcome q (cs ++ ds) (value_next n base))
      ∙ after_changes-append order outcome cs ds q (value_next n base)
      ∙ ap (after_changes order outcome ds q) (sym made-value ∙ ap (value_next n) (sym is))
