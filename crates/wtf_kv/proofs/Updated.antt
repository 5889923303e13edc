-- A cell that is changed at one key.
use Rattle.std.proofs.Common.{◌≡◌, ℕ, Bool, true, false, cond, List, [], ◌∷◌, Option, None, Some, refl, sym, ap, ◌∙◌, length, vec_len, ◌==◌}
use Rattle.std.specs.Option.{unwrap_or, option_map}
use Rattle.std.specs.declared.vec.Vec.{Vec}
use Rattle.std.specs.declared.cmp.Ordering.{Ordering}
use Rattle.std.specs.declared.cmp.Ordering.TheVariants.{Equal}
use Rattle.std.specs.Map.{lookup}
use Rattle.std.specs.BTreeMap.{is_at}
use Rattle.std.specs.Cmp.{Equal-is}
use Rattle.std.proofs.lemmas.Map.Made.{lookup-map_values}
use Rattle.std.proofs.lemmas.Bool.{cases_Bool, eqb-true}
use Rattle.std.proofs.Common.{⊎_elim}
use Rattle.std.specs.Prelude.{nat_le}
use Rattle.wtf_kv.specs.Seen.{upto}
use Rattle.wtf_kv.specs.Stores.{listed, versions_in}

-- a vector whose length is reported as 0
pub nil_len : {X A : Type 0} (v : Vec X A) → (vec_len v == 0) ≡ true → length v.items ≡ 0
nil_len v e = sym v.ok.0 ∙ eqb-true (vec_len v) 0 e

-- a choice that is known
pub chosen : {X : Type 0} (b : Bool) (x y z : X) → b ≡ true → x ≡ cond b y z → x ≡ y
chosen b x y z here e = e ∙ ap (λ t. cond t y z) here

module _ {K C A : Type 0} (R : K → K → Ordering) where
  -- the versions of a key, by what the map has
  pub versions-get : (es : List (K × Vec (ℕ × Option C) A)) (q : K) → versions_in R (listed es) q ≡ unwrap_or (option_map (λ v. v.items) (lookup (is_at (R q)) es)) []
  versions-get es q = ap (λ o. unwrap_or o []) (lookup-map_values (λ v. v.items) (is_at (R q)) es)

  pub versions_some : (es : List (K × Vec (ℕ × Option C) A)) (q : K) (v : Vec (ℕ × Option C) A) → lookup (is_at (R q)) es ≡ Some v → versions_in R (listed es) q ≡ v.items
  versions_some es q v e = versions-get es q ∙ ap (λ o. unwrap_or (option_map (λ w. w.items) o) []) e

  pub versions_none : (es : List (K × Vec (ℕ × Option C) A)) (q : K) → lookup (is_at (R q)) es ≡ None → versions_in R (listed es) q ≡ []
  versions_none es q e = versions-get es q ∙ ap (λ o. unwrap_or (option_map (λ w. w.items) o) []) e

  -- a key with the same look-up has the same versions
  pub versions_alike : (es fs : List (K × Vec (ℕ × Option C) A)) (q : K) → lookup (is_at (R q)) fs ≡ lookup (is_at (R q)) es → versions_in R (listed fs) q ≡ versions_in R (listed es) q
  versions_alike es fs q e = versions-get fs q ∙ ap (λ o. unwrap_or (option_map (λ v. v.items) o) []) e ∙ sym (versions-get es q)

  -- w stands at k in fs, and the other keys have what they had in es
  pub versions_updated : (exact : (x y : K) → R x y ≡ Equal → x ≡ y) (es fs : List (K × Vec (ℕ × Option C) A)) (k : K) (w : Vec (ℕ × Option C) A) (f : List (ℕ × Option C) → List (ℕ × Option C)) → ((q : K) → lookup (is_at (R q)) fs ≡ cond (is_at (R k) q) (Some w) (lookup (is_at (R q)) es)) → w.items ≡ f (versions_in R (listed es) k) → (q : K) → versions_in R (listed fs) q ≡ cond (is_at (R k) q) (f (versions_in R (listed es) q)) (versions_in R (listed es) q)
  versions_updated exact es fs k w f h made q =
      let choose = λ (b : Bool). cond b (f (versions_in R (listed es) q)) (versions_in R (listed es) q) in
      ⊎_elim
      (λ at. versions_some fs q w (h q ∙ ap (λ b. cond b (Some w) (lookup (is_at (R q)) es)) at) ∙ made ∙ ap (λ x. f (versions_in R (listed es) x)) (exact k q ((Equal-is (R k q)).0 at)) ∙ sym (ap choose at))
      (λ apart. versions-get fs q ∙ ap (λ o. unwrap_or (option_map (λ v. v.items) o) []) (h q ∙ ap (λ b. cond b (Some w) (lookup (is_at (R q)) es)) apart) ∙ sym (versions-get es q) ∙ sym (ap choose apart))
      (cases_Bool (is_at (R k) q))

  -- nothing stands at k, where f makes nothing of nothing
  pub versions_absent : (exact : (x y : K) → R x y ≡ Equal → x ≡ y) (es : List (K × Vec (ℕ × Option C) A)) (k : K) (f : List (ℕ × Option C) → List (ℕ × Option C)) → lookup (is_at (R k)) es ≡ None → f [] ≡ [] → (q : K) → versions_in R (listed es) q ≡ cond (is_at (R k) q) (f (versions_in R (listed es) q)) (versions_in R (listed es) q)
  versions_absent exact es k f none empty q =
      let choose = λ (b : Bool). cond b (f (versions_in R (listed es) q)) (versions_in R (listed es) q) in
      ⊎_elim
      (λ at.
      let here : versions_in R (listed es) q ≡ [] = ap (versions_in R (listed es)) (sym (exact k q ((Equal-is (R k q)).0 at))) ∙ versions_none es k none in
      here ∙ sym empty ∙ ap f (sym here) ∙ sym (ap choose at))
      (λ apart. sym (ap choose apart))
      (cases_Bool (is_at (R k) q))

  -- k is taken out, where f left nothing of it
  pub versions_removed : (exact : (x y : K) → R x y ≡ Equal → x ≡ y) (es fs gs : List (K × Vec (ℕ × Option C) A)) (k : K) (f : List (ℕ × Option C) → List (ℕ × Option C)) → ((q : K) → lookup (is_at (R q)) gs ≡ cond (is_at (R k) q) None (lookup (is_at (R q)) fs)) → f (versions_in R (listed es) k) ≡ [] → ((q : K) → versions_in R (listed fs) q ≡ cond (is_at (R k) q) (f (versions_in R (listed es) q)) (versions_in R (listed es) q)) → (q : K) → versions_in R (listed gs) q ≡ cond (is_at (R k) q) (f (versions_in R (listed es) q)) (versions_in R (listed es) q)
  versions_removed exact es fs gs k f gone empty made q =
      let choose = λ (b : Bool). cond b (f (versions_in R (listed es) q)) (versions_in R (listed es) q) in
      ⊎_elim
      (λ at. versions_none gs q (gone q ∙ ap (λ b. cond b None (lookup (is_at (R q)) fs)) at) ∙ sym empty ∙ ap (λ x. f (versions_in R (listed es) x)) (exact k q ((Equal-is (R k q)).0 at)) ∙ sym (ap choose at))
      (λ apart. versions-get gs q ∙ ap (λ o. unwrap_or (option_map (λ v. v.items) o) []) (gone q ∙ ap (λ b. cond b None (lookup (is_at (R q)) fs)) apart) ∙ sym (versions-get fs q) ∙ made q)
      (cases_Bool (is_at (R k) q))

pub upto-upto : {C : Type 0} (n : ℕ) (vs : List (ℕ × Option C)) → upto n (upto n vs) ≡ upto n vs
upto-upto n [] = refl
upto-upto n (v ∷ vs) =
    ⊎_elim
    (λ yes. ap (λ b. upto n (cond b (v ∷ upto n vs) (upto n vs))) yes ∙ ap (λ b. cond b (v ∷ upto n (upto n vs)) (upto n (upto n vs))) yes ∙ ap (λ l. v ∷ l) (upto-upto n vs) ∙ sym (ap (λ b. cond b (v ∷ upto n vs) (upto n vs)) yes))
    (λ no. ap (λ b. upto n (cond b (v ∷ upto n vs) (upto n vs))) no ∙ upto-upto n vs ∙ sym (ap (λ b. cond b (v ∷ upto n vs) (upto n vs)) no))
    (cases_Bool (nat_le v.0 n))

pub upto_either : {C : Type 0} (n : ℕ) (b : Bool) (new old : List (ℕ × Option C)) → new ≡ cond b (upto n old) old → upto n new ≡ upto n old
upto_either n b new old e = ap (upto n) e ∙ elim b as (λ t. upto n (cond t (upto n old) old) ≡ upto n old) [ true ↦ upto-upto n old | false ↦ refl ]
