-- What the next number sees once a version is made ready.
use Rattle.std.proofs.Common.{◌≡◌, ℕ, ◌+◌, ◌≤◌, Bool, true, false, cond, ◌||◌, List, [], ◌∷◌, ◌++◌, Option, None, Some, is_some, nat_le, refl, sym, ap, subst, ◌∙◌, arith, ⊎_elim, ◌⊎◌}
use Rattle.std.proofs.lemmas.Bool.{cases_Bool, lt-leb, le-leb}
use Rattle.wtf_kv.specs.Seen.{last_seen_from, last_seen, value_seen, upto, above, ascends, within}
use Rattle.wtf_kv.specs.Staging.{staged, IsKeptOrCut}
use Rattle.wtf_kv.proofs.Prune.{ascends-upto, within-upto, within-more}
use Rattle.wtf_kv.proofs.Updated.{upto-upto}

module _ {C : Type 0} (n : ℕ) (x : Option C) where
  abbrev pub next : List (ℕ × Option C)
  next = (n + 1, x) ∷ []

  pub upto-next : (vs : List (ℕ × Option C)) → upto n (vs ++ next) ≡ upto n vs
  upto-next [] = ap (λ b. cond b next []) (lt-leb (n + 1) n (omega arith))
  upto-next (v ∷ vs) = elim (nat_le v.0 n) as (λ b. cond b (v ∷ upto n (vs ++ next)) (upto n (vs ++ next)) ≡ cond b (v ∷ upto n vs) (upto n vs)) [ true ↦ ap (λ l. v ∷ l) (upto-next vs) | false ↦ upto-next vs ]

  above-next : (m : ℕ) (vs : List (ℕ × Option C)) → m ≤ n → above m vs → above m (vs ++ next)
  above-next m [] le up = omega arith
  above-next m (v ∷ vs) le up = up

  ascends-next : (vs : List (ℕ × Option C)) → ascends vs → within n vs → ascends (vs ++ next)
  ascends-next [] up all = (tt, tt)
  ascends-next (v ∷ vs) up all = (above-next v.0 vs all.0 up.0, ascends-next vs up.1 all.1)

  within-next : (vs : List (ℕ × Option C)) → within n vs → within (n + 1) (vs ++ next)
  within-next [] all = (omega arith, tt)
  within-next (v ∷ vs) all = (let le : v.0 ≤ n = all.0 in omega arith, within-next vs all.1)

  pub seen-within : (vs : List (ℕ × Option C)) (seen : Option (ℕ × Option C)) → within n vs → last_seen_from (n + 1) vs seen ≡ last_seen_from n vs seen
  seen-within [] seen all = refl
  seen-within (v ∷ vs) seen all = let le : v.0 ≤ n = all.0 in
      ap (λ b. last_seen_from (n + 1) vs (cond b (Some v) seen)) (le-leb v.0 (n + 1) (omega arith)) ∙ seen-within vs (Some v) all.1 ∙ sym (ap (λ b. last_seen_from n vs (cond b (Some v) seen)) (le-leb v.0 n le))

pub upto-all : {C : Type 0} (n : ℕ) (vs : List (ℕ × Option C)) → within n vs → upto n vs ≡ vs
upto-all n [] all = refl
upto-all n (v ∷ vs) all = ap (λ b. cond b (v ∷ upto n vs) (upto n vs)) (le-leb v.0 n all.0) ∙ ap (λ l. v ∷ l) (upto-all n vs all.1)

pub none_from : {C : Type 0} (o : Option C) → is_some o ≡ false → o ≡ None
none_from None e = refl
none_from (Some x) e = cc

module _ {C : Type 0} (n : ℕ) (x : Option C) (vs : List (ℕ × Option C)) where
  counts : Bool
  counts = is_some x || is_some (value_seen (last_seen n (upto n vs)))

  pub staged-upto : upto n (staged n x vs) ≡ upto n vs
  staged-upto = elim (is_some x || is_some (value_seen (last_seen n (upto n vs)))) as (λ b. upto n (cond b (upto n vs ++ next n x) (upto n vs)) ≡ upto n vs) [ true ↦ upto-next n x (upto n vs) ∙ upto-upto n vs | false ↦ upto-upto n vs ]

  pub staged-good : ascends vs → ascends (staged n x vs) × within (n + 1) (staged n x vs)
  staged-good up = elim (is_some x || is_some (value_seen (last_seen n (upto n vs)))) as (λ b. ascends (cond b (upto n vs ++ next n x) (upto n vs)) × within (n + 1) (cond b (upto n vs ++ next n x) (upto n vs)))
      [ true ↦ (ascends-next n x (upto n vs) (ascends-upto n vs up) (within-upto n vs), within-next n x (upto n vs) (within-upto n vs)) | false ↦ (ascends-upto n vs up, within-more n (upto n vs) (within-upto n vs)) ]

module _ {C : Type 0} (n : ℕ) (new old : List (ℕ × Option C)) (is : IsKeptOrCut n old new) where
  pub cut-good : ascends old × within (n + 1) old → ascends new × within (n + 1) new
  cut-good h = ⊎_elim (λ e. subst (λ vs. ascends vs × within (n + 1) vs) (sym e) h) (λ e. subst (λ vs. ascends vs × within (n + 1) vs) (sym e) (ascends-upto n old h.0, within-more n (upto n old) (within-upto n old))) is

  pub cut-same : upto n new ≡ upto n old
  cut-same = ⊎_elim (λ e. ap (upto n) e) (λ e. ap (upto n) e ∙ upto-upto n old) is

-- one key of the cells, of which a version was made ready where b holds, or was to be
module _ {C : Type 0} (n : ℕ) (x : Option C) (b : Bool) (new old : List (ℕ × Option C)) (others : b ≡ false → new ≡ old) (at : (b ≡ true → new ≡ staged n x old) ⊎ (b ≡ true → IsKeptOrCut n old new)) where
  pub step-good : ascends old × within (n + 1) old → ascends new × within (n + 1) new
  step-good h =
      ⊎_elim
      (λ here. ⊎_elim (λ ok. subst (λ vs. ascends vs × within (n + 1) vs) (sym (ok here)) (staged-good n x old h.0)) (λ cut. cut-good n new old (cut here) h) at)
      (λ apart. subst (λ vs. ascends vs × within (n + 1) vs) (sym (others apart)) h)
      (cases_Bool b)

  pub step-same : upto n new ≡ upto n old
  step-same =
      ⊎_elim
      (λ here. ⊎_elim (λ ok. ap (upto n) (ok here) ∙ staged-upto n x old) (λ cut. cut-same n new old (cut here)) at)
      (λ apart. ap (upto n) (others apart))
      (cases_Bool b)
