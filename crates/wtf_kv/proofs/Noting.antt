-- Keys that are noted before something is made ready for them.
use Rattle.std.proofs.Common.{◌≡◌, ℕ, ◌+◌, ◌≤◌, Bool, true, false, cond, ◌||◌, ◌⊎◌, inl, inr, List, [], ◌∷◌, ◌++◌, Result, Ok, Err, OnOk, OnErr, refl, sym, ap, subst, ◌∙◌, arith, length, length-append, drop, Option, ⊎_elim, take}
use Rattle.std.proofs.lemmas.List.{drop-append-le, take-append-le}
use Rattle.std.proofs.lemmas.List.Folds.{list_any-append}
use Rattle.std.proofs.lemmas.Bool.{or_parts, cases_Bool}
use Rattle.std.specs.declared.cmp.Ordering.{Ordering}
use Rattle.std.specs.BTreeMap.{is_at}
use Rattle.wtf_kv.specs.Seen.{within, ascends, upto, is_settled}
use Rattle.wtf_kv.specs.Stores.{names, versions_in}
use Rattle.wtf_kv.specs.Staging.{staged, IsKeptOrCut}
use Rattle.std.specs.Option.{unwrap_or}
use Rattle.wtf_kv.specs.declared.recent.Recent.{Recent}
use Rattle.wtf_kv.specs.Recents.{may_change, NotesMore, IsMarked}
use Rattle.wtf_kv.specs.Inside.{Noted, AllGood, Sound}
use Rattle.wtf_kv.proofs.Next.{step-good, step-same}
use Rattle.wtf_kv.proofs.Prune.{ascends-upto, within-upto, within-more}
use Rattle.wtf_kv.proofs.Updated.{upto_either}

-- what holds of either outcome
pub either : {A E P Q : Type 0} (r : Result A E) → OnOk r P → OnErr r Q → P ⊎ Q
either (Ok x) p q = inl p
either (Err e) p q = inr q

or-false : (b : Bool) → (b || false) ≡ b
or-false b = elim b as (λ t. (t || false) ≡ t) [ true ↦ refl | false ↦ refl ]

module _ {K : Type 0} (R : K → K → Ordering) where
  -- a list with one more key names what it named, and that key
  pub names-push : (ks : List K) (k q : K) → names R (ks ++ k ∷ []) q ≡ (names R ks q || is_at (R k) q)
  names-push ks k q = list_any-append (λ x. is_at (R x) q) ks (k ∷ []) ∙ ap (λ b. names R ks q || b) (or-false (is_at (R k) q))

module _ {K C : Type 0} (R : K → K → Ordering) (number fresh : ℕ) (ts : List K) (k : K) (old new : List (K × List (ℕ × Option C))) (cleared : (q : K) → versions_in R new q ≡ cond (is_at (R k) q) (upto number (versions_in R old q)) (versions_in R old q)) where
  -- the last key was cleared and taken out
  pub noted-pop : fresh ≤ length ts → Noted R number fresh (ts ++ k ∷ []) old → Noted R number fresh ts new
  noted-pop le h = record {
    inside = le;
    clean = λ q none. ⊎_elim
        (λ here. subst (within number) (sym (cleared q ∙ ap (λ b. cond b (upto number (versions_in R old q)) (versions_in R old q)) here)) (within-upto number (versions_in R old q)))
        (λ apart. subst (within number) (sym (cleared q ∙ ap (λ b. cond b (upto number (versions_in R old q)) (versions_in R old q)) apart))
        (h.clean q (ap (λ l. names R l q) (drop-append-le fresh ts (k ∷ []) le) ∙ names-push R (drop fresh ts) k q ∙ ap (λ b. b || is_at (R k) q) none ∙ apart)))
        (cases_Bool (is_at (R k) q));
  }

  pub cleared-good : AllGood R number old → AllGood R number new
  cleared-good good = λ q. subst (λ vs. ascends vs × within (number + 1) vs) (sym (cleared q))
      (elim (is_at (R k) q) as (λ b. ascends (cond b (upto number (versions_in R old q)) (versions_in R old q)) × within (number + 1) (cond b (upto number (versions_in R old q)) (versions_in R old q))) [
        | true ↦ (ascends-upto number (versions_in R old q) (good q).0, within-more number (upto number (versions_in R old q)) (within-upto number (versions_in R old q)))
        | false ↦ good q
      ])

  pub cleared-same : (q : K) → upto number (versions_in R new q) ≡ upto number (versions_in R old q)
  cleared-same q = upto_either number (is_at (R k) q) (versions_in R new q) (versions_in R old q) (cleared q)

-- ---- the keys that changed since the mark
module _ {K C : Type 0} (R : K → K → Ordering) where
  pub noted_marked : (r s : Recent K) (cells : List (K × List (ℕ × Option C))) → NotesMore R r s → IsMarked R r cells → IsMarked R s cells
  noted_marked r s cells more h = λ q none. subst (λ o. within (unwrap_or o 0) (versions_in R cells q)) (sym more.since) (h q (more.more q none))

  pub staged_marked : (r s : Recent K) (k : K) (old new : List (K × List (ℕ × Option C))) → NotesMore R r s → ((q : K) → is_at (R k) q ≡ true → may_change R s q ≡ true) → ((q : K) → is_at (R k) q ≡ false → versions_in R new q ≡ versions_in R old q) → IsMarked R r old → IsMarked R s new
  staged_marked r s k old new more noted others h = λ q none.
      ⊎_elim
      (λ here. let bad : true ≡ false = sym (noted q here) ∙ none in cc)
      (λ apart. subst (within (unwrap_or s.since 0)) (sym (others q apart)) (noted_marked r s old more h q none))
      (cases_Bool (is_at (R k) q))

  -- the key was not noted, but the list that is kept of changes may have it
  pub refused_sound : (number fresh : ℕ) (r s : Recent K) (ts us : List K) (cells : List (K × List (ℕ × Option C))) → us ≡ ts → NotesMore R r s → Sound R number fresh r ts cells → Sound R number fresh s us cells
  refused_sound number fresh r s ts us cells is more h = subst (λ l. Sound R number fresh s l cells) (sym is) (record { good = h.good; noted = h.noted; loose = h.loose; marked = noted_marked r s cells more h.marked })

-- the key k was noted, and then its next version made ready with x, or not
module _ {K C : Type 0} (R : K → K → Ordering) (number fresh : ℕ) (x : Option C) (r s : Recent K) (ts us : List K) (k : K) (old new : List (K × List (ℕ × Option C))) (others : (q : K) → is_at (R k) q ≡ false → versions_in R new q ≡ versions_in R old q) where
  module _ (at : ((q : K) → is_at (R k) q ≡ true → versions_in R new q ≡ staged number x (versions_in R old q)) ⊎ ((q : K) → is_at (R k) q ≡ true → IsKeptOrCut number (versions_in R old q) (versions_in R new q))) where
    at_key : (q : K) → (is_at (R k) q ≡ true → versions_in R new q ≡ staged number x (versions_in R old q)) ⊎ (is_at (R k) q ≡ true → IsKeptOrCut number (versions_in R old q) (versions_in R new q))
    at_key q = ⊎_elim (λ ok. inl (ok q)) (λ err. inr (err q)) at

    pub staged_shown : (q : K) → upto number (versions_in R new q) ≡ upto number (versions_in R old q)
    staged_shown q = step-same number x (is_at (R k) q) (versions_in R new q) (versions_in R old q) (others q) (at_key q)

    pub staged_sound : us ≡ ts ++ k ∷ [] → NotesMore R r s → ((q : K) → is_at (R k) q ≡ true → may_change R s q ≡ true) → Sound R number fresh r ts old → Sound R number fresh s us new
    staged_sound is more noted h =
        let le : fresh ≤ length ts = h.noted.inside in
        record {
          good = λ q. step-good number x (is_at (R k) q) (versions_in R new q) (versions_in R old q) (others q) (at_key q) (h.good q);
          noted = record {
            inside = (let long = ap length is ∙ length-append ts (k ∷ []) in omega arith);
            clean = λ q none.
                let named : names R (drop fresh us) q ≡ (names R (drop fresh ts) q || is_at (R k) q) = ap (λ l. names R (drop fresh l) q) is ∙ ap (λ l. names R l q) (drop-append-le fresh ts (k ∷ []) le) ∙ names-push R (drop fresh ts) k q in
                let parts = or_parts _ _ (sym named ∙ none) in
                subst (within number) (sym (others q parts.1)) (h.noted.clean q parts.0);
          };
          loose = λ q none. ap is_settled (staged_shown q) ∙ h.loose q (ap (λ l. names R l q) (sym (ap (take fresh) is ∙ take-append-le fresh ts (k ∷ []) le)) ∙ none);
          marked = staged_marked R r s k old new more noted others h.marked;
        }

  -- each key has what it is to have
  pub staged_all : ((q : K) → is_at (R k) q ≡ true → versions_in R new q ≡ staged number x (versions_in R old q)) → (q : K) → versions_in R new q ≡ cond (is_at (R k) q) (staged number x (versions_in R old q)) (versions_in R old q)
  staged_all ok q =
      let choose = λ (b : Bool). cond b (staged number x (versions_in R old q)) (versions_in R old q) in
      ⊎_elim
      (λ here. ok q here ∙ sym (ap choose here))
      (λ apart. others q apart ∙ sym (ap choose apart))
      (cases_Bool (is_at (R k) q))
