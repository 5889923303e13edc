-- How what is known of values follows the changes.
use Rattle.std.proofs.Common.{◌≡◌, Bool, true, false, cond, List, [], ◌∷◌, ◌++◌, map, Option, None, Some, refl, sym, ap, subst, ◌∙◌, ⊎_elim, append-nil, append_assoc}
use Rattle.std.specs.declared.cmp.Ordering.{Ordering}
use Rattle.std.specs.declared.cmp.Ordering.TheVariants.{Equal}
use Rattle.std.specs.Map.{lookup}
use Rattle.std.specs.Option.{unwrap_or}
use Rattle.std.specs.BTreeMap.{is_at}
use Rattle.std.specs.Cmp.{Equal-is}
use Rattle.std.proofs.lemmas.Bool.{cases_Bool}
use Rattle.wtf_kv.specs.declared.cell.Applied.{Applied}
use Rattle.wtf_kv.specs.declared.changes.Change.{Change}
use Rattle.wtf_kv.specs.declared.changes.Change.TheVariants.{Delta, Cut}
use Rattle.wtf_kv.specs.Edits.{value_made, after_change, after_changes}
use Rattle.wtf_occ.specs.declared.known.Known.{Known}
use Rattle.wtf_occ.specs.declared.known.Summed.{Summed}
use Rattle.wtf_occ.specs.Known.{IsKnown, AreKnown, Forgets, IsMade, IsSummed, IsPlaced}

-- what is taken out is gone, whatever stood there
pub gone_both : {K X : Type 0} (R : K → K → Ordering) (es fs gs : List (K × X)) (k : K) (w : X)
    → ((q : K) → lookup (is_at (R q)) gs ≡ cond (is_at (R k) q) None (lookup (is_at (R q)) fs))
    → ((q : K) → lookup (is_at (R q)) fs ≡ cond (is_at (R k) q) (Some w) (lookup (is_at (R q)) es))
    → (q : K) → lookup (is_at (R q)) gs ≡ cond (is_at (R k) q) None (lookup (is_at (R q)) es)
gone_both R es fs gs k w gone made q =
    gone q ∙ ap (cond (is_at (R k) q) None) (made q)
    ∙ elim (is_at (R k) q) as (λ b. cond b None (cond b (Some w) (lookup (is_at (R q)) es)) ≡ cond b None (lookup (is_at (R q)) es)) [ true ↦ refl | false ↦ refl ]

module _ {K X D : Type 0} (order : K → K → Ordering) (Is : List (Change K D) → K → X → Type 0) where
  -- a delta of another key leaves what is known, in both directions
  pub record StaysKnown : Type 0 where
    pub on : (cs : List (Change K D)) (k q : K) (d : D) (x : X) → is_at (order k) q ≡ false → Is cs q x → Is (cs ++ Delta k d ∷ []) q x
    pub back : (cs : List (Change K D)) (k q : K) (d : D) (x : X) → is_at (order k) q ≡ false → Is (cs ++ Delta k d ∷ []) q x → Is cs q x

  pub AreKnown-nothing : (cs : List (Change K D)) (es : List (K × X)) → es ≡ [] → AreKnown order Is cs es
  AreKnown-nothing cs es none = record { each = λ q. subst (λ l. IsKnown order Is cs q (lookup (is_at (order q)) l)) (sym none) tt }

  module _ (stays : StaysKnown) (exact : (x y : K) → order x y ≡ Equal → x ≡ y) (cs : List (Change K D)) (es fs : List (K × X)) where
    on : (k q : K) (d : D) (o : Option X) → is_at (order k) q ≡ false → IsKnown order Is cs q o → IsKnown order Is (cs ++ Delta k d ∷ []) q o
    on k q d None apart known = tt
    on k q d (Some x) apart known = stays.on cs k q d x apart known

    back : (k q : K) (d : D) (o : Option X) → is_at (order k) q ≡ false → IsKnown order Is (cs ++ Delta k d ∷ []) q o → IsKnown order Is cs q o
    back k q d None apart known = tt
    back k q d (Some x) apart known = stays.back cs k q d x apart known

    -- a delta of k comes, of which nothing was known
    pub AreKnown-absent : (k : K) (d : D) → lookup (is_at (order k)) es ≡ None → AreKnown order Is cs es → AreKnown order Is (cs ++ Delta k d ∷ []) es
    AreKnown-absent k d none known = record {
      each = λ q. ⊎_elim
          (λ at. subst (IsKnown order Is (cs ++ Delta k d ∷ []) q) (sym (ap (λ x. lookup (is_at (order x)) es) (sym (exact k q ((Equal-is (order k q)).0 at))) ∙ none)) tt)
          (λ apart. on k q d (lookup (is_at (order q)) es) apart (known.each q))
          (cases_Bool (is_at (order k) q));
    }

    -- a delta of k comes, and what was known of it is dropped
    pub AreKnown-dropped : (k : K) (d : D) → ((q : K) → lookup (is_at (order q)) fs ≡ cond (is_at (order k) q) None (lookup (is_at (order q)) es))
        → AreKnown order Is cs es → AreKnown order Is (cs ++ Delta k d ∷ []) fs
    AreKnown-dropped k d h known = record {
      each = λ q.
          let choose = λ (b : Bool). cond b None (lookup (is_at (order q)) es) in
          ⊎_elim
          (λ at. subst (IsKnown order Is (cs ++ Delta k d ∷ []) q) (sym (h q ∙ ap choose at)) tt)
          (λ apart. subst (IsKnown order Is (cs ++ Delta k d ∷ []) q) (sym (h q ∙ ap choose apart)) (on k q d (lookup (is_at (order q)) es) apart (known.each q)))
          (cases_Bool (is_at (order k) q));
    }

    -- a delta of k comes, and what is known of it becomes w
    pub AreKnown-followed : (k : K) (d : D) (w : X) → Is (cs ++ Delta k d ∷ []) k w
        → ((q : K) → lookup (is_at (order q)) fs ≡ cond (is_at (order k) q) (Some w) (lookup (is_at (order q)) es))
        → AreKnown order Is cs es → AreKnown order Is (cs ++ Delta k d ∷ []) fs
    AreKnown-followed k d w here h known = record {
      each = λ q.
          let more = cs ++ Delta k d ∷ [] in
          let choose = λ (b : Bool). cond b (Some w) (lookup (is_at (order q)) es) in
          ⊎_elim
          (λ at. subst (IsKnown order Is more q) (sym (h q ∙ ap choose at)) (subst (λ x. Is more x w) (exact k q ((Equal-is (order k q)).0 at)) here))
          (λ apart. subst (IsKnown order Is more q) (sym (h q ∙ ap choose apart)) (on k q d (lookup (is_at (order q)) es) apart (known.each q)))
          (cases_Bool (is_at (order k) q));
    }

    -- w is known of k
    pub AreKnown-added : (k : K) (w : X) → Is cs k w
        → ((q : K) → lookup (is_at (order q)) fs ≡ cond (is_at (order k) q) (Some w) (lookup (is_at (order q)) es))
        → AreKnown order Is cs es → AreKnown order Is cs fs
    AreKnown-added k w here h known = record {
      each = λ q.
          let choose = λ (b : Bool). cond b (Some w) (lookup (is_at (order q)) es) in
          ⊎_elim
          (λ at. subst (IsKnown order Is cs q) (sym (h q ∙ ap choose at)) (subst (λ x. Is cs x w) (exact k q ((Equal-is (order k q)).0 at)) here))
          (λ apart. subst (IsKnown order Is cs q) (sym (h q ∙ ap choose apart)) (known.each q))
          (cases_Bool (is_at (order k) q));
    }

    -- the last change goes, and what was known of what it changes is dropped
    pub AreKnown-back : (c : Change K D) → Forgets order c es fs → AreKnown order Is (cs ++ c ∷ []) es → AreKnown order Is cs fs
    AreKnown-back (Delta k d) h known = record {
      each = λ q.
          let choose = λ (b : Bool). cond b None (lookup (is_at (order q)) es) in
          ⊎_elim
          (λ at. subst (IsKnown order Is cs q) (sym (h q ∙ ap choose at)) tt)
          (λ apart. subst (IsKnown order Is cs q) (sym (h q ∙ ap choose apart)) (back k q d (lookup (is_at (order q)) es) apart (known.each q)))
          (cases_Bool (is_at (order k) q));
    }
    AreKnown-back (Cut from to) none known = AreKnown-nothing cs fs none

  -- deltas of k come, where what is known of it holds after any changes
  module _ (stays : StaysKnown) (exact : (x y : K) → order x y ≡ Equal → x ≡ y) (k : K) (es : List (K × X)) where
    pub AreKnown-free : ((cs : List (Change K D)) → IsKnown order Is cs k (lookup (is_at (order k)) es)) → (ds : List D) (cs : List (Change K D))
        → AreKnown order Is cs es → AreKnown order Is (cs ++ map (Delta k) ds) es
    AreKnown-free free [] cs known = subst (λ l. AreKnown order Is l es) (sym (append-nil cs)) known
    AreKnown-free free (d ∷ ds) cs known =
        let more = cs ++ Delta k d ∷ [] in
        subst (λ l. AreKnown order Is l es) (append_assoc cs (Delta k d ∷ []) (map (Delta k) ds))
        (AreKnown-free free ds more (record {
          each = λ q. ⊎_elim
              (λ at. subst (λ x. IsKnown order Is more x (lookup (is_at (order x)) es)) (exact k q ((Equal-is (order k q)).0 at)) (free more))
              (λ apart. on stays exact cs es es k q d (lookup (is_at (order q)) es) apart (known.each q))
              (cases_Bool (is_at (order k) q));
        }))

module _ {K C D : Type 0} (order : K → K → Ordering) (outcome : Option C → D → Applied C) where
  pub after_push : (cs : List (Change K D)) (c : Change K D) (q : K) (now : Option C) → after_changes order outcome (cs ++ c ∷ []) q now ≡ after_change order outcome c q (after_changes order outcome cs q now)
  after_push [] c q now = refl
  after_push (d ∷ cs) c q now = after_push cs c q (after_change order outcome d q now)

  -- a delta of another key leaves the value
  after_other : (cs : List (Change K D)) (k q : K) (d : D) (now : Option C) → is_at (order k) q ≡ false → after_changes order outcome (cs ++ Delta k d ∷ []) q now ≡ after_changes order outcome cs q now
  after_other cs k q d now apart =
      let was = after_changes order outcome cs q now in
      after_push cs (Delta k d) q now ∙ ap (λ b. cond b (value_made (outcome was d) was) was) apart

  pub made_stays : StaysKnown order (IsMade order outcome)
  made_stays = record {
    on = λ cs k q d x apart made. made ∙ sym (after_other cs k q d x.before apart);
    back = λ cs k q d x apart made. made ∙ after_other cs k q d x.before apart;
  }

  -- a value that follows a delta is what it makes
  pub made_followed : (cs : List (Change K D)) (k : K) (d : D) (old w : Known C) → w ≡ record old { after = after_change order outcome (Delta k d) k old.after }
      → IsMade order outcome cs k old → IsMade order outcome (cs ++ Delta k d ∷ []) k w
  made_followed cs k d old w is was =
      ap (λ (x : Known C). x.after) is ∙ ap (after_change order outcome (Delta k d) k) was
      ∙ sym (after_push cs (Delta k d) k old.before) ∙ ap (after_changes order outcome (cs ++ Delta k d ∷ []) k) (sym (ap (λ (x : Known C). x.before) is))

  module _ {S : Type 0} (summary : Option C → S) where
    placed_on : (cs : List (Change K D)) (k q : K) (d : D) (x : Option (Summed S)) → is_at (order k) q ≡ false
        → IsPlaced order outcome summary cs q x → IsPlaced order outcome summary (cs ++ Delta k d ∷ []) q x
    placed_on cs k q d None apart none = tt
    placed_on cs k q d (Some s) apart summed = λ now is. summed now is ∙ ap summary (sym (after_other cs k q d now apart))

    placed_back : (cs : List (Change K D)) (k q : K) (d : D) (x : Option (Summed S)) → is_at (order k) q ≡ false
        → IsPlaced order outcome summary (cs ++ Delta k d ∷ []) q x → IsPlaced order outcome summary cs q x
    placed_back cs k q d None apart none = tt
    placed_back cs k q d (Some s) apart summed = λ now is. summed now is ∙ ap summary (after_other cs k q d now apart)

    pub placed_stays : StaysKnown order (IsPlaced order outcome summary)
    placed_stays = record { on = placed_on; back = placed_back }

    -- a summary that follows a change is that of what it makes
    pub summed_followed : (cs : List (Change K D)) (c : Change K D) (k : K) (old w : Summed S) → w.before ≡ old.before
        → ((now : Option C) → old.after ≡ summary now → w.after ≡ summary (after_change order outcome c k now))
        → IsSummed order outcome summary cs k old → IsSummed order outcome summary (cs ++ c ∷ []) k w
    summed_followed cs c k old w before follows was = λ now is.
        follows (after_changes order outcome cs k now) (was now (sym before ∙ is)) ∙ ap summary (sym (after_push cs c k now))

    -- where there is no summary in the place of k, what is known of it holds after any changes
    pub placed_free : (k : K) (o : Option (Option (Summed S))) → unwrap_or o None ≡ None → (cs : List (Change K D)) → IsKnown order (IsPlaced order outcome summary) cs k o
    placed_free k None none cs = tt
    placed_free k (Some None) none cs = tt
    placed_free k (Some (Some s)) none cs = absurd (cc)
