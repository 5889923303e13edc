-- What the calls of a store leave, by what they leave of its cells.
use Rattle.std.proofs.Common.{◌≡◌, ℕ, ◌+◌, ◌<◌, ◌≤◌, Bool, true, false, cond, ◌||◌, ◌&&◌, ◌⊎◌, inl, inr, List, [], ◌∷◌, ◌++◌, Option, None, Some, is_some, nat_le, nat_eq, IsTrue, refl, sym, ap, subst, ◌∙◌, arith, ⊎_elim, length, take, drop}
use Rattle.std.specs.declared.cmp.Ordering.{Ordering}
use Rattle.std.specs.BTreeMap.{is_at}
use Rattle.std.specs.Option.{unwrap_or}
use Rattle.std.specs.List.{list_any}
use Rattle.std.proofs.lemmas.Bool.{cases_Bool, or_cases, or_parts, eqb-true, lt-leb, le-leb, leb-false}
use Rattle.std.proofs.lemmas.List.{take-append-drop}
use Rattle.std.proofs.Math.Seq.{take-length}
use Rattle.std.proofs.lemmas.List.Folds.{list_any-append}
use Rattle.wtf_kv.specs.declared.cell.Applied.{Applied}
use Rattle.wtf_kv.specs.Seen.{last_seen, value_seen, number_seen, reported, upto, ascends, within, kept_versions, is_settled, above, has_any, has_upto}
use Rattle.std.specs.declared.ops.Bound.{Bound}
use Rattle.std.specs.BTreeMap.Range.{is_from_start}
use Rattle.wtf_kv.specs.Order.{is_past, IsNextKey, IsFirstFrom}
use Rattle.wtf_kv.specs.Stores.{Store, names, versions_in, versions_of, map_at, version_of, is_live, AllAscend}
use Rattle.wtf_kv.specs.declared.recent.Recent.{Recent}
use Rattle.wtf_kv.specs.Inside.{Sound, AllGood}
use Rattle.wtf_kv.specs.Edits.{after_changes, over, any_touches, makes_version, versions_with, version_with}
use Rattle.wtf_kv.specs.Installs.{Planned, IsReady}
use Rattle.wtf_kv.specs.Staging.{value_next}
use Rattle.wtf_kv.proofs.Sees.{last_seen-push, last_seen_from-upto}
use Rattle.wtf_kv.proofs.Prune.{Live, kept_shown, first, value-reported, ascends-upto, within-upto, within-more, within-cut, ascends-kept, within-kept}
use Rattle.wtf_kv.proofs.Next.{upto-all, seen-within}
use Rattle.wtf_kv.proofs.Made.{made-value, number-value}

pub live_cases : {K C : Type 0} (s : Store K C) (n : ℕ) → IsTrue (is_live s n) → (n ≡ s.number) ⊎ (list_any (nat_eq n) s.pins ≡ true)
live_cases s n live = ⊎_elim (λ e. inl (eqb-true n s.number e)) (λ pinned. inr pinned) (or_cases _ _ live)

pub live-le : {K C : Type 0} (s : Store K C) (n : ℕ) → ((p : ℕ) → list_any (nat_eq p) s.pins ≡ true → p ≤ s.number) → IsTrue (is_live s n) → n ≤ s.number
live-le s n bound live = ⊎_elim (λ e. omega arith) (λ pinned. bound n pinned) (live_cases s n live)

-- ---- what is not named by a list is named by no part of it
pub names-split : {K : Type 0} (R : K → K → Ordering) (fresh : ℕ) (ts : List K) (q : K) → names R ts q ≡ false → (names R (take fresh ts) q ≡ false) × (names R (drop fresh ts) q ≡ false)
names-split R fresh ts q none =
    or_parts _ _ (sym (list_any-append (λ k. is_at (R k) q) (take fresh ts) (drop fresh ts)) ∙ ap (λ l. names R l q) (take-append-drop fresh ts) ∙ none)

module _ {K C : Type 0} (R : K → K → Ordering) where
  -- ---- stores that show the same
  -- ---- read
  pub read_value : (s : Store K C) (n : ℕ) (q : K) → n ≤ s.number → value_seen (last_seen n (versions_in R s.cells q)) ≡ map_at R s n q
  read_value s n q le = ap value_seen (sym (last_seen_from-upto s.number n (versions_in R s.cells q) None le))

  pub read_version : (s : Store K C) (n : ℕ) (q : K) → n ≤ s.number → number_seen (reported s.pins (last_seen n (versions_in R s.cells q))) ≡ version_of R s n q
  read_version s n q le = ap (λ o. number_seen (reported s.pins o)) (sym (last_seen_from-upto s.number n (versions_in R s.cells q) None le))

  -- ---- prune
  module _ (old new : Store K C) (bound : (p : ℕ) → list_any (nat_eq p) old.pins ≡ true → p ≤ old.number) (up : AllAscend R old) (pins : new.pins ≡ old.pins) (kept : (q : K) → versions_of R new q ≡ kept_versions old.pins (versions_of R old q)) where
    pruned_reported : (n : ℕ) → IsTrue (is_live old n) → (q : K) → reported old.pins (last_seen n (versions_of R new q)) ≡ reported old.pins (last_seen n (versions_of R old q))
    pruned_reported n live q =
        let vs = versions_of R old q in
        let known : Live old.pins n vs = ⊎_elim (λ e. inr (subst (λ m. within m vs) (sym e) (within-upto old.number (versions_in R old.cells q)))) (λ pinned. inl pinned) (live_cases old n live) in
        ap (λ ws. reported old.pins (last_seen n ws)) (kept q)
        ∙ kept_shown old.pins n vs None (up q) known (first old.pins vs)

    pub pruned_map : (n : ℕ) → IsTrue (is_live old n) → map_at R new n ≡ map_at R old n
    pruned_map n live = λ i q.
        (sym (value-reported old.pins (last_seen n (versions_of R new q))) ∙ ap value_seen (pruned_reported n live q) ∙ value-reported old.pins (last_seen n (versions_of R old q))) i

    pub pruned_versions : (n : ℕ) → IsTrue (is_live old n) → version_of R new n ≡ version_of R old n
    pruned_versions n live = λ i q.
        (ap (λ p. number_seen (reported p (last_seen n (versions_of R new q)))) pins ∙ ap number_seen (pruned_reported n live q)) i

  module _ (number fresh : ℕ) (pins : List ℕ) (r : Recent K) (ts us : List K) (old new : List (K × List (ℕ × Option C))) (sound : Sound R number fresh r ts old) (kept : (q : K) → versions_in R new q ≡ kept_versions pins (upto number (versions_in R old q))) where
    pub pruned_within : (q : K) → within number (versions_in R new q)
    pruned_within q = subst (within number) (sym (kept q)) (within-kept pins number (upto number (versions_in R old q)) (within-upto number (versions_in R old q)))

    pub pruned_all : (q : K) → upto number (versions_in R new q) ≡ kept_versions pins (upto number (versions_in R old q))
    pruned_all q = upto-all number (versions_in R new q) (pruned_within q) ∙ kept q

    pub pruned_sound : ((q : K) → names R us q ≡ false → is_settled (versions_in R new q) ≡ true) → (n : ℕ) → n ≡ length us → Sound R number n r us new
    pruned_sound loose n is = record {
      good = λ q. (subst ascends (sym (kept q)) (ascends-kept pins (upto number (versions_in R old q)) (ascends-upto number (versions_in R old q) (sound.good q).0)), within-more number (versions_in R new q) (pruned_within q));
      noted = record { inside = omega arith; clean = λ q none. pruned_within q };
      loose = λ q none. ap is_settled (upto-all number (versions_in R new q) (pruned_within q)) ∙ loose q (sym (ap (λ l. names R l q) (ap (λ m. take m us) is ∙ take-length us)) ∙ none);
      marked = λ q none. subst (within (unwrap_or r.since 0)) (sym (kept q)) (within-kept pins (unwrap_or r.since 0) (upto number (versions_in R old q)) (within-cut (unwrap_or r.since 0) number (versions_in R old q) (sound.marked q none)));
    }

  -- ---- install
  module _ (number fresh : ℕ) (r : Recent K) (ts : List K) (cells : List (K × List (ℕ × Option C))) (sound : Sound R number fresh r ts cells) where
    pub installed_sound : (n : ℕ) → n ≡ length ts → Sound R (number + 1) n r ts cells
    installed_sound n is = record {
      good = λ q. ((sound.good q).0, within-more (number + 1) (versions_in R cells q) (sound.good q).1);
      noted = record { inside = omega arith; clean = λ q none. (sound.good q).1 };
      loose = λ q none.
          let none_at_all : names R ts q ≡ false = sym (ap (λ l. names R l q) (ap (λ m. take m ts) is ∙ take-length ts)) ∙ none in
          let parts = names-split R fresh ts q none_at_all in
          ap is_settled (upto-all (number + 1) (versions_in R cells q) (sound.good q).1 ∙ sym (upto-all number (versions_in R cells q) (sound.noted.clean q parts.1)))
          ∙ sound.loose q parts.0;
      marked = sound.marked;
    }

-- ---- the next key
later : {C : Type 0} (n m : ℕ) (vs : List (ℕ × Option C)) → n < m → above m vs → above n vs
later n m [] lt h = tt
later n m (v ∷ vs) lt h = let next : m < v.0 = h in omega arith

none_upto : {C : Type 0} (n : ℕ) (vs : List (ℕ × Option C)) → above n vs → ascends vs → upto n vs ≡ []
none_upto n [] up h = refl
none_upto n (v ∷ vs) up h =
    ap (λ b. cond b (v ∷ upto n vs) (upto n vs)) (lt-leb v.0 n up) ∙ none_upto n vs (later n v.0 vs up h.0) h.1

-- a key has a version that is at most n where its first one is
has_any-upto : {C : Type 0} (n : ℕ) (vs : List (ℕ × Option C)) → ascends vs → has_any (upto n vs) ≡ has_upto n vs
has_any-upto n [] h = refl
has_any-upto n (v ∷ vs) h =
    ⊎_elim
    (λ here. ap (λ b. has_any (cond b (v ∷ upto n vs) (upto n vs))) here ∙ sym here)
    (λ past. ap (λ b. has_any (cond b (v ∷ upto n vs) (upto n vs))) past ∙ ap has_any (none_upto n vs (later n v.0 vs (leb-false v.0 n past) h.0) h.1) ∙ sym past)
    (cases_Bool (nat_le v.0 n))

pub next_from_first : {K C : Type 0} (R : K → K → Ordering) (s : Store K C) (start : Bound K) (after found : Option K) → AllGood R s.number s.cells → ((q : K) → is_from_start R start q ≡ is_past R after q) → IsFirstFrom R start s.number s.cells found → IsNextKey R s after found
next_from_first R s start after None good alike h = λ q past. has_any-upto s.number (versions_in R s.cells q) (good q).0 ∙ h q (alike q ∙ past)
next_from_first R s start after (Some k) good alike h = (
  sym (alike k) ∙ h.0,
  has_any-upto s.number (versions_in R s.cells k) (good k).0 ∙ h.1,
  λ q past has. h.2 q (alike q ∙ past) (sym (has_any-upto s.number (versions_in R s.cells q) (good q).0) ∙ has),
)

module _ {K C D : Type 0} (R : K → K → Ordering) (outcome : Option C → D → Applied C) (old new : Store K C) (plan : Planned K D) (ready : IsReady R outcome old plan) (number : new.number ≡ old.number + 1) (shown : (q : K) → versions_of R new q ≡ versions_in R old.cells q) where
  pub installed_versions : (q : K) → versions_of R new q ≡ versions_with R outcome plan.changes new.number q (map_at R old old.number q) (versions_of R old q)
  installed_versions q =
      shown q
      ∙ ready.versions q
      ∙ ap (λ n. versions_with R outcome plan.changes n q (map_at R old old.number q) (versions_of R old q)) (ready.next ∙ sym number)

  pub installed_map : map_at R new new.number ≡ over R outcome plan.changes (map_at R old old.number)
  installed_map = λ i q.
      (let base = versions_of R old q in
      let all : within old.number base = within-upto old.number (versions_in R old.cells q) in
      let before : map_at R old old.number q ≡ value_next old.number base = number-value old.number base all in
      ap (λ vs. value_seen (last_seen new.number vs)) (installed_versions q)
      ∙ ap (λ n. value_seen (last_seen n (versions_with R outcome plan.changes n q (map_at R old old.number q) base))) number
      ∙ ap (λ v. value_next old.number (versions_with R outcome plan.changes (old.number + 1) q v base)) before
      ∙ made-value R outcome q old.number base all plan.changes
      ∙ ap (after_changes R outcome plan.changes q) (sym before)) i

  earlier : (vs : List (ℕ × Option C)) (x : Option C) (b : Bool) (n : ℕ) → n ≤ old.number → value_seen (last_seen n (cond b (vs ++ (new.number, x) ∷ []) vs)) ≡ value_seen (last_seen n vs)
  earlier vs x b n le =
      elim b as (λ t. value_seen (last_seen n (cond t (vs ++ (new.number, x) ∷ []) vs)) ≡ value_seen (last_seen n vs)) [
        | true ↦ ap value_seen (last_seen-push n vs (new.number, x) ∙ ap (λ t. cond t (Some (new.number, x)) (last_seen n vs)) (lt-leb new.number n (omega arith)))
        | false ↦ refl
      ]

  pub installed_maps : (n : ℕ) → n ≤ old.number → map_at R new n ≡ map_at R old n
  installed_maps n le = λ i q.
      (ap (λ vs. value_seen (last_seen n vs)) (installed_versions q)
      ∙ earlier (versions_of R old q) (after_changes R outcome plan.changes q (map_at R old old.number q)) (any_touches R outcome plan.changes q (map_at R old old.number q) && (is_some (map_at R old old.number q) || is_some (after_changes R outcome plan.changes q (map_at R old old.number q)))) n le) i

  newest : (pins : List ℕ) (base : List (ℕ × Option C)) (x : Option C) (b : Bool) → within old.number base → number_seen (reported pins (last_seen (old.number + 1) (cond b (base ++ (old.number + 1, x) ∷ []) base))) ≡ cond b (number_seen (reported pins (Some (old.number + 1, x)))) (number_seen (reported pins (last_seen old.number base)))
  newest pins base x b all =
      elim b as (λ t. number_seen (reported pins (last_seen (old.number + 1) (cond t (base ++ (old.number + 1, x) ∷ []) base))) ≡ cond t (number_seen (reported pins (Some (old.number + 1, x)))) (number_seen (reported pins (last_seen old.number base)))) [
        | true ↦ ap (λ o. number_seen (reported pins o)) (last_seen-push (old.number + 1) base (old.number + 1, x) ∙ ap (λ t. cond t (Some (old.number + 1, x)) (last_seen (old.number + 1) base)) (le-leb (old.number + 1) (old.number + 1) (omega arith)))
        | false ↦ ap (λ o. number_seen (reported pins o)) (seen-within old.number x base None all)
      ]

  pub installed_version : new.pins ≡ old.pins → (q : K) → version_of R new new.number q ≡ version_with R outcome old.pins plan.changes new.number q (map_at R old old.number q) (version_of R old old.number q)
  installed_version pins q =
      let base = versions_of R old q in
      let before = map_at R old old.number q in
      ap (λ p. number_seen (reported p (last_seen new.number (versions_of R new q)))) pins
      ∙ ap (λ vs. number_seen (reported old.pins (last_seen new.number vs))) (installed_versions q)
      ∙ ap (λ n. number_seen (reported old.pins (last_seen n (versions_with R outcome plan.changes n q before base)))) number
      ∙ newest old.pins base (after_changes R outcome plan.changes q before) (makes_version R outcome plan.changes q before) (within-upto old.number (versions_in R old.cells q))
      ∙ ap (λ n. version_with R outcome old.pins plan.changes n q before (version_of R old old.number q)) (sym number)
