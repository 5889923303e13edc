-- Laws of the versions that stand where nothing is left to prune: they are what live numbers see.
use Rattle.std.proofs.Common.{◌≡◌, ℕ, ◌<◌, ◌≤◌, ◌⊎◌, inl, inr, Bool, true, cond, nat_eq, nat_le, nat_lt, ◌&&◌, List, [], ◌∷◌, Option, Some, None, IsTrue, refl, sym, ap, ◌∙◌, subst, ⊎_elim, arith}
use Rattle.std.specs.List.{list_any}
use Rattle.std.specs.Option.{unwrap_or}
use Rattle.std.proofs.lemmas.Bool.{cases_Bool, and_parts, or_left, or_right, or_cases, eq-eqb, ltb-true, le-leb, lt-leb}
use Rattle.std.specs.declared.cmp.Ordering.{Ordering}
use Rattle.wtf_kv.specs.Stores.{Store, versions_in, versions_of, map_at, is_live, is_pinned, AllAscend, AllKept}
use Rattle.wtf_kv.specs.Seen.{last_seen_from, last_seen, value_seen, above, ascends, within, is_reported, is_seen, is_kept, kept_versions, IsAmong}
use Rattle.wtf_kv.proofs.Prune.{within-upto}
use Rattle.wtf_kv.proofs.Loose.{kept-kept}

some_of : (t : ℕ → Bool) (ps : List ℕ) → list_any t ps ≡ true → (p : ℕ) × (list_any (nat_eq p) ps ≡ true) × (t p ≡ true)
some_of t [] h = cc
some_of t (p ∷ ps) h = ⊎_elim
    (λ here. (p, or_left (nat_eq p p) (list_any (nat_eq p) ps) (eq-eqb p p refl), here))
    (λ later. let (q, is, passes) = some_of t ps later in (q, or_right (nat_eq q p) (list_any (nat_eq q) ps) is, passes))
    (or_cases (t p) (list_any t ps) h)

module _ {C : Type 0} where
  pub among_any : (t : ℕ × Option C → Bool) (v : ℕ × Option C) (vs : List (ℕ × Option C)) → IsAmong v vs → t v ≡ true → list_any t vs ≡ true
  among_any t v [] is h = absurd is
  among_any t v (w ∷ ws) is h = ⊎_elim
      (λ here. or_left (t w) (list_any t ws) (ap t (sym here) ∙ h))
      (λ later. or_right (t w) (list_any t ws) (among_any t v ws later h))
      is

  seen_from : (n : ℕ) (v : ℕ × Option C) (vs : List (ℕ × Option C)) (so : Option (ℕ × Option C)) → last_seen_from n vs so ≡ Some v → IsAmong v vs ⊎ (so ≡ Some v)
  seen_from n v [] so h = inr h
  seen_from n v (w ∷ ws) so h = ⊎_elim
      (λ later. inl (inr later))
      (λ here. ⊎_elim
      (λ le. inl (inl (sym (ap (λ o. unwrap_or o v) (sym (ap (λ b. cond b (Some w) so) le) ∙ here)))))
      (λ gt. inr (sym (ap (λ b. cond b (Some w) so) gt) ∙ here))
      (cases_Bool (nat_le w.0 n)))
      (seen_from n v ws (cond (nat_le w.0 n) (Some w) so) h)

  -- what a number sees is among the versions
  pub seen_among : (n : ℕ) (v : ℕ × Option C) (vs : List (ℕ × Option C)) → last_seen n vs ≡ Some v → IsAmong v vs
  seen_among n v vs h = ⊎_elim (λ is. is) (λ none. cc) (seen_from n v vs None h)

  later_above : (n m : ℕ) (vs : List (ℕ × Option C)) → n ≤ m → above m vs → above n vs
  later_above n m [] le h = tt
  later_above n m (v ∷ vs) le h = let lt : m < v.0 = h in omega (arith, le, lt)

  -- past n nothing is seen
  unseen : (n : ℕ) (vs : List (ℕ × Option C)) (so : Option (ℕ × Option C)) → above n vs → ascends vs → last_seen_from n vs so ≡ so
  unseen n [] so up h = refl
  unseen n (v ∷ vs) so up h = let lt : n < v.0 = up in ap (λ b. last_seen_from n vs (cond b (Some v) so)) (lt-leb v.0 n up) ∙ unseen n vs so (later_above n v.0 vs (omega (arith, lt)) h.0) h.1

  -- the number or a pinned number sees it, whatever came before
  abbrev Sees : List ℕ → ℕ → ℕ × Option C → List (ℕ × Option C) → Type 0
  Sees pins number v vs = (n : ℕ) × ((n ≡ number) ⊎ (list_any (nat_eq n) pins ≡ true)) × ((so : Option (ℕ × Option C)) → last_seen_from n vs so ≡ Some v)

  first_seen : (pins : List ℕ) (number : ℕ) (v : ℕ × Option C) (vs : List (ℕ × Option C)) → ascends (v ∷ vs) → within number (v ∷ vs) → is_seen pins v.0 vs ≡ true → Sees pins number v (v ∷ vs)
  first_seen pins number v [] up all seen = (number, inl refl, λ so. ap (λ b. cond b (Some v) so) (le-leb v.0 number all.0))
  first_seen pins number v (w ∷ ws) up all seen =
      let (p, pinned, between) = some_of (λ p. nat_le v.0 p && nat_lt p w.0) pins seen in
      let two = and_parts (nat_le v.0 p) (nat_lt p w.0) between in (
        p,
        inr pinned,
        λ so. ap (λ b. last_seen_from p (w ∷ ws) (cond b (Some v) so)) two.0 ∙ unseen p (w ∷ ws) (Some v) (ltb-true p w.0 two.1) up.1,
      )

  later_seen : (pins : List ℕ) (number : ℕ) (v w : ℕ × Option C) (vs : List (ℕ × Option C)) → Sees pins number v vs → Sees pins number v (w ∷ vs)
  later_seen pins number v w vs (n, live, h) = (n, live, λ so. h (cond (nat_le w.0 n) (Some w) so))

  kept_sees : (pins : List ℕ) (number : ℕ) (v : ℕ × Option C) (vs : List (ℕ × Option C)) → ascends vs → within number vs → IsAmong v (kept_versions pins vs) → Sees pins number v vs
  kept_sees pins number v [] up all h = absurd h
  kept_sees pins number v (w ∷ ws) up all h = ⊎_elim
      (λ kept. ⊎_elim
      (λ here. subst (λ x. Sees pins number x (w ∷ ws)) (sym here) (first_seen pins number w ws up all (and_parts (is_reported pins w) (is_seen pins w.0 ws) kept).1))
      (λ later. later_seen pins number v w ws (kept_sees pins number v ws up.1 all.1 later))
      (subst (λ b. IsAmong v (cond b (w ∷ kept_versions pins ws) (kept_versions pins ws))) kept h))
      (λ dropped. later_seen pins number v w ws (kept_sees pins number v ws up.1 all.1 (subst (λ b. IsAmong v (cond b (w ∷ kept_versions pins ws) (kept_versions pins ws))) dropped h)))
      (cases_Bool (is_kept pins w ws))

  value_from : (o : Option (ℕ × Option C)) (c : C) → value_seen o ≡ Some c → (m : ℕ) × (o ≡ Some (m, Some c))
  value_from None c h = cc
  value_from (Some v) c h = (v.0, λ i. Some (v.0, h i))

module _ {K C : Type 0} (order : K → K → Ordering) where
  -- a live number sees the version of the key
  pub record IsSeenLive (s : Store K C) (key : K) (version : ℕ × Option C) : Type 0 where
    pub number : ℕ
    pub live : IsTrue (is_live s number)
    pub seen : last_seen number (versions_of order s key) ≡ Some version

  -- the map at a live number has the value
  pub record HasLive (s : Store K C) (key : K) (value : C) : Type 0 where
    pub number : ℕ
    pub live : IsTrue (is_live s number)
    pub is : map_at order s number key ≡ Some value

  -- pruned, a store has only versions that are kept
  pub pruned_kept : (old new : Store K C) → AllAscend order old → new.pins ≡ old.pins → ((q : K) → versions_of order new q ≡ kept_versions old.pins (versions_of order old q)) → AllKept order new
  pruned_kept old new up pins kept q =
      ap (λ ps. kept_versions ps (versions_of order new q)) pins
      ∙ ap (kept_versions old.pins) (kept q)
      ∙ kept-kept old.pins (versions_of order old q) (up q)
      ∙ sym (kept q)

  -- each version that stands is what a live number sees
  pub kept_seen : (s : Store K C) (key : K) (v : ℕ × Option C) → AllAscend order s → AllKept order s → IsAmong v (versions_of order s key) → IsSeenLive s key v
  kept_seen s key v up all is =
      let vs = versions_of order s key in
      let (n, live, sees) = kept_sees s.pins s.number v vs (up key) (within-upto s.number (versions_in order s.cells key)) (subst (IsAmong v) (sym (all key)) is) in
      record {
        number = n;
        live = ⊎_elim (λ e. or_left (nat_eq n s.number) (is_pinned s n) (eq-eqb n s.number e)) (λ p. or_right (nat_eq n s.number) (is_pinned s n) p) live;
        seen = sees None;
      }

  -- so each value that stands is in the map at a live number
  pub kept_value : (s : Store K C) (key : K) (m : ℕ) (c : C) → AllAscend order s → AllKept order s → IsAmong (m, Some c) (versions_of order s key) → HasLive s key c
  kept_value s key m c up all is =
      let by = kept_seen s key (m, Some c) up all is in
      record { number = by.number; live = by.live; is = ap value_seen by.seen }

  -- and each value in the map at a number stands, pruned or not
  pub value_among : (s : Store K C) (n : ℕ) (key : K) (c : C) → map_at order s n key ≡ Some c → (m : ℕ) × IsAmong (m, Some c) (versions_of order s key)
  value_among s n key c h =
      let (m, is) = value_from (last_seen n (versions_of order s key)) c h in
      (m, seen_among n (m, Some c) (versions_of order s key) is)
