-- Which keys have a version above a number: none above the last one, what an install adds, and nothing of what is dropped.
use Rattle.wtf_clients.proofs.Common.{list_any, cases_Bool, or_cases, or_left, or_right, or_from, lt-ltb, leb-true, le-ltb, last_seen, number_seen, reported}
use Rattle.wtf_clients.proofs.Common.{is_reported, is_kept, kept_versions, upto, Store, versions_in, versions_of, version_of, after_changes, makes_version}
use Rattle.wtf_clients.proofs.Common.{versions_with, among_any, seen_among, Key, Value, key_cmp, outcome_of, Map, Edits, above, ◌≡◌, ◌⊎◌, ◌<◌, ◌≤◌, ℕ, Bool}
use Rattle.wtf_clients.proofs.Common.{true, false, cond, nat_lt, nat_le, List, [], ◌∷◌, ◌++◌, Option, None, Some, refl, sym, ap, ◌∙◌, inl, inr, ⊎_elim, arith}

abbrev Versions : Type 0
Versions = List (ℕ × Option Value)

-- whether one of the versions lies above b
abbrev any_above : ℕ → Versions → Bool
any_above b vs = list_any (λ v. nat_lt b v.0) vs

-- none of those at most n lies above n
none_upto : (n : ℕ) (vs : Versions) → any_above n (upto n vs) ≡ false
none_upto n [] = refl
none_upto n (v ∷ vs) = ⊎_elim
    (λ le.
    let low : v.0 ≤ n = leb-true v.0 n le in
    ap (λ b. any_above n (cond b (v ∷ upto n vs) (upto n vs))) le ∙ or_from (nat_lt n v.0) (any_above n (upto n vs)) (le-ltb n v.0 low) (none_upto n vs))
    (λ gt. ap (λ b. any_above n (cond b (v ∷ upto n vs) (upto n vs))) gt ∙ none_upto n vs)
    (cases_Bool (nat_le v.0 n))

-- what is kept was there before
kept_any : (pins : List ℕ) (b : ℕ) (vs : Versions) → any_above b (kept_versions pins vs) ≡ true → any_above b vs ≡ true
kept_any pins b [] h = h
kept_any pins b (v ∷ vs) h =
    let rest : Versions = kept_versions pins vs in
    elim (is_kept pins v vs) as (λ k. any_above b (cond k (v ∷ rest) rest) ≡ true → any_above b (v ∷ vs) ≡ true) [
      | true ↦ λ e. ⊎_elim
          (λ here. or_left (nat_lt b v.0) (any_above b vs) here)
          (λ later. or_right (nat_lt b v.0) (any_above b vs) (kept_any pins b vs later))
          (or_cases (nat_lt b v.0) (any_above b rest) e)
      | false ↦ λ e. or_right (nat_lt b v.0) (any_above b vs) (kept_any pins b vs e)
    ] h

-- what a number sees above b is one of the versions
seen_any : (pins : List ℕ) (b : ℕ) (vs : Versions) (n : ℕ) (o : Option (ℕ × Option Value)) → last_seen n vs ≡ o
    → b < number_seen (reported pins o) → any_above b vs ≡ true
seen_any pins b vs n None is lt = absurd (omega (arith, lt))
seen_any pins b vs n (Some v) is lt = among_any (λ w. nat_lt b w.0) v vs (seen_among n v vs is) (lt-ltb b v.0 (by (is_reported pins v) lt))
  where
    by : (k : Bool) → b < number_seen (cond k (Some v) None) → b < v.0
    by true h = h
    by false h = absurd (omega (arith, h))

-- no key has a version above the last number
pub above-number : (kv : Store Key Value) (q : Key) → above kv kv.number q ≡ false
above-number kv q = none_upto kv.number (versions_in key_cmp kv.cells q)

-- a version that a number sees above b
pub above-version : (kv : Store Key Value) (b n : ℕ) (q : Key) → b < version_of key_cmp kv n q → above kv b q ≡ true
above-version kv b n q lt = seen_any kv.pins b (versions_of key_cmp kv q) n (last_seen n (versions_of key_cmp kv q)) refl lt

-- where the versions are what they were, so is this
pub above-same : (old new : Store Key Value) (b : ℕ) (q : Key) → versions_of key_cmp new q ≡ versions_of key_cmp old q → above new b q ≡ above old b q
above-same old new b q same = ap (any_above b) same

-- what is not dropped was there before
pub above-kept : (pins : List ℕ) (old new : Store Key Value) (b : ℕ) (q : Key)
    → versions_of key_cmp new q ≡ kept_versions pins (versions_of key_cmp old q) → above new b q ≡ true → above old b q ≡ true
above-kept pins old new b q kept h = kept_any pins b (versions_of key_cmp old q) (sym (ap (any_above b) kept) ∙ h)

-- an install adds no version but those that it makes
pub above-installed : (old new : Store Key Value) (cs : Edits) (n b : ℕ) (w : Map) (q : Key)
    → versions_of key_cmp new q ≡ versions_with key_cmp outcome_of cs n q (w q) (versions_of key_cmp old q)
    → above new b q ≡ true → (above old b q ≡ true) ⊎ (makes_version key_cmp outcome_of cs q (w q) ≡ true)
above-installed old new cs n b w q is h =
    let vs : Versions = versions_of key_cmp old q in
    let more : Versions = vs ++ (n, after_changes key_cmp outcome_of cs q (w q)) ∷ [] in
    elim (makes_version key_cmp outcome_of cs q (w q)) as (λ k. any_above b (cond k more vs) ≡ true → (any_above b vs ≡ true) ⊎ (k ≡ true)) [
      | true ↦ λ made. inr refl
      | false ↦ λ was. inl was
    ] (sym (ap (any_above b) is) ∙ h)
