-- What a number sees among versions.
use Rattle.std.proofs.Common.{◌≡◌, ℕ, ◌+◌, ◌-◌, ◌<◌, ◌≤◌, true, false, cond, List, [], ◌∷◌, ◌++◌, Option, None, Some, nat_le, refl, sym, ap, subst, ◌∙◌, length, take, arith, get_or, zero, suc, ⊎_elim}
use Rattle.std.proofs.lemmas.List.{take_more}
use Rattle.std.specs.List.{AllWithin}
use Rattle.std.specs.List.Sorted.{IsNonDecreasingBy}
use Rattle.std.proofs.lemmas.Bool.{lt-leb, leb-true, leb-false, cases_Bool}
use Rattle.wtf_kv.specs.Seen.{last_seen_from, last_seen, number_seen, reported, is_reported, upto, ascends, above, within}

pub last_seen_from-push : {C : Type 0} (n : ℕ) (vs : List (ℕ × Option C)) (so_far : Option (ℕ × Option C)) (v : ℕ × Option C) → last_seen_from n (vs ++ v ∷ []) so_far ≡ cond (nat_le v.0 n) (Some v) (last_seen_from n vs so_far)
last_seen_from-push n [] so_far v = refl
last_seen_from-push n (w ∷ vs) so_far v = last_seen_from-push n vs _ v

pub last_seen-push : {C : Type 0} (n : ℕ) (vs : List (ℕ × Option C)) (v : ℕ × Option C) → last_seen n (vs ++ v ∷ []) ≡ cond (nat_le v.0 n) (Some v) (last_seen n vs)
last_seen-push n vs v = last_seen_from-push n vs None v

pub last_seen-take : {C : Type 0} (n i : ℕ) (vs : List (ℕ × Option C)) (d : ℕ × Option C) → 0 < i → i ≤ length vs → last_seen n (take i vs) ≡ cond (nat_le (get_or vs (i - 1) d).0 n) (Some (get_or vs (i - 1) d)) (last_seen n (take (i - 1) vs))
last_seen-take n i vs d positive within =
    let same : i ≡ (i - 1) + 1 = omega arith in
    ap (λ j. last_seen n (take j vs)) same ∙ ap (last_seen n) (take_more vs (i - 1) d (omega arith)) ∙ last_seen-push n (take (i - 1) vs) (get_or vs (i - 1) d)

-- ---- a search among the versions
past-first : {C : Type 0} (n : ℕ) (vs : List (ℕ × Option C)) (j : ℕ) (d : ℕ × Option C) → above n vs → ascends vs → j < length vs → n < (get_or vs j d).0
past-first n [] j d up h lt = absurd (omega arith)
past-first n (v ∷ vs) zero d up h lt = up
past-first n (v ∷ vs) (suc j) d up h lt =
    let later : v.0 < (get_or vs j d).0 = past-first v.0 vs j d h.0 h.1 (omega arith) in
    let here : n < v.0 = up in omega arith

pub non_decreasing : {C : Type 0} (vs : List (ℕ × Option C)) → ascends vs → IsNonDecreasingBy (λ v. v.0) vs
non_decreasing [] h i j d le lt = absurd (omega arith)
non_decreasing (v ∷ vs) h zero zero d le lt = omega arith
non_decreasing (v ∷ vs) h zero (suc j) d le lt =
    let later : v.0 < (get_or vs j d).0 = past-first v.0 vs j d h.0 h.1 (omega arith) in omega arith
non_decreasing (v ∷ vs) h (suc i) zero d le lt = absurd (omega arith)
non_decreasing (v ∷ vs) h (suc i) (suc j) d le lt = non_decreasing vs h.1 i j d (omega arith) (omega arith)

none_upto : {C : Type 0} (n : ℕ) (vs : List (ℕ × Option C)) → AllWithin (λ v. nat_le v.0 n ≡ false) vs 0 (length vs) → upto n vs ≡ []
none_upto n [] h = refl
none_upto n (v ∷ vs) h =
    ap (λ b. cond b (v ∷ upto n vs) (upto n vs)) (h zero v (omega arith) (omega arith)) ∙ none_upto n vs (λ k d low high. h (suc k) d (omega arith) (omega arith))

-- the versions that are at most n are those before the place that a search found
pub upto_front : {C : Type 0} (n i : ℕ) (vs : List (ℕ × Option C)) → i ≤ length vs → AllWithin (λ v. nat_le v.0 n ≡ true) vs 0 i → AllWithin (λ v. nat_le v.0 n ≡ false) vs i (length vs) → take i vs ≡ upto n vs
upto_front n zero vs le front back = sym (none_upto n vs back)
upto_front n (suc i) [] le front back = absurd (omega arith)
upto_front n (suc i) (v ∷ vs) le front back =
    ap (λ l. v ∷ l) (upto_front n i vs (omega arith) (λ k d low high. front (suc k) d (omega arith) (omega arith)) (λ k d low high. back (suc k) d (omega arith) (omega arith)))
    ∙ sym (ap (λ b. cond b (v ∷ upto n vs) (upto n vs)) (front zero v (omega arith) (omega arith)))

-- ---- what is seen among the versions at most m
pub last_seen_from-upto : {C : Type 0} (m n : ℕ) (vs : List (ℕ × Option C)) (seen : Option (ℕ × Option C)) → n ≤ m → last_seen_from n (upto m vs) seen ≡ last_seen_from n vs seen
last_seen_from-upto m n [] seen h = refl
last_seen_from-upto m n (v ∷ vs) seen h =
    ⊎_elim
    (λ isle. ap (λ b. last_seen_from n (cond b (v ∷ upto m vs) (upto m vs)) seen) isle ∙ last_seen_from-upto m n vs _ h)
    (λ past. let gt : m < v.0 = leb-false v.0 m past in
    ap (λ b. last_seen_from n (cond b (v ∷ upto m vs) (upto m vs)) seen) past ∙ last_seen_from-upto m n vs seen h ∙ ap (λ b. last_seen_from n vs (cond b (Some v) seen)) (sym (lt-leb v.0 n (omega arith))))
    (cases_Bool (nat_le v.0 m))

pub last_seen-upto : {C : Type 0} (n : ℕ) (vs : List (ℕ × Option C)) → last_seen n (upto n vs) ≡ last_seen n vs
last_seen-upto n vs = last_seen_from-upto n n vs None (omega arith)

-- what n sees is the last of the versions that are at most n
pub seen_last : {C : Type 0} (n i : ℕ) (vs : List (ℕ × Option C)) (v : ℕ × Option C) → 0 < i → i ≤ length vs → take i vs ≡ upto n vs → AllWithin (λ v. nat_le v.0 n ≡ true) vs 0 i → v ≡ get_or vs (i - 1) v → last_seen n vs ≡ Some v
seen_last n i vs v positive le front holds is =
    sym (last_seen-upto n vs) ∙ ap (last_seen n) (sym front) ∙ last_seen-take n i vs v positive le
    ∙ ap (λ w. cond (nat_le w.0 n) (Some w) (last_seen n (take (i - 1) vs))) (sym is)
    ∙ ap (λ b. cond b (Some v) (last_seen n (take (i - 1) vs))) (subst (λ w. nat_le w.0 n ≡ true) (sym is) (holds (i - 1) v (omega arith) (omega arith)))

pub seen_none : {C : Type 0} (n : ℕ) (vs : List (ℕ × Option C)) → [] ≡ upto n vs → last_seen n vs ≡ None
seen_none n vs front = sym (last_seen-upto n vs) ∙ ap (last_seen n) (sym front)

-- what n sees is at most n
seen_from-le : {C : Type 0} (n : ℕ) (vs : List (ℕ × Option C)) (o : Option (ℕ × Option C)) → number_seen o ≤ n → number_seen (last_seen_from n vs o) ≤ n
seen_from-le n [] o h = h
seen_from-le n (v ∷ vs) o h = seen_from-le n vs _
    (⊎_elim
    (λ isle. subst (λ b. number_seen (cond b (Some v) o) ≤ n) (sym isle) (leb-true v.0 n isle))
    (λ past. subst (λ b. number_seen (cond b (Some v) o) ≤ n) (sym past) h)
    (cases_Bool (nat_le v.0 n)))

reported-le : {C : Type 0} (pins : List ℕ) (n : ℕ) (o : Option (ℕ × Option C)) → number_seen o ≤ n → number_seen (reported pins o) ≤ n
reported-le pins n None h = h
reported-le pins n (Some v) h = elim (is_reported pins v) as (λ b. number_seen (cond b (Some v) None) ≤ n) [ true ↦ h | false ↦ omega arith ]

pub reported_seen-le : {C : Type 0} (pins : List ℕ) (n : ℕ) (vs : List (ℕ × Option C)) → number_seen (reported pins (last_seen n vs)) ≤ n
reported_seen-le pins n vs = reported-le pins n (last_seen n vs) (seen_from-le n vs None (omega arith))
