-- Dropping the versions that are not kept changes nothing that a live number sees.
use Rattle.std.proofs.Common.{◌≡◌, ℕ, ◌+◌, ◌<◌, ◌≤◌, Bool, true, false, cond, ◌||◌, ◌&&◌, ◌⊎◌, List, [], ◌∷◌, ◌++◌, Option, None, Some, is_some, nat_le, nat_lt, nat_eq, refl, sym, ap, subst, ◌∙◌, length, take, drop, add-one, arith, get_or, inl, inr, ⊎_elim, append_assoc}
use Rattle.std.specs.List.{list_any, swap}
use Rattle.std.proofs.Math.ListN.{set}
use Rattle.std.proofs.lemmas.List.{take-set, take-set-le, take_more_set, drop-set-lt, length-set, get_or_default}
use Rattle.std.specs.Set.{remove_key}
use Rattle.std.proofs.Math.Seq.{drop-cons}
use Rattle.std.proofs.lemmas.Bool.{cases_Bool, and_parts, or_parts, and_left, and_right, and_from, or_left, or_right, ltb-true, leb-true, eqb-true, lt-ltb, le-leb, leb-false, or_cases, cases_lt, both_ways}
use Rattle.wtf_kv.specs.Seen.{last_seen_from, reported, any_below, is_seen, is_kept, kept_head, kept_versions, above, ascends, within, upto, value_seen}

-- whoever passes one test passes another
pub weaker : {X : Type 0} (t u : X → Bool) (xs : List X) → ((x : X) → t x ≡ true → u x ≡ true) → list_any t xs ≡ true → list_any u xs ≡ true
weaker t u [] h e = e
weaker t u (x ∷ xs) h e =
    ⊎_elim (λ yes. or_left _ _ (h x yes)) (λ no. or_right _ _ (weaker t u xs h (sym (ap (λ b. b || list_any t xs) no) ∙ e))) (cases_Bool (t x))

-- a number of the list that passes a test
pub has : (t : ℕ → Bool) (p : ℕ) (xs : List ℕ) → list_any (nat_eq p) xs ≡ true → t p ≡ true → list_any t xs ≡ true
has t p xs e h = weaker (nat_eq p) t xs (λ x same. ap t (sym (eqb-true p x same)) ∙ h) e

-- p is pinned, or sees all
abbrev pub Live : {C : Type 0} → List ℕ → ℕ → List (ℕ × Option C) → Type 0
Live pins p vs = (list_any (nat_eq p) pins ≡ true) ⊎ within p vs

-- what was seen before these versions is not reported, or a pinned number lies below the first
abbrev pub Before : {C : Type 0} → List ℕ → Option (ℕ × Option C) → List (ℕ × Option C) → Type 0
Before pins seen [] = Unit {0}
Before pins seen (v ∷ vs) = (reported pins seen ≡ None) ⊎ (any_below pins v.0 ≡ true)

-- what is reported goes by what was reported before
pub reported_alike : {C : Type 0} (pins : List ℕ) (p : ℕ) (vs : List (ℕ × Option C)) (a b : Option (ℕ × Option C)) → reported pins a ≡ reported pins b → reported pins (last_seen_from p vs a) ≡ reported pins (last_seen_from p vs b)
reported_alike pins p [] a b e = e
reported_alike pins p (v ∷ vs) a b e =
    reported_alike pins p vs _ _ (elim (nat_le v.0 p) as (λ t. reported pins (cond t (Some v) a) ≡ reported pins (cond t (Some v) b)) [ true ↦ refl | false ↦ e ])

live_rest : {C : Type 0} (pins : List ℕ) (p : ℕ) (v : ℕ × Option C) (vs : List (ℕ × Option C)) → Live pins p (v ∷ vs) → Live pins p vs
live_rest pins p v vs live = ⊎_elim (λ pinned. inl pinned) (λ all. inr all.1) live

-- a version that nobody sees is followed by one that p sees, where p reaches it
reaches : {C : Type 0} (pins : List ℕ) (p v : ℕ) (w : ℕ × Option C) (ws : List (ℕ × Option C)) → Live pins p (w ∷ ws) → is_seen pins v (w ∷ ws) ≡ false → v ≤ p → w.0 ≤ p
reaches pins p v w ws live unseen le =
    ⊎_elim (λ pinned. ⊎_elim (λ lt. absurd (both_ways _ unseen (has (λ q. nat_le v q && nat_lt q w.0) p pins pinned (and_from _ _ (le-leb v p le) (lt-ltb p w.0 lt))))) (λ ge. ge) (cases_lt p w.0)) (λ all. all.0) live

before_kept : {C : Type 0} (pins : List ℕ) (v : ℕ) (seen : Option (ℕ × Option C)) (vs : List (ℕ × Option C)) → is_seen pins v vs ≡ true → Before pins seen vs
before_kept pins v seen [] h = tt
before_kept pins v seen (w ∷ ws) h = inr (weaker (λ q. nat_le v q && nat_lt q w.0) (λ q. nat_lt q w.0) pins (λ q e. (and_parts _ _ e).1) h)

before_rest : {C : Type 0} (pins : List ℕ) (v : ℕ × Option C) (seen : Option (ℕ × Option C)) (vs : List (ℕ × Option C)) → above v.0 vs → Before pins seen (v ∷ vs) → Before pins seen vs
before_rest pins v seen [] up h = tt
before_rest pins v seen (w ∷ ws) up h =
    ⊎_elim (λ none. inl none) (λ some. inr (weaker (λ q. nat_lt q v.0) (λ q. nat_lt q w.0) pins (λ q e. let lt : q < v.0 = ltb-true q v.0 e in lt-ltb q w.0 (omega arith)) some)) h

-- what was seen before does not matter, where p reaches the next version
unseen_alike : {C : Type 0} (pins : List ℕ) (p : ℕ) (v : ℕ × Option C) (vs : List (ℕ × Option C)) (seen : Option (ℕ × Option C)) → Live pins p vs → is_seen pins v.0 vs ≡ false → last_seen_from p vs seen ≡ last_seen_from p vs (cond (nat_le v.0 p) (Some v) seen)
unseen_alike pins p v [] seen live unseen = absurd (both_ways true unseen refl)
unseen_alike pins p v (w ∷ ws) seen live unseen =
    ⊎_elim
    (λ le. let up : nat_le w.0 p ≡ true = le-leb w.0 p (reaches pins p v.0 w ws live unseen (leb-true v.0 p le)) in
    ap (λ t. last_seen_from p ws (cond t (Some w) seen)) up ∙ sym (ap (λ t. last_seen_from p ws (cond t (Some w) (cond (nat_le v.0 p) (Some v) seen))) up))
    (λ gt. ap (λ t. last_seen_from p (w ∷ ws) (cond t (Some v) seen)) (sym gt))
    (cases_Bool (nat_le v.0 p))

unreported_alike : {C : Type 0} (pins : List ℕ) (p : ℕ) (v : ℕ × Option C) (vs : List (ℕ × Option C)) (seen : Option (ℕ × Option C)) → Before pins seen (v ∷ vs) → (is_some v.1 || any_below pins v.0) ≡ false → reported pins seen ≡ reported pins (cond (nat_le v.0 p) (Some v) seen)
unreported_alike pins p v vs seen before unreported =
    ⊎_elim
    (λ none. elim (nat_le v.0 p) as (λ t. reported pins seen ≡ reported pins (cond t (Some v) seen)) [ true ↦ none ∙ sym (ap (λ b. cond b (Some v) None) unreported) | false ↦ refl ])
    (λ some. absurd (both_ways _ (or_parts _ _ unreported).1 some))
    before

pub kept_shown : {C : Type 0} (pins : List ℕ) (p : ℕ) (vs : List (ℕ × Option C)) (seen : Option (ℕ × Option C)) → ascends vs → Live pins p vs → Before pins seen vs → reported pins (last_seen_from p (kept_versions pins vs) seen) ≡ reported pins (last_seen_from p vs seen)
kept_shown pins p [] seen up live before = refl
kept_shown pins p (v ∷ vs) seen up live before =
    let now = cond (nat_le v.0 p) (Some v) seen in
    let rest : Before pins seen vs = before_rest pins v seen vs up.0 before in
    let later : Live pins p vs = live_rest pins p v vs live in
    let choose = λ (b : Bool). reported pins (last_seen_from p (cond b (v ∷ kept_versions pins vs) (kept_versions pins vs)) seen) in
    ⊎_elim
    (λ is. ⊎_elim
    (λ reported. ap choose (and_from _ _ reported is) ∙ kept_shown pins p vs now up.1 later (before_kept pins v.0 now vs is))
    (λ unreported. ap choose (and_left _ _ unreported) ∙ (kept_shown pins p vs seen up.1 later rest ∙ reported_alike pins p vs seen now (unreported_alike pins p v vs seen before unreported)))
    (cases_Bool (is_some v.1 || any_below pins v.0)))
    (λ unseen. ap choose (and_right _ _ unseen) ∙ (kept_shown pins p vs seen up.1 later rest ∙ ap (reported pins) (unseen_alike pins p v vs seen later unseen)))
    (cases_Bool (is_seen pins v.0 vs))

-- ---- the loop that drops
-- what is kept from i on, where the version at i is kept, and where it is not
kept_at : {C : Type 0} (pins : List ℕ) (vs : List (ℕ × Option C)) (i : ℕ) (d : ℕ × Option C) → i < length vs → kept_versions pins (drop i vs) ≡ cond (kept_head pins (drop i vs)) (get_or vs i d ∷ kept_versions pins (drop (i + 1) vs)) (kept_versions pins (drop (i + 1) vs))
kept_at pins vs i d h =
    let cut : drop i vs ≡ get_or vs i d ∷ drop (i + 1) vs = drop-cons vs i d h ∙ ap (λ n. get_or vs i d ∷ drop n vs) (sym (add-one i)) in
    ap (kept_versions pins) cut ∙ ap (λ l. cond (kept_head pins l) (get_or vs i d ∷ kept_versions pins (drop (i + 1) vs)) (kept_versions pins (drop (i + 1) vs))) (sym cut)

-- the version at i goes to the end of those that were kept
swapped_front : {X : Type 0} (vs : List X) (k i : ℕ) (d : X) → k ≤ i → i < length vs → take (k + 1) (swap vs k i) ≡ take k vs ++ get_or vs i d ∷ []
swapped_front [] k i d le lt = absurd (omega arith)
swapped_front (v ∷ us) k i d le lt =
    let vs = v ∷ us in
    let x = get_or vs i v in
    let y = get_or vs k v in
    ⊎_elim
    (λ below. take-set-le (k + 1) (set vs k x) i y (omega arith) ∙ take_more_set vs k x (omega arith) ∙ ap (λ z. take k vs ++ z ∷ []) (get_or_default vs i v d lt))
    (λ not_below.
    let same : i ≡ k = omega arith in
    ap (λ j. take (k + 1) (set (set vs k x) j y)) same
    ∙ take_more_set (set vs k x) k y (omega (arith, length-set vs k x))
    ∙ ap (λ l. l ++ y ∷ []) (take-set vs k x)
    ∙ ap (λ z. take k vs ++ z ∷ []) (ap (λ j. get_or vs j v) (sym same) ∙ get_or_default vs i v d lt))
    (cases_lt k i)

swapped_back : {X : Type 0} (vs : List X) (k i : ℕ) → k ≤ i → drop (i + 1) (swap vs k i) ≡ drop (i + 1) vs
swapped_back [] k i le = refl
swapped_back (v ∷ us) k i le =
    drop-set-lt (i + 1) (set (v ∷ us) k (get_or (v ∷ us) i v)) i (get_or (v ∷ us) k v) (omega arith) ∙ drop-set-lt (i + 1) (v ∷ us) k (get_or (v ∷ us) i v) (omega arith)

pub keep_step : {C : Type 0} (pins : List ℕ) (vs : List (ℕ × Option C)) (k i : ℕ) → k ≤ i → i < length vs → kept_head pins (drop i vs) ≡ true → take (k + 1) (swap vs k i) ++ kept_versions pins (drop (i + 1) (swap vs k i)) ≡ take k vs ++ kept_versions pins (drop i vs)
keep_step pins [] k i le h kept = absurd (omega arith)
keep_step pins (v ∷ us) k i le h kept =
    let vs = v ∷ us in
    ap (λ l. l ++ kept_versions pins (drop (i + 1) (swap vs k i))) (swapped_front vs k i v le h)
    ∙ ap (λ l. (take k vs ++ get_or vs i v ∷ []) ++ kept_versions pins l) (swapped_back vs k i le)
    ∙ append_assoc (take k vs) (get_or vs i v ∷ []) (kept_versions pins (drop (i + 1) vs))
    ∙ ap (λ l. take k vs ++ l) (sym (kept_at pins vs i v h ∙ ap (λ b. cond b (get_or vs i v ∷ kept_versions pins (drop (i + 1) vs)) (kept_versions pins (drop (i + 1) vs))) kept))

pub drop_step : {C : Type 0} (pins : List ℕ) (vs : List (ℕ × Option C)) (i : ℕ) → i < length vs → kept_head pins (drop i vs) ≡ false → kept_versions pins (drop (i + 1) vs) ≡ kept_versions pins (drop i vs)
drop_step pins [] i h kept = absurd (omega arith)
drop_step pins (v ∷ us) i h kept =
    sym (kept_at pins (v ∷ us) i v h ∙ ap (λ b. cond b (get_or (v ∷ us) i v ∷ kept_versions pins (drop (i + 1) (v ∷ us))) (kept_versions pins (drop (i + 1) (v ∷ us)))) kept)

-- ---- the invariant
pub within-more : {C : Type 0} (n : ℕ) (vs : List (ℕ × Option C)) → within n vs → within (n + 1) vs
within-more n [] h = tt
within-more n (v ∷ vs) h = (let le : v.0 ≤ n = h.0 in omega arith, within-more n vs h.1)

pub any-remove_key : (test t : ℕ → Bool) (xs : List ℕ) → list_any t (remove_key test xs) ≡ true → list_any t xs ≡ true
any-remove_key test t [] e = e
any-remove_key test t (x ∷ xs) e =
    ⊎_elim
    (λ gone. or_right _ _ (sym (ap (λ b. list_any t (cond b xs (x ∷ remove_key test xs))) gone) ∙ e))
    (λ stays. ⊎_elim (λ here. or_left _ _ here) (λ later. or_right _ _ (any-remove_key test t xs later)) (or_cases _ _ (sym (ap (λ b. list_any t (cond b xs (x ∷ remove_key test xs))) stays) ∙ e)))
    (cases_Bool (test x))

above-less : {C : Type 0} (n m : ℕ) (vs : List (ℕ × Option C)) → n < m → above m vs → above n vs
above-less n m [] lt h = tt
above-less n m (v ∷ vs) lt h = let lt2 : m < v.0 = h in omega arith

kept-above : {C : Type 0} (pins : List ℕ) (n : ℕ) (vs : List (ℕ × Option C)) → above n vs → ascends vs → above n (kept_versions pins vs) × ascends (kept_versions pins vs)
kept-above pins n [] up h = (tt, tt)
kept-above pins n (v ∷ vs) up h =
    let here = kept-above pins v.0 vs h.0 h.1 in
    let past = kept-above pins n vs (above-less n v.0 vs up h.0) h.1 in
    elim (is_kept pins v vs) as (λ b. above n (cond b (v ∷ kept_versions pins vs) (kept_versions pins vs)) × ascends (cond b (v ∷ kept_versions pins vs) (kept_versions pins vs))) [ true ↦ (up, here) | false ↦ past ]

pub ascends-kept : {C : Type 0} (pins : List ℕ) (vs : List (ℕ × Option C)) → ascends vs → ascends (kept_versions pins vs)
ascends-kept pins [] h = tt
ascends-kept pins (v ∷ vs) h =
    let here = kept-above pins v.0 vs h.0 h.1 in
    elim (is_kept pins v vs) as (λ b. ascends (cond b (v ∷ kept_versions pins vs) (kept_versions pins vs))) [ true ↦ here | false ↦ here.1 ]

pub within-kept : {C : Type 0} (pins : List ℕ) (n : ℕ) (vs : List (ℕ × Option C)) → within n vs → within n (kept_versions pins vs)
within-kept pins n [] h = tt
within-kept pins n (v ∷ vs) h =
    let rest = within-kept pins n vs h.1 in
    elim (is_kept pins v vs) as (λ b. within n (cond b (v ∷ kept_versions pins vs) (kept_versions pins vs))) [ true ↦ (h.0, rest) | false ↦ rest ]

upto-above : {C : Type 0} (m n : ℕ) (vs : List (ℕ × Option C)) → above n vs → ascends vs → above n (upto m vs) × ascends (upto m vs)
upto-above m n [] up h = (tt, tt)
upto-above m n (v ∷ vs) up h =
    let here = upto-above m v.0 vs h.0 h.1 in
    let past = upto-above m n vs (above-less n v.0 vs up h.0) h.1 in
    elim (nat_le v.0 m) as (λ b. above n (cond b (v ∷ upto m vs) (upto m vs)) × ascends (cond b (v ∷ upto m vs) (upto m vs))) [ true ↦ (up, here) | false ↦ past ]

pub ascends-upto : {C : Type 0} (m : ℕ) (vs : List (ℕ × Option C)) → ascends vs → ascends (upto m vs)
ascends-upto m [] h = tt
ascends-upto m (v ∷ vs) h =
    let here = upto-above m v.0 vs h.0 h.1 in
    elim (nat_le v.0 m) as (λ b. ascends (cond b (v ∷ upto m vs) (upto m vs))) [ true ↦ here | false ↦ here.1 ]

pub within-upto : {C : Type 0} (m : ℕ) (vs : List (ℕ × Option C)) → within m (upto m vs)
within-upto m [] = tt
within-upto m (v ∷ vs) =
    let rest = within-upto m vs in
    ⊎_elim
    (λ yes. subst (λ b. within m (cond b (v ∷ upto m vs) (upto m vs))) (sym yes) (leb-true v.0 m yes, rest))
    (λ no. subst (λ b. within m (cond b (v ∷ upto m vs) (upto m vs))) (sym no) rest)
    (cases_Bool (nat_le v.0 m))

pub within-cut : {C : Type 0} (m n : ℕ) (vs : List (ℕ × Option C)) → within m vs → within m (upto n vs)
within-cut m n [] h = tt
within-cut m n (v ∷ vs) h =
    let rest = within-cut m n vs h.1 in
    elim (nat_le v.0 n) as (λ b. within m (cond b (v ∷ upto n vs) (upto n vs))) [ true ↦ (h.0, rest) | false ↦ rest ]

pub value-reported : {C : Type 0} (pins : List ℕ) (o : Option (ℕ × Option C)) → value_seen (reported pins o) ≡ value_seen o
value-reported pins None = refl
value-reported pins (Some (v, Some x)) = refl
value-reported {C = C} pins (Some (v, None)) = elim (any_below pins v) as (λ b. value_seen {C = C} (cond b (Some (v, None)) None) ≡ None) [ true ↦ refl | false ↦ refl ]

pub first : {C : Type 0} (pins : List ℕ) (vs : List (ℕ × Option C)) → Before pins None vs
first pins [] = tt
first pins (v ∷ vs) = inl refl

-- ---- what has not moved
pub seen_either : {C : Type 0} (b n : ℕ) (vs : List (ℕ × Option C)) (x y : Option (ℕ × Option C)) → b ≤ n → (x ≡ y) ⊎ ((v : ℕ × Option C) × (y ≡ Some v) × (b < v.0)) → (last_seen_from b vs x ≡ last_seen_from n vs y) ⊎ ((v : ℕ × Option C) × (last_seen_from n vs y ≡ Some v) × (b < v.0))
seen_either b n [] x y le h = h
seen_either b n (w ∷ ws) x y le h = seen_either b n ws _ _ le
    (⊎_elim
    (λ yes. let wb : w.0 ≤ b = leb-true w.0 b yes in
    inl (ap (λ t. cond t (Some w) x) yes ∙ sym (ap (λ t. cond t (Some w) y) (le-leb w.0 n (omega arith)))))
    (λ no. let wb : b < w.0 = leb-false w.0 b no in
    ⊎_elim
    (λ yes. inr (w, ap (λ t. cond t (Some w) y) yes, wb))
    (λ past. ⊎_elim
    (λ e. inl (ap (λ t. cond t (Some w) x) no ∙ e ∙ sym (ap (λ t. cond t (Some w) y) past)))
    (λ (v, is, lt). inr (v, ap (λ t. cond t (Some w) y) past ∙ is, lt)) h)
    (cases_Bool (nat_le w.0 n)))
    (cases_Bool (nat_le w.0 b)))
