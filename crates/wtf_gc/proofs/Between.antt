-- The gaps between spans are apart, hold just what no span has, and their lengths add up to its size.
use Rattle.std.proofs.Common.{◌≡◌, ℕ, zero, suc, ◌+◌, ◌-◌, ◌<◌, ◌≤◌, Bool, true, false, cond, nat_lt, not, ◌||◌, ◌&&◌, min, max, List, [], ◌∷◌}
use Rattle.std.proofs.Common.{length, zero-add, add-zero, refl, sym, ap, ◌∙◌, subst, ⊎_elim, arith}
use Rattle.std.specs.Prelude.{slice_index_or}
use Rattle.std.specs.List.{All}
use Rattle.std.proofs.lemmas.List.Elements.{All-get_or}
use Rattle.std.proofs.lemmas.List.Sorted.{list_any-IsPermutation, All-permutation}
use Rattle.std.specs.List.Sorted.{IsNonDecreasingBy, IsPermutation}
use Rattle.std.proofs.lemmas.Bool.{cases_Bool, and_parts, and_from, or_left, or_right, or_cases, or_parts, leb-true, ltb-true, le-leb, lt-ltb}
use Rattle.std.proofs.lemmas.Bool.{cases_lt, both_ways}
use Rattle.wtf_gc.specs.declared.extent.Span.{Span}
use Rattle.wtf_gc.specs.Spans.{span, span_has, spans_cover, is_gap, gaps_from, Apart, Ascends, sum_of, one_if, count_from, size_of}

pub same_truth : (a b : Bool) → (a ≡ true → b ≡ true) → (b ≡ true → a ≡ true) → a ≡ b
same_truth a b f g = ⊎_elim (λ t. t ∙ sym (f t)) (λ n. n ∙ sym (⊎_elim (λ t. absurd (both_ways _ n (g t))) (λ m. m) (cases_Bool b))) (cases_Bool a)

in_parts : (x : ℕ) (s : Span) → span_has x s ≡ true → (s.from ≤ x) × (x < s.to)
in_parts x s h = let p = and_parts _ _ h in (leb-true s.from x p.0, ltb-true x s.to p.1)

pub in_from : (x : ℕ) (s : Span) → s.from ≤ x → x < s.to → span_has x s ≡ true
in_from x s a b = and_from _ _ (le-leb s.from x a) (lt-ltb x s.to b)

-- a place before all spans is in none
pub before_all : (lo x : ℕ) (ss : List Span) → Ascends lo ss → x < lo → spans_cover ss x ≡ false
before_all lo x [] up lt = refl
before_all lo x (s ∷ ss) up lt =
    let le = up.0 in
    ⊎_elim
    (λ h. let p = (in_parts x s h).0 in absurd (omega (arith, le, lt, p)))
    (λ h. ap (λ b. b || spans_cover ss x) h ∙ before_all s.from x ss up.2 (omega (arith, le, lt)))
    (cases_Bool (span_has x s))

-- what is in a gap is in no span
pub gap_is : (at mark lo x : ℕ) (ss : List Span) → Ascends lo ss → spans_cover (gaps_from at mark ss) x ≡ true → (at ≤ x) × (x < mark)
    × (spans_cover ss x ≡ false)
gap_is at mark lo x [] up h = ⊎_elim
    (λ t. let one : (span_has x (span at mark) || false) ≡ true = subst (λ b. spans_cover (cond b (span at mark ∷ []) []) x ≡ true) t h in
    ⊎_elim (λ is. let p = in_parts x (span at mark) is in (p.0, p.1, refl)) (λ none. cc) (or_cases _ _ one))
    (λ f. let none : false ≡ true = subst (λ b. spans_cover (cond b (span at mark ∷ []) []) x ≡ true) f h in cc)
    (cases_Bool (nat_lt at mark))
gap_is at mark lo x (s ∷ ss) up h =
    let end = min s.from mark in
    let rest = gaps_from (max at s.to) mark ss in
    let later : spans_cover rest x ≡ true → (at ≤ x) × (x < mark) × (spans_cover (s ∷ ss) x ≡ false) = λ r.
    (let p = gap_is (max at s.to) mark s.from x ss up.2 r in
    let le = p.0 in (
      omega (arith, le),
      p.1,
      ⊎_elim (λ is. let q = (in_parts x s is).1 in absurd (omega (arith, le, q))) (λ is. ap (λ b. b || spans_cover ss x) is ∙ p.2)
          (cases_Bool (span_has x s)),
    )) in
    ⊎_elim
    (λ t. ⊎_elim
    (λ is. let p = in_parts x (span at end) is in
    let lt : x < min s.from mark = p.1 in (
      p.0,
      omega (arith, lt),
      ⊎_elim (λ yes1. let q = (in_parts x s yes1).0 in absurd (omega (arith, lt, q)))
          (λ no1. ap (λ b. b || spans_cover ss x) no1 ∙ before_all s.from x ss up.2 (omega (arith, lt))) (cases_Bool (span_has x s)),
    ))
    later
    (or_cases (span_has x (span at end)) (spans_cover rest x) (subst (λ b. spans_cover (cond b (span at end ∷ rest) rest) x ≡ true) t h)))
    (λ f. later (subst (λ b. spans_cover (cond b (span at end ∷ rest) rest) x ≡ true) f h))
    (cases_Bool (nat_lt at end))

-- what is in no span is in a gap
pub is_in_gap : (at mark x : ℕ) (ss : List Span) → at ≤ x → x < mark → spans_cover ss x ≡ false → spans_cover (gaps_from at mark ss) x ≡ true
is_in_gap at mark x [] le lt none =
    subst (λ b. spans_cover (cond b (span at mark ∷ []) []) x ≡ true) (sym (lt-ltb at mark (omega (arith, le, lt))))
    (or_left _ _ (in_from x (span at mark) le lt))
is_in_gap at mark x (s ∷ ss) le lt none =
    let end = min s.from mark in
    let rest = gaps_from (max at s.to) mark ss in
    let two = or_parts _ _ none in
    ⊎_elim
    (λ before. let first : at < min s.from mark = omega (arith, le, lt, before) in
    subst (λ b. spans_cover (cond b (span at end ∷ rest) rest) x ≡ true) (sym (lt-ltb at end first))
    (or_left _ _ (in_from x (span at end) le (omega (arith, before, lt)))))
    (λ past. let over : s.to ≤ x = ⊎_elim (λ inside. absurd (both_ways _ two.0 (in_from x s (omega (arith, past)) inside))) (λ out. omega (arith, out))
    (cases_lt x s.to) in
    let there : spans_cover rest x ≡ true = is_in_gap (max at s.to) mark x ss (omega (arith, le, over)) lt two.1 in
    ⊎_elim
    (λ t. subst (λ b. spans_cover (cond b (span at end ∷ rest) rest) x ≡ true) (sym t) (or_right _ _ there))
    (λ f. subst (λ b. spans_cover (cond b (span at end ∷ rest) rest) x ≡ true) (sym f) there)
    (cases_Bool (nat_lt at end)))
    (cases_lt x s.from)

not_true : (b : Bool) → b ≡ false → not b ≡ true
not_true b e = ap not e

not_false : (b : Bool) → not b ≡ true → b ≡ false
not_false b e = ⊎_elim (λ t. absurd (both_ways _ (ap not t) e)) (λ f. f) (cases_Bool b)

pub gaps_exact : (mark x : ℕ) (ss : List Span) → Ascends 0 ss → spans_cover (gaps_from 0 mark ss) x ≡ is_gap mark ss x
gaps_exact mark x ss up = same_truth (spans_cover (gaps_from 0 mark ss) x) (is_gap mark ss x)
    (λ h. let p = gap_is 0 mark 0 x ss up h in and_from _ _ (lt-ltb x mark p.1) (not_true (spans_cover ss x) p.2))
    (λ h. let p = and_parts _ _ h in is_in_gap 0 mark x ss (omega arith) (ltb-true x mark p.0) (not_false (spans_cover ss x) p.1))

apart_from : (lo lo' hi : ℕ) (ss : List Span) → lo ≤ lo' → Apart lo' hi ss → Apart lo hi ss
apart_from lo lo' hi [] le h = tt
apart_from lo lo' hi (s ∷ ss) le h = let first = h.0 in (omega (arith, le, first), h.1, h.2, h.3)

ascends_lower : (lo lo' : ℕ) (ss : List Span) → lo ≤ lo' → Ascends lo' ss → Ascends lo ss
ascends_lower lo lo' [] le up = tt
ascends_lower lo lo' (s ∷ ss) le up = let first = up.0 in (omega (arith, le, first), up.1, up.2)

pub gaps_apart : (at mark lo : ℕ) (ss : List Span) → Ascends lo ss → Apart at mark (gaps_from at mark ss)
gaps_apart at mark lo [] up = ⊎_elim
    (λ t. subst (λ b. Apart at mark (cond b (span at mark ∷ []) [])) (sym t) (omega arith, ltb-true at mark t, omega arith, tt))
    (λ f. subst (λ b. Apart at mark (cond b (span at mark ∷ []) [])) (sym f) tt)
    (cases_Bool (nat_lt at mark))
gaps_apart at mark lo (s ∷ ss) up =
    let end = min s.from mark in
    let rest = gaps_from (max at s.to) mark ss in
    let later : Apart (max at s.to) mark rest = gaps_apart (max at s.to) mark s.from ss up.2 in
    let order : s.from ≤ s.to = up.1 in
    ⊎_elim
    (λ t. subst (λ b. Apart at mark (cond b (span at end ∷ rest) rest)) (sym t)
    (omega arith, ltb-true at end t, omega arith, apart_from end (max at s.to) mark rest (omega (arith, order)) later))
    (λ f. subst (λ b. Apart at mark (cond b (span at end ∷ rest) rest)) (sym f) (apart_from at (max at s.to) mark rest (omega arith) later))
    (cases_Bool (nat_lt at end))

-- ---- from the order of the list
pub ascends : (lo : ℕ) (ss : List Span)
    → ((i : ℕ) (d : Span) → i < length ss → (lo ≤ (slice_index_or ss i d).from) × ((slice_index_or ss i d).from ≤ (slice_index_or ss i d).to))
    → IsNonDecreasingBy (λ s. s.from) ss → Ascends lo ss
ascends lo [] low up = tt
ascends lo (s ∷ ss) low up =
    let first = low 0 s (omega arith) in (
      first.0,
      first.1,
      ascends s.from ss
          (λ i d lt. (up 0 (suc i) d (omega arith) (omega (arith, lt)), (low (suc i) d (omega (arith, lt))).1))
          (λ i j d le lt. up (suc i) (suc j) d (omega (arith, le)) (omega (arith, lt))),
    )

-- ---- sizes
pub apart_ascends : (lo hi : ℕ) (ss : List Span) → Apart lo hi ss → Ascends lo ss
apart_ascends lo hi [] h = tt
apart_ascends lo hi (s ∷ ss) h = let lt = h.1 in (h.0, omega (arith, lt), ascends_lower s.from s.to ss (omega (arith, lt)) (apart_ascends s.to hi ss h.3))

count_none : (p : ℕ → Bool) (a n : ℕ) → ((x : ℕ) → a ≤ x → x < a + n → p x ≡ false) → count_from p a n ≡ 0
count_none p a zero h = refl
count_none p a (suc n) h =
    let here : one_if (p a) ≡ 0 = ap one_if (h a (omega arith) (omega arith)) in
    let rest = count_none p (suc a) n (λ x le lt. h x (omega (arith, le)) (omega (arith, lt))) in
    omega (arith, here, rest)

count_all : (p : ℕ → Bool) (a n : ℕ) → ((x : ℕ) → a ≤ x → x < a + n → p x ≡ true) → count_from p a n ≡ n
count_all p a zero h = refl
count_all p a (suc n) h =
    let here : one_if (p a) ≡ 1 = ap one_if (h a (omega arith) (omega arith)) in
    let rest = count_all p (suc a) n (λ x le lt. h x (omega (arith, le)) (omega (arith, lt))) in
    omega (arith, here, rest)

count_alike : (p q : ℕ → Bool) (a n : ℕ) → ((x : ℕ) → a ≤ x → x < a + n → p x ≡ q x) → count_from p a n ≡ count_from q a n
count_alike p q a zero h = refl
count_alike p q a (suc n) h =
    let here : one_if (p a) ≡ one_if (q a) = ap one_if (h a (omega arith) (omega arith)) in
    let rest = count_alike p q (suc a) n (λ x le lt. h x (omega (arith, le)) (omega (arith, lt))) in
    omega (arith, here, rest)

count_split : (p : ℕ → Bool) (a n m : ℕ) → count_from p a (n + m) ≡ count_from p a n + count_from p (a + n) m
count_split p a zero m =
    let e : count_from p a (0 + m) ≡ count_from p a m = ap (λ k. count_from p a k) (zero-add m) in
    let f : count_from p (a + 0) m ≡ count_from p a m = ap (λ b. count_from p b m) (add-zero a) in
    omega (arith, e, f)
count_split p a (suc n) m =
    let e : suc n + m ≡ suc (n + m) = omega arith in
    let f : suc a + n ≡ a + suc n = omega arith in
    let whole : count_from p a (suc n + m) ≡ one_if (p a) + count_from p (suc a) (n + m) = ap (count_from p a) e in
    let rest = count_split p (suc a) n m in
    let moved : count_from p (suc a + n) m ≡ count_from p (a + suc n) m = ap (λ b. count_from p b m) f in
    omega (arith, whole, rest, moved)

-- the lengths of spans that share no place add up to the size of the set
pub sum_counts : (lo n : ℕ) (ss : List Span) → Apart lo (lo + n) ss → sum_of ss ≡ count_from (spans_cover ss) lo n
sum_counts lo n [] h = sym (count_none (λ x. false) lo n (λ x le lt. refl))
sum_counts lo n (s ∷ ss) h =
    let a : lo ≤ s.from = h.0 in
    let b : s.from < s.to = h.1 in
    let c : s.to ≤ lo + n = h.2 in
    let before = s.from - lo in
    let here = s.to - s.from in
    let left = (lo + n) - s.to in
    let p = spans_cover (s ∷ ss) in
    let whole : n ≡ before + (here + left) = omega (arith, a, b, c) in
    let at_from : lo + before ≡ s.from = omega (arith, a) in
    let at_to : s.from + here ≡ s.to = omega (arith, b) in
    let end : s.to + left ≡ lo + n = omega (arith, c) in
    let up : Ascends s.to ss = apart_ascends s.to (lo + n) ss h.3 in
    let cut : count_from p lo n ≡ count_from p lo before + count_from p s.from (here + left) =
    ap (count_from p lo) whole ∙ count_split p lo before (here + left) ∙ ap (λ y. count_from p lo before + count_from p y (here + left)) at_from in
    let cut2 : count_from p s.from (here + left) ≡ count_from p s.from here + count_from p s.to left =
    count_split p s.from here left ∙ ap (λ y. count_from p s.from here + count_from p y left) at_to in
    let none : count_from p lo before ≡ 0 =
    count_none p lo before (λ x le lt. ⊎_elim (λ is. let q = (in_parts x s is).0 in absurd (omega (arith, lt, q, at_from)))
    (λ is. ap (λ t. t || spans_cover ss x) is ∙ before_all s.to x ss up (omega (arith, lt, at_from, b))) (cases_Bool (span_has x s))) in
    let all : count_from p s.from here ≡ here =
    count_all p s.from here (λ x le lt. or_left (span_has x s) (spans_cover ss x) (in_from x s le (omega (arith, lt, at_to)))) in
    let rest : count_from p s.to left ≡ count_from (spans_cover ss) s.to left =
    count_alike p (spans_cover ss) s.to left
    (λ x le lt. ⊎_elim (λ is. let q = (in_parts x s is).1 in absurd (omega (arith, le, q))) (λ is. ap (λ t. t || spans_cover ss x) is)
    (cases_Bool (span_has x s))) in
    let tail : sum_of ss ≡ count_from (spans_cover ss) s.to left = sum_counts s.to left ss (subst (λ y. Apart s.to y ss) (sym end) h.3) in
    omega (arith, cut, cut2, none, all, rest, tail)

pub sum_fits : (lo hi : ℕ) (ss : List Span) → lo ≤ hi → Apart lo hi ss → lo + sum_of ss ≤ hi
sum_fits lo hi [] le h = omega (arith, le)
sum_fits lo hi (s ∷ ss) le h =
    let a = h.0 in
    let b = h.1 in
    let c = h.2 in
    let rest = sum_fits s.to hi ss c h.3 in
    omega (arith, a, b, c, rest)

pub sums_size : (hi : ℕ) (ss : List Span) → Apart 0 hi ss → sum_of ss ≡ size_of hi (spans_cover ss)
sums_size hi ss h = sum_counts 0 hi ss (subst (λ y. Apart 0 y ss) (sym (zero-add hi)) h)

pub ascends_all : (ss : List Span) → All (λ s. s.from ≤ s.to) ss → IsNonDecreasingBy (λ s. s.from) ss → Ascends 0 ss
ascends_all ss all up = ascends 0 ss (λ i d lt. (omega arith, All-get_or (λ s. s.from ≤ s.to) ss i d lt all)) up

pub gaps_whole : (mark : ℕ) (ss rs : List Span) → IsPermutation ss rs → Ascends 0 rs → (x : ℕ) → spans_cover (gaps_from 0 mark rs) x ≡ is_gap mark ss x
gaps_whole mark ss rs moved up x = gaps_exact mark x rs up ∙ ap (λ b. nat_lt x mark && not b) (sym (list_any-IsPermutation (span_has x) ss rs moved))

pub sorted_spans : (ss rs view : List Span) → All (λ s. s.from ≤ s.to) ss → IsPermutation ss rs → IsNonDecreasingBy (λ s. s.from) rs → view ≡ rs
    → Ascends 0 view
sorted_spans ss rs view all moved up is = subst (Ascends 0) (sym is) (ascends_all rs (All-permutation (λ s. s.from ≤ s.to) ss rs moved all) up)

pub gaps_seen : (mark : ℕ) (ss rs view gs : List Span) → IsPermutation ss rs → view ≡ rs → Ascends 0 view → gs ≡ gaps_from 0 mark view → (x : ℕ)
    → spans_cover gs x ≡ is_gap mark ss x
gaps_seen mark ss rs view gs moved is up made x = ap (λ l. spans_cover l x) made ∙ gaps_whole mark ss view (subst (IsPermutation ss) (sym is) moved) up x
