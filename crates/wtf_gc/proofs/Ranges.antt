-- Ranges that are free of what is in use, file by file.
use Rattle.std.proofs.Common.{◌≡◌, ℕ, ◌+◌, ◌-◌, ◌^◌, ◌<◌, ◌≤◌, Bool, true, false, not, ◌||◌, ◌&&◌, nat_eq, nat_le, nat_lt, List, [], ◌∷◌, ◌++◌, map}
use Rattle.std.proofs.Common.{refl, sym, ap, ◌∙◌, ⊎_elim, arith}
use Rattle.std.specs.List.{All}
use Rattle.std.proofs.lemmas.Bool.{cases_Bool, and_parts, and_from, or_left, or_right, or_cases, ltb-true, lt-ltb, eqb-true, eq-eqb, cases_lt}
use Rattle.std.proofs.lemmas.List.Elements.{All-nil, All-cons, All-head, All-tail, All-append, All-weaker}
use Rattle.std.proofs.lemmas.List.Folds.{list_any-append}
use Rattle.wtf_base.specs.Places.{Place}
use Rattle.wtf_dev.specs.Store.{Range}
use Rattle.wtf_region.specs.Apart.{lies_in}
use Rattle.wtf_gc.specs.declared.extent.Extent.{Extent}
use Rattle.wtf_gc.specs.declared.extent.Span.{Span}
use Rattle.wtf_gc.specs.Extents.{has, extents_cover}
use Rattle.wtf_gc.specs.Spans.{span_has, spans_cover, Apart, is_gap, sum_of, size_of}
use Rattle.wtf_gc.specs.Frees.{lie_in, range_of, ranges_of, AreApart, ranges_len}
use Rattle.wtf_gc.specs.Unused.{place_at, range_at, is_unused, IsUnused}
use Rattle.wtf_gc.proofs.Between.{same_truth, before_all, apart_ascends, sum_fits, sums_size}
use Rattle.wtf_gc.proofs.Adding.{and_none}

-- an extent's range has the same bytes
pub range_has : (e : Extent) (p : Place) → lies_in p (range_of e) ≡ has e p
range_has e p = let end : e.from + (e.to - e.from) ≡ e.to = omega (arith, e.order) in
    ap (λ t. nat_eq p.server e.server && (nat_eq p.file e.file && (nat_le e.from p.at && nat_lt p.at t))) end

pub ranges_have : (es : List Extent) (p : Place) → lie_in (ranges_of es) p ≡ extents_cover es p
ranges_have [] p = refl
ranges_have (e ∷ es) p = ap (λ b. b || lie_in (ranges_of es) p) (range_has e p) ∙ ap (λ b. has e p || b) (ranges_have es p)

spread : (a b x y : Bool) → ((a && (b && x)) || (a && (b && y))) ≡ (a && (b && (x || y)))
spread true true x y = refl
spread true false x y = refl
spread false b x y = refl

none_there : (a b : Bool) → (a && (b && false)) ≡ false
none_there true b = and_none b
none_there false b = refl

-- spans of one file as ranges
span_range : (k f : ℕ) (s : Span) (p : Place) → s.from ≤ s.to → lies_in p (range_at k f s) ≡ (nat_eq p.server k && (nat_eq p.file f && span_has p.at s))
span_range k f s p le = let end : s.from + (s.to - s.from) ≡ s.to = omega (arith, le) in
    ap (λ t. nat_eq p.server k && (nat_eq p.file f && (nat_le s.from p.at && nat_lt p.at t))) end

pub spans_have : (k f lo hi : ℕ) (ss : List Span) (p : Place) → Apart lo hi ss
    → lie_in (map (range_at k f) ss) p ≡ (nat_eq p.server k && (nat_eq p.file f && spans_cover ss p.at))
spans_have k f lo hi [] p apart = sym (none_there (nat_eq p.server k) (nat_eq p.file f))
spans_have k f lo hi (s ∷ ss) p apart = let lt = apart.1 in
    ap (λ b. b || lie_in (map (range_at k f) ss) p) (span_range k f s p (omega (arith, lt)))
    ∙ ap (λ b. (nat_eq p.server k && (nat_eq p.file f && span_has p.at s)) || b) (spans_have k f s.to hi ss p apart.3)
    ∙ spread (nat_eq p.server k) (nat_eq p.file f) (span_has p.at s) (spans_cover ss p.at)

pub spans_apart : (k f lo hi : ℕ) (ss : List Span) → Apart lo hi ss → AreApart (map (range_at k f) ss)
spans_apart k f lo hi [] apart = tt
spans_apart k f lo hi (s ∷ ss) apart = let lt = apart.1 in (
  omega (arith, lt),
  λ p there.
      let both = and_parts (nat_eq p.server k) (nat_eq p.file f && span_has p.at s) (sym (span_range k f s p (omega (arith, lt))) ∙ there) in
      let inner = and_parts (nat_eq p.file f) (span_has p.at s) both.1 in
      let bounds = and_parts (nat_le s.from p.at) (nat_lt p.at s.to) inner.1 in
      spans_have k f s.to hi ss p apart.3
      ∙ ap (λ b. nat_eq p.server k && (nat_eq p.file f && b)) (before_all s.to p.at ss (apart_ascends s.to hi ss apart.3) (ltb-true p.at s.to bounds.1))
      ∙ none_there (nat_eq p.server k) (nat_eq p.file f),
  spans_apart k f s.to hi ss apart.3,
)

pub spans_bytes : (k f : ℕ) (ss : List Span) → ranges_len (map (range_at k f) ss) ≡ sum_of ss
spans_bytes k f [] = refl
spans_bytes k f (s ∷ ss) = ap (λ n. (s.to - s.from) + n) (spans_bytes k f ss)

abbrev pub LiesBelow : ℕ → (ℕ → ℕ → ℕ) → ℕ → ℕ × Range → Type 0
LiesBelow k mark n r = (r.0 ≡ k) × (r.1.file < n) × (r.1.at + r.1.len ≤ mark k r.1.file)

spans_lie : (k f lo : ℕ) (mark : ℕ → ℕ → ℕ) (ss : List Span) → Apart lo (mark k f) ss → All (LiesBelow k mark (f + 1)) (map (range_at k f) ss)
spans_lie k f lo mark [] apart = All-nil (LiesBelow k mark (f + 1))
spans_lie k f lo mark (s ∷ ss) apart = let lt = apart.1 in let le = apart.2 in
    All-cons (LiesBelow k mark (f + 1)) (range_at k f s) (map (range_at k f) ss) (refl, omega arith, omega (arith, lt, le)) (spans_lie k f s.to mark ss apart.3)

all_below : (k n : ℕ) (mark : ℕ → ℕ → ℕ) (rs : List (ℕ × Range)) → All (LiesBelow k mark n) rs → All (LiesBelow k mark (n + 1)) rs
all_below k n mark rs all = All-weaker (LiesBelow k mark n) (LiesBelow k mark (n + 1)) (λ r h. let lt = h.1 in (h.0, omega (arith, lt), h.2)) rs all

-- ---- rows of ranges
pub lie_both : (rs ss : List (ℕ × Range)) (p : Place) → lie_in (rs ++ ss) p ≡ (lie_in rs p || lie_in ss p)
lie_both rs ss p = list_any-append (λ r. lies_in p r) rs ss

pub apart_both : (rs ss : List (ℕ × Range)) → AreApart rs → AreApart ss → ((p : Place) → lie_in rs p ≡ true → lie_in ss p ≡ false) → AreApart (rs ++ ss)
apart_both [] ss a b none = b
apart_both (r ∷ rs) ss a b none = (
  a.0,
  λ p there. lie_both rs ss p ∙ ap (λ t. t || lie_in ss p) (a.1 p there) ∙ none p (or_left (lies_in p r) (lie_in rs p) there),
  apart_both rs ss a.2 b (λ p there. none p (or_right (lies_in p r) (lie_in rs p) there)),
)

pub bytes_both : (rs ss : List (ℕ × Range)) → ranges_len (rs ++ ss) ≡ ranges_len rs + ranges_len ss
bytes_both [] ss = omega arith
bytes_both (r ∷ rs) ss = let rest = bytes_both rs ss in omega (arith, rest)

-- ---- one file more
module _ (k f : ℕ) (mark : ℕ → ℕ → ℕ) (used : Place → Bool) (rs : List (ℕ × Range)) (bytes : ℕ) (gs spans : List Span) (apart : Apart 0 (mark k f) gs)
    (exact : (x : ℕ) → spans_cover gs x ≡ is_gap (mark k f) spans x) (are : (x : ℕ) → spans_cover spans x ≡ used (place_at k f x)) where
  abbrev ms : List (ℕ × Range)
  ms = map (range_at k f) gs

  abbrev wanted : ℕ → Place → Bool
  wanted n p = nat_eq p.server k && (nat_lt p.file n && is_unused mark used p)

  -- a place of this file is in a gap exactly where it is not in use
  here_is : (x : ℕ) → spans_cover gs x ≡ is_unused mark used (place_at k f x)
  here_is x = exact x ∙ ap (λ b. nat_lt x (mark k f) && not b) (are x)

  file_place : (p : Place) → p.server ≡ k → p.file ≡ f → p ≡ place_at k f p.at
  file_place p s e = λ i. record { server = s i; file = e i; at = p.at }

  file_exact : (p : Place) → (lie_in rs p ≡ wanted f p) → lie_in (rs ++ ms) p ≡ wanted (f + 1) p
  file_exact p old = lie_both rs ms p ∙ ap (λ b. b || lie_in ms p) old ∙ ap (λ b. wanted f p || b) (spans_have k f 0 (mark k f) gs p apart)
      ∙ same_truth (wanted f p || (nat_eq p.server k && (nat_eq p.file f && spans_cover gs p.at))) (wanted (f + 1) p)
      (λ h. ⊎_elim
      (λ a. let t = and_parts (nat_eq p.server k) (nat_lt p.file f && is_unused mark used p) a in
      let u = and_parts (nat_lt p.file f) (is_unused mark used p) t.1 in
      let lt = ltb-true p.file f u.0 in
      and_from _ _ t.0 (and_from _ _ (lt-ltb p.file (f + 1) (omega (arith, lt))) u.1))
      (λ b. let t = and_parts (nat_eq p.server k) (nat_eq p.file f && spans_cover gs p.at) b in
      let u = and_parts (nat_eq p.file f) (spans_cover gs p.at) t.1 in
      let e = eqb-true p.file f u.0 in
      let here : p ≡ place_at k f p.at = file_place p (eqb-true p.server k t.0) e in
      and_from _ _ t.0 (and_from _ _ (lt-ltb p.file (f + 1) (omega (arith, e))) (ap (is_unused mark used) here ∙ sym (here_is p.at) ∙ u.1)))
      (or_cases (wanted f p) (nat_eq p.server k && (nat_eq p.file f && spans_cover gs p.at)) h))
      (λ h. let t = and_parts (nat_eq p.server k) (nat_lt p.file (f + 1) && is_unused mark used p) h in
      let u = and_parts (nat_lt p.file (f + 1)) (is_unused mark used p) t.1 in
      let lt = ltb-true p.file (f + 1) u.0 in
      ⊎_elim
      (λ before. or_left (wanted f p) _ (and_from _ _ t.0 (and_from _ _ (lt-ltb p.file f before) u.1)))
      (λ past. let e : p.file ≡ f = omega (arith, lt, past) in
      let here : p ≡ place_at k f p.at = file_place p (eqb-true p.server k t.0) e in
      or_right (wanted f p) _ (and_from _ _ t.0 (and_from _ _ (eq-eqb p.file f e) (here_is p.at ∙ sym (ap (is_unused mark used) here) ∙ u.1))))
      (cases_lt p.file f))

  -- no byte of the files before is one of this file
  file_apart : ((p : Place) → lie_in rs p ≡ wanted f p) → (p : Place) → lie_in rs p ≡ true → lie_in ms p ≡ false
  file_apart old p there =
      let t = and_parts (nat_eq p.server k) (nat_lt p.file f && is_unused mark used p) (sym (old p) ∙ there) in
      let u = and_parts (nat_lt p.file f) (is_unused mark used p) t.1 in
      let lt = ltb-true p.file f u.0 in
      spans_have k f 0 (mark k f) gs p apart
      ∙ ⊎_elim
      (λ same. let e = eqb-true p.file f same in absurd (omega (arith, lt, e)))
      (λ other. ap (λ b. nat_eq p.server k && (b && spans_cover gs p.at)) other ∙ and_none (nat_eq p.server k))
      (cases_Bool (nat_eq p.file f))

  pub file_more : (more : ℕ) → mark k f < 2 ^ 61 → more ≡ size_of (mark k f) (spans_cover gs) → IsUnused k mark used f rs bytes
      → IsUnused k mark used (f + 1) (rs ++ ms) (bytes + more)
  file_more more fits is old =
      let sum : sum_of gs ≡ size_of (mark k f) (spans_cover gs) = sums_size (mark k f) gs apart in
      let le = sum_fits 0 (mark k f) gs (omega arith) apart in
      let a = bytes_both rs ms in
      let b = spans_bytes k f gs in
      let c = old.count in
      let few = old.few in
      record {
        apart = apart_both rs ms old.apart (spans_apart k f 0 (mark k f) gs apart) (file_apart old.exact);
        exact = λ p. file_exact p (old.exact p);
        lie = All-append (LiesBelow k mark (f + 1)) rs ms (all_below k f mark rs old.lie) (spans_lie k f 0 mark gs apart);
        count = omega (arith, a, b, c, sum, is);
        few = omega (arith, few, sum, is, le, fits);
      }

pub none_below : (n : ℕ) → nat_lt n 0 ≡ false
none_below n = ⊎_elim (λ t. let lt = ltb-true n 0 t in absurd (omega (arith, lt))) (λ f. f) (cases_Bool (nat_lt n 0))

pub no_file : (k : ℕ) (mark : ℕ → ℕ → ℕ) (used : Place → Bool) → IsUnused k mark used 0 [] 0
no_file k mark used = record {
  apart = tt;
  exact = λ p. sym (ap (λ b. nat_eq p.server k && (b && is_unused mark used p)) (none_below p.file) ∙ and_none (nat_eq p.server k));
  lie = All-nil (LiesBelow k mark 0);
  count = refl;
  few = omega arith;
}

pub apart_ordered : (lo hi : ℕ) (ss : List Span) → Apart lo hi ss → All (λ (s : Span). s.from ≤ s.to) ss
apart_ordered lo hi [] apart = All-nil (λ (s : Span). s.from ≤ s.to)
apart_ordered lo hi (s ∷ ss) apart = let lt = apart.1 in All-cons (λ (s : Span). s.from ≤ s.to) s ss (omega (arith, lt)) (apart_ordered s.to hi ss apart.3)

pub all_ranges : (P : ℕ × Range → Type 0) (es : List Extent) → All P (ranges_of es) → All (λ (e : Extent). P (range_of e)) es
all_ranges P [] h = All-nil (λ (e : Extent). P (range_of e))
all_ranges P (e ∷ es) h = All-cons (λ (e : Extent). P (range_of e)) e es (All-head P (range_of e) (ranges_of es) h)
    (all_ranges P es (All-tail P (range_of e) (ranges_of es) h))

pub size_fits : (m : ℕ) (gs : List Span) → Apart 0 m gs → size_of m (spans_cover gs) ≤ m
size_fits m gs apart = let sum = sums_size m gs apart in let le = sum_fits 0 m gs (omega arith) apart in omega (arith, sum, le)
