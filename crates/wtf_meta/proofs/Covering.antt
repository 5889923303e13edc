-- Changes that lay bytes over the regions of a file.
use Rattle.std.proofs.Common.{◌≡◌, ◌≢◌, ℕ, ◌+◌, ◌-◌, ◌*◌, ◌<◌, ◌≤◌, ◌++◌, max, min, true, nat_lt, List, [], ◌∷◌, Some, refl, ap, sym, ◌∙◌, subst, arith, inl}
use Rattle.std.proofs.Common.{inr}
use Rattle.std.proofs.lemmas.Bool.{lt-ltb, le-ltb, cond-true, cond-false, cases_eq, cases_order, and_parts, and_from}
use Rattle.std.proofs.lemmas.Bool.Decides.{nat_tests}
use Rattle.wtf_overlay.specs.declared.part.Entry.{Entry}
use Rattle.wtf_overlay.specs.Origin.{Place, part_origin}
use Rattle.wtf_values.specs.Regions.{pushed}
use Rattle.wtf_meta.specs.Lists.{Lists}
use Rattle.wtf_meta.specs.Files.{FileView, end_of, region_origin, file_origin, laid, joined, reach}
use Rattle.wtf_meta.specs.FileEdits.{FileEdit, Push, put_region, after, after_edit, fits_edit, all_fit}
use Rattle.wtf_meta.specs.Ranges.{Covers}
use Rattle.wtf_meta.proofs.BaseLists.{region_pushed}
use Rattle.wtf_meta.proofs.Laid.{laid_is, laid-laid, laid_same}
use Rattle.wtf_meta.proofs.OneRegion.{put_at, put_else, laid_in_file, laid_elsewhere}
use Rattle.wtf_meta.proofs.Places.{at_place, by_places, apart}

-- changes one after another
pub after-append : (ds es : List FileEdit) (v : FileView) → after (ds ++ es) v ≡ after es (after ds v)
after-append [] es v = refl
after-append (d ∷ ds) es v = after-append ds es (after_edit d v)

-- they fit where each of the two lists does
pub all_fit-append : (ds es : List FileEdit) (v : FileView) → all_fit ds v ≡ true → all_fit es (after ds v) ≡ true → all_fit (ds ++ es) v ≡ true
all_fit-append [] es v first next = next
all_fit-append (d ∷ ds) es v first next =
    let both = and_parts (fits_edit d v) (all_fit ds (after_edit d v)) first in
    and_from (fits_edit d v) (all_fit (ds ++ es) (after_edit d v)) both.0 (all_fit-append ds es (after_edit d v) both.1 next)

-- how far a range reaches into a region where it has a byte
pub reach_some : (b off n t : ℕ) → max off t < min (off + n) (t + b) → reach b off n t ≡ min (off + n) (t + b) - t
reach_some b off n t h = cond-true (nat_lt (max off t) (min (off + n) (t + b))) _ _ (lt-ltb (max off t) (min (off + n) (t + b)) h)

-- and where it has none
pub reach_none : (b off n t : ℕ) → min (off + n) (t + b) ≤ max off t → reach b off n t ≡ 0
reach_none b off n t h = cond-false (nat_lt (max off t) (min (off + n) (t + b))) _ _ (le-ltb (max off t) (min (off + n) (t + b)) h)

-- how far two ranges reach that follow one another
pub reach-join : (b off n m t : ℕ) → max (reach b off n t) (reach b (off + n) m t) ≡ reach b off (n + m) t
reach-join b off n m t = grind (arith, nat_tests)

-- none of two ranges that follow one another reaches into a region where both together do not
pub reach_first : (b off n m t : ℕ) → reach b off (n + m) t ≡ 0 → reach b off n t ≡ 0
reach_first b off n m t h = omega (arith, reach-join b off n m t)

-- nor does the second
pub reach_next : (b off n m t : ℕ) → reach b off (n + m) t ≡ 0 → reach b (off + n) m t ≡ 0
reach_next b off n m t h = omega (arith, reach-join b off n m t)

-- nothing is laid
pub Covers-none : (b off : ℕ) (f : ℕ → List Place) → Covers b [] off 0 f
Covers-none b off f = record {
  fit = λ v. refl;
  last = λ v. refl;
  ends = λ v q. omega (arith, reach_none b off 0 (q * b) (omega arith));
  others = λ v q none. refl;
  origin = λ lists v x. laid_is off 0 f (file_origin b lists v) x (file_origin b lists v x) (λ _. refl) (λ _. refl) (λ from to. absurd (omega arith));
}

-- the deltas of a range and then those of the range that follows
pub Covers-join : (b : ℕ) (ds es : List FileEdit) (off n m : ℕ) (f g : ℕ → List Place) → Covers b ds off n f → Covers b es (off + n) m g
    → Covers b (ds ++ es) off (n + m) (joined n f g)
Covers-join b ds es off n m f g first next = record {
  fit = λ v. all_fit-append ds es v (first.fit v) (next.fit (after ds v));
  last = λ v. ap (λ (w : FileView). w.last) (after-append ds es v) ∙ next.last (after ds v) ∙ first.last v;
  ends = λ v q. ap (λ (w : FileView). end_of (w.region q)) (after-append ds es v)
      ∙ (let there : end_of ((after es (after ds v)).region q) ≡ max (end_of (v.region q)) (reach b off (n + m) (q * b)) =
      omega (arith, next.ends (after ds v) q, first.ends v q, reach-join b off n m (q * b)) in there);
  others = λ v q none. ap (λ (w : FileView). w.region q) (after-append ds es v)
      ∙ next.others (after ds v) q (reach_next b off n m (q * b) none) ∙ first.others v q (reach_first b off n m (q * b) none);
  origin = λ lists v x. ap (λ (w : FileView). file_origin b lists w x) (after-append ds es v) ∙ next.origin lists (after ds v) x
      ∙ laid_same (off + n) m g g (file_origin b lists (after ds v)) (laid off n f (file_origin b lists v)) x (λ i _. refl) (first.origin lists v x)
      ∙ laid-laid off n m f g (file_origin b lists v) x;
}

-- the places may be told by another function
pub Covers-same : (b : ℕ) (ds : List FileEdit) (off n : ℕ) (f g : ℕ → List Place) → ((i : ℕ) → i < n → f i ≡ g i) → Covers b ds off n f → Covers b ds off n g
Covers-same b ds off n f g same h = record {
  fit = h.fit;
  last = h.last;
  ends = h.ends;
  others = h.others;
  origin = λ lists v x. h.origin lists v x ∙ laid_same off n f g (file_origin b lists v) (file_origin b lists v) x same refl;
}

push_reach : (b r q : ℕ) (e : Entry) → e.off + e.len ≤ b → q ≢ r → reach b (r * b + e.off) e.len (q * b) ≡ 0
push_reach b r q e h differ = elim (cases_order q r) [
  | inl is ↦ absurd (differ is)
  | inr (inl l) ↦ reach_none b (r * b + e.off) e.len (q * b) (omega (arith, apart b q r l))
  | inr (inr g) ↦ reach_none b (r * b + e.off) e.len (q * b) (omega (arith, apart b r q g))
]

push_reaches : (b r : ℕ) (e : Entry) → e.off + e.len ≤ b → reach b (r * b + e.off) e.len (r * b) ≡ e.off + e.len
push_reaches b r e h = reach_some b (r * b + e.off) e.len (r * b) (omega (arith, e.positive)) ∙ omega arith

pushed_origin : (b r : ℕ) (lists : Lists) (v : FileView) (e : Entry) (y : ℕ) → y < b → region_origin lists (Some (pushed (v.region r) e)) y
    ≡ laid (r * b + e.off) e.len (part_origin e.part) (file_origin b lists v) (r * b + y)
pushed_origin b r lists v e y h =
    region_pushed lists (v.region r) e y
    ∙ laid_in_file b r e.off e.len (part_origin e.part) (region_origin lists (v.region r)) (file_origin b lists v) y (sym (at_place b lists v r y h))

-- an entry that is laid over a region of every file
pub Covers-push : (b r off : ℕ) (e : Entry) → 0 < b → e.off + e.len ≤ b → r * b + e.off ≡ off → Covers b (Push r e ∷ []) off e.len (part_origin e.part)
Covers-push b r off e pos fits at = subst (λ o. Covers b (Push r e ∷ []) o e.len (part_origin e.part)) at (record {
  fit = λ v. refl;
  last = λ v. refl;
  ends = λ v q. elim (cases_eq q r) [
    | inl is ↦ subst (λ k. end_of ((put_region v r (Some (pushed (v.region r) e))).region k) ≡ max (end_of (v.region k))
        (reach b (r * b + e.off) e.len (k * b))) (sym is)
        (ap end_of (put_at v r (Some (pushed (v.region r) e))) ∙ ap (max (end_of (v.region r))) (sym (push_reaches b r e fits)))
    | inr differ ↦ ap end_of (put_else v r q (Some (pushed (v.region r) e)) differ) ∙ omega (arith, push_reach b r q e fits differ)
  ];
  others = λ v q none. elim (cases_eq q r) [
    | inl is ↦ absurd (omega (arith, e.positive, push_reaches b r e fits, ap (λ k. reach b (r * b + e.off) e.len (k * b)) is))
    | inr differ ↦ put_else v r q (Some (pushed (v.region r) e)) differ
  ];
  origin = λ lists v. by_places
      (λ x. file_origin b lists (after_edit (Push r e) v) x ≡ laid (r * b + e.off) e.len (part_origin e.part) (file_origin b lists v) x) b pos
      (λ q y h. at_place b lists (after_edit (Push r e) v) q y h ∙ elim (cases_eq q r) [
        | inl is ↦ subst
            (λ k. region_origin lists ((put_region v r (Some (pushed (v.region r) e))).region k) y ≡ laid (r * b + e.off) e.len (part_origin e.part)
            (file_origin b lists v) (k * b + y)) (sym is)
            (ap (λ w. region_origin lists w y) (put_at v r (Some (pushed (v.region r) e))) ∙ pushed_origin b r lists v e y h)
        | inr differ ↦ ap (λ w. region_origin lists w y) (put_else v r q (Some (pushed (v.region r) e)) differ) ∙ sym (at_place b lists v q y h)
            ∙ laid_elsewhere b r q e.off e.len (part_origin e.part) (file_origin b lists v) y h fits differ
      ]);
})
