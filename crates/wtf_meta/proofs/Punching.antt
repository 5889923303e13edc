-- Holes in a file.
use Rattle.std.proofs.Common.{◌≡◌, ℕ, ◌+◌, ◌-◌, ◌*◌, ◌<◌, ◌≤◌, ◌^◌, ◌⊎◌, ◌++◌, min, nat_lt, List, [], ◌∷◌, Option, Some, None, refl, ap, sym, ◌∙◌, subst, arith}
use Rattle.std.proofs.Common.{inl, inr}
use Rattle.std.proofs.lemmas.Bool.{cases_lt, cases_eq, cond-true, cond-false, lt-ltb, le-ltb}
use Rattle.wtf_overlay.proofs.Origins.{over_before, over_after, over_within}
use Rattle.wtf_values.specs.declared.region.RegionValue.{RegionValue}
use Rattle.wtf_values.specs.Regions.{pushed, zeroed, zero_case, zero_entry}
use Rattle.wtf_model.specs.declared.limits.TheConstants.{MAX_REGIONS}
use Rattle.wtf_values.proofs.RegionLaws.{zeroed_in-end}
use Rattle.wtf_meta.specs.Lists.{Lists}
use Rattle.wtf_meta.specs.Files.{FileView, end_of, region_origin, file_origin, laid, joined}
use Rattle.wtf_meta.specs.FileEdits.{FileEdit, ZeroWithin, put_region, after, after_edit}
use Rattle.wtf_meta.specs.Ranges.{Punches, Clears}
use Rattle.wtf_meta.proofs.Laid.{laid_is, laid_before, laid_within, laid_after, laid-laid, laid_same}
use Rattle.wtf_meta.proofs.BaseLists.{region_past, region_pushed}
use Rattle.wtf_meta.proofs.OneRegion.{put_at, put_else, laid_in_file, laid_elsewhere, file_past, file_within}
use Rattle.wtf_meta.proofs.Places.{at_place, by_places}
use Rattle.wtf_meta.proofs.Covering.{after-append, all_fit-append}

-- zeros leave the end of a region
pub zeroed_end : (from upto : ℕ) (now : Option RegionValue) → end_of (zeroed from upto now) ≡ end_of now
zeroed_end from upto None = refl
zeroed_end from upto (Some v) = zeroed_in-end from upto v

case_origin : (lists : Lists) (v : RegionValue) (from to upto y : ℕ) (c : (from < to) ⊎ (to ≤ from)) (s : (to < 2 ^ 32) ⊎ (2 ^ 32 ≤ to)) → upto < 2 ^ 32
    → to ≡ min upto v.end
    → region_origin lists (Some (zero_case v from to c s)) y ≡ laid from (upto - from) (λ i. []) (region_origin lists (Some v)) y
case_origin lists v from to upto y (inl some) (inl small) h is =
    let e = zero_entry from to some small in
    let below = region_origin lists (Some v) y in
    laid_is from (upto - from) (λ i. []) (region_origin lists (Some v)) y (region_origin lists (Some (pushed (Some v) e)) y)
    (λ l. region_pushed lists (Some v) e y ∙ over_before e y below l)
    (λ p. region_pushed lists (Some v) e y ∙ over_after e y below (omega arith))
    (λ a z. region_pushed lists (Some v) e y ∙ elim (cases_lt y to) [
      | inl l ↦ over_within e y below a (omega arith)
      | inr g ↦ over_after e y below (omega arith) ∙ region_past lists (Some v) y (omega arith)
    ])
case_origin lists v from to upto y (inl some) (inr large) h is = absurd (omega arith)
case_origin lists v from to upto y (inr none) s h is =
    laid_is from (upto - from) (λ i. []) (region_origin lists (Some v)) y (region_origin lists (Some v) y) (λ _. refl) (λ _. refl)
    (λ a z. region_past lists (Some v) y (omega arith))

-- and make holes of its bytes in the range
pub zeroed_origin : (lists : Lists) (from upto : ℕ) (now : Option RegionValue) (y : ℕ) → upto < 2 ^ 32
    → region_origin lists (zeroed from upto now) y ≡ laid from (upto - from) (λ i. []) (region_origin lists now) y
zeroed_origin lists from upto None y h = laid_is from (upto - from) (λ i. []) (region_origin lists None) y [] (λ _. refl) (λ _. refl) (λ _ _. refl)
zeroed_origin lists from upto (Some v) y h = case_origin lists v from (min upto v.end) upto y (cases_lt from (min upto v.end))
    (cases_lt (min upto v.end) (2 ^ 32)) h refl

zeroed_none : (from upto : ℕ) (now : Option RegionValue) → now ≡ None → zeroed from upto now ≡ None
zeroed_none from upto now is = ap (zeroed from upto) is

-- nothing is done
pub Punches-none : (b off : ℕ) → Punches b [] off 0
Punches-none b off = record {
  fit = λ v. refl;
  last = λ v. refl;
  ends = λ v q. refl;
  none = λ v q h. h;
  origin = λ lists v x. laid_is off 0 (λ i. []) (file_origin b lists v) x (file_origin b lists v x) (λ _. refl) (λ _. refl) (λ from to. absurd (omega arith));
}

-- holes of a range and then of the range that follows
pub Punches-join : (b : ℕ) (ds es : List FileEdit) (off n m : ℕ) → Punches b ds off n → Punches b es (off + n) m → Punches b (ds ++ es) off (n + m)
Punches-join b ds es off n m first next = record {
  fit = λ v. all_fit-append ds es v (first.fit v) (next.fit (after ds v));
  last = λ v. ap (λ (w : FileView). w.last) (after-append ds es v) ∙ next.last (after ds v) ∙ first.last v;
  ends = λ v q. ap (λ (w : FileView). end_of (w.region q)) (after-append ds es v) ∙ next.ends (after ds v) q ∙ first.ends v q;
  none = λ v q h. ap (λ (w : FileView). w.region q) (after-append ds es v) ∙ next.none (after ds v) q (first.none v q h);
  origin = λ lists v x. ap (λ (w : FileView). file_origin b lists w x) (after-append ds es v) ∙ next.origin lists (after ds v) x
      ∙ laid_same (off + n) m (λ i. []) (λ i. []) (file_origin b lists (after ds v)) (laid off n (λ i. []) (file_origin b lists v)) x (λ i _. refl)
      (first.origin lists v x)
      ∙ laid-laid off n m (λ i. []) (λ i. []) (file_origin b lists v) x
      ∙ laid_same off (n + m) (joined n (λ i. []) (λ i. [])) (λ i. []) (file_origin b lists v) (file_origin b lists v) x (λ i _. elim (cases_lt i n) [
        | inl l ↦ cond-true (nat_lt i n) _ _ (lt-ltb i n l)
        | inr g ↦ cond-false (nat_lt i n) _ _ (le-ltb i n g)
      ]) refl;
}

-- zeros within a region of every file
pub Punches-zero : (b r from upto off n : ℕ) → 0 < b → b < 2 ^ 32 → from + n ≡ upto → upto ≤ b → r * b + from ≡ off
    → Punches b (ZeroWithin r from upto ∷ []) off n
Punches-zero b r from upto off n pos small is within at = subst (λ o. Punches b (ZeroWithin r from upto ∷ []) o n) at (record {
  fit = λ v. refl;
  last = λ v. refl;
  ends = λ v q. elim (cases_eq q r) [
    | inl e ↦ subst (λ j. end_of ((put_region v r (zeroed from upto (v.region r))).region j) ≡ end_of (v.region j)) (sym e)
        (ap end_of (put_at v r (zeroed from upto (v.region r))) ∙ zeroed_end from upto (v.region r))
    | inr differ ↦ ap end_of (put_else v r q (zeroed from upto (v.region r)) differ)
  ];
  none = λ v q h. elim (cases_eq q r) [
    | inl e ↦ subst (λ j. v.region j ≡ None → (put_region v r (zeroed from upto (v.region r))).region j ≡ None) (sym e)
        (λ k. put_at v r (zeroed from upto (v.region r)) ∙ zeroed_none from upto (v.region r) k) h
    | inr differ ↦ put_else v r q (zeroed from upto (v.region r)) differ ∙ h
  ];
  origin = λ lists v. by_places
      (λ x. file_origin b lists (after_edit (ZeroWithin r from upto) v) x ≡ laid (r * b + from) n (λ i. []) (file_origin b lists v) x) b pos
      (λ q y h. at_place b lists (after_edit (ZeroWithin r from upto) v) q y h ∙ elim (cases_eq q r) [
        | inl e ↦ subst
            (λ j. region_origin lists ((put_region v r (zeroed from upto (v.region r))).region j) y ≡ laid (r * b + from) n (λ i. []) (file_origin b lists v)
            (j * b + y)) (sym e)
            (ap (λ w. region_origin lists w y) (put_at v r (zeroed from upto (v.region r))) ∙ zeroed_origin lists from upto (v.region r) y (omega arith)
            ∙ laid_in_file b r from (upto - from) (λ i. []) (region_origin lists (v.region r)) (file_origin b lists v) y (sym (at_place b lists v r y h))
            ∙ ap (λ m. laid (r * b + from) m (λ i. []) (file_origin b lists v) (r * b + y)) (let d : upto - from ≡ n = omega arith in d))
        | inr differ ↦ ap (λ w. region_origin lists w y) (put_else v r q (zeroed from upto (v.region r)) differ) ∙ sym (at_place b lists v q y h)
            ∙ laid_elsewhere b r q from n (λ i. []) (file_origin b lists v) y h (omega arith) differ
      ]);
})

-- holes of n bytes, of which m lie below the greatest length
pub Clears-punched : (b : ℕ) (ds : List FileEdit) (off n m : ℕ) → 0 < b → m ≡ min n (MAX_REGIONS * b - off) → off ≤ MAX_REGIONS * b → Punches b ds off m
    → Clears b ds off n
Clears-punched b ds off n m pos is within p = record {
  fit = p.fit;
  keeps = λ v file. record {
    ends = λ q. subst (λ j. j ≤ b) (sym (p.ends v q)) (file.ends q);
    above = λ q h. p.none v q (file.above q (subst (λ l. l < q) (p.last v) h));
    some = λ h. subst (λ l. 0 < end_of ((after ds v).region l)) (sym (p.last v))
        (subst (λ j. 0 < j) (sym (p.ends v v.last)) (file.some (subst (λ l. 0 < l) (p.last v) h)));
    few = subst (λ l. l < MAX_REGIONS) (sym (p.last v)) file.few;
  };
  len = λ v file. ap (λ l. l * b + end_of ((after ds v).region l)) (p.last v) ∙ ap (λ j. v.last * b + j) (p.ends v v.last);
  origin = λ lists v file x. p.origin lists v x ∙ laid_is off n (λ i. []) (file_origin b lists v) x (laid off m (λ i. []) (file_origin b lists v) x)
      (λ l. laid_before off m (λ i. []) (file_origin b lists v) x l) (λ q. laid_after off m (λ i. []) (file_origin b lists v) x (omega arith))
      (λ from to. elim (cases_lt x (off + m)) [
        | inl l ↦ laid_within off m (λ i. []) (file_origin b lists v) x from l
        | inr g ↦ laid_after off m (λ i. []) (file_origin b lists v) x g ∙ file_past b lists v x pos file (omega (arith, file_within b v file))
      ]);
}

-- one part more of a range
pub Punches-part : (b off done r from upto : ℕ) (ds : List FileEdit) → 0 < b → b < 2 ^ 32 → from ≤ upto → upto ≤ b → r * b + from ≡ off + done
    → Punches b ds off done
    → Punches b (ds ++ ZeroWithin r from upto ∷ []) off (done + (upto - from))
Punches-part b off done r from upto ds pos small le within at punches = Punches-join b ds (ZeroWithin r from upto ∷ []) off done (upto - from) punches
    (Punches-zero b r from upto (off + done) (upto - from) pos small (omega arith) within at)

-- no byte lies past the greatest length
pub Clears-none : (b off n : ℕ) → 0 < b → MAX_REGIONS * b ≤ off → Clears b [] off n
Clears-none b off n pos past = record {
  fit = λ v. refl;
  keeps = λ v is. is;
  len = λ v is. refl;
  origin = λ lists v is x. laid_is off n (λ i. []) (file_origin b lists v) x (file_origin b lists v x) (λ _. refl) (λ _. refl)
      (λ from to. file_past b lists v x pos is (omega (arith, file_within b v is)));
}
