-- Changes that lay bytes over a file as a whole.
use Rattle.std.proofs.Common.{◌≡◌, ℕ, ◌+◌, ◌*◌, ◌<◌, ◌≤◌, ◌++◌, max, List, [], ◌∷◌, refl, ap, sym, ◌∙◌, subst, arith, inl, inr}
use Rattle.std.proofs.lemmas.Bool.{cases_lt}
use Rattle.std.proofs.lemmas.Bool.Decides.{nat_tests}
use Rattle.wtf_overlay.specs.Origin.{Place}
use Rattle.wtf_model.specs.declared.limits.TheConstants.{MAX_REGIONS}
use Rattle.wtf_meta.specs.Files.{FileView, IsFile, end_of, file_origin, file_len, laid, reach}
use Rattle.wtf_meta.specs.FileEdits.{FileEdit, RaiseLast, after}
use Rattle.wtf_meta.specs.Ranges.{Covers, Lays}
use Rattle.wtf_meta.proofs.Laid.{grown_some, laid_is, laid_before, laid_after}
use Rattle.wtf_meta.proofs.Places.{apart}
use Rattle.wtf_meta.proofs.Covering.{after-append, all_fit-append, reach_some, reach_none}

reach_le : (b off n t : ℕ) → reach b off n t ≤ b
reach_le b off n t = grind (arith, nat_tests)

-- a range that ends in region r reaches into it so far
reaches : (b off n r k : ℕ) → 0 < n → r * b + k ≡ off + n → 0 < k → k ≤ b → reach b off n (r * b) ≡ k
reaches b off n r k some at pos within = reach_some b off n (r * b) (omega arith) ∙ omega arith

-- and not into a later one
reaches_none : (b off n r k q : ℕ) → r * b + k ≡ off + n → k ≤ b → r < q → reach b off n (q * b) ≡ 0
reaches_none b off n r k q at within later = reach_none b off n (q * b) (omega (arith, apart b r q later))

-- the end of the last region, where the range ends in it or in one before
end_here : (b off n r k : ℕ) (v w : FileView) → 0 < n → r * b + k ≡ off + n → 0 < k → k ≤ b → IsFile b v → v.last ≤ r
    → end_of (w.region r) ≡ max (end_of (v.region r)) (reach b off n (r * b))
    → (r * b + end_of (w.region r) ≡ max (file_len b v) (off + n)) × (0 < end_of (w.region r))
end_here b off n r k v w some at pos within is le end = elim (cases_lt v.last r) [
  | inl l ↦
      let none : end_of (v.region r) ≡ 0 = ap end_of (is.above r l) in (
        omega (arith, none, end, reaches b off n r k some at pos within, apart b v.last r l, is.ends v.last),
        omega (arith, end, reaches b off n r k some at pos within),
      )
  | inr g ↦
      let same : v.last ≡ r = omega arith in
      let long : file_len b v ≡ r * b + end_of (v.region r) = ap (λ j. j * b + end_of (v.region j)) same in
      (omega (arith, long, end, reaches b off n r k some at pos within), omega (arith, end, reaches b off n r k some at pos within))
]

end_past : (b off n r k : ℕ) (v w : FileView) → r * b + k ≡ off + n → k ≤ b → IsFile b v → r < v.last
    → end_of (w.region v.last) ≡ max (end_of (v.region v.last)) (reach b off n (v.last * b))
    → (v.last * b + end_of (w.region v.last) ≡ max (file_len b v) (off + n)) × (0 < end_of (w.region v.last))
end_past b off n r k v w at within is l end =
    let none : reach b off n (v.last * b) ≡ 0 = reaches_none b off n r k v.last at within l in
    let there : 0 < end_of (v.region v.last) = is.some (omega arith) in
    (omega (arith, none, end, apart b r v.last l), omega (arith, none, end, there))

end_last : (b off n r k : ℕ) (v w : FileView) → 0 < n → r * b + k ≡ off + n → 0 < k → k ≤ b → IsFile b v
    → ((q : ℕ) → end_of (w.region q) ≡ max (end_of (v.region q)) (reach b off n (q * b)))
    → (max v.last r * b + end_of (w.region (max v.last r)) ≡ max (file_len b v) (off + n)) × (0 < end_of (w.region (max v.last r)))
end_last b off n r k v w some at pos within is ends = elim (cases_lt r v.last) [
  | inl l ↦ let m : max v.last r ≡ v.last = omega arith in
      subst (λ j. (j * b + end_of (w.region j) ≡ max (file_len b v) (off + n))
      × (0 < end_of (w.region j))) (sym m) (end_past b off n r k v w at within is l (ends v.last))
  | inr g ↦ let m : max v.last r ≡ r = omega arith in
      subst (λ j. (j * b + end_of (w.region j) ≡ max (file_len b v) (off + n))
      × (0 < end_of (w.region j))) (sym m) (end_here b off n r k v w some at pos within is g (ends r))
]

-- a file in whose regions bytes were laid and whose last region is at least that of the last byte
raised : (b : ℕ) (ds : List FileEdit) (off n r k : ℕ) (f : ℕ → List Place) (v : FileView) → 0 < n → r * b + k ≡ off + n → 0 < k → k ≤ b → r < MAX_REGIONS
    → Covers b ds off n f → IsFile b v
    → IsFile b (record { last = max v.last r; region = (after ds v).region })
raised b ds off n r k f v some at pos within few covers is = record {
  ends = λ q. omega (arith, covers.ends v q, is.ends q, reach_le b off n (q * b));
  above = λ q h. covers.others v q (reaches_none b off n r k q at within (omega arith)) ∙ is.above q (omega arith);
  some = λ _. (end_last b off n r k v (after ds v) some at pos within is (covers.ends v)).1;
  few = omega (arith, is.few);
}

-- bytes that were laid over the regions are laid over the file, once its last region is at least that of the last byte
pub Lays-raised : (b : ℕ) (ds : List FileEdit) (off n r k : ℕ) (f : ℕ → List Place) → 0 < n → r * b + k ≡ off + n → 0 < k → k ≤ b → r < MAX_REGIONS
    → Covers b ds off n f
    → Lays b (ds ++ RaiseLast r ∷ []) off n f
Lays-raised b ds off n r k f some at pos within few covers =
    let view : (v : FileView) → after (ds ++ RaiseLast r ∷ []) v ≡ record { last = max v.last r; region = (after ds v).region } =
    λ v. after-append ds (RaiseLast r ∷ []) v ∙ ap (λ (l : ℕ). let w : FileView = record { last = max l r; region = (after ds v).region } in w)
    (covers.last v) in
    record {
      fit = λ v. all_fit-append ds (RaiseLast r ∷ []) v (covers.fit v) refl;
      keeps = λ v is. subst (IsFile b) (sym (view v)) (raised b ds off n r k f v some at pos within few covers is);
      len = λ v is. ap (file_len b) (view v) ∙ (end_last b off n r k v (after ds v) some at pos within is (covers.ends v)).0
          ∙ sym (grown_some (file_len b v) off n some);
      origin = λ lists v is x. ap (λ (w : FileView). file_origin b lists w x) (view v) ∙ covers.origin lists v x;
    }

laid_empty : (off : ℕ) (f g h : ℕ → List Place) (x : ℕ) → laid off 0 f h x ≡ laid off 0 g h x
laid_empty off f g h x = laid_is off 0 g h x (laid off 0 f h x) (λ l. laid_before off 0 f h x l) (λ p. laid_after off 0 f h x p)
    (λ from to. absurd (omega arith))

-- nothing was laid
pub Lays-none_covered : (b off : ℕ) (ds : List FileEdit) (f g : ℕ → List Place) → Covers b ds off 0 f → Lays b ds off 0 g
Lays-none_covered b off ds f g covers =
    let nothing : (v : FileView) (q : ℕ) → (after ds v).region q ≡ v.region q = λ v q. covers.others v q (reach_none b off 0 (q * b) (omega arith)) in record {
      fit = covers.fit;
      keeps = λ v is. record {
        ends = λ q. subst (λ w. end_of w ≤ b) (sym (nothing v q)) (is.ends q);
        above = λ q h. nothing v q ∙ is.above q (subst (λ l. l < q) (covers.last v) h);
        some = λ h. subst (λ l. 0 < end_of ((after ds v).region l)) (sym (covers.last v))
            (subst (λ w. 0 < end_of w) (sym (nothing v v.last)) (is.some (subst (λ l. 0 < l) (covers.last v) h)));
        few = subst (λ l. l < MAX_REGIONS) (sym (covers.last v)) is.few;
      };
      len = λ v is. ap (λ l. l * b + end_of ((after ds v).region l)) (covers.last v) ∙ ap (λ w. v.last * b + end_of w) (nothing v v.last);
      origin = λ lists v is x. covers.origin lists v x ∙ laid_empty off f g (file_origin b lists v) x;
    }
