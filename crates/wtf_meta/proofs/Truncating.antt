-- A file that is cut, or grows by a hole.
use Rattle.std.proofs.Common.{◌≡◌, ℕ, ◌+◌, ◌*◌, ◌<◌, ◌≤◌, nat_lt, nat_le, nat_eq, List, [], ◌∷◌, Some, None, refl, ap, sym, ◌∙◌, subst, arith, inl, inr}
use Rattle.std.proofs.lemmas.Bool.{cases_lt, cases_order, cond-true, cond-false, lt-ltb, le-ltb, le-leb, lt-leb, eq-eqb, ne_eqb, and_left, and_right, and_from}
use Rattle.wtf_model.specs.declared.limits.TheConstants.{MAX_REGIONS}
use Rattle.wtf_values.specs.Regions.{clipped}
use Rattle.wtf_meta.specs.Lists.{Lists}
use Rattle.wtf_meta.specs.Files.{FileView, IsFile, end_of, region_origin, file_origin, cut_at}
use Rattle.wtf_meta.specs.FileEdits.{FileEdit, SetLast, Clip, CutAbove, after, lies_above, LAST_REGION}
use Rattle.wtf_meta.specs.Ranges.{Truncates}
use Rattle.wtf_meta.proofs.Laid.{cut_below, cut_past}
use Rattle.wtf_meta.proofs.BaseLists.{clipped_below, clipped_past}
use Rattle.wtf_meta.proofs.Places.{at_place, by_places, apart}

-- the changes that make a file r whole regions and k bytes long
abbrev pub cut_edits : ℕ → ℕ → List FileEdit
cut_edits r k = SetLast r ∷ Clip r k ∷ CutAbove r ∷ []

region_here : (v : FileView) (r k : ℕ) → (after (cut_edits r k) v).region r ≡ Some (clipped k (v.region r))
region_here v r k = cond-false (lies_above r r) _ _ (and_left (nat_lt r r) (nat_le r LAST_REGION) (le-ltb r r (omega arith)))
    ∙ cond-true (nat_eq r r) _ _ (eq-eqb r r refl)

region_under : (v : FileView) (r k q : ℕ) → q < r → (after (cut_edits r k) v).region q ≡ v.region q
region_under v r k q h = cond-false (lies_above r q) _ _ (and_left (nat_lt r q) (nat_le q LAST_REGION) (le-ltb r q (omega arith)))
    ∙ cond-false (nat_eq q r) _ _ (ne_eqb q r (λ e. omega arith))

region_above : (b : ℕ) (v : FileView) (r k q : ℕ) → IsFile b v → r < q → (after (cut_edits r k) v).region q ≡ None
region_above b v r k q is h = elim (cases_lt LAST_REGION q) [
  | inl far ↦ cond-false (lies_above r q) _ _ (and_right (nat_lt r q) (nat_le q LAST_REGION) (lt-leb q LAST_REGION far))
      ∙ cond-false (nat_eq q r) _ _ (ne_eqb q r (λ e. omega arith))
      ∙ is.above q (omega (arith, is.few))
  | inr near ↦ cond-true (lies_above r q) _ _ (and_from (nat_lt r q) (nat_le q LAST_REGION) (lt-ltb r q h) (le-leb q LAST_REGION near))
]

cut_at_place : (b n r k : ℕ) (lists : Lists) (v : FileView) (q y : ℕ) → IsFile b v → r * b + k ≡ n → k ≤ b → y < b
    → region_origin lists ((after (cut_edits r k) v).region q) y ≡ cut_at n (file_origin b lists v) (q * b + y)
cut_at_place b n r k lists v q y is at within h = elim (cases_order q r) [
  | inl e ↦ subst (λ j. region_origin lists ((after (cut_edits r k) v).region j) y ≡ cut_at n (file_origin b lists v) (j * b + y)) (sym e)
      (ap (λ w. region_origin lists w y) (region_here v r k) ∙ elim (cases_lt y k) [
        | inl l ↦ clipped_below lists k (v.region r) y l ∙ sym (at_place b lists v r y h) ∙ sym (cut_below n (file_origin b lists v) (r * b + y) (omega arith))
        | inr g ↦ clipped_past lists k (v.region r) y g ∙ sym (cut_past n (file_origin b lists v) (r * b + y) (omega arith))
      ])
  | inr (inl l) ↦ ap (λ w. region_origin lists w y) (region_under v r k q l) ∙ sym (at_place b lists v q y h)
      ∙ sym (cut_below n (file_origin b lists v) (q * b + y) (omega (arith, apart b q r l)))
  | inr (inr g) ↦ ap (λ w. region_origin lists w y) (region_above b v r k q is g)
      ∙ sym (cut_past n (file_origin b lists v) (q * b + y) (omega (arith, apart b r q g)))
]

cut_ends : (b r k : ℕ) (v : FileView) (q : ℕ) → k ≤ b → IsFile b v → end_of ((after (cut_edits r k) v).region q) ≤ b
cut_ends b r k v q within is = elim (cases_order q r) [
  | inl e ↦ subst (λ j. end_of ((after (cut_edits r k) v).region j) ≤ b) (sym e) (subst (λ w. end_of w ≤ b) (sym (region_here v r k)) within)
  | inr (inl l) ↦ subst (λ w. end_of w ≤ b) (sym (region_under v r k q l)) (is.ends q)
  | inr (inr g) ↦ subst (λ w. end_of w ≤ b) (sym (region_above b v r k q is g)) (omega arith)
]

-- they cut every file to n bytes, or pad it up to n
pub Truncates-cut : (b n r k : ℕ) → 0 < b → r * b + k ≡ n → k ≤ b → (0 < r → 0 < k) → r < MAX_REGIONS → Truncates b (cut_edits r k) n
Truncates-cut b n r k pos at within some few = record {
  fit = λ v. refl;
  keeps = λ v is. record {
    ends = λ q. cut_ends b r k v q within is;
    above = λ q h. region_above b v r k q is h;
    some = λ h. subst (λ w. 0 < end_of w) (sym (region_here v r k)) (some h);
    few = few;
  };
  len = λ v is. ap (λ w. r * b + end_of w) (region_here v r k) ∙ at;
  origin = λ lists v is. by_places (λ x. file_origin b lists (after (cut_edits r k) v) x ≡ cut_at n (file_origin b lists v) x) b pos
      (λ q y h. at_place b lists (after (cut_edits r k) v) q y h ∙ cut_at_place b n r k lists v q y is at within h);
}
