-- One region of a file: its value set, its bytes past the file's end, and its ranges as ranges of the file.
use Rattle.std.proofs.Common.{◌≡◌, ◌≢◌, ℕ, ◌+◌, ◌-◌, ◌*◌, ◌<◌, ◌≤◌, nat_eq, [], Option, refl, ap, ◌∙◌, arith, inl, inr}
use Rattle.std.proofs.lemmas.Bool.{cases_order, cond-true, cond-false, eq-eqb, ne_eqb}
use Rattle.wtf_model.specs.declared.limits.TheConstants.{MAX_REGIONS}
use Rattle.wtf_values.specs.declared.region.RegionValue.{RegionValue}
use Rattle.wtf_meta.specs.Lists.{Lists}
use Rattle.wtf_meta.specs.Files.{FileView, IsFile, end_of, region_origin, file_origin, file_len, laid}
use Rattle.wtf_meta.specs.FileEdits.{put_region}
use Rattle.wtf_meta.proofs.Laid.{laid_is, laid_before, laid_within, laid_after}
use Rattle.wtf_meta.proofs.BaseLists.{region_past}
use Rattle.wtf_meta.proofs.Places.{at_place, by_places, apart}

-- a region whose value was set
pub put_at : (v : FileView) (r : ℕ) (now : Option RegionValue) → (put_region v r now).region r ≡ now
put_at v r now = cond-true (nat_eq r r) _ _ (eq-eqb r r refl)

-- and the others
pub put_else : (v : FileView) (r q : ℕ) (now : Option RegionValue) → q ≢ r → (put_region v r now).region q ≡ v.region q
put_else v r q now h = cond-false (nat_eq q r) _ _ (ne_eqb q r h)

-- a range of a region as one of the file
pub laid_in_file : {A : Type 0} (b r off n : ℕ) (f g h : ℕ → A) (y : ℕ) → g y ≡ h (r * b + y) → laid off n f g y ≡ laid (r * b + off) n f h (r * b + y)
laid_in_file b r off n f g h y same = laid_is (r * b + off) n f h (r * b + y) (laid off n f g y)
    (λ l. laid_before off n f g y (omega arith) ∙ same) (λ p. laid_after off n f g y (omega arith) ∙ same)
    (λ from to. laid_within off n f g y (omega arith) (omega arith) ∙ ap f (let d : y - off ≡ r * b + y - (r * b + off) = omega arith in d))

-- a range within one region leaves the others
pub laid_elsewhere : {A : Type 0} (b r q off n : ℕ) (f h : ℕ → A) (y : ℕ) → y < b → off + n ≤ b → q ≢ r → h (q * b + y) ≡ laid (r * b + off) n f h (q * b + y)
laid_elsewhere b r q off n f h y below within differ = laid_is (r * b + off) n f h (q * b + y) (h (q * b + y)) (λ _. refl) (λ _. refl)
    (λ from to. elim (cases_order q r) [
      | inl is ↦ absurd (differ is)
      | inr (inl l) ↦ absurd (omega (arith, apart b q r l))
      | inr (inr g) ↦ absurd (omega (arith, apart b r q g))
    ])

past_place : (b : ℕ) (lists : Lists) (v : FileView) (q y : ℕ) → y < b → IsFile b v → file_len b v ≤ q * b + y → region_origin lists (v.region q) y ≡ []
past_place b lists v q y h is past = elim (cases_order v.last q) [
  | inl e ↦ region_past lists (v.region q) y (let same : file_len b v ≡ q * b + end_of (v.region q) = ap (λ j. j * b + end_of (v.region j)) e in omega arith)
  | inr (inl l) ↦ ap (λ w. region_origin lists w y) (is.above q l)
  | inr (inr g) ↦ absurd (omega (arith, apart b q v.last g))
]

-- from its end on a file has holes
pub file_past : (b : ℕ) (lists : Lists) (v : FileView) (x : ℕ) → 0 < b → IsFile b v → file_len b v ≤ x → file_origin b lists v x ≡ []
file_past b lists v x pos is = by_places (λ x. file_len b v ≤ x → file_origin b lists v x ≡ []) b pos
    (λ q y h past. at_place b lists v q y h ∙ past_place b lists v q y h is past) x

-- no file passes the greatest length
pub file_within : (b : ℕ) (v : FileView) → IsFile b v → file_len b v ≤ MAX_REGIONS * b
file_within b v is = omega (arith, apart b v.last MAX_REGIONS is.few, is.ends v.last)
