-- The borders above a place.
use Rattle.std.proofs.Common.{◌≡◌, ℕ, ◌+◌, ◌*◌, ◌<◌, ◌≤◌, List, [], ◌∷◌, length, arith, if◌then◌else◌, nat_lt}
use Rattle.std.proofs.lemmas.Bool.Decides.{nat_tests}
use Rattle.wtf_overlay.specs.declared.part.Entry.{Entry}
use Rattle.wtf_overlay.specs.Borders.{borders_above}

-- more of the borders lie above a lower place
pub one_test : (x y b : ℕ) → x ≤ y → (if nat_lt y b then 1 else 0) ≤ (if nat_lt x b then 1 else 0)
one_test x y b h = grind (arith, nat_tests)

-- and one that lies at y is above x and not above y
pub one_more : (x y b : ℕ) → b ≡ y → x < y → (if nat_lt y b then 1 else 0) + 1 ≤ (if nat_lt x b then 1 else 0)
one_more x y b e h = grind (arith, nat_tests)

at_most_one : (x b : ℕ) → (if nat_lt x b then 1 else 0) ≤ 1
at_most_one x b = grind (arith, nat_tests)

pub borders_above-le : (es : List Entry) (x y : ℕ) → x ≤ y → borders_above es y ≤ borders_above es x
borders_above-le [] x y h = omega arith
borders_above-le (e ∷ es) x y h = omega (arith, one_test x y e.off h, one_test x y (e.off + e.len) h, borders_above-le es x y h)

pub borders_above-most : (es : List Entry) (x : ℕ) → borders_above es x ≤ 2 * length es
borders_above-most [] x = omega arith
borders_above-most (e ∷ es) x = omega (arith, at_most_one x e.off, at_most_one x (e.off + e.len), borders_above-most es x)
