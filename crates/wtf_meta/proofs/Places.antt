-- Each place of a file is one of a region.
use Rattle.std.proofs.Common.{◌≡◌, ℕ, ◌+◌, ◌*◌, ◌/◌, ◌%◌, ◌<◌, ◌≤◌, refl, subst, arith}
use Rattle.std.proofs.lemmas.Nat.{div-mul-add, mod-mul-add, div-add-mod', mod_below, row_fits}
use Rattle.wtf_meta.specs.Lists.{Lists}
use Rattle.wtf_meta.specs.Files.{FileView, file_origin, region_origin}

-- the place y of region q
pub at_place : (b : ℕ) (lists : Lists) (v : FileView) (q y : ℕ) → y < b → file_origin b lists v (q * b + y) ≡ region_origin lists (v.region q) y
at_place b lists v q y h =
    let d : (q * b + y) / b ≡ q = div-mul-add q b y h in
    let m : (q * b + y) % b ≡ y = mod-mul-add q b y h in
    rw (d, m) refl

-- what holds at each place of each region holds everywhere
pub by_places : (P : ℕ → Type 0) (b : ℕ) → 0 < b → ((q y : ℕ) → y < b → P (q * b + y)) → (x : ℕ) → P x
by_places P b pos h x = subst P (div-add-mod' x b) (h (x / b) (x % b) (mod_below x b pos))

-- a region ends before a later one begins
pub apart : (b q r : ℕ) → q < r → q * b + b ≤ r * b
apart b q r h = row_fits q b r b h (omega arith)
