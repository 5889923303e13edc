-- The lists of a row of files, read and written.
use Rattle.std.proofs.Common.{◌≡◌, ℕ, zero, suc, Bool, true, false, cond, ◌++◌, ◌<◌, ◌≤◌, ◌+◌, ◌^◌, List, [], ◌∷◌, length, get_or, set, length-append, refl, sym, ◌∙◌, ap, subst, arith}
use Rattle.std.specs.Prelude.{Vec}
use Rattle.std.specs.declared.alloc.Global.{Global}
use Rattle.std.specs.List.{All}
use Rattle.std.proofs.lemmas.List.{map-set, set-get_or}
use Rattle.std.proofs.lemmas.List.Elements.{All-set, All-same}
use Rattle.wtf_dev.specs.Disk.{overwritten}
use Rattle.wtf_dev.specs.DiskTapeLaws.{length-overwritten}
use Rattle.wtf_dev.specs.Memory.{file_lists, Zeroed}

pub file_lists-length : (vs : List (Vec ℕ Global)) → length (file_lists vs) ≡ length vs
file_lists-length [] = refl
file_lists-length (v ∷ vs) = omega (arith, file_lists-length vs)

pub file_lists-get : (vs : List (Vec ℕ Global)) (f : ℕ) (d : Vec ℕ Global) → f < length vs → get_or (file_lists vs) f [] ≡ (get_or vs f d).items
file_lists-get [] f d h = absurd (omega (arith, h))
file_lists-get (w ∷ vs) zero d h = refl
file_lists-get (w ∷ vs) (suc f) d h = file_lists-get vs f d (omega arith)

-- a file is replaced by one that is short enough
pub short_set : (vs : List (Vec ℕ Global)) (f : ℕ) (v : Vec ℕ Global) → All (λ (bytes : List ℕ). length bytes < 2 ^ 61) (file_lists vs) → length v.items < 2 ^ 61
    → All (λ (bytes : List ℕ). length bytes < 2 ^ 61) (file_lists (set vs f v))
short_set vs f v all h = let P : List ℕ → Type 0 = λ bytes. length bytes < 2 ^ 61 in All-same P _ _ (map-set (λ (w : Vec ℕ Global). w.items) vs f v) (All-set P (file_lists vs) f v.items h all)

-- The file f is now x: the same, or changed, or other bytes.
pub lists_changed : (vs : List (Vec ℕ Global)) (f : ℕ) (d x : Vec ℕ Global) (now : List (List ℕ)) (change : List ℕ → List ℕ)
    → file_lists vs ≡ now → f < length vs → x.items ≡ change (get_or vs f d).items
    → file_lists (set vs f x) ≡ set now f (change (get_or now f []))
lists_changed vs f d x now change is below more =
    map-set (λ (w : Vec ℕ Global). w.items) vs f x
    ∙ ap (λ (y : List ℕ). set (file_lists vs) f y) (more ∙ ap change (sym (file_lists-get vs f d below)))
    ∙ ap (λ (z : List (List ℕ)). set z f (change (get_or z f []))) is

pub lists_same : (vs : List (Vec ℕ Global)) (f : ℕ) (d x : Vec ℕ Global) (now : List (List ℕ))
    → file_lists vs ≡ now → f < length vs → x.items ≡ (get_or vs f d).items → file_lists (set vs f x) ≡ now
lists_same vs f d x now is below same =
    map-set (λ (w : Vec ℕ Global). w.items) vs f x
    ∙ ap (λ (y : List ℕ). set (file_lists vs) f y) (same ∙ sym (file_lists-get vs f d below))
    ∙ set-get_or (file_lists vs) f []
    ∙ is

pub lists_zeroed : (vs : List (Vec ℕ Global)) (f : ℕ) (d x : Vec ℕ Global) (now : List (List ℕ)) (from to : ℕ)
    → file_lists vs ≡ now → f < length vs → Zeroed (get_or vs f d).items x.items from to
    → (v : List ℕ) × (file_lists (set vs f x) ≡ set now f v) × Zeroed (get_or now f []) v from to
lists_zeroed vs f d x now from to is below z = (
  x.items,
  map-set (λ (w : Vec ℕ Global). w.items) vs f x ∙ ap (λ (l : List (List ℕ)). set l f x.items) is,
  subst (λ (o : List ℕ). Zeroed o x.items from to) (sym (file_lists-get vs f d below) ∙ ap (λ (l : List (List ℕ)). get_or l f []) is) z,
)

-- the length of a file is below the limit
pub short_get : (vs : List (Vec ℕ Global)) (f : ℕ) (d : Vec ℕ Global) → All (λ (bytes : List ℕ). length bytes < 2 ^ 61) (file_lists vs) → f < length vs
    → length (get_or vs f d).items < 2 ^ 61
short_get vs f d all below =
    let at : length (get_or (file_lists vs) f []) < 2 ^ 61 = all f [] (omega (arith, below, file_lists-length vs)) in
    omega (arith, at, ap length (file_lists-get vs f d below))

pub cond_short : (b : Bool) (x xs ys : List ℕ) → x ≡ cond b (xs ++ ys) xs → length xs + length ys < 2 ^ 61 → length x < 2 ^ 61
cond_short true x xs ys e h = omega (arith, ap length e, length-append xs ys, h)
cond_short false x xs ys e h = omega (arith, ap length e, h)

pub over_short : (done : Bool) (x s bytes : List ℕ) (at : ℕ) → (done ≡ true → x ≡ overwritten s at bytes) → (done ≡ false → x ≡ s)
    → at ≤ length s → at + length bytes < 2 ^ 61 → length s < 2 ^ 61 → length x < 2 ^ 61
over_short true x s bytes at over same inside room short = omega (arith, ap length (over refl), length-overwritten s bytes at inside, room, short)
over_short false x s bytes at over same inside room short = omega (arith, ap length (same refl), short)
