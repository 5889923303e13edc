-- The order of texts, part by part and as numbers.
use Rattle.std.proofs.Common.{◌≡◌, ◌≢◌, ℕ, zero, suc, ◌+◌, ◌*◌, ◌≤◌, ◌<◌, min, true, false, List, [], ◌∷◌, ◌++◌, length, get_or, take, drop, refl, sym, ap, ◌∙◌, arith, subst, length-drop, drop-cons, Ordering, Less, Equal, Greater, Fits, w8}
use Rattle.std.specs.Ordering.{nat_cmp, ordering_then, is_ne, MatchOrdering}
use Rattle.std.specs.Cmp.Lexicographic.{slice_cmp}
use Rattle.std.specs.Slice.Scan.{big_endian}
use Rattle.std.proofs.lemmas.Cmp.{ranked, tied_itself, nat_list_cmp_total}
use Rattle.std.proofs.lemmas.List.{get_or-drop, take-take, drop-take, drop-drop, take-append-drop}
use Rattle.std.proofs.lemmas.Map.Lookups.{exact_bytes}

abbrev pub Bytes : List ℕ → Type 0
Bytes xs = (k : ℕ) → Fits w8 (get_or xs k 0)

-- how two numbers lie is what `nat_cmp` says
lies : (a b : ℕ) (r : Ordering) → MatchOrdering r (a < b) (a ≡ b) (b < a) → nat_cmp a b ≡ r
lies a b r h = by (nat_cmp a b) r (ranked a b (nat_cmp a b) refl) h
  where
    by : (o r : Ordering) → MatchOrdering o (a < b) (a ≡ b) (b < a) → MatchOrdering r (a < b) (a ≡ b) (b < a) → o ≡ r
    by Less Less g h = refl
    by Equal Equal g h = refl
    by Greater Greater g h = refl
    by Less Equal g h = let p : a < b = g in let q : a ≡ b = h in absurd (omega arith)
    by Less Greater g h = let p : a < b = g in let q : b < a = h in absurd (omega arith)
    by Equal Less g h = let p : a ≡ b = g in let q : a < b = h in absurd (omega arith)
    by Equal Greater g h = let p : a ≡ b = g in let q : b < a = h in absurd (omega arith)
    by Greater Less g h = let p : b < a = g in let q : a < b = h in absurd (omega arith)
    by Greater Equal g h = let p : b < a = g in let q : a ≡ b = h in absurd (omega arith)

rises : (n a b : ℕ) (xs ys : List ℕ) → n ≤ length xs → n ≤ length ys → Bytes xs → a < b → big_endian a (take n xs) < big_endian b (take n ys)
rises zero a b xs ys p q h l = l
rises (suc n) a b [] ys p q h l = absurd (omega arith)
rises (suc n) a b (x ∷ xs) [] p q h l = absurd (omega arith)
rises (suc n) a b (x ∷ xs) (y ∷ ys) p q h l =
    let small : x < 256 = (h 0).fits in
    rises n (a * 256 + x) (b * 256 + y) xs ys (omega arith) (omega arith) (λ k. h (suc k)) (omega arith)

-- as many bytes of two texts lie as the numbers that they spell
spells : (n a : ℕ) (xs ys : List ℕ) → n ≤ length xs → n ≤ length ys → Bytes xs → Bytes ys
    → nat_cmp (big_endian a (take n xs)) (big_endian a (take n ys)) ≡ slice_cmp nat_cmp (take n xs) (take n ys)
spells zero a xs ys p q g h = lies a a Equal refl
spells (suc n) a [] ys p q g h = absurd (omega arith)
spells (suc n) a (x ∷ xs) [] p q g h = absurd (omega arith)
spells (suc n) a (x ∷ xs) (y ∷ ys) p q g h =
    by (nat_cmp x y) (ranked x y (nat_cmp x y) refl) (spells n (a * 256 + x) xs ys (omega arith) (omega arith) (λ k. g (suc k)) (λ k. h (suc k)))
  where
    by : (r : Ordering) → MatchOrdering r (x < y) (x ≡ y) (y < x)
        → nat_cmp (big_endian (a * 256 + x) (take n xs)) (big_endian (a * 256 + x) (take n ys)) ≡ slice_cmp nat_cmp (take n xs) (take n ys)
        → nat_cmp (big_endian (a * 256 + x) (take n xs)) (big_endian (a * 256 + y) (take n ys)) ≡ ordering_then r (slice_cmp nat_cmp (take n xs) (take n ys))
    by Less l rest =
        let under : x < y = l in
        lies _ _ Less (rises n (a * 256 + x) (a * 256 + y) xs ys (omega arith) (omega arith) (λ k. g (suc k)) (omega arith))
    by Greater l rest =
        let over : y < x = l in
        lies _ _ Greater (rises n (a * 256 + y) (a * 256 + x) ys xs (omega arith) (omega arith) (λ k. h (suc k)) (omega arith))
    by Equal l rest =
        subst (λ z. nat_cmp (big_endian (a * 256 + x) (take n xs)) (big_endian (a * 256 + z) (take n ys)) ≡ slice_cmp nat_cmp (take n xs) (take n ys)) l rest

-- eight bytes of two texts from one place on
pub eight-order : (xs ys : List ℕ) (at : ℕ) → Bytes xs → Bytes ys → at + 8 ≤ length xs → at + 8 ≤ length ys
    → nat_cmp (big_endian 0 (take 8 (drop at xs))) (big_endian 0 (take 8 (drop at ys))) ≡ slice_cmp nat_cmp (take 8 (drop at xs)) (take 8 (drop at ys))
eight-order xs ys at g h p q =
    spells 8 0 (drop at xs) (drop at ys) (omega (arith, length-drop at xs)) (omega (arith, length-drop at ys)) (later xs g) (later ys h)
  where
    later : (zs : List ℕ) → Bytes zs → Bytes (drop at zs)
    later zs f k = subst (Fits w8) (sym (get_or-drop at zs k 0)) (f (at + k))

-- ---- texts whose first bytes are the same
then_then : (r s t : Ordering) → ordering_then r (ordering_then s t) ≡ ordering_then (ordering_then r s) t
then_then Less s t = refl
then_then Equal s t = refl
then_then Greater s t = refl

-- the order of two texts is that of their first n bytes, and then that of the rest
cut : (n : ℕ) (xs ys : List ℕ) → n ≤ length xs → n ≤ length ys
    → slice_cmp nat_cmp xs ys ≡ ordering_then (slice_cmp nat_cmp (take n xs) (take n ys)) (slice_cmp nat_cmp (drop n xs) (drop n ys))
cut zero xs ys p q = refl
cut (suc n) [] ys p q = absurd (omega arith)
cut (suc n) (x ∷ xs) [] p q = absurd (omega arith)
cut (suc n) (x ∷ xs) (y ∷ ys) p q =
    ap (ordering_then (nat_cmp x y)) (cut n xs ys (omega arith) (omega arith))
    ∙ then_then (nat_cmp x y) (slice_cmp nat_cmp (take n xs) (take n ys)) (slice_cmp nat_cmp (drop n xs) (drop n ys))

pub past : (n : ℕ) (xs ys : List ℕ) → n ≤ length xs → n ≤ length ys → take n xs ≡ take n ys → slice_cmp nat_cmp xs ys ≡ slice_cmp nat_cmp (drop n xs) (drop n ys)
past n xs ys p q alike =
    cut n xs ys p q
    ∙ ap (λ r. ordering_then r (slice_cmp nat_cmp (drop n xs) (drop n ys)))
    (ap (λ zs. slice_cmp nat_cmp zs (take n ys)) alike ∙ tied_itself nat_list_cmp_total (take n ys))

-- texts that differ in the byte at n
pub byte-apart : (n : ℕ) (xs ys : List ℕ) (r : Ordering) → n < length xs → n < length ys → take n xs ≡ take n ys
    → r ≡ nat_cmp (get_or xs n 0) (get_or ys n 0) → get_or xs n 0 ≢ get_or ys n 0 → r ≡ slice_cmp nat_cmp xs ys
byte-apart n xs ys r p q alike is differ =
    let x = get_or xs n 0 in
    let y = get_or ys n 0 in
    let rest = slice_cmp nat_cmp (drop (suc n) xs) (drop (suc n) ys) in
    is ∙ decided (nat_cmp x y) rest (ranked x y (nat_cmp x y) refl)
    ∙ ap (λ zs. slice_cmp nat_cmp zs (y ∷ drop (suc n) ys)) (sym (drop-cons xs n 0 p))
    ∙ ap (slice_cmp nat_cmp (drop n xs)) (sym (drop-cons ys n 0 q))
    ∙ sym (past n xs ys (omega arith) (omega arith) alike)
  where
    decided : (o rest : Ordering) → MatchOrdering o (get_or xs n 0 < get_or ys n 0) (get_or xs n 0 ≡ get_or ys n 0) (get_or ys n 0 < get_or xs n 0) → o ≡ ordering_then o rest
    decided Less rest h = refl
    decided Equal rest h = absurd (differ h)
    decided Greater rest h = refl

-- eight bytes from n on decide, and else what comes behind them
pub eight_decide : (n : ℕ) (xs ys : List ℕ) → n + 8 ≤ length xs → n + 8 ≤ length ys → take n xs ≡ take n ys
    → slice_cmp nat_cmp xs ys
    ≡ ordering_then (slice_cmp nat_cmp (take 8 (drop n xs)) (take 8 (drop n ys))) (slice_cmp nat_cmp (drop (n + 8) xs) (drop (n + 8) ys))
eight_decide n xs ys p q alike =
    past n xs ys (omega arith) (omega arith) alike
    ∙ cut 8 (drop n xs) (drop n ys) (omega (arith, length-drop n xs)) (omega (arith, length-drop n ys))
    ∙ ap (λ zs. ordering_then (slice_cmp nat_cmp (take 8 (drop n xs)) (take 8 (drop n ys))) (slice_cmp nat_cmp zs (drop 8 (drop n ys)))) (drop-drop 8 n xs)
    ∙ ap (λ zs. ordering_then (slice_cmp nat_cmp (take 8 (drop n xs)) (take 8 (drop n ys))) (slice_cmp nat_cmp (drop (n + 8) xs) zs)) (drop-drop 8 n ys)

-- texts that differ in the eight bytes from n on
pub eight-apart : (n : ℕ) (xs ys : List ℕ) (r : Ordering) → n + 8 ≤ length xs → n + 8 ≤ length ys → take n xs ≡ take n ys
    → r ≡ slice_cmp nat_cmp (take 8 (drop n xs)) (take 8 (drop n ys)) → is_ne r ≡ true → r ≡ slice_cmp nat_cmp xs ys
eight-apart n xs ys r p q alike is apart =
    sym (eight_decide n xs ys p q alike ∙ ap (λ o. ordering_then o (slice_cmp nat_cmp (drop (n + 8) xs) (drop (n + 8) ys))) (sym is) ∙ decided r _ apart)
  where
    decided : (r o : Ordering) → is_ne r ≡ true → ordering_then r o ≡ r
    decided Less o a = refl
    decided Equal o a = cc
    decided Greater o a = refl

-- texts that do not
pub eight-alike : (n : ℕ) (xs ys : List ℕ) (r : Ordering) → take n xs ≡ take n ys
    → r ≡ slice_cmp nat_cmp (take 8 (drop n xs)) (take 8 (drop n ys)) → is_ne r ≡ false → take (n + 8) xs ≡ take (n + 8) ys
eight-alike n xs ys r alike is level =
    whole xs ∙ ap (λ zs. zs ++ take 8 (drop n xs)) alike ∙ ap (λ zs. take n ys ++ zs) (exact_bytes _ _ (sym is ∙ tied r level)) ∙ sym (whole ys)
  where
    tied : (r : Ordering) → is_ne r ≡ false → r ≡ Equal
    tied Less a = cc
    tied Equal a = refl
    tied Greater a = cc

    whole : (zs : List ℕ) → take (n + 8) zs ≡ take n zs ++ take 8 (drop n zs)
    whole zs =
        sym (take-append-drop n (take (n + 8) zs))
        ∙ ap (λ front. front ++ drop n (take (n + 8) zs)) (take-take n (n + 8) zs (omega arith))
        ∙ ap (λ back. take n zs ++ back) (drop-take n 8 zs)

pub fewer : (m n : ℕ) (xs ys : List ℕ) → m ≤ n → take n xs ≡ take n ys → take m xs ≡ take m ys
fewer m n xs ys le alike = sym (take-take m n xs le) ∙ ap (take m) alike ∙ take-take m n ys le

-- behind all bytes that both have, the lengths decide
pub ends : (n : ℕ) (xs ys : List ℕ) → n ≡ min (length xs) (length ys) → slice_cmp nat_cmp (drop n xs) (drop n ys) ≡ nat_cmp (length xs) (length ys)
ends n xs ys e = sym (lies (length xs) (length ys) (slice_cmp nat_cmp (drop n xs) (drop n ys)) (by n xs ys e))
  where
    more : (m n : ℕ) (r : Ordering) → MatchOrdering r (m < n) (m ≡ n) (n < m) → MatchOrdering r (suc m < suc n) (suc m ≡ suc n) (suc n < suc m)
    more m n Less h = let l : m < n = h in omega arith
    more m n Equal h = ap suc h
    more m n Greater h = let l : n < m = h in omega arith

    by : (n : ℕ) (xs ys : List ℕ) → n ≡ min (length xs) (length ys)
        → MatchOrdering (slice_cmp nat_cmp (drop n xs) (drop n ys)) (length xs < length ys) (length xs ≡ length ys) (length ys < length xs)
    by zero [] [] e = refl
    by zero [] (y ∷ ys) e = omega arith
    by zero (x ∷ xs) [] e = omega arith
    by zero (x ∷ xs) (y ∷ ys) e = absurd (omega arith)
    by (suc n) [] ys e = absurd (omega arith)
    by (suc n) (x ∷ xs) [] e = absurd (omega arith)
    by (suc n) (x ∷ xs) (y ∷ ys) e = more (length xs) (length ys) _ (by n xs ys (omega arith))
