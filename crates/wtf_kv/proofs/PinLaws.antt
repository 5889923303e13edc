-- Laws of how often a number is pinned.
use Rattle.std.proofs.Common.{◌≡◌, ◌≤◌, ◌<◌, ℕ, ◌+◌, Bool, ◌||◌, true, cond, nat_eq, count_by, List, [], ◌∷◌, ◌++◌, refl, sym, ap, ◌∙◌, ⊎_elim, arith}
use Rattle.std.specs.List.{list_any}
use Rattle.std.specs.Set.{remove_key}
use Rattle.std.proofs.lemmas.Bool.{cases_Bool, or_left, or_right, or_cases, eqb-true}
use Rattle.std.proofs.lemmas.List.Sums.{sum_by-cons, sum_by-append}
use Rattle.wtf_kv.specs.Stores.{Store, is_pinned, times_pinned}

-- whether a number is n, as a count
abbrev one : ℕ → ℕ → ℕ
one n x = cond (nat_eq n x) 1 0

count-cons : (n x : ℕ) (xs : List ℕ) → count_by (nat_eq n) (x ∷ xs) ≡ one n x + count_by (nat_eq n) xs
count-cons n x xs = sum_by-cons (λ y. cond (nat_eq n y) 1 0) x xs

pub count-push : (n x : ℕ) (xs : List ℕ) → count_by (nat_eq n) (xs ++ x ∷ []) ≡ count_by (nat_eq n) xs + cond (nat_eq n x) 1 0
count-push n x xs =
    let e : count_by (nat_eq n) (xs ++ x ∷ []) ≡ count_by (nat_eq n) xs + count_by (nat_eq n) (x ∷ []) = sum_by-append (λ y. cond (nat_eq n y) 1 0) xs (x ∷ []) in
    let f : count_by (nat_eq n) (x ∷ []) ≡ one n x + count_by (nat_eq n) [] = count-cons n x [] in
    let z : count_by (nat_eq n) [] ≡ 0 = refl in
    omega (arith, e, f, z)

-- a number that is in the list is taken out once
pub count-remove_key : (n b : ℕ) (xs : List ℕ) → list_any (nat_eq b) xs ≡ true → count_by (nat_eq n) xs ≡ count_by (nat_eq n) (remove_key (nat_eq b) xs) + cond (nat_eq n b) 1 0
count-remove_key n b [] some = cc
count-remove_key n b (x ∷ xs) some =
    let choose : Bool → ℕ = λ t. count_by (nat_eq n) (cond t xs (x ∷ remove_key (nat_eq b) xs)) in
    let whole : count_by (nat_eq n) (x ∷ xs) ≡ one n x + count_by (nat_eq n) xs = count-cons n x xs in
    ⊎_elim
    (λ here.
    let is : count_by (nat_eq n) (remove_key (nat_eq b) (x ∷ xs)) ≡ count_by (nat_eq n) xs = ap choose here in
    let same : one n x ≡ one n b = ap (one n) (sym (eqb-true b x here)) in
    omega (arith, whole, is, same))
    (λ past.
    let is : count_by (nat_eq n) (remove_key (nat_eq b) (x ∷ xs)) ≡ one n x + count_by (nat_eq n) (remove_key (nat_eq b) xs) = ap choose past ∙ count-cons n x (remove_key (nat_eq b) xs) in
    let rest = count-remove_key n b xs (sym (ap (λ t. t || list_any (nat_eq b) xs) past) ∙ some) in
    omega (arith, whole, is, rest))
    (cases_Bool (nat_eq b x))

-- a number is pinned exactly where it is pinned at least once
pub any-count : (n : ℕ) (xs : List ℕ) → 0 < count_by (nat_eq n) xs → list_any (nat_eq n) xs ≡ true
any-count n [] more = absurd (omega arith)
any-count n (x ∷ xs) more =
    ⊎_elim
    (λ here. or_left (nat_eq n x) (list_any (nat_eq n) xs) here)
    (λ past.
    let fewer : count_by (nat_eq n) (x ∷ xs) ≡ 0 + count_by (nat_eq n) xs = count-cons n x xs ∙ ap (λ b. cond b 1 0 + count_by (nat_eq n) xs) past in
    or_right (nat_eq n x) (list_any (nat_eq n) xs) (any-count n xs (omega (arith, fewer, more))))
    (cases_Bool (nat_eq n x))

pub count-any : (n : ℕ) (xs : List ℕ) → list_any (nat_eq n) xs ≡ true → 0 < count_by (nat_eq n) xs
count-any n [] some = cc
count-any n (x ∷ xs) some =
    let whole : count_by (nat_eq n) (x ∷ xs) ≡ one n x + count_by (nat_eq n) xs = count-cons n x xs in
    ⊎_elim
    (λ here. let is : one n x ≡ 1 = ap (λ b. cond b 1 0) here in omega (arith, whole, is))
    (λ later. let more = count-any n xs later in omega (arith, whole, more))
    (or_cases (nat_eq n x) (list_any (nat_eq n) xs) some)

-- what is pinned stays so, where it is pinned as often or more
pub is_pinned-more : {K C : Type 0} (old new : Store K C) (n : ℕ) → is_pinned old n ≡ true → times_pinned old n ≤ times_pinned new n → is_pinned new n ≡ true
is_pinned-more old new n pinned le = let some = count-any n old.pins pinned in any-count n new.pins (omega (arith, some, le))
