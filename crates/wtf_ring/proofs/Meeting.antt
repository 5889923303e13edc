-- The servers that are met along a list.
use Rattle.std.proofs.Common.{◌≡◌, ℕ, ◌<◌, ◌==◌, ◌++◌, ◌||◌, Bool, true, false, eqb, eqb-true, nat_eq, if◌then◌else◌, List, [], ◌∷◌, map, length, get_or, length-append, refl, sym, ap, subst, ◌∙◌, arith}
use Rattle.std.proofs.lemmas.List.{map-append}
use Rattle.std.specs.Cmp.{nat_eq_equiv}
use Rattle.std.specs.List.{All, Contains, IsDistinct, list_any}
use Rattle.std.proofs.lemmas.List.Elements.{All-push, All-contains_itself}
use Rattle.std.proofs.lemmas.List.Folds.{list_any-append}
use Rattle.std.proofs.lemmas.Map.Keys.{IsDistinct-push}
use Rattle.std.proofs.lemmas.Map.Views.{Contains-from_any, list_any-from_Contains}
use Rattle.std.proofs.lemmas.Map.Steps.{list_any_congr, length-le_from_distinct_below, le-length_from_below}
use Rattle.wtf_ring.specs.Points.{met_after}
use Rattle.wtf_ring.specs.Orders.{IsOrder}
use Rattle.wtf_ring.specs.declared.point.Point.{Point}

-- the test of `met_after` reads its two numbers in the other order
pub met_flip : (k : ℕ) (met : List ℕ) → list_any (λ j. j == k) met ≡ list_any (nat_eq k) met
met_flip k [] = refl
met_flip k (j ∷ met) = rw (nat_eq_equiv.symm j k, met_flip k met) refl

below_of : (met : List ℕ) (n : ℕ) → All (λ k. k < n) met → (q : ℕ) → list_any (eqb q) met ≡ true → q < n
below_of met n known q has =
    let at : Contains met q = Contains-from_any {eq = nat_eq} eqb-true q met has in
    subst (λ (k : ℕ). k < n) at.2 (known at.0 q at.1)

-- one more server, that was not met, keeps the list distinct
pub once_more : (met : List ℕ) (k : ℕ) → IsDistinct nat_eq met → list_any (λ j. j == k) met ≡ false → IsDistinct nat_eq (met ++ k ∷ [])
once_more met k once new = IsDistinct-push nat_eq_equiv met k once (sym (met_flip k met) ∙ new)

-- and there is room for it
pub room : (met : List ℕ) (k n : ℕ) → IsDistinct nat_eq met → All (λ j. j < n) met → k < n → list_any (λ j. j == k) met ≡ false → length met < n
room met k n once known here new =
    let most = length-le_from_distinct_below (met ++ k ∷ []) n (once_more met k once new) (below_of (met ++ k ∷ []) n (All-push (λ j. j < n) met k known here)) in
    omega (arith, most, length-append met (k ∷ []))

once_by : (b : Bool) (met : List ℕ) (k : ℕ) → IsDistinct nat_eq met → list_any (λ j. j == k) met ≡ b → IsDistinct nat_eq (if b then met else met ++ k ∷ [])
once_by true met k once is = once
once_by false met k once is = once_more met k once is

-- each server is named once
pub met_after-once : (ks met : List ℕ) → IsDistinct nat_eq met → IsDistinct nat_eq (met_after met ks)
met_after-once [] met once = once
met_after-once (k ∷ ks) met once = met_after-once ks _ (once_by (list_any (λ j. j == k) met) met k once refl)

or_again : (a b c : Bool) → (b ≡ true → a ≡ true) → (a || (b || c)) ≡ (a || c)
or_again true b c h = refl
or_again false true c h = absurd (let bad : false ≡ true = h refl in cc)
or_again false false c h = refl

or_assoc : (a b c : Bool) → ((a || (b || false)) || c) ≡ (a || (b || c))
or_assoc true b c = refl
or_assoc false true c = refl
or_assoc false false c = refl

any_by : (b : Bool) (q k : ℕ) (met ks : List ℕ) → list_any (λ j. j == k) met ≡ b
    → (list_any (nat_eq q) (if b then met else met ++ k ∷ []) || list_any (nat_eq q) ks) ≡ (list_any (nat_eq q) met || (nat_eq q k || list_any (nat_eq q) ks))
any_by true q k met ks is =
    sym (or_again _ (nat_eq q k) _ (λ same. list_any_congr nat_eq_equiv q k met same ∙ sym (met_flip k met) ∙ is))
any_by false q k met ks is =
    ap (λ (b : Bool). b || list_any (nat_eq q) ks) (list_any-append (nat_eq q) met (k ∷ [])) ∙ or_assoc (list_any (nat_eq q) met) (nat_eq q k) (list_any (nat_eq q) ks)

or_none : (a : Bool) → a ≡ (a || false)
or_none true = refl
or_none false = refl

-- the servers that are met are those that were met before and those along the list
pub met_after-any : (q : ℕ) (ks met : List ℕ) → list_any (nat_eq q) (met_after met ks) ≡ (list_any (nat_eq q) met || list_any (nat_eq q) ks)
met_after-any q [] met = or_none _
met_after-any q (k ∷ ks) met = met_after-any q ks _ ∙ any_by (list_any (λ j. j == k) met) q k met ks refl

-- two lists, one behind the other
pub met_after-append : (xs ys met : List ℕ) → met_after met (xs ++ ys) ≡ met_after (met_after met xs) ys
met_after-append [] ys met = refl
met_after-append (x ∷ xs) ys met = met_after-append xs ys _

pub nothing_twice : IsDistinct nat_eq []
unfolding IsDistinct
nothing_twice = tt

-- a list of servers below n, and all of them, is met in an order of n servers
pub order_met : (n : ℕ) (ks : List ℕ) → ((q : ℕ) → list_any (nat_eq q) ks ≡ true → q < n) → ((q : ℕ) → q < n → list_any (nat_eq q) ks ≡ true) → IsOrder n (met_after [] ks)
order_met n ks known each =
    let once = met_after-once ks [] nothing_twice in
    let met = met_after [] ks in
    let under : (q : ℕ) → list_any (nat_eq q) met ≡ true → q < n = λ q h. known q (sym (met_after-any q ks []) ∙ h) in
    let has : (q : ℕ) → q < n → list_any (nat_eq q) met ≡ true = λ q h. met_after-any q ks [] ∙ each q h in
    record {
      len = omega (arith, length-le_from_distinct_below met n once under, le-length_from_below met n has);
      known = λ k d l. under (get_or met k d) (list_any-from_Contains nat_eq_equiv (get_or met k d) met (All-contains_itself met k d l));
      each = λ k h. Contains-from_any {eq = nat_eq} eqb-true k met (has k h);
      once = once;
    }

-- from the points `xs` at the back to the points `ys` at the front
pub met_behind : (back front xs ys : List Point) (none some all : List ℕ) → back ≡ xs → front ≡ ys → none ≡ []
    → some ≡ met_after none (map (λ (p : Point). p.server) back) → all ≡ met_after some (map (λ (p : Point). p.server) front)
    → all ≡ met_after [] (map (λ (p : Point). p.server) (xs ++ ys))
met_behind back front xs ys none some all at_back at_front empty first second =
    let server = λ (p : Point). p.server in
    let both : all ≡ met_after (met_after [] (map server xs)) (map server ys) = cc in
    both ∙ sym (met_after-append (map server xs) (map server ys) []) ∙ ap (met_after []) (sym (map-append server xs ys))
