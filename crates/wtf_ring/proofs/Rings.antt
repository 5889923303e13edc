-- The points of a ring: their order, and their servers.
use Rattle.std.proofs.Common.{◌≡◌, ℕ, zero, suc, ◌+◌, ◌<◌, ◌≤◌, ◌++◌, ◌||◌, Bool, true, false, nat_eq, nat_lt, List, [], ◌∷◌, map, length, take, drop, refl, sym, ap, subst, ◌∙◌, arith, IsPermutation, eqb-true}
use Rattle.std.specs.List.{All, list_any, flat_map, range_with_len}
use Rattle.std.specs.List.Sorted.{IsNonDecreasingBy, IsPartitionPoint}
use Rattle.std.specs.Ordering.{ordering_then, is_lt}
use Rattle.std.specs.declared.cmp.Ordering.{Ordering}
use Rattle.std.specs.declared.cmp.Ordering.TheVariants.{Less, Equal, Greater}
use Rattle.std.proofs.lemmas.Bool.Decides.{nat_tests}
use Rattle.std.proofs.lemmas.List.{map-append, take-append-drop, append-nil}
use Rattle.std.proofs.lemmas.List.FromFn.{map-range_with_len_more}
use Rattle.std.proofs.lemmas.Grind.{flat_map-append}
use Rattle.std.proofs.lemmas.List.Elements.{All-nil, All-map, All-append}
use Rattle.std.proofs.lemmas.List.Folds.{list_any-append}
use Rattle.std.proofs.lemmas.List.Sorted.{IsNonDecreasingBy-from_sort, IsPermutation-map, IsPermutation-trans, IsPermutation-append_comm, list_any-IsPermutation, All-permutation}
use Rattle.wtf_ring.specs.Points.{point_of, points_of, IsRing, below, around, order_from, met_after}
use Rattle.wtf_ring.specs.Orders.{IsOrder}
use Rattle.wtf_ring.specs.declared.point.Point.{Point}
use Rattle.wtf_ring.proofs.Meeting.{order_met}

-- what comes first decides, unless it is `Equal`
first_not_lt : (a b : Ordering) → is_lt (ordering_then a b) ≡ false → is_lt a ≡ false
first_not_lt Less b e = e
first_not_lt Equal b e = refl
first_not_lt Greater b e = refl

-- the numbers of the points do not fall
pub IsRing-rises : (n : ℕ) (points : List Point) → IsRing n points → IsNonDecreasingBy (λ (p : Point). p.at) points
IsRing-rises n points ring = IsNonDecreasingBy-from_sort (λ (p : Point). p.at) points (λ k d low high. first_not_lt _ _ (ring.sorted k d low high))

-- where a search ends is how many points lie below
pub below_is : (position : ℕ) (points : List Point) (i : ℕ) → i ≤ length points
    → IsPartitionPoint (λ (p : Point). nat_lt p.at position ≡ true) (λ (p : Point). nat_lt p.at position ≡ false) points i
    → i ≡ below position points
below_is position [] i within parted = omega arith
below_is position (p ∷ ps) zero within parted =
    let here : nat_lt p.at position ≡ false = parted.1 0 p (omega arith) (omega arith) in
    let rest : 0 ≡ below position ps = below_is position ps 0 (omega arith) ((λ k d low high. absurd (omega arith)), (λ k d low high. parted.1 (suc k) d (omega arith) (omega arith))) in
    rw here (omega arith)
below_is position (p ∷ ps) (suc i) within parted =
    let here : nat_lt p.at position ≡ true = parted.0 0 p (omega arith) (omega arith) in
    let rest : i ≡ below position ps = below_is position ps i (omega arith)
    ((λ k d low high. parted.0 (suc k) d (omega arith) (omega arith)), (λ k d low high. parted.1 (suc k) d (omega arith) (omega arith))) in
    rw here (omega arith)

-- the points of a server have one server
one_server : (q k v : ℕ) (vs : List ℕ) → list_any (nat_eq q) (map (λ (p : Point). p.server) (map (point_of k) (v ∷ vs))) ≡ nat_eq q k
one_server q k v [] = or_none _
  where
    or_none : (a : Bool) → (a || false) ≡ a
    or_none true = refl
    or_none false = refl
one_server q k v (w ∷ vs) = ap (λ (b : Bool). nat_eq q k || b) (one_server q k w vs) ∙ or_self _
  where
    or_self : (a : Bool) → (a || a) ≡ a
    or_self true = refl
    or_self false = refl

-- the points of all servers have all servers
servers_from : (q n a : ℕ) → list_any (nat_eq q) (map (λ (p : Point). p.server) (flat_map (λ k. map (point_of k) (range_with_len 0 16)) (range_with_len a n))) ≡ list_any (nat_eq q) (range_with_len a n)
servers_from q zero a = refl
servers_from q (suc n) a =
    ap (list_any (nat_eq q)) (map-append (λ (p : Point). p.server) (map (point_of a) (range_with_len 0 16)) _)
    ∙ list_any-append (nat_eq q) (map (λ (p : Point). p.server) (map (point_of a) (range_with_len 0 16))) _
    ∙ (λ i. one_server q a 0 (range_with_len 1 15) i || servers_from q n (a + 1) i)

above : (q a : ℕ) → a ≤ q → nat_eq q a ≡ false → a + 1 ≤ q
above q a low other = grind (arith, nat_tests)

in_range_by : (b : Bool) (n a q : ℕ) → nat_eq q a ≡ b → (nat_eq q a ≡ false → list_any (nat_eq q) (range_with_len (a + 1) n) ≡ true)
    → (nat_eq q a || list_any (nat_eq q) (range_with_len (a + 1) n)) ≡ true
in_range_by true n a q e rest = rw e refl
in_range_by false n a q e rest = rw e (rest e)

in_range : (n a q : ℕ) → a ≤ q → q < a + n → list_any (nat_eq q) (range_with_len a n) ≡ true
in_range zero a q low high = absurd (omega arith)
in_range (suc n) a q low high = in_range_by (nat_eq q a) n a q refl (λ other. in_range n (a + 1) q (above q a low other) (omega arith))

from_range_by : (b : Bool) (n a q : ℕ) → nat_eq q a ≡ b → (list_any (nat_eq q) (range_with_len (a + 1) n) ≡ true → q < a + 1 + n)
    → (nat_eq q a || list_any (nat_eq q) (range_with_len (a + 1) n)) ≡ true → q < a + suc n
from_range_by true n a q e rest has = let same = eqb-true q a e in omega arith
from_range_by false n a q e rest has = let under = rest (rw e at has) in omega arith

from_range : (n a q : ℕ) → list_any (nat_eq q) (range_with_len a n) ≡ true → q < a + n
from_range zero a q has = cc
from_range (suc n) a q has = from_range_by (nat_eq q a) n a q refl (from_range n (a + 1) q) has

-- the servers round the ring are those of its points
around-any : (q n position : ℕ) (points : List Point) → IsRing n points
    → list_any (nat_eq q) (map (λ (p : Point). p.server) (around position points)) ≡ list_any (nat_eq q) (range_with_len 0 n)
around-any q n position points ring =
    let i = below position points in
    let turned : IsPermutation points (around position points) =
    subst (λ (l : List Point). IsPermutation l (around position points)) (take-append-drop i points) (IsPermutation-append_comm (take i points) (drop i points)) in
    sym (list_any-IsPermutation (nat_eq q) _ _ (IsPermutation-map (λ (p : Point). p.server) (points_of n) (around position points) (IsPermutation-trans _ _ _ ring.all turned)))
    ∙ servers_from q n 0

-- the order from a position names each server once
pub IsOrder-order_from : (n position : ℕ) (points : List Point) → IsRing n points → IsOrder n (order_from position points)
IsOrder-order_from n position points ring =
    order_met n (map (λ (p : Point). p.server) (around position points))
    (λ q has. omega (arith, from_range n 0 q (sym (around-any q n position points ring) ∙ has)))
    (λ q under. around-any q n position points ring ∙ in_range n 0 q (omega arith) (omega arith))

points_from-more : (n a : ℕ) → flat_map (λ k. map (point_of k) (range_with_len 0 16)) (range_with_len a (n + 1))
    ≡ flat_map (λ k. map (point_of k) (range_with_len 0 16)) (range_with_len a n) ++ map (point_of (a + n)) (range_with_len 0 16)
points_from-more n a =
    ap (flat_map (λ k. map (point_of k) (range_with_len 0 16))) (sym (map_id _) ∙ map-range_with_len_more (λ k. k) a n (a + n) refl ∙ ap (λ l. l ++ (a + n) ∷ []) (map_id _))
    ∙ flat_map-append (λ k. map (point_of k) (range_with_len 0 16)) (range_with_len a n) ((a + n) ∷ [])
    ∙ ap (λ l. flat_map (λ k. map (point_of k) (range_with_len 0 16)) (range_with_len a n) ++ l) (append-nil _)
  where
    map_id : (xs : List ℕ) → map (λ k. k) xs ≡ xs
    map_id [] = refl
    map_id (x ∷ xs) = ap (λ l. x ∷ l) (map_id xs)

-- the points of one server more
pub points_of-more : (n : ℕ) → points_of (n + 1) ≡ points_of n ++ map (point_of n) (range_with_len 0 16)
points_of-more n = let e : 0 + n ≡ n = omega arith in rw e at (points_from-more n 0)

-- points of one server are known
one_known : (k a n : ℕ) → k < 16 → All (λ (p : Point). p.server < 16) (map (point_of k) (range_with_len a n))
one_known k a n known = All-map (λ (p : Point). p.server < 16) (point_of k) (range_with_len a n) (λ i d within. known)

points_from-known : (n a : ℕ) → a + n ≤ 16 → All (λ (p : Point). p.server < 16) (flat_map (λ k. map (point_of k) (range_with_len 0 16)) (range_with_len a n))
points_from-known zero a few = All-nil (λ (p : Point). p.server < 16)
points_from-known (suc n) a few =
    All-append (λ (p : Point). p.server < 16) (map (point_of a) (range_with_len 0 16)) _ (one_known a 0 16 (omega arith)) (points_from-known n (a + 1) (omega arith))

-- and they are below 16
pub IsRing-known : (n : ℕ) (points : List Point) → IsRing n points → n ≤ 16 → All (λ (p : Point). p.server < 16) points
IsRing-known n points ring few = All-permutation (λ (p : Point). p.server < 16) (points_of n) points ring.all (points_from-known n 0 (omega arith))

-- the servers from the place where a search ends are the order from its position
pub order_from-start : (position : ℕ) (points l : List Point) (p i : ℕ) → l ≡ points → p ≡ position → i ≡ below p points
    → met_after [] (map (λ (x : Point). x.server) (drop i l ++ take i l)) ≡ order_from position points
order_from-start position points l p i same at start =
    ap (λ (l : List Point). met_after [] (map (λ (x : Point). x.server) (drop i l ++ take i l))) same
    ∙ ap (λ (i : ℕ). met_after [] (map (λ (x : Point). x.server) (drop i points ++ take i points))) (start ∙ ap (λ (p : ℕ). below p points) at)
