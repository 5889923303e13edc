-- Lists of servers and of pointers, as `create` makes them.
use Rattle.std.proofs.Common.{◌≡◌, ◌≢◌, ◌⊎◌, ℕ, suc, ◌+◌, ◌<◌, ◌≤◌, ◌^◌, true, false, cond, List, [], ◌∷◌, ◌++◌, length, take, map, get_or, refl, sym, ◌∙◌, ap, subst, arith, inl, inr}
use Rattle.std.specs.Prelude.{◌==◌, ◌&&◌, nat_lt, IsTrue}
use Rattle.std.specs.List.{All, AllPairs, Contains}
use Rattle.std.proofs.lemmas.Bool.{cases_eq, cases_lt, eq-eqb, lt-ltb, le-ltb, ne_eqb}
use Rattle.std.proofs.lemmas.Bool.Decides.{nat_tests}
use Rattle.std.proofs.lemmas.List.{get_or_default, get_or-take, length-take}
use Rattle.std.proofs.lemmas.List.Elements.{All-cons, All-tail}
use Rattle.wtf_base.specs.declared.pointer.Pointer.{Pointer}
use Rattle.wtf_base.specs.declared.slice.Slice.{Slice}
use Rattle.wtf_base.specs.declared.slice.Extents.{Extents}
use Rattle.wtf_base.specs.declared.slice.Extents.TheVariants.{One, Two, Three}
use Rattle.wtf_base.specs.Extents.{pointers_to}
use Rattle.wtf_base.specs.Pointers.{is_slice}
use Rattle.wtf_base.specs.Slices.{pointers_of, len_of}
use Rattle.wtf_base.proofs.Elements.{contains_cons, at_head, in_tail, none_in}
use Rattle.wtf_replica.specs.Outs.{LeavesOut}
use Rattle.wtf_replica.specs.Copies.{bytes_in}
use Rattle.wtf_replica.specs.Placed.{placed}

-- the element at i is not one of those before it, where all differ
pub is_fresh : (order : List ℕ) (i : ℕ) → AllPairs (λ x y. x ≢ y) order → i < length order → Contains (take i order) (get_or order i 0) → ⊥
is_fresh order i pairs below c =
    let x : ℕ = get_or order i 0 in
    let early : c.0 < i = omega (arith, c.1, length-take i order) in
    pairs c.0 i x early below (sym (get_or-take i order c.0 x early) ∙ c.2 ∙ get_or_default order i 0 x below)

-- which servers of an order are taken

pub leaves_weaker : (P Q : ℕ → Type 0) → ((k : ℕ) → P k → Q k) → (xs ys : List ℕ) → LeavesOut P xs ys → LeavesOut Q xs ys
leaves_weaker P Q w [] [] h = h
leaves_weaker P Q w [] (y ∷ ys) h = h
leaves_weaker P Q w (x ∷ xs) [] h = (w x h.0, leaves_weaker P Q w xs [] h.1)
leaves_weaker P Q w (x ∷ xs) (y ∷ ys) h = elim h [
  | inl a ↦ inl (a.0, leaves_weaker P Q w xs ys a.1)
  | inr b ↦ inr (w x b.0, leaves_weaker P Q w xs (y ∷ ys) b.1)
]

pub leaves_skip : (P : ℕ → Type 0) (xs ys : List ℕ) (x : ℕ) → LeavesOut P xs ys → P x → LeavesOut P (xs ++ x ∷ []) ys
leaves_skip P [] [] x h p = (p, tt)
leaves_skip P [] (y ∷ ys) x h p = absurd h
leaves_skip P (z ∷ xs) [] x h p = (h.0, leaves_skip P xs [] x h.1 p)
leaves_skip P (z ∷ xs) (y ∷ ys) x h p = elim h [
  | inl a ↦ inl (a.0, leaves_skip P xs ys x a.1 p)
  | inr b ↦ inr (b.0, leaves_skip P xs (y ∷ ys) x b.1 p)
]

pub leaves_take : (P : ℕ → Type 0) (xs ys : List ℕ) (x : ℕ) → LeavesOut P xs ys → LeavesOut P (xs ++ x ∷ []) (ys ++ x ∷ [])
leaves_take P [] [] x h = inl (refl, tt)
leaves_take P [] (y ∷ ys) x h = absurd h
leaves_take P (z ∷ xs) [] x h = inr (h.0, leaves_take P xs [] x h.1)
leaves_take P (z ∷ xs) (y ∷ ys) x h = elim h [
  | inl a ↦ inl (a.0, leaves_take P xs ys x a.1)
  | inr b ↦ inr (b.0, leaves_take P xs (y ∷ ys) x b.1)
]

-- those that are taken are of the order
pub leaves_member : (P : ℕ → Type 0) (xs ys : List ℕ) (k : ℕ) → LeavesOut P xs ys → Contains ys k → Contains xs k
leaves_member P [] [] k h c = c
leaves_member P [] (y ∷ ys) k h c = absurd h
leaves_member P (x ∷ xs) [] k h c = absurd (none_in k c)
leaves_member P (x ∷ xs) (y ∷ ys) k h c = elim h [
  | inl a ↦ elim (contains_cons y ys k c) [
    | inl e ↦ at_head x xs k (a.0 ∙ e)
    | inr d ↦ in_tail x xs k (leaves_member P xs ys k a.1 d)
  ]
  | inr b ↦ in_tail x xs k (leaves_member P xs (y ∷ ys) k b.1 c)
]

-- those of the order are taken or out
pub leaves_or_out : (P : ℕ → Type 0) (xs ys : List ℕ) (k : ℕ) → LeavesOut P xs ys → Contains xs k → Contains ys k ⊎ P k
leaves_or_out P [] [] k h c = inl c
leaves_or_out P [] (y ∷ ys) k h c = absurd h
leaves_or_out P (x ∷ xs) [] k h c = elim (contains_cons x xs k c) [
  | inl e ↦ inr (subst P e h.0)
  | inr d ↦ leaves_or_out P xs [] k h.1 d
]
leaves_or_out P (x ∷ xs) (y ∷ ys) k h c = elim (contains_cons x xs k c) [
  | inl e ↦ elim h [
    | inl a ↦ inl (at_head y ys k (sym a.0 ∙ e))
    | inr b ↦ inr (subst P e b.0)
  ]
  | inr d ↦ elim h [
    | inl a ↦ elim (leaves_or_out P xs ys k a.1 d) [
      | inl m ↦ inl (in_tail y ys k m)
      | inr o ↦ inr o
    ]
    | inr b ↦ leaves_or_out P xs (y ∷ ys) k b.1 d
  ]
]

-- one more pointer, put in order

pub length-placed : (p : Pointer) (ps : List Pointer) → length (placed p ps) ≡ length ps + 1
length-placed p [] = refl
length-placed p (q ∷ ps) =
    elim (nat_lt p.server.0 q.server.0) as (λ b. length (cond b (p ∷ q ∷ ps) (q ∷ placed p ps)) ≡ length (q ∷ ps) + 1)
    [ true ↦ omega arith | false ↦ omega (arith, length-placed p ps) ]

pub All-placed : (P : Pointer → Type 0) (p : Pointer) (ps : List Pointer) → P p → All P ps → All P (placed p ps)
All-placed P p [] h all = All-cons P p [] h all
All-placed P p (q ∷ ps) h all =
    elim (nat_lt p.server.0 q.server.0) as (λ b. All P (cond b (p ∷ q ∷ ps) (q ∷ placed p ps))) [
      | true ↦ All-cons P p (q ∷ ps) h all
      | false ↦ All-cons P q (placed p ps) (all 0 q (omega arith)) (All-placed P p ps h (λ k d below. all (suc k) d (omega (arith, below))))
    ]

abbrev pub servers : List Pointer → List ℕ
servers ps = map (λ (p : Pointer). p.server.0) ps

pub placed_cases : (p : Pointer) (ps : List Pointer) (k : ℕ) → Contains (servers (placed p ps)) k → (p.server.0 ≡ k) ⊎ Contains (servers ps) k
placed_cases p [] k = contains_cons p.server.0 [] k
placed_cases p (q ∷ ps) k =
    elim (nat_lt p.server.0 q.server.0) as (λ b. Contains (servers (cond b (p ∷ q ∷ ps) (q ∷ placed p ps))) k → (p.server.0 ≡ k) ⊎ Contains (servers (q ∷ ps)) k) [
      | true ↦ contains_cons p.server.0 (servers (q ∷ ps)) k
      | false ↦ λ c. elim (contains_cons q.server.0 (servers (placed p ps)) k c) [
        | inl e ↦ inr (at_head q.server.0 (servers ps) k e)
        | inr d ↦ elim (placed_cases p ps k d) [ inl e ↦ inl e | inr m ↦ inr (in_tail q.server.0 (servers ps) k m) ]
      ]
    ]

pub placed_has : (p : Pointer) (ps : List Pointer) (k : ℕ) → (p.server.0 ≡ k) ⊎ Contains (servers ps) k → Contains (servers (placed p ps)) k
placed_has p [] k h = elim h [ inl e ↦ at_head p.server.0 [] k e | inr c ↦ absurd (none_in k c) ]
placed_has p (q ∷ ps) k h =
    elim (nat_lt p.server.0 q.server.0) as (λ b. Contains (servers (cond b (p ∷ q ∷ ps) (q ∷ placed p ps))) k) [
      | true ↦ elim h [ inl e ↦ at_head p.server.0 (servers (q ∷ ps)) k e | inr c ↦ in_tail p.server.0 (servers (q ∷ ps)) k c ]
      | false ↦ elim h [
        | inl e ↦ in_tail q.server.0 (servers (placed p ps)) k (placed_has p ps k (inl e))
        | inr c ↦ elim (contains_cons q.server.0 (servers ps) k c) [
          | inl e ↦ at_head q.server.0 (servers (placed p ps)) k e
          | inr m ↦ in_tail q.server.0 (servers (placed p ps)) k (placed_has p ps k (inr m))
        ]
      ]
    ]

pub bytes_in-placed : (p : Pointer) (ps : List Pointer) (k f : ℕ) → bytes_in (placed p ps) k f ≡ bytes_in ps k f + cond (p.server.0 == k && p.file == f) p.len 0
bytes_in-placed p [] k f = omega arith
bytes_in-placed p (q ∷ ps) k f =
    elim (nat_lt p.server.0 q.server.0) as (λ b. bytes_in (cond b (p ∷ q ∷ ps) (q ∷ placed p ps)) k f ≡ bytes_in (q ∷ ps) k f + cond (p.server.0 == k && p.file == f) p.len 0)
    [ true ↦ omega arith | false ↦ omega (arith, bytes_in-placed p ps k f) ]

-- the servers of these pointers come after k
abbrev pub Above : ℕ → List Pointer → Type 0
Above k [] = Unit {0}
Above k (p ∷ ps) = (k < p.server.0) × Above k ps

-- the servers ascend
abbrev pub Ascends : List Pointer → Type 0
Ascends [] = Unit {0}
Ascends (p ∷ ps) = Above p.server.0 ps × Ascends ps

above_lower : (j k : ℕ) (ps : List Pointer) → j < k → Above k ps → Above j ps
above_lower j k [] h a = tt
above_lower j k (p ∷ ps) h a = (omega (arith, h, a.0), above_lower j k ps h a.1)

above_placed : (k : ℕ) (p : Pointer) (ps : List Pointer) → k < p.server.0 → Above k ps → Above k (placed p ps)
above_placed k p [] h a = (h, tt)
above_placed k p (q ∷ ps) h a =
    elim (nat_lt p.server.0 q.server.0) as (λ b. Above k (cond b (p ∷ q ∷ ps) (q ∷ placed p ps)))
    [ true ↦ (h, a) | false ↦ (a.0, above_placed k p ps h a.1) ]

pub ascends_placed : (p : Pointer) (ps : List Pointer) → (Contains (servers ps) p.server.0 → ⊥) → Ascends ps → Ascends (placed p ps)
ascends_placed p [] new a = (tt, tt)
ascends_placed p (q ∷ ps) new a = elim (cases_lt p.server.0 q.server.0) [
  | inl lt ↦ subst (λ b. Ascends (cond b (p ∷ q ∷ ps) (q ∷ placed p ps))) (sym (lt-ltb p.server.0 q.server.0 lt))
      ((lt, above_lower p.server.0 q.server.0 ps lt a.0), a)
  | inr ge ↦
      let ne : q.server.0 ≢ p.server.0 = λ e. new (at_head q.server.0 (servers ps) p.server.0 e) in
      let gt : q.server.0 < p.server.0 = omega (arith, ge, ne) in
      subst (λ b. Ascends (cond b (p ∷ q ∷ ps) (q ∷ placed p ps))) (sym (le-ltb p.server.0 q.server.0 ge))
      (above_placed q.server.0 p ps gt a.0, ascends_placed p ps (λ c. new (in_tail q.server.0 (servers ps) p.server.0 c)) a.1)
]

-- of copies of n bytes on servers that ascend no two lie in one file of a server
none_above : (j k f : ℕ) (ps : List Pointer) → k ≤ j → Above j ps → bytes_in ps k f ≡ 0
none_above j k f [] low a = refl
none_above j k f (p ∷ ps) low a =
    let own : cond (p.server.0 == k && p.file == f) p.len 0 ≡ 0 =
    ap (λ b. cond (b && p.file == f) p.len 0) (ne_eqb p.server.0 k (λ e. omega (arith, e, low, a.0))) in
    omega (arith, own, none_above j k f ps low a.1)

pub once_in : (n k f : ℕ) (ps : List Pointer) → Ascends ps → All (λ (p : Pointer). p.len ≡ n) ps → (bytes_in ps k f ≡ 0) ⊎ (bytes_in ps k f ≡ n)
once_in n k f [] a all = inl refl
once_in n k f (p ∷ ps) a all =
    let len : p.len ≡ n = all 0 p (omega arith) in
    let rest : (bytes_in ps k f ≡ 0) ⊎ (bytes_in ps k f ≡ n) = once_in n k f ps a.1 (All-tail (λ (q : Pointer). q.len ≡ n) p ps all) in
    elim (cases_eq p.server.0 k) [
      | inl here ↦
          let none : bytes_in ps k f ≡ 0 = none_above p.server.0 k f ps (omega (arith, here)) a.0 in
          let own : cond (p.server.0 == k && p.file == f) p.len 0 ≡ cond (p.file == f) p.len 0 =
          ap (λ b. cond (b && p.file == f) p.len 0) (eq-eqb p.server.0 k here) in
          elim (cases_eq p.file f) [
            | inl is ↦
                let one : cond (p.file == f) p.len 0 ≡ p.len = ap (λ b. cond b p.len 0) (eq-eqb p.file f is) in
                inr (omega (arith, own, one, none, len))
            | inr ne ↦
                let no : cond (p.file == f) p.len 0 ≡ 0 = ap (λ b. cond b p.len 0) (ne_eqb p.file f ne) in
                inl (omega (arith, own, no, none))
          ]
      | inr ne ↦
          let own : cond (p.server.0 == k && p.file == f) p.len 0 ≡ 0 = ap (λ b. cond (b && p.file == f) p.len 0) (ne_eqb p.server.0 k ne) in
          elim rest [ inl none ↦ inl (omega (arith, own, none)) | inr one ↦ inr (omega (arith, own, one)) ]
    ]

-- a pointer to n bytes that ends below 2^61
pub record IsLow (n : ℕ) (p : Pointer) : Type 0 where
  pub len : p.len ≡ n
  pub low : p.at + p.len < 2 ^ 61

pub is_slice_of : (n : ℕ) (ps : List Pointer) → 0 < n → 0 < length ps → length ps ≤ 3 → Ascends ps → All (IsLow n) ps → IsTrue (is_slice ps)
is_slice_of n [] some one few a all = absurd (omega (arith, one))
is_slice_of n (p ∷ []) some one few a all =
    let x = all 0 p (omega arith) in
    grind (arith, nat_tests, x.len, x.low)
is_slice_of n (p ∷ q ∷ []) some one few a all =
    let x = all 0 p (omega arith) in
    let y = all 1 p (omega arith) in
    grind (arith, nat_tests, x.len, x.low, y.len, y.low, a.0.0)
is_slice_of n (p ∷ q ∷ r ∷ []) some one few a all =
    let x = all 0 p (omega arith) in
    let y = all 1 p (omega arith) in
    let z = all 2 p (omega arith) in
    grind (arith, nat_tests, x.len, x.low, y.len, y.low, z.len, z.low, a.0.0, a.1.0.0)
is_slice_of n (p ∷ q ∷ r ∷ s ∷ ps) some one few a all = absurd (omega (arith, few))

-- a slice has the length of its first copy
extent_len : (n : ℕ) (e : Extents) (p : Pointer) (ps : List Pointer) → pointers_to n e ≡ p ∷ ps → n ≡ p.len
extent_len n (One a) p ps h = cc
extent_len n (Two a b) p ps h = cc
extent_len n (Three a b c) p ps h = cc

pub len_of_first : (s : Slice) (ps : List Pointer) (n : ℕ) → pointers_of s ≡ ps → 0 < length ps → All (IsLow n) ps → len_of s ≡ n
len_of_first s [] n is some all = absurd (omega (arith, some))
len_of_first s (p ∷ ps) n is some all = extent_len s.len s.extents p ps is ∙ (all 0 p (omega arith)).len
