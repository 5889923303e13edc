-- How many paths a tree and a set of paths have: a map whose keys all stand in another one has no more of them, whatever they lead to.
use Rattle.std.proofs.Common.{◌≡◌, ℕ, zero, suc, ◌+◌, ◌-◌, ◌≤◌, Bool, true, false, cond, not, ◌&&◌, ◌||◌, List, [], ◌∷◌, map, length, Option, None, is_some, refl, sym, ap, ◌∙◌, ⊎_elim, arith}
use Rattle.std.proofs.lemmas.Bool.{cases_lt, true≢false}
use Rattle.std.specs.FinMap.{FinMap, empty, insert, remove, entries, len, contains_key, contains_key-keys, get-empty, get-remove, len-empty, len-entries, len-insert, len-remove, empty_of_len}
use Rattle.std.specs.List.{list_any}
use Rattle.std.specs.Cmp.{eq_by_cmp_equiv}
use Rattle.std.specs.Cmp.Lexicographic.{slice_cmp, nat_list_cmp_total}
use Rattle.std.specs.Ordering.{nat_cmp, eq_by_cmp}
use Rattle.wtf_model.specs.Tree.{Tree, TreeNode, Dir, root, root_alone}

-- a map from paths
abbrev ByPath : Type 0 → Type 0
ByPath X = FinMap (slice_cmp nat_cmp) X

-- a map that is not empty has a key
first_of : {X : Type 0} (es : List (List ℕ × X)) (c : ℕ) → length es ≡ suc c
    → (q : List ℕ) × (list_any (eq_by_cmp (slice_cmp nat_cmp) q) (map (λ e. e.0) es) ≡ true)
first_of [] c e = absurd (omega arith)
first_of (e ∷ es) c long = (
  e.0,
  ap (λ b. b || list_any (eq_by_cmp (slice_cmp nat_cmp) e.0) (map (λ e. e.0) es))
      ((eq_by_cmp_equiv nat_list_cmp_total).refl e.0),
)

key_of : {X : Type 0} (m : ByPath X) (c : ℕ) → len m ≡ suc c → (q : List ℕ) × (contains_key m q ≡ true)
key_of m c long = let (q, is) = first_of (entries m) c (sym (len-entries m) ∙ long) in (q, contains_key-keys m q ∙ is)

pub some-key : {X : Type 0} (m : ByPath X) → 1 ≤ len m → (q : List ℕ) × (contains_key m q ≡ true)
some-key m some = key_of m (len m - 1) (omega arith)

-- a key that is left is another one than that which was taken out
left_if : {X : Type 0} (b : Bool) (o : Option X) → is_some (cond b None o) ≡ (not b && is_some o)
left_if true o = refl
left_if false o = refl

left_key : {X : Type 0} (m : ByPath X) (p q : List ℕ) → contains_key (remove m p) q ≡ (not (eq_by_cmp (slice_cmp nat_cmp) q p) && contains_key m q)
left_key m p q = ap is_some (get-remove nat_list_cmp_total m p q) ∙ left_if _ _

and_more : (a b c : Bool) → (b ≡ true → c ≡ true) → (a && b) ≡ true → (a && c) ≡ true
and_more true b c more both = more both
and_more false b c more both = absurd (cc)

one_less : {X : Type 0} (m : ByPath X) (p : List ℕ) → contains_key m p ≡ true → len (remove m p) ≡ len m - 1
one_less m p has = len-remove nat_list_cmp_total m p ∙ ap (λ b. cond b (len m - 1) (len m)) has

-- a map that has a key is not empty
pub len-some : {X : Type 0} (m : ByPath X) (p : List ℕ) → contains_key m p ≡ true → 1 ≤ len m
len-some m p has = ⊎_elim
    (λ some. some)
    (λ none. let nothing : len m ≡ 0 = omega arith in
    absurd (true≢false (sym has ∙ ap (λ x. contains_key x p) (empty_of_len m nothing) ∙ ap is_some (get-empty (slice_cmp nat_cmp) p))))
    (cases_lt 0 (len m))

within_by : {X Y : Type 0} (c : ℕ) (m : ByPath X) (n : ByPath Y) → len m ≡ c → ((q : List ℕ) → contains_key m q ≡ true → contains_key n q ≡ true) → len m ≤ len n
within_by zero m n none all = omega arith
within_by (suc c) m n long all =
    let (p, has) = key_of m c long in
    let fewer : len (remove m p) ≡ len m - 1 = one_less m p has in
    let fewer_too : len (remove n p) ≡ len n - 1 = one_less n p (all p has) in
    let some : 1 ≤ len n = len-some n p (all p has) in
    let rest : len (remove m p) ≤ len (remove n p) = within_by c (remove m p) (remove n p) (omega arith) (λ q here.
    left_key n p q ∙ and_more (not (eq_by_cmp (slice_cmp nat_cmp) q p)) (contains_key m q) (contains_key n q) (all q) (sym (left_key m p q) ∙ here)) in
    omega arith

-- one key comes or goes
pub len-put : {X : Type 0} (m : ByPath X) (p : List ℕ) (v : X) → len (insert m p v) ≤ len m + 1
len-put m p v = by_key (contains_key m p) (len-insert nat_list_cmp_total m p v)
  where
    by_key : (b : Bool) {n : ℕ} → n ≡ cond b (len m) (len m + 1) → n ≤ len m + 1
    by_key true is = omega (arith, is)
    by_key false is = omega (arith, is)

pub len-taken : {X : Type 0} (m : ByPath X) (p : List ℕ) → len (remove m p) ≤ len m
len-taken m p = by_key (contains_key m p) (len-remove nat_list_cmp_total m p)
  where
    by_key : (b : Bool) {n : ℕ} → n ≡ cond b (len m - 1) (len m) → n ≤ len m
    by_key true is = omega (arith, is)
    by_key false is = omega (arith, is)

-- a tree of the root alone has one path
abbrev first_of_all : Tree
first_of_all = empty

pub len-root : len root_alone ≤ 1
len-root =
    let none : len first_of_all ≡ 0 = len-empty (slice_cmp nat_cmp) TreeNode in
    let one : len root_alone ≤ len first_of_all + 1 = len-put first_of_all root Dir in
    omega (arith, one, none)

-- all keys of a map are keys of another one
pub len-within : {X Y : Type 0} (m : ByPath X) (n : ByPath Y) → ((q : List ℕ) → contains_key m q ≡ true → contains_key n q ≡ true) → len m ≤ len n
len-within m n all = within_by (len m) m n refl all
