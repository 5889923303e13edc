-- The images that may be on the keeper: their numbers are pinned, and their maps stay.
use Rattle.wtf_clients.proofs.Common.{IsTrue, Contains, eq-eqb, Contains-append_cases, Contains-push_cases, sum_by-cons, InodeId, is_pinned, times_pinned}
use Rattle.wtf_clients.proofs.Common.{any-count, Inode, Value, Tree, Told, Map, metadata_at, Stands, Own, TellsOn, AreBefore, TablesView, all_kept, AreSound}
use Rattle.wtf_clients.proofs.Common.{IsImageTree, ◌≡◌, ◌≢◌, ◌≤◌, ◌<◌, ℕ, ◌+◌, nat_eq, count_by, List, [], ◌∷◌, Option, None, Some, IsSome, cond, refl, sym, ap}
use Rattle.wtf_clients.proofs.Common.{subst, ◌⊎◌, inl, inr, ⊎_elim, arith}
use Rattle.wtf_clients.proofs.{Pins.number_cases, Later.Stands-later}

-- nothing is in an empty list
pub none_in : (n : ℕ) → Contains [] n → ⊥
none_in n here = let below = here.1 in absurd (omega (arith, below))

count_more : (n x : ℕ) (xs : List ℕ) → count_by (nat_eq n) (x ∷ xs) ≡ cond (nat_eq n x) 1 0 + count_by (nat_eq n) xs
count_more n x xs = sum_by-cons (λ y. cond (nat_eq n y) 1 0) x xs

-- what is in a list is counted in it
pub contained_count : (n : ℕ) (xs : List ℕ) → Contains xs n → 0 < count_by (nat_eq n) xs
contained_count n [] here = absurd (none_in n here)
contained_count n (x ∷ xs) here =
    let whole = count_more n x xs in
    ⊎_elim
    (λ first. ⊎_elim
    (λ never. absurd (none_in n never))
    (λ same. let one : ◌≡◌ {A = ℕ} (cond (nat_eq n x) 1 0) 1 = ap (λ b. cond b 1 0) (eq-eqb n x (sym same)) in omega (arith, whole, one))
    (Contains-push_cases [] x n first))
    (λ later. let more = contained_count n xs later in omega (arith, whole, more))
    (Contains-append_cases (x ∷ []) xs n here)

-- each image is pinned
pub kept_enough : (tables : TablesView) → AreSound tables → (n : ℕ) → all_kept n tables.beside ≤ times_pinned tables.kv n
kept_enough tables sound n = let pins = sound.pins n in omega (arith, pins)

-- the number of an image is pinned
pub kept_pinned : (tables : TablesView) (n : ℕ) → AreSound tables → Contains tables.beside.images n → IsTrue (is_pinned tables.kv n)
kept_pinned tables n sound here =
    let some = contained_count n tables.beside.images here in
    let pins = sound.pins n in
    any-count n tables.kv.pins (omega (arith, some, pins))

-- ---- inodes of transactions before
pub before_more : (n m : ℕ) (w : Map) → n ≤ m → AreBefore n w → AreBefore m w
before_more n m w le before i some = let lt = before i some in omega (arith, lt, le)

pub before_same : (n m : ℕ) (w v : Map) → v ≡ w → n ≤ m → AreBefore n w → AreBefore m v
before_same n m w v same le before = subst (λ u. AreBefore m u) (sym same) (before_more n m w le before)

nothing_or : (o : Option Value) → (o ≡ None) ⊎ IsSome o
nothing_or None = inl refl
nothing_or (Some v) = inr refl

pub some_of_none : (o : Option Value) → o ≡ None → IsSome o → ⊥
some_of_none None none some = cc
some_of_none (Some v) none some = cc

-- the inodes that come are of a transaction before
pub before_own : (tx n : ℕ) (w v : Map) → tx < n → Own tx w v → AreBefore n w → AreBefore n v
before_own tx n w v lt own before i some = ⊎_elim (λ none. by (number_cases i.tx.0 tx) none) (λ was. before i was) (nothing_or (w (Inode i)))
  where
    by : (i.tx.0 ≡ tx) ⊎ (i.tx.0 ≢ tx) → w (Inode i) ≡ None → i.tx.0 < n
    by (inl same) none = omega (arith, same, lt)
    by (inr other) none = absurd (some_of_none (v (Inode i)) (own i other none) some)

-- no inode of a transaction to come stands
pub before_none : (n : ℕ) (w : Map) → AreBefore n w → (i : InodeId) → i.tx.0 ≡ n → w (Inode i) ≡ None
before_none n w before i mine = ⊎_elim (λ none. none) (λ some. let lt = before i some in absurd (omega (arith, lt, mine))) (nothing_or (w (Inode i)))

-- ---- the tree of an image stays
pub image_on : (size : ℕ) (told later : Told) (old new : TablesView) (n : ℕ) (may more : List Tree) → TellsOn told later
    → metadata_at new.kv n ≡ metadata_at old.kv n → old.next_tx ≤ new.next_tx
    → ((t : Tree) → Contains may t → Contains more t) → IsImageTree size told old n may → IsImageTree size later new n more
image_on size told later old new n may more on same up listed is = record {
  tree = is.tree;
  listed = listed is.tree is.listed;
  before = before_same old.next_tx new.next_tx (metadata_at old.kv n) (metadata_at new.kv n) same up is.before;
  stands = λ tx le. subst (λ w. Stands size later tx 0 w is.tree) (sym same)
      (Stands-later told later on size tx 0 (metadata_at old.kv n) is.tree (is.stands tx (omega (arith, up, le))));
}
