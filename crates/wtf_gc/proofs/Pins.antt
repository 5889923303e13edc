-- The pins of a scan, one after another.
use Rattle.std.proofs.Common.{◌≡◌, ◌≤◌, ◌<◌, ℕ, ◌+◌, ◌-◌, Bool, true, false, ◌||◌, cond, nat_eq, count_by, List, [], ◌∷◌, ◌++◌, take, drop, get_or}
use Rattle.std.proofs.Common.{suc, length, Option, None, Some, IsTrue, refl, sym, ap, ◌∙◌, subst, ⊎_elim, arith}
use Rattle.std.specs.List.{list_any}
use Rattle.std.proofs.Math.Seq.{take-suc}
use Rattle.std.proofs.lemmas.Bool.{or_left, or_right, or_cases, eqb-true, eq-eqb, lt-ltb, ltb-true, cases_lt, both_ways}
use Rattle.std.proofs.lemmas.List.Folds.{list_any-append}
use Rattle.std.proofs.lemmas.List.Sums.{sum_by-append}
use Rattle.std.proofs.lemmas.List.{take-append-drop}
use Rattle.wtf_kv.specs.Stores.{Store, is_pinned, is_live, times_pinned, IsPinnedOnceMore}
use Rattle.wtf_kv.specs.Order.{IsNextPinned, is_above}
use Rattle.wtf_kv.proofs.PinLaws.{any-count, count-push, is_pinned-more}
use Rattle.wtf_values.specs.declared.key.Key.{Key}
use Rattle.wtf_values.specs.declared.value.Value.{Value}
use Rattle.wtf_gc.specs.Pinning.{IsPinnedFor}

-- ---- the numbers that may be read
abbrev pub is_before : Option ℕ → ℕ → Bool
is_before None n = true
is_before (Some m) n = is_above (Some n) m

-- the list has the number and the pinned numbers that lie below the next one
pub record ListsUpto (s : Store Key Value) (next : Option ℕ) (ns : List ℕ) : Type 0 where
  pub number : list_any (nat_eq s.number) ns ≡ true
  pub finds : (n : ℕ) → IsTrue (is_pinned s n) → is_before next n ≡ true → list_any (nat_eq n) ns ≡ true
  pub only : (n : ℕ) → list_any (nat_eq n) ns ≡ true → IsTrue (is_live s n)

-- the next number is pinned and at most the number
abbrev pub IsDue : Store Key Value → Option ℕ → Type 0
IsDue s None = Unit {0}
IsDue s (Some n) = IsTrue (is_pinned s n) × (n ≤ s.number)

-- how many numbers may be left
abbrev pub left_pins : Store Key Value → Option ℕ → ℕ
left_pins s None = 0
left_pins s (Some n) = (s.number + 1) - n

module _ (s : Store Key Value) where
  none_between : (n m : ℕ) (next : Option ℕ) → IsNextPinned s (Some n) next → IsTrue (is_pinned s m) → n < m → is_before next m ≡ true → ⊥
  none_between n m None h pinned lt before = both_ways _ (h m pinned) (lt-ltb n m lt)
  none_between n m (Some k) h pinned lt before = let le = h.2 m pinned (lt-ltb n m lt) in let below = ltb-true m k before in omega (arith, le, below)

  pub lists_step : (n : ℕ) (next : Option ℕ) (ns : List ℕ) → ListsUpto s (Some n) ns → IsTrue (is_pinned s n) → IsNextPinned s (Some n) next
      → ListsUpto s next (ns ++ n ∷ [])
  lists_step n next ns l pinned h =
      let either : (m : ℕ) → list_any (nat_eq m) (ns ++ n ∷ []) ≡ (list_any (nat_eq m) ns || list_any (nat_eq m) (n ∷ [])) =
      λ m. list_any-append (nat_eq m) ns (n ∷ []) in
      let old : (m : ℕ) → list_any (nat_eq m) ns ≡ true → list_any (nat_eq m) (ns ++ n ∷ []) ≡ true =
      λ m e. either m ∙ or_left (list_any (nat_eq m) ns) (list_any (nat_eq m) (n ∷ [])) e in
      record {
        number = old s.number l.number;
        finds = λ m is before. ⊎_elim
            (λ lt. old m (l.finds m is (lt-ltb m n lt)))
            (λ ge. ⊎_elim
            (λ lt. absurd (none_between n m next h is lt before))
            (λ le. let same : m ≡ n = omega (arith, ge, le) in
            either m ∙ or_right (list_any (nat_eq m) ns) (list_any (nat_eq m) (n ∷ [])) (or_left (nat_eq m n) false (eq-eqb m n same)))
            (cases_lt n m))
            (cases_lt m n);
        only = λ m e. ⊎_elim (l.only m)
            (λ last. ⊎_elim
            (λ same. subst (λ k. IsTrue (is_live s k)) (sym (eqb-true m n same)) (or_right (nat_eq n s.number) (is_pinned s n) pinned))
            (λ none. cc)
            (or_cases (nat_eq m n) false last))
            (or_cases (list_any (nat_eq m) ns) (list_any (nat_eq m) (n ∷ [])) (sym (either m) ∙ e));
      }

  pub due : (after next : Option ℕ) → IsNextPinned s after next → ((p : ℕ) → IsTrue (is_pinned s p) → p ≤ s.number) → IsDue s next
  due after None h bound = tt
  due after (Some n) h bound = (h.0, bound n h.0)

-- ---- pins come and go one by one
count_front : (n k : ℕ) (xs : List ℕ) → count_by (nat_eq n) (take k xs) ≤ count_by (nat_eq n) xs
count_front n k xs =
    let parts : count_by (nat_eq n) (take k xs ++ drop k xs) ≡ count_by (nat_eq n) (take k xs) + count_by (nat_eq n) (drop k xs) =
    sum_by-append (λ y. cond (nat_eq n y) 1 0) (take k xs) (drop k xs) in
    let whole : count_by (nat_eq n) (take k xs ++ drop k xs) ≡ count_by (nat_eq n) xs = ap (count_by (nat_eq n)) (take-append-drop k xs) in
    omega (arith, parts, whole)

counted : (numbers : List ℕ) (k n : ℕ) → k < length numbers
    → count_by (nat_eq n) (take (suc k) numbers) ≡ count_by (nat_eq n) (take k numbers) + cond (nat_eq n (get_or numbers k 0)) 1 0
counted numbers k n below = ap (count_by (nat_eq n)) (take-suc numbers k 0 below) ∙ count-push n (get_or numbers k 0) (take k numbers)

module _ (numbers : List ℕ) (k : ℕ) (below : k < length numbers) (old mid new : Store Key Value) where
  -- one more is pinned
  pub next_for : IsPinnedFor (take k numbers) old mid → IsPinnedOnceMore (get_or numbers k 0) mid new → (pins : List ℕ) → new ≡ record mid { pins = pins }
      → IsPinnedFor (take (suc k) numbers) old new
  next_for so_far once pins is = record {
    pins = λ n.
        let was = so_far.pins n in
        let more = counted numbers k n below in
        let now = once n in
        omega (arith, was, more, now);
    number = ap (λ (s : Store Key Value). s.number) is ∙ so_far.number;
    cells = ap (λ (s : Store Key Value). s.cells) is ∙ so_far.cells;
  }

  -- the next one whose pin is undone is pinned
  pub next_is_pinned : ((n : ℕ) → count_by (nat_eq n) numbers ≤ times_pinned old n) → IsPinnedFor (take k numbers) mid old
      → IsTrue (is_pinned mid (get_or numbers k 0))
  next_is_pinned enough undone =
      let n : ℕ = get_or numbers k 0 in
      let left = undone.pins n in
      let more = counted numbers k n below in
      let one : ◌≡◌ {A = ℕ} (cond (nat_eq n n) 1 0) 1 = ap (λ b. cond b 1 0) (eq-eqb n n refl) in
      let all = enough n in
      let front_le = count_front n (suc k) numbers in
      any-count n mid.pins (omega (arith, left, more, one, all, front_le))

  -- and is then undone
  pub next_undone : IsPinnedFor (take k numbers) mid old → IsPinnedOnceMore (get_or numbers k 0) new mid → (pins : List ℕ) → new ≡ record mid { pins = pins }
      → IsPinnedFor (take (suc k) numbers) new old
  next_undone undone once pins is = record {
    pins = λ n.
        let left = undone.pins n in
        let more = counted numbers k n below in
        let now = once n in
        omega (arith, left, more, now);
    number = undone.number ∙ sym (ap (λ (s : Store Key Value). s.number) is);
    cells = undone.cells ∙ sym (ap (λ (s : Store Key Value). s.cells) is);
  }

-- what was pinned is undone
pub all_undone : (ns : List ℕ) (old mid new : Store Key Value) → IsPinnedFor ns old mid → IsPinnedFor ns new mid → IsPinnedFor [] old new
all_undone ns old mid new did undone = record {
  pins = λ n. let a = did.pins n in let b = undone.pins n in omega (arith, a, b);
  number = sym undone.number ∙ did.number;
  cells = sym undone.cells ∙ did.cells;
}

-- what may be read may be read still
pub still_live : (ns : List ℕ) (old new : Store Key Value) (n : ℕ) → IsPinnedFor ns old new → IsTrue (is_live old n) → IsTrue (is_live new n)
still_live ns old new n did live = ⊎_elim
    (λ here. or_left (nat_eq n new.number) (is_pinned new n) (ap (nat_eq n) did.number ∙ here))
    (λ pinned. or_right (nat_eq n new.number) (is_pinned new n) (is_pinned-more old new n pinned (let is = did.pins n in omega (arith, is))))
    (or_cases (nat_eq n old.number) (is_pinned old n) live)

pub enough_pinned : (ns : List ℕ) (old new : Store Key Value) → IsPinnedFor ns old new → (n : ℕ) → count_by (nat_eq n) ns ≤ times_pinned new n
enough_pinned ns old new did n = let is = did.pins n in omega (arith, is)

-- each that is in a list that is pinned once more may be read
pub in_list : (ns : List ℕ) (k : ℕ) → k < length ns → list_any (nat_eq (get_or ns k 0)) ns ≡ true
in_list ns k below =
    let n : ℕ = get_or ns k 0 in
    let more = counted ns k n below in
    let one : ◌≡◌ {A = ℕ} (cond (nat_eq n n) 1 0) 1 = ap (λ b. cond b 1 0) (eq-eqb n n refl) in
    let front_le = count_front n (suc k) ns in
    any-count n ns (omega (arith, more, one, front_le))
