-- What the index of positions is worth: reading by it is reading by all changes.
use Rattle.std.proofs.Common.{◌≡◌, ℕ, ◌+◌, ◌-◌, ◌<◌, ◌≤◌, suc, zero, Bool, true, false, cond, not, ◌||◌, ◌==◌, ◌⊎◌, inl, inr, List, [], ◌∷◌, Option, None, nat_le, nat_lt, nat_eq, refl, sym, ap, ◌∙◌, subst, arith, ⊎_elim, length, take, drop, get_or}
use Rattle.std.specs.List.{list_any}
use Rattle.std.specs.declared.cmp.Ordering.{Ordering}
use Rattle.std.proofs.Math.Seq.{drop-nil, drop-cons}
use Rattle.std.proofs.lemmas.Bool.{cases_Bool, cases_lt, or_parts, lt-leb, le-leb, lt-ltb, ltb-true, ne_eqb}
use Rattle.wtf_kv.specs.declared.cell.Applied.{Applied}
use Rattle.wtf_kv.specs.declared.changes.Change.{Change}
use Rattle.wtf_kv.specs.declared.changes.Change.TheVariants.{Delta, Cut}
use Rattle.wtf_kv.specs.Edits.{value_made, after_change, after_changes}
use Rattle.wtf_occ.specs.Positions.{positions_from, AllBelow, is_cut, is_delta_of, covers, first_covers, past_cover, after_positions}

next_suc : {X : Type 0} (i : ℕ) (full : List X) (x : X) (xs : List X) → drop i full ≡ x ∷ xs → drop (suc i) full ≡ xs
next_suc zero [] x xs rest = cc
next_suc zero (y ∷ ys) x xs rest = cc
next_suc (suc i) [] x xs rest = cc
next_suc (suc i) (y ∷ ys) x xs rest = next_suc i ys x xs rest

-- what is left past the first of what is left at i
next_rest : {X : Type 0} (i : ℕ) (full : List X) (x : X) (xs : List X) → drop i full ≡ x ∷ xs → drop (i + 1) full ≡ xs
next_rest i full x xs rest = let e : i + 1 ≡ suc i = omega arith in ap (λ n. drop n full) e ∙ next_suc i full x xs rest

-- ---- loops over positions
module _ {K D : Type 0} (order : K → K → Ordering) (cs : List (Change K D)) (q : K) (is : List ℕ) (k : ℕ) (inside : k < length is) where
  -- whether the change at a position covers q
  pub covers-here : (i : ℕ) (c : Change K D) → i < length cs → c ≡ get_or cs i c → first_covers order (drop i cs) q ≡ covers order q c
  covers-here i c lt is_here = ap (λ l. first_covers order l q) (drop-cons cs i c lt) ∙ ap (covers order q) (sym is_here)

  pub past_cover-step : (past next : ℕ) → next ≡ cond (first_covers order (drop (get_or is k 0) cs) q) (get_or is k 0 + 1) past → past_cover order cs q (drop (k + 1) is) next ≡ past_cover order cs q (drop k is) past
  past_cover-step past next step =
      let e : k + 1 ≡ suc k = omega arith in
      ap (λ n. past_cover order cs q (drop n is) next) e ∙ ap (past_cover order cs q (drop (suc k) is)) step ∙ sym (ap (λ l. past_cover order cs q l past) (drop-cons is k 0 inside))

  module _ {C : Type 0} (outcome : Option C → D → Applied C) where
    pub change-here : (i : ℕ) (c : Change K D) (now : Option C) → i < length cs → c ≡ get_or cs i c → after_changes order outcome (take 1 (drop i cs)) q now ≡ after_change order outcome c q now
    change-here i c now lt is_here = ap (λ l. after_changes order outcome (take 1 l) q now) (drop-cons cs i c lt) ∙ ap (λ d. after_change order outcome d q now) (sym is_here)

    pub after_positions-step : (from : ℕ) (now next : Option C) → next ≡ cond (nat_le from (get_or is k 0)) (after_changes order outcome (take 1 (drop (get_or is k 0) cs)) q now) now → after_positions order outcome cs q from (drop (k + 1) is) next ≡ after_positions order outcome cs q from (drop k is) now
    after_positions-step from now next step =
        let e : k + 1 ≡ suc k = omega arith in
        ap (λ n. after_positions order outcome cs q from (drop n is) next) e ∙ ap (after_positions order outcome cs q from (drop (suc k) is)) step ∙ sym (ap (λ l. after_positions order outcome cs q from l now) (drop-cons is k 0 inside))

-- ---- the positions lie below the length
pub positions-below : {X : Type 0} (p : X → Bool) (xs : List X) (i n : ℕ) → i + length xs ≤ n → AllBelow n (positions_from i p xs)
positions-below p [] i n le = tt
positions-below p (x ∷ xs) i n le =
    let rest : AllBelow n (positions_from (i + 1) p xs) = positions-below p xs (i + 1) n (omega arith) in
    let here : nat_lt i n ≡ true = lt-ltb i n (omega arith) in
    elim (p x) as (λ b. AllBelow n (cond b (i ∷ positions_from (i + 1) p xs) (positions_from (i + 1) p xs))) [ true ↦ (here, rest) | false ↦ rest ]

-- the same of a list and of positions that are known to be these
pub positions-inside : {X : Type 0} (p : X → Bool) (xs seen : List X) (is : List ℕ) → seen ≡ xs → is ≡ positions_from 0 p xs → AllBelow (length seen) is
positions-inside p xs seen is same at =
    subst (λ l. AllBelow (length l) is) (sym same)
    (subst (AllBelow (length xs)) (sym at) (positions-below p xs 0 (length xs) (omega arith)))

pub below-at : (n : ℕ) (is : List ℕ) (k d : ℕ) → AllBelow n is → k < length is → get_or is k d < n
below-at n [] k d all lt = absurd (omega arith)
below-at n (i ∷ is) zero d all lt = ltb-true i n all.0
below-at n (i ∷ is) (suc k) d all lt = below-at n is k d all.1 (omega arith)

-- some element passes exactly where there is a position
pub any-positions : {X : Type 0} (p : X → Bool) (xs : List X) (i : ℕ) → list_any p xs ≡ not (length (positions_from i p xs) == 0)
any-positions p [] i = refl
any-positions p (x ∷ xs) i =
    let rest = positions_from (i + 1) p xs in
    let some : (length (i ∷ rest) == 0) ≡ false = ne_eqb (length (i ∷ rest)) 0 (λ e. absurd (omega arith)) in
    elim (p x) as (λ b. (b || list_any p xs) ≡ not (length (cond b (i ∷ positions_from (i + 1) p xs) (positions_from (i + 1) p xs)) == 0)) [
      | true ↦ sym (ap not some)
      | false ↦ any-positions p xs (i + 1)
    ]

pub no-positions : {X : Type 0} (p : X → Bool) (xs : List X) (i : ℕ) → list_any p xs ≡ false → [] ≡ positions_from i p xs
no-positions p [] i none = refl
no-positions p (x ∷ xs) i none =
    let parts = or_parts (p x) (list_any p xs) none in
    no-positions p xs (i + 1) parts.1 ∙ sym (ap (λ b. cond b (i ∷ positions_from (i + 1) p xs) (positions_from (i + 1) p xs)) parts.0)

module _ {K C D : Type 0} (order : K → K → Ordering) (outcome : Option C → D → Applied C) (q : K) where
  -- ---- the last cut that covers q, by the positions of the cuts: there is none, or what came before it is of lacks account
  abbrev Found : List (Change K D) → ℕ → ℕ → ℕ → Type 0
  Found cs i r last =
      ((last ≡ r) × (list_any (covers order q) cs ≡ false))
      ⊎ ((i < last) × (list_any (covers order q) (drop (last - i) cs) ≡ false) × ((now : Option C) → after_changes order outcome cs q now ≡ after_changes order outcome (drop (last - i) cs) q None))

  covered : (c : Change K D) (now : Option C) → covers order q c ≡ true → after_change order outcome c q now ≡ None
  covered (Delta key d) now held = cc
  covered (Cut from to) now held = ap (λ b. cond b None now) held

  untouched : (c : Change K D) (now : Option C) → is_delta_of order q c ≡ false → covers order q c ≡ false → now ≡ after_change order outcome c q now
  untouched (Delta key d) now lacks apart = sym (ap (λ b. cond b (value_made (outcome now d) now) now) lacks)
  untouched (Cut from to) now lacks apart = sym (ap (λ b. cond b None now) apart)

  found_step : (c : Change K D) (cs : List (Change K D)) (i r next last : ℕ) → (((covers order q c ≡ true) × (next ≡ i + 1)) ⊎ ((covers order q c ≡ false) × (next ≡ r))) → Found cs (i + 1) next last → Found (c ∷ cs) i r last
  found_step c cs i r next last how found =
      ⊎_elim
      (λ (same, none). ⊎_elim
      (λ (held, at).
      let one : last - i ≡ suc zero = omega arith in
      let rest : drop (last - i) (c ∷ cs) ≡ cs = ap (λ n. drop n (c ∷ cs)) one in
      let past : i < last = omega arith in
      inr (
        past,
        ap (list_any (covers order q)) rest ∙ none,
        λ now. ap (after_changes order outcome cs q) (covered c now held) ∙ sym (ap (λ l. after_changes order outcome l q None) rest),
      ))
      (λ (lacks, at). inl (same ∙ at, ap (λ b. b || list_any (covers order q) cs) lacks ∙ none))
      how)
      (λ (lt, none, eq).
      let more : last - i ≡ suc (last - (i + 1)) = omega arith in
      let rest : drop (last - i) (c ∷ cs) ≡ drop (last - (i + 1)) cs = ap (λ n. drop n (c ∷ cs)) more in
      let past : i < last = omega arith in
      inr (
        past,
        ap (list_any (covers order q)) rest ∙ none,
        λ now. eq (after_change order outcome c q now) ∙ sym (ap (λ l. after_changes order outcome l q None) rest),
      ))
      found

  found_by : (full cs : List (Change K D)) (i r : ℕ) → drop i full ≡ cs → Found cs i r (past_cover order full q (positions_from i is_cut cs) r)
  found_by full [] i r rest = inl (refl, refl)
  found_by full (Delta key d ∷ cs) i r rest = found_step (Delta key d) cs i r r _ (inr (refl, refl)) (found_by full cs (i + 1) r (next_rest i full (Delta key d) cs rest))
  found_by full (Cut from to ∷ cs) i r rest =
      let here : first_covers order (drop i full) q ≡ covers {D = D} order q (Cut from to) = ap (λ l. first_covers order l q) rest in
      let next = cond (first_covers order (drop i full) q) (i + 1) r in
      found_step (Cut from to) cs i r next _
      (⊎_elim
      (λ held. inl (sym here ∙ held, ap (λ b. cond b (i + 1) r) held))
      (λ lacks. inr (sym here ∙ lacks, ap (λ b. cond b (i + 1) r) lacks))
      (cases_Bool (first_covers order (drop i full) q)))
      (found_by full cs (i + 1) next (next_rest i full (Cut from to) cs rest))

  -- ---- the deltas of q past the last cut that covers it, by their positions
  module _ (full : List (Change K D)) (from : ℕ) where
    walked_over : (b : Bool) (i : ℕ) (is : List ℕ) (now : Option C) → i < from → after_positions order outcome full q from (cond b (i ∷ is) is) now ≡ after_positions order outcome full q from is now
    walked_over b i is now lt =
        elim b as (λ t. after_positions order outcome full q from (cond t (i ∷ is) is) now ≡ after_positions order outcome full q from is now) [
          | true ↦ ap (λ t. after_positions order outcome full q from is (cond t (after_changes order outcome (take 1 (drop i full)) q now) now)) (lt-leb from i lt)
          | false ↦ refl
        ]

    walked_on : (c : Change K D) (cs : List (Change K D)) (i : ℕ) (is : List ℕ) (now : Option C) → from ≤ i → drop i full ≡ c ∷ cs → covers order q c ≡ false → after_positions order outcome full q from (cond (is_delta_of order q c) (i ∷ is) is) now ≡ after_positions order outcome full q from is (after_change order outcome c q now)
    walked_on c cs i is now le rest apart =
        ⊎_elim
        (λ held. ap (λ b. after_positions order outcome full q from (cond b (i ∷ is) is) now) held
        ∙ ap (λ t. after_positions order outcome full q from is (cond t (after_changes order outcome (take 1 (drop i full)) q now) now)) (le-leb from i le)
        ∙ ap (λ l. after_positions order outcome full q from is (after_changes order outcome (take 1 l) q now)) rest)
        (λ lacks. ap (λ b. after_positions order outcome full q from (cond b (i ∷ is) is) now) lacks ∙ ap (after_positions order outcome full q from is) (untouched c now lacks apart))
        (cases_Bool (is_delta_of order q c))

    walked : (cs : List (Change K D)) (i m : ℕ) (now : Option C) → drop i full ≡ cs → m ≡ from - i → list_any (covers order q) (drop m cs) ≡ false → after_positions order outcome full q from (positions_from i (is_delta_of order q) cs) now ≡ after_changes order outcome (drop m cs) q now
    walked [] i m now rest is none = sym (ap (λ l. after_changes order outcome l q now) (drop-nil m))
    walked (c ∷ cs) i m now rest is none =
        let next = next_rest i full c cs rest in
        let positions = positions_from (i + 1) (is_delta_of order q) cs in
        ⊎_elim
        (λ lt.
        let more : m ≡ suc (from - (i + 1)) = omega arith in
        let past : drop m (c ∷ cs) ≡ drop (from - (i + 1)) cs = ap (λ n. drop n (c ∷ cs)) more in
        walked_over (is_delta_of order q c) i positions now lt
        ∙ walked cs (i + 1) (from - (i + 1)) now next refl (sym (ap (list_any (covers order q)) past) ∙ none)
        ∙ sym (ap (λ l. after_changes order outcome l q now) past))
        (λ le.
        let zeroth : m ≡ zero = omega arith in
        let all : drop m (c ∷ cs) ≡ c ∷ cs = ap (λ n. drop n (c ∷ cs)) zeroth in
        let parts = or_parts (covers order q c) (list_any (covers order q) cs) (sym (ap (list_any (covers order q)) all) ∙ none) in
        let still : zero ≡ from - (i + 1) = omega arith in
        walked_on c cs i positions now le rest parts.0
        ∙ walked cs (i + 1) zero (after_change order outcome c q now) next still parts.1
        ∙ sym (ap (λ l. after_changes order outcome l q now) all))
        (cases_lt i from)

  -- a read by the positions is a read by all changes
  pub by_positions : (cs : List (Change K D)) (value now : Option C) (from : ℕ) → from ≡ past_cover order cs q (positions_from 0 is_cut cs) 0 → now ≡ cond (nat_eq from 0) value None → after_positions order outcome cs q from (positions_from 0 (is_delta_of order q) cs) now ≡ after_changes order outcome cs q value
  by_positions cs value now from is start =
      ⊎_elim
      (λ (same, none).
      let zeroth : from ≡ 0 = is ∙ same in
      let none_off : zero ≡ from - 0 = omega arith in
      walked cs from cs 0 zero now refl none_off none
      ∙ ap (after_changes order outcome cs q) (start ∙ ap (λ n. cond (nat_eq n 0) value None) zeroth))
      (λ (lt, none, eq).
      let whole : past_cover order cs q (positions_from 0 is_cut cs) 0 - 0 ≡ from = omega arith in
      let kept : from ≡ from - 0 = omega arith in
      let off : from ≡ 0 → ⊥ = λ e. absurd (omega arith) in
      let lacks : nat_eq from 0 ≡ false = ne_eqb from 0 off in
      walked cs from cs 0 from now refl kept (sym (ap (λ n. list_any (covers order q) (drop n cs)) whole) ∙ none)
      ∙ ap (after_changes order outcome (drop from cs) q) (start ∙ ap (λ b. cond b value None) lacks)
      ∙ sym (ap (λ n. after_changes order outcome (drop n cs) q None) whole)
      ∙ sym (eq value))
      (found_by cs cs 0 0 refl)

  -- the same of a list and of positions that are known to be these
  pub by_index : (cs seen : List (Change K D)) (cuts places : List ℕ) (value now : Option C) (from : ℕ) → seen ≡ cs → cuts ≡ positions_from 0 is_cut cs → places ≡ positions_from 0 (is_delta_of order q) cs → from ≡ past_cover order seen q cuts 0 → now ≡ cond (nat_eq from 0) value None → after_positions order outcome seen q from places now ≡ after_changes order outcome cs q value
  by_index cs seen cuts places value now from same at_cuts at_places past start =
      ap (λ l. after_positions order outcome l q from places now) same
      ∙ ap (λ is. after_positions order outcome cs q from is now) at_places
      ∙ by_positions cs value now from (past ∙ ap (λ l. past_cover order l q cuts 0) same ∙ ap (λ is. past_cover order cs q is 0) at_cuts) start
