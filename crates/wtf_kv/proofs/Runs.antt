-- Deltas of one key that are made ready together.
use Rattle.std.proofs.Common.{◌≡◌, ℕ, ◌+◌, true, false, cond, ◌&&◌, ◌||◌, List, [], ◌∷◌, ◌++◌, Option, None, Some, refl, sym, ap, ◌∙◌, ⊎_elim, ◌-◌, ◌<◌, length, take, drop, get_or, add-one, arith}
use Rattle.std.proofs.lemmas.List.{take_all}
use Rattle.std.specs.declared.cmp.Ordering.{Ordering}
use Rattle.std.specs.declared.cmp.Ordering.TheVariants.{Less, Equal, Greater}
use Rattle.std.specs.Ordering.{is_eq, ordering_reverse}
use Rattle.std.specs.BTreeMap.{is_at}
use Rattle.std.specs.Cmp.{Equal-is, IsTotalOrder}
use Rattle.std.proofs.lemmas.Bool.{cases_Bool, and_parts}
use Rattle.wtf_kv.specs.declared.cell.Applied.{Applied}
use Rattle.wtf_kv.specs.declared.changes.Change.{Change}
use Rattle.wtf_kv.specs.declared.changes.Change.TheVariants.{Delta, Cut}
use Rattle.wtf_kv.specs.Edits.{value_made, fits, after_change, after_changes, any_touches, first_unfit}
use Rattle.wtf_kv.specs.Staging.{staged, staged_by, value_next, AreDeltasOf, run_made, run_fits}

-- the first item, and n of those behind it
pub take-first : {X : Type 0} (xs : List X) (n : ℕ) (x : X) → 0 < length xs → x ≡ get_or xs 0 x → take (n + 1) xs ≡ x ∷ take n (take (length xs - 1) (drop 1 xs))
take-first [] n x some is = absurd (omega arith)
take-first (y ∷ ys) n x some is =
    ap (λ m. take m (y ∷ ys)) (add-one n)
    ∙ ap (λ z. z ∷ take n ys) (sym is)
    ∙ ap (λ l. x ∷ take n l) (sym (take_all (length (y ∷ ys) - 1) ys (omega arith)))

-- one more delta of the key
pub deltas_more : {K D : Type 0} (key k : K) (d : D) (cs : List (Change K D)) → AreDeltasOf key cs → k ≡ key → AreDeltasOf key (cs ++ Delta k d ∷ [])
deltas_more key k d [] of is = (is, tt)
deltas_more key k d (Delta l e ∷ cs) of is = (of.0, deltas_more key k d cs of.1 is)
deltas_more key k d (Cut from to ∷ cs) of is = absurd of

even : (o : Ordering) → o ≡ ordering_reverse o → is_eq o ≡ true
even Less e = absurd (cc)
even Equal e = refl
even Greater e = absurd (cc)

-- a key is at itself
pub itself : {K : Type 0} (order : K → K → Ordering) → IsTotalOrder order → (key : K) → is_at (order key) key ≡ true
itself order total key = even (order key key) (total.antisymm key key)

module _ {K C D : Type 0} (order : K → K → Ordering) (outcome : Option C → D → Applied C) (key : K) where
  -- they touch that key alone
  untouching : (cs : List (Change K D)) (q : K) (v : Option C) → AreDeltasOf key cs → is_at (order key) q ≡ false → any_touches order outcome cs q v ≡ false
  untouching [] q v of apart = refl
  untouching (Delta k d ∷ cs) q v of apart =
      let here : is_at (order k) q ≡ false = ap (λ x. is_at (order x) q) of.0 ∙ apart in
      ap (λ b. b || any_touches order outcome cs q (cond b (value_made (outcome v d) v) v)) here ∙ untouching cs q v of.1 apart
  untouching (Cut from to ∷ cs) q v of apart = absurd of

  touching : (cs : List (Change K D)) (q : K) (v : Option C) → 0 < length cs → AreDeltasOf key cs → is_at (order key) q ≡ true → any_touches order outcome cs q v ≡ true
  touching [] q v some of here = absurd (omega arith)
  touching (Delta k d ∷ cs) q v some of here = ap (λ b. b || any_touches order outcome cs q (after_change order outcome (Delta k d) q v)) (ap (λ x. is_at (order x) q) of.0 ∙ here)
  touching (Cut from to ∷ cs) q v some of here = absurd of

  module _ (at_key : is_at (order key) key ≡ true) where
    -- what they make of the key's value, where they fit
    made : (cs : List (Change K D)) (v : Option C) → AreDeltasOf key cs → run_fits outcome cs v ≡ true → after_changes order outcome cs key v ≡ run_made outcome cs v
    made [] v of fit = refl
    made (Delta k d ∷ cs) v of fit =
        let parts = and_parts _ _ fit in
        let here : is_at (order k) key ≡ true = ap (λ x. is_at (order x) key) of.0 ∙ at_key in
        ap (λ b. after_changes order outcome cs key (cond b (value_made (outcome v d) v) v)) here
        ∙ made cs (value_made (outcome v d) v) of.1 parts.1
        ∙ sym (ap (λ b. cond b (run_made outcome cs (value_made (outcome v d) v)) v) parts.0)
    made (Cut from to ∷ cs) v of fit = absurd of

    -- the first that does not fit is one of the key
    pub unfit : (cs : List (Change K D)) (f : K → Option C) → AreDeltasOf key cs → first_unfit order outcome cs f ≡ cond (run_fits outcome cs (f key)) None (Some key)
    unfit [] f of = refl
    unfit (Delta k d ∷ cs) f of =
        let here : is_at (order k) key ≡ true = ap (λ x. is_at (order x) key) of.0 ∙ at_key in
        let at = λ (x : K). fits (outcome (f x) d) in
        ap (λ x. cond (at x) (first_unfit order outcome cs (λ q. after_change order outcome (Delta k d) q (f q))) (Some k)) of.0
        ∙ ap (λ t. cond (at key) t (Some k)) (unfit cs (λ q. after_change order outcome (Delta k d) q (f q)) of.1)
        ∙ ap (λ b. cond (at key) (cond (run_fits outcome cs (cond b (value_made (outcome (f key) d) (f key)) (f key))) None (Some key)) (Some k)) here
        ∙ ap (λ x. cond (at key) (cond (run_fits outcome cs (value_made (outcome (f key) d) (f key))) None (Some key)) (Some x)) of.0
        ∙ elim (at key) as (λ b. cond b (cond (run_fits outcome cs (value_made (outcome (f key) d) (f key))) None (Some key)) (Some key) ≡ cond (b && run_fits outcome cs (value_made (outcome (f key) d) (f key))) None (Some key)) [ true ↦ refl | false ↦ refl ]
    unfit (Cut from to ∷ cs) f of = absurd of

    -- each key has what they make of its next value, where they fit
    pub run_by : (exact : (x y : K) → order x y ≡ Equal → x ≡ y) (run : List (Change K D)) (n : ℕ) (at : K → List (ℕ × Option C)) → 0 < length run → AreDeltasOf key run → run_fits outcome run (value_next n (at key)) ≡ true → (q : K) → cond (is_at (order key) q) (staged n (run_made outcome run (value_next n (at key))) (at q)) (at q) ≡ staged_by order outcome run n q (at q)
    run_by exact run n at some of fit q =
        ⊎_elim
        (λ here.
        let is : key ≡ q = exact key q ((Equal-is (order key q)).0 here) in
        ap (λ b. cond b (staged n (run_made outcome run (value_next n (at key))) (at q)) (at q)) here
        ∙ ap (λ x. staged n x (at q)) (sym (made run (value_next n (at key)) of fit) ∙ ap (λ x. after_changes order outcome run x (value_next n (at x))) is)
        ∙ sym (ap (λ b. cond b (staged n (after_changes order outcome run q (value_next n (at q))) (at q)) (at q)) (touching run q (value_next n (at q)) some of here)))
        (λ apart.
        ap (λ b. cond b (staged n (run_made outcome run (value_next n (at key))) (at q)) (at q)) apart
        ∙ sym (ap (λ b. cond b (staged n (after_changes order outcome run q (value_next n (at q))) (at q)) (at q)) (untouching run q (value_next n (at q)) of apart)))
        (cases_Bool (is_at (order key) q))
