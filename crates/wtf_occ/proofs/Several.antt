-- What several deltas of one key make of an index.
use Rattle.std.proofs.Common.{◌≡◌, ℕ, ◌+◌, ◌-◌, ◌≤◌, suc, zero, Bool, true, false, cond, List, [], ◌∷◌, ◌++◌, map, refl, sym, ap, ◌∙◌, arith, length, append-nil}
use Rattle.std.specs.declared.cmp.Ordering.{Ordering}
use Rattle.std.specs.BTreeMap.{is_at}
use Rattle.wtf_kv.specs.declared.changes.Change.{Change}
use Rattle.wtf_kv.specs.declared.changes.Change.TheVariants.{Delta}
use Rattle.wtf_occ.specs.Positions.{positions_from, positions_of, upto, is_cut, is_delta_of, IsIndex}

upto_suc : (i n : ℕ) → upto i (suc n) ≡ upto i n ++ (i + n) ∷ []
upto_suc i zero = let e : i ≡ i + 0 = omega arith in ap (λ k. k ∷ []) e
upto_suc i (suc n) =
    let e : (i + 1) + n ≡ i + suc n = omega arith in
    ap (λ l. i ∷ l) (upto_suc (i + 1) n ∙ ap (λ k. upto (i + 1) n ++ k ∷ []) e)

-- one position more
pub upto_more : (from i : ℕ) → from ≤ i → upto from (i + 1 - from) ≡ upto from (i - from) ++ i ∷ []
upto_more from i le =
    let e : i + 1 - from ≡ suc (i - from) = omega arith in
    let at : from + (i - from) ≡ i = omega arith in
    ap (upto from) e ∙ upto_suc from (i - from) ∙ ap (λ k. upto from (i - from) ++ k ∷ []) at

positions_from-append : {X : Type 0} (p : X → Bool) (xs ys : List X) (i : ℕ) → positions_from i p (xs ++ ys) ≡ positions_from i p xs ++ positions_from (i + length xs) p ys
positions_from-append p [] ys i = let e : i ≡ i + 0 = omega arith in ap (λ n. positions_from n p ys) e
positions_from-append p (x ∷ xs) ys i =
    let e : (i + 1) + length xs ≡ i + length (x ∷ xs) = omega arith in
    let more = positions_from (i + length (x ∷ xs)) p ys in
    let rest : positions_from (i + 1) p (xs ++ ys) ≡ positions_from (i + 1) p xs ++ more =
    positions_from-append p xs ys (i + 1) ∙ ap (λ n. positions_from (i + 1) p xs ++ positions_from n p ys) e in
    elim (p x) as (λ b. cond b (i ∷ positions_from (i + 1) p (xs ++ ys)) (positions_from (i + 1) p (xs ++ ys)) ≡ cond b (i ∷ positions_from (i + 1) p xs) (positions_from (i + 1) p xs) ++ more) [
      | true ↦ ap (λ l. i ∷ l) rest
      | false ↦ rest
    ]

run_or_not : (b : Bool) (xs is : List ℕ) → cond b (xs ++ is) xs ≡ xs ++ cond b is []
run_or_not b xs is = elim b as (λ t. cond t (xs ++ is) xs ≡ xs ++ cond t is []) [ true ↦ refl | false ↦ sym (append-nil xs) ]

module _ {K D : Type 0} (R : K → K → Ordering) (k : K) where
  run_positions : (q : K) (ds : List D) (i : ℕ) → positions_from i (is_delta_of R q) (map (Delta k) ds) ≡ cond (is_at (R k) q) (upto i (length ds)) []
  run_positions q [] i = elim (is_at (R k) q) as (λ t. ◌≡◌ {A = List ℕ} [] (cond t [] [])) [ true ↦ refl | false ↦ refl ]
  run_positions q (d ∷ ds) i =
      let more = upto (i + 1) (length ds) in
      ap (λ l. cond (is_at (R k) q) (i ∷ l) l) (run_positions q ds (i + 1))
      ∙ elim (is_at (R k) q) as (λ t. cond t (i ∷ cond t more []) (cond t more []) ≡ cond t (i ∷ more) []) [ true ↦ refl | false ↦ refl ]

  run_cuts : (ds : List D) (i : ℕ) → positions_from i is_cut (map (Delta k) ds) ≡ []
  run_cuts [] i = refl
  run_cuts (d ∷ ds) i = run_cuts ds (i + 1)

  -- deltas of k come to the end, and their positions are noted
  pub index_ran : (cs more : List (Change K D)) (ds : List D) (es fs : List (K × List ℕ)) (cuts : List ℕ) → IsIndex R cs es cuts → more ≡ cs ++ map (Delta k) ds
      → ((q : K) → positions_of R fs q ≡ cond (is_at (R k) q) (positions_of R es q ++ upto (length cs) (length ds)) (positions_of R es q))
      → IsIndex R more fs cuts
  index_ran cs more ds es fs cuts index is noted =
      let off : length cs ≡ 0 + length cs = omega arith in
      record {
        deltas = λ q.
            let old = positions_from 0 (is_delta_of R q) cs in
            noted q
            ∙ ap (λ l. cond (is_at (R k) q) (l ++ upto (length cs) (length ds)) l) (index.deltas q)
            ∙ run_or_not (is_at (R k) q) old (upto (length cs) (length ds))
            ∙ ap (λ l. old ++ l) (sym (run_positions q ds (length cs)))
            ∙ ap (λ n. old ++ positions_from n (is_delta_of R q) (map (Delta k) ds)) off
            ∙ sym (ap (positions_from 0 (is_delta_of R q)) is ∙ positions_from-append (is_delta_of R q) cs (map (Delta k) ds) 0);
        cuts = index.cuts
            ∙ sym (append-nil (positions_from 0 is_cut cs))
            ∙ ap (λ l. positions_from 0 is_cut cs ++ l) (sym (run_cuts ds (0 + length cs)))
            ∙ sym (ap (positions_from 0 is_cut) is ∙ positions_from-append is_cut cs (map (Delta k) ds) 0);
      }
