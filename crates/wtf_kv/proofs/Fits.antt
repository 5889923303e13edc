-- The first delta that does not fit, part by part.
use Rattle.std.proofs.Common.{◌≡◌, ℕ, ◌+◌, cond, List, [], ◌∷◌, ◌++◌, Option, None, Some, refl, sym, ap, ◌∙◌, ⊎_elim, take, drop, arith}
use Rattle.std.specs.declared.cmp.Ordering.{Ordering}
use Rattle.std.proofs.lemmas.Bool.{cases_Bool}
use Rattle.std.proofs.lemmas.List.{take-append-drop, take-take, drop-take}
use Rattle.wtf_kv.specs.declared.cell.Applied.{Applied}
use Rattle.wtf_kv.specs.declared.changes.Change.{Change}
use Rattle.wtf_kv.specs.declared.changes.Change.TheVariants.{Delta, Cut}
use Rattle.wtf_kv.specs.declared.ready.NotReady.{NotReady}
use Rattle.wtf_kv.specs.declared.ready.NotReady.TheVariants.{Unfit, Memory}
use Rattle.wtf_kv.specs.Causes.{IsCause}
use Rattle.wtf_kv.specs.Edits.{after_change, after_changes, fits, first_unfit}

-- the first i items, and n of those behind them
pub take-further : {X : Type 0} (xs : List X) (i n : ℕ) → take (i + n) xs ≡ take i xs ++ take n (drop i xs)
take-further xs i n =
    sym (take-append-drop i (take (i + n) xs))
    ∙ ap (λ l. l ++ drop i (take (i + n) xs)) (take-take i (i + n) xs (omega arith))
    ∙ ap (λ l. take i xs ++ l) (drop-take i n xs)

module _ {K C D : Type 0} (order : K → K → Ordering) (outcome : Option C → D → Applied C) where
  step : (ds cs : List (Change K D)) (f : K → Option C) → first_unfit order outcome ds f ≡ None → first_unfit order outcome (ds ++ cs) f ≡ first_unfit order outcome cs (λ q. after_changes order outcome ds q (f q))
  step [] cs f e = refl
  step (Cut from to ∷ ds) cs f e = step ds cs (λ q. after_change order outcome (Cut from to) q (f q)) e
  step (Delta key d ∷ ds) cs f e =
      let after : K → Option C = λ q. after_change order outcome (Delta key d) q (f q) in
      ⊎_elim
      (λ yes. ap (λ b. cond b (first_unfit order outcome (ds ++ cs) after) (Some key)) yes
      ∙ step ds cs after (sym (ap (λ b. cond b (first_unfit order outcome ds after) (Some key)) yes) ∙ e))
      (λ no. let bad : Some key ≡ None = sym (ap (λ b. cond b (first_unfit order outcome ds after) (Some key)) no) ∙ e in absurd (cc))
      (cases_Bool (fits (outcome (f key) d)))

  -- it stands behind a part that fits, over the map that the part makes
  pub unfit_step : (ds cs all : List (Change K D)) (f g : K → Option C) → ds ++ cs ≡ all → first_unfit order outcome ds f ≡ None → ((q : K) → g q ≡ after_changes order outcome ds q (f q)) → first_unfit order outcome cs g ≡ first_unfit order outcome all f
  unfit_step ds cs all f g is fit h = ap (first_unfit order outcome cs) (λ i q. h q i) ∙ sym (step ds cs f fit) ∙ ap (λ l. first_unfit order outcome l f) is

  early : (ds cs : List (Change K D)) (f : K → Option C) (key : K) → first_unfit order outcome ds f ≡ Some key → first_unfit order outcome (ds ++ cs) f ≡ Some key
  early [] cs f key e = absurd (cc)
  early (Cut from to ∷ ds) cs f key e = early ds cs (λ q. after_change order outcome (Cut from to) q (f q)) key e
  early (Delta k d ∷ ds) cs f key e =
      let after : K → Option C = λ q. after_change order outcome (Delta k d) q (f q) in
      ⊎_elim
      (λ yes. ap (λ b. cond b (first_unfit order outcome (ds ++ cs) after) (Some k)) yes
      ∙ early ds cs after key (sym (ap (λ b. cond b (first_unfit order outcome ds after) (Some k)) yes) ∙ e))
      (λ no. ap (λ b. cond b (first_unfit order outcome (ds ++ cs) after) (Some k)) no
      ∙ sym (ap (λ b. cond b (first_unfit order outcome ds after) (Some k)) no) ∙ e)
      (cases_Bool (fits (outcome (f k) d)))

  -- the cause that a part has is that of the whole
  pub cause_early : (ds cs all : List (Change K D)) (f : K → Option C) (why : NotReady K) → ds ++ cs ≡ all → IsCause why (first_unfit order outcome ds f) → IsCause why (first_unfit order outcome all f)
  cause_early ds cs all f (Unfit key) is e = ap (λ l. first_unfit order outcome l f) (sym is) ∙ early ds cs f key e
  cause_early ds cs all f Memory is e = tt
