-- A delta that fits at the base and not at the number is of a key that moved.
use Rattle.std.proofs.Common.{◌≡◌, false, cond, List, [], ◌∷◌, Option, None, Some, sym, ap, ◌∙◌, ⊎_elim}
use Rattle.std.specs.declared.cmp.Ordering.{Ordering}
use Rattle.std.proofs.lemmas.Bool.{cases_Bool}
use Rattle.wtf_kv.specs.declared.cell.Applied.{Applied}
use Rattle.wtf_kv.specs.declared.changes.Change.{Change}
use Rattle.wtf_kv.specs.declared.changes.Change.TheVariants.{Delta, Cut}
use Rattle.wtf_kv.specs.Edits.{after_change, fits, first_unfit}

module _ {K C D : Type 0} (order : K → K → Ordering) (outcome : Option C → D → Applied C) where
  -- two maps that agree at the key of the first delta that does not fit on one of them
  pub unfit_on_both : (cs : List (Change K D)) (f g : K → Option C) (key : K) → f key ≡ g key → first_unfit order outcome cs f ≡ Some key → first_unfit order outcome cs g ≡ None → ⊥
  unfit_on_both [] f g key same here fit = cc
  unfit_on_both (Cut from to ∷ cs) f g key same here fit =
      unfit_on_both cs _ _ key (ap (after_change order outcome (Cut from to) key) same) here fit
  unfit_on_both (Delta at delta ∷ cs) f g key same here fit =
      let next : (K → Option C) → K → Option C = λ h q. after_change order outcome (Delta at delta) q (h q) in
      ⊎_elim
      (λ yes. ⊎_elim
      (λ yes2. unfit_on_both cs (next f) (next g) key (ap (after_change order outcome (Delta at delta) key) same)
      (sym (ap (λ b. cond b (first_unfit order outcome cs (next f)) (Some at)) yes) ∙ here)
      (sym (ap (λ b. cond b (first_unfit order outcome cs (next g)) (Some at)) yes2) ∙ fit))
      (λ no2. let bad : Some at ≡ None = sym (ap (λ b. cond b (first_unfit order outcome cs (next g)) (Some at)) no2) ∙ fit in cc)
      (cases_Bool (fits (outcome (g at) delta))))
      (λ no.
      let is : Some at ≡ Some key = sym (ap (λ b. cond b (first_unfit order outcome cs (next f)) (Some at)) no) ∙ here in
      let at_key : at ≡ key = cc in
      let fg : f at ≡ g at = ap f at_key ∙ same ∙ ap g (sym at_key) in
      let no2 : fits (outcome (g at) delta) ≡ false = ap (λ o. fits (outcome o delta)) (sym fg) ∙ no in
      let bad : Some at ≡ None = sym (ap (λ b. cond b (first_unfit order outcome cs (next g)) (Some at)) no2) ∙ fit in cc)
      (cases_Bool (fits (outcome (f at) delta)))
