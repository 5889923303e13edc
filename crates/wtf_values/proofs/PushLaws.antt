-- Laws of runs of changes that each lay an entry over a region.
use Rattle.std.proofs.Common.{◌≡◌, ◌<◌, ◌++◌, true, List, [], ◌∷◌, length, Option, None, Some, cond, refl, sym, ap, ◌∙◌, arith, append_assoc}
use Rattle.std.proofs.lemmas.Bool.{false≢true}
use Rattle.std.proofs.lemmas.List.{append-nil}
use Rattle.wtf_kv.specs.declared.changes.Change.{Change}
use Rattle.wtf_kv.specs.declared.changes.Change.TheVariants as change
use Rattle.wtf_kv.specs.declared.cell.Applied.TheVariants.{Is}
use Rattle.wtf_kv.specs.Edits.{fits, value_made}
use Rattle.wtf_kv.specs.Staging.{run_made, run_fits}
use Rattle.wtf_overlay.specs.declared.part.Entry.{Entry}
use Rattle.wtf_values.specs.declared.region.RegionValue.{RegionValue}
use Rattle.wtf_values.specs.declared.value.Value.{Value}
use Rattle.wtf_values.specs.declared.value.Value.TheVariants.{Node, Names, Last, Region, Count}
use Rattle.wtf_values.specs.declared.value.Delta.{Delta}
use Rattle.wtf_values.specs.declared.value.Delta.TheVariants.{Push, PushRel, Clip, ZeroWithin, RaiseLast, SetLast, DirAdd, DirDel, LinkAdd, LinkSub, Put}
use Rattle.wtf_values.specs.declared.value.Delta.TheVariants.{Remove}
use Rattle.wtf_values.specs.Outcomes.{outcome_of}
use Rattle.wtf_values.specs.Pushes.{are_pushes, entries_of, laid_all}
use Rattle.wtf_values.specs.Regions.{emptied, pushed, pushed_all, end_over}

-- the parts of a region with entries laid over it
pub pushed_all-end : (v : RegionValue) (es : List Entry) → (pushed_all v es).end ≡ end_over v.end es
pushed_all-end v [] = refl
pushed_all-end v (e ∷ es) = pushed_all-end (pushed (Some v) e) es

pub pushed_all-base : (v : RegionValue) (es : List Entry) → (pushed_all v es).base ≡ v.base
pushed_all-base v [] = refl
pushed_all-base v (e ∷ es) = pushed_all-base (pushed (Some v) e) es

pub pushed_all-list : (v : RegionValue) (es : List Entry) → (pushed_all v es).list ≡ v.list ++ es
pushed_all-list v [] = sym (append-nil v.list)
pushed_all-list v (e ∷ es) = pushed_all-list (pushed (Some v) e) es ∙ append_assoc v.list (e ∷ []) es

module _ {K : Type 0} where
  -- what holds of no change, and of one more push before any pushes, holds of all pushes
  push_by : (p : List (Change K Delta) → Type 0) → p [] → ((key : K) (e : Entry) (cs : List (Change K Delta)) → are_pushes cs ≡ true → p cs → p (change.Delta key (Push e) ∷ cs)) → (cs : List (Change K Delta)) → are_pushes cs ≡ true → p cs
  push_by p none more [] all = none
  push_by p none more (change.Delta key (Push e) ∷ cs) all = more key e cs all (push_by p none more cs all)
  push_by p none more (change.Delta key (PushRel ps b) ∷ cs) all = absurd (false≢true all)
  push_by p none more (change.Delta key (Clip end) ∷ cs) all = absurd (false≢true all)
  push_by p none more (change.Delta key (ZeroWithin from upto) ∷ cs) all = absurd (false≢true all)
  push_by p none more (change.Delta key (RaiseLast n) ∷ cs) all = absurd (false≢true all)
  push_by p none more (change.Delta key (SetLast n) ∷ cs) all = absurd (false≢true all)
  push_by p none more (change.Delta key (DirAdd name) ∷ cs) all = absurd (false≢true all)
  push_by p none more (change.Delta key (DirDel name) ∷ cs) all = absurd (false≢true all)
  push_by p none more (change.Delta key LinkAdd ∷ cs) all = absurd (false≢true all)
  push_by p none more (change.Delta key LinkSub ∷ cs) all = absurd (false≢true all)
  push_by p none more (change.Delta key (Put v) ∷ cs) all = absurd (false≢true all)
  push_by p none more (change.Delta key Remove ∷ cs) all = absurd (false≢true all)
  push_by p none more (change.Cut from to ∷ cs) all = absurd (false≢true all)

  -- all of them fit
  fits_first : (key : K) (e : Entry) (cs : List (Change K Delta)) → ((now : Option Value) → run_fits outcome_of cs now ≡ true) → (now : Option Value) → run_fits outcome_of (change.Delta key (Push e) ∷ cs) now ≡ true
  fits_first key e cs rest None = rest (Some (Region (pushed None e)))
  fits_first key e cs rest (Some (Region v)) = rest (Some (Region (pushed (Some v) e)))
  fits_first key e cs rest (Some (Last n)) = rest (Some (Last n))
  fits_first key e cs rest (Some (Names s)) = rest (Some (Names s))
  fits_first key e cs rest (Some (Count n)) = rest (Some (Count n))
  fits_first key e cs rest (Some (Node n)) = rest (Some (Node n))

  pub pushes_fit : (cs : List (Change K Delta)) → are_pushes cs ≡ true → (now : Option Value) → run_fits outcome_of cs now ≡ true
  pushes_fit = push_by (λ cs. (now : Option Value) → run_fits outcome_of cs now ≡ true) (λ now. refl) (λ key e cs all rest. fits_first key e cs rest)

  -- a region gets their entries
  made_over : (cs : List (Change K Delta)) → are_pushes cs ≡ true → (v : RegionValue) → run_made outcome_of cs (Some (Region v)) ≡ Some (Region (pushed_all v (entries_of cs)))
  made_over = push_by (λ cs. (v : RegionValue) → run_made outcome_of cs (Some (Region v)) ≡ Some (Region (pushed_all v (entries_of cs)))) (λ v. refl) (λ key e cs all rest v. rest (pushed (Some v) e))

  -- a missing one is made
  made_first : (cs : List (Change K Delta)) → are_pushes cs ≡ true → 0 < length cs → run_made outcome_of cs None ≡ Some (Region (pushed_all emptied (entries_of cs)))
  made_first = push_by (λ cs. 0 < length cs → run_made outcome_of cs None ≡ Some (Region (pushed_all emptied (entries_of cs)))) (λ none. absurd (omega arith)) (λ key e cs all rest some. made_over cs all (pushed None e))

  -- and a value of another kind stays
  made_same : (now : Value) → ((e : Entry) → outcome_of (Some now) (Push e) ≡ Is now) → (cs : List (Change K Delta)) → are_pushes cs ≡ true → run_made outcome_of cs (Some now) ≡ Some now
  made_same now same = push_by (λ cs. run_made outcome_of cs (Some now) ≡ Some now) refl (λ key e cs all rest. ap (λ o. cond (fits o) (run_made outcome_of cs (value_made o (Some now))) (Some now)) (same e) ∙ rest)

  pub pushes_made : (cs : List (Change K Delta)) → are_pushes cs ≡ true → 0 < length cs → (now : Option Value) → run_made outcome_of cs now ≡ laid_all now (entries_of cs)
  pushes_made cs all some None = made_first cs all some
  pushes_made cs all some (Some (Region v)) = made_over cs all v
  pushes_made cs all some (Some (Last n)) = made_same (Last n) (λ e. refl) cs all
  pushes_made cs all some (Some (Names s)) = made_same (Names s) (λ e. refl) cs all
  pushes_made cs all some (Some (Count n)) = made_same (Count n) (λ e. refl) cs all
  pushes_made cs all some (Some (Node n)) = made_same (Node n) (λ e. refl) cs all
