-- Laws of changes over maps, one list after another. They know nothing of keys and values.
use Rattle.std.proofs.Common.{◌≡◌, cond, List, [], ◌∷◌, ◌++◌, Option, None, Some, refl, sym, ap, ◌∙◌, ⊎_elim}
use Rattle.std.proofs.Math.Path.{fun_ext}
use Rattle.std.proofs.lemmas.Bool.{cases_Bool}
use Rattle.std.specs.declared.cmp.Ordering.{Ordering}
use Rattle.wtf_kv.specs.declared.cell.Applied.{Applied}
use Rattle.wtf_kv.specs.declared.changes.Change.{Change}
use Rattle.wtf_kv.specs.declared.changes.Change.TheVariants.{Delta, Cut}
use Rattle.wtf_kv.specs.Edits.{after_change, after_changes, over, fits, first_unfit, Fits, Agree}

-- maps that agree on two lists of keys agree on each
pub Agree-parts : {K C : Type 0} (qs rs : List K) (a b : K → Option C) → Agree (qs ++ rs) a b → Agree qs a b × Agree rs a b
Agree-parts [] rs a b h = (tt, h)
Agree-parts (q ∷ qs) rs a b h = let parts = Agree-parts qs rs a b h.1 in ((h.0, parts.0), parts.1)

pub Agree-itself : {K C : Type 0} (qs : List K) (a : K → Option C) → Agree qs a a
Agree-itself [] a = tt
Agree-itself (q ∷ qs) a = (refl, Agree-itself qs a)

module _ {K C D : Type 0} (order : K → K → Ordering) (outcome : Option C → D → Applied C) where
  -- what changes make of a value, one list after another
  pub after_changes-append : (cs ds : List (Change K D)) (q : K) (v : Option C) → after_changes order outcome (cs ++ ds) q v ≡ after_changes order outcome ds q (after_changes order outcome cs q v)
  after_changes-append [] ds q v = refl
  after_changes-append (c ∷ cs) ds q v = after_changes-append cs ds q (after_change order outcome c q v)

  -- changes, one list after another
  pub over-append : (cs ds : List (Change K D)) (w : K → Option C) → over order outcome (cs ++ ds) w ≡ over order outcome ds (over order outcome cs w)
  over-append cs ds w = fun_ext (λ q. after_changes-append cs ds q (w q))

  -- maps that agree on keys do so with the same changes over them
  pub Agree-over : (qs : List K) (cs : List (Change K D)) (a b : K → Option C) → Agree qs a b → Agree qs (over order outcome cs a) (over order outcome cs b)
  Agree-over [] cs a b h = tt
  Agree-over (q ∷ qs) cs a b h = (ap (after_changes order outcome cs q) h.0, Agree-over qs cs a b h.1)

  -- the map after one change
  abbrev next : Change K D → (K → Option C) → K → Option C
  next c w q = after_change order outcome c q (w q)

  pub Fits-parts : (cs ds : List (Change K D)) (w : K → Option C) → Fits order outcome (cs ++ ds) w → Fits order outcome cs w × Fits order outcome ds (over order outcome cs w)
  Fits-parts [] ds w h = (refl, h)
  Fits-parts (Cut from to ∷ cs) ds w h = Fits-parts cs ds (next (Cut from to) w) h
  Fits-parts (Delta key d ∷ cs) ds w h =
      let rest : List (Change K D) → Option K = λ l. first_unfit order outcome l (next (Delta key d) w) in
      ⊎_elim
      (λ yes. let parts = Fits-parts cs ds (next (Delta key d) w) (sym (ap (λ b. cond b (rest (cs ++ ds)) (Some key)) yes) ∙ h) in
      (ap (λ b. cond b (rest cs) (Some key)) yes ∙ parts.0, parts.1))
      (λ no. let bad : Some key ≡ None = sym (ap (λ b. cond b (rest (cs ++ ds)) (Some key)) no) ∙ h in absurd (cc))
      (cases_Bool (fits (outcome (w key) d)))

  pub Fits-append : (cs ds : List (Change K D)) (w : K → Option C) → Fits order outcome cs w → Fits order outcome ds (over order outcome cs w) → Fits order outcome (cs ++ ds) w
  Fits-append [] ds w front back = back
  Fits-append (Cut from to ∷ cs) ds w front back = Fits-append cs ds (next (Cut from to) w) front back
  Fits-append (Delta key d ∷ cs) ds w front back =
      let rest : List (Change K D) → Option K = λ l. first_unfit order outcome l (next (Delta key d) w) in
      ⊎_elim
      (λ yes. ap (λ b. cond b (rest (cs ++ ds)) (Some key)) yes ∙ Fits-append cs ds (next (Delta key d) w) (sym (ap (λ b. cond b (rest cs) (Some key)) yes) ∙ front) back)
      (λ no. let bad : Some key ≡ None = sym (ap (λ b. cond b (rest cs) (Some key)) no) ∙ front in absurd (cc))
      (cases_Bool (fits (outcome (w key) d)))
