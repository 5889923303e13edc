use Rattle.std.proofs.Common.{◌≡◌, ◌+◌, ◌-◌, suc, ◌++◌, ◌∷◌, ℕ, Result, Ok, Err, length, IfErr, ap, sym, subst, ◌∙◌, arith}
use Rattle.wtf_values.specs.Names.{Rise, IsAt, IsGap}
use Rattle.wtf_values.specs.Trees.{listed}
use Rattle.wtf_values.proofs.TreeLaws.{long, rise_front, rise_back, stands_here, stands_after, goes_before, goes_after}
use Rattle.wtf_values.proofs.name_tree.+place.Goals as goal

err_weaker : (r : Result ℕ ℕ) (P Q : ℕ → Type 0) → ((x : ℕ) → P x → Q x) → IfErr r P → IfErr r Q
err_weaker (Ok x) P Q f h = tt
err_weaker (Err x) P Q f h = f x h

pub place-requires : goal.place-requires
place-requires t c =
    let n = c.node.inside in
    let l = listed n.before in
    let r = listed n.after in
    let name = c.args.name.now in
    let all : listed c.args.tree.now ≡ l ++ n.name ∷ r = ap listed c.in-Some.is ∙ sym c.as_ref-node.ensures ∙ sym c.node.view_is in
    let rise = subst Rise all c.requires in
    (omega (arith, ap length all, long l n.name r), rise_front l (n.name ∷ r) rise)

pub place-requires-in-Less : goal.place-requires-in-Less
place-requires-in-Less t c =
    let n = c.node.inside in
    let l = listed n.before in
    let r = listed n.after in
    let name = c.args.name.now in
    let all : listed c.args.tree.now ≡ l ++ n.name ∷ r = ap listed c.in-Some.is ∙ sym c.as_ref-node.ensures ∙ sym c.node.view_is in
    let rise = subst Rise all c.requires in
    (omega (arith, ap length all, long l n.name r), rise_back l n.name r rise)

pub overflow_sub-upto : goal.overflow_sub-upto
overflow_sub-upto t c =
    let n = c.node.inside in
    let l = listed n.before in
    let r = listed n.after in
    omega (arith, long l n.name r, c.node.invariant, c.count-in-Less.ensures)

pub overflow_add-result : goal.overflow_add-result
overflow_add-result t c =
    let n = c.node.inside in
    let l = listed n.before in
    let r = listed n.after in
    let found = c.in-Ok.ensures.found in
    let inside = found.inside in
    omega (arith, inside, long l n.name r, c.node.invariant)

pub overflow_add-result-in-Err : goal.overflow_add-result-in-Err
overflow_add-result-in-Err t c =
    let n = c.node.inside in
    let l = listed n.before in
    let r = listed n.after in
    let absent = c.in-Err.ensures.absent in
    let inside = absent.inside in
    omega (arith, inside, long l n.name r, c.node.invariant)

pub returns-in-Greater-clause-absent : goal.returns-in-Greater-clause-absent
returns-in-Greater-clause-absent t c =
    let n = c.node.inside in
    let l = listed n.before in
    let r = listed n.after in
    let name = c.args.name.now in
    let all : listed c.args.tree.now ≡ l ++ n.name ∷ r = ap listed c.in-Some.is ∙ sym c.as_ref-node.ensures ∙ sym c.node.view_is in
    let rise = subst Rise all c.requires in
    subst (λ m. IfErr c.place.result (IsGap m name)) (sym all) (err_weaker c.place.result (IsGap l name) (IsGap (l ++ n.name ∷ r) name) (λ i gap. goes_before l n.name r name i rise (sym c.in-Greater.ensures) gap) c.place.ensures.absent)

pub returns-in-Equal-clause-found : goal.returns-in-Equal-clause-found
returns-in-Equal-clause-found t c =
    let n = c.node.inside in
    let l = listed n.before in
    let r = listed n.after in
    let name = c.args.name.now in
    let all : listed c.args.tree.now ≡ l ++ n.name ∷ r = ap listed c.in-Some.is ∙ sym c.as_ref-node.ensures ∙ sym c.node.view_is in
    let rise = subst Rise all c.requires in
    subst (λ m. IsAt m name c.count.result) (sym all) (stands_here l n.name r name c.count.result c.count.ensures (sym c.in-Equal.ensures))

pub returns-in-Ok-clause-found : goal.returns-in-Ok-clause-found
returns-in-Ok-clause-found t c =
    let n = c.node.inside in
    let l = listed n.before in
    let r = listed n.after in
    let name = c.args.name.now in
    let all : listed c.args.tree.now ≡ l ++ n.name ∷ r = ap listed c.in-Some.is ∙ sym c.as_ref-node.ensures ∙ sym c.node.view_is in
    let rise = subst Rise all c.requires in
    let upto = n.count - c.count-in-Less.result in
    let e : upto + c.in-Ok.at ≡ length l + suc c.in-Ok.at = omega (arith, long l n.name r, c.node.invariant, c.count-in-Less.ensures) in
    subst (λ m. IsAt m name (upto + c.in-Ok.at)) (sym all) (stands_after l n.name r name (upto + c.in-Ok.at) c.in-Ok.at e c.in-Ok.ensures.found)

pub returns-in-Err-clause-absent : goal.returns-in-Err-clause-absent
returns-in-Err-clause-absent t c =
    let n = c.node.inside in
    let l = listed n.before in
    let r = listed n.after in
    let name = c.args.name.now in
    let all : listed c.args.tree.now ≡ l ++ n.name ∷ r = ap listed c.in-Some.is ∙ sym c.as_ref-node.ensures ∙ sym c.node.view_is in
    let rise = subst Rise all c.requires in
    let upto = n.count - c.count-in-Less.result in
    let e : upto + c.in-Err.at ≡ length l + suc c.in-Err.at = omega (arith, long l n.name r, c.node.invariant, c.count-in-Less.ensures) in
    subst (λ m. IsGap m name (upto + c.in-Err.at)) (sym all) (goes_after l n.name r name (upto + c.in-Err.at) c.in-Err.at e rise (sym c.in-Less.ensures) c.in-Err.ensures.absent)
