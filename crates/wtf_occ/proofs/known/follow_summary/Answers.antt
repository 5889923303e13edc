use Rattle.std.proofs.Common.{rules, ◌≡◌, ◌∷◌, ◌++◌, [], None, sym, subst}
use Rattle.std.specs.Map.{lookup}
use Rattle.std.specs.BTreeMap.{is_at}
use Rattle.wtf_occ.specs.Known.{AreSummed, IsKnown, IsPlaced}
use Rattle.wtf_occ.proofs.Knowing.{placed_stays, AreKnown-absent, AreKnown-followed}
use Rattle.wtf_occ.proofs.known.follow_summary.Goals as goal

pub returns-in_default-get_mut : goal.returns-in_default-get_mut
returns-in_default-get_mut g c = λ cs known.
    let order = g.K.Ord.cmp in
    let outcome = g.C.Cell.outcome in
    let summary = g.C.Summarized.summary_of in
    let old = c.args.known.now.entries in
    let none : lookup (is_at (order c.in-Delta.key)) old ≡ None = search rules in
    let same : c.get_mut.follows.lender-at-none.entries ≡ old = search rules in
    subst (λ es. AreSummed order outcome summary (cs ++ c.args.change.now ∷ []) es) (sym same)
    (subst (λ change. AreSummed order outcome summary (cs ++ change ∷ []) old) (sym c.in-Delta.is)
    (AreKnown-absent order (IsPlaced order outcome summary) (placed_stays order outcome summary) g.met.K.StoreKey.exact cs old old
    c.in-Delta.key c.in-Delta.field-1 none known))

pub returns : goal.returns
returns g c = λ cs known.
    let order = g.K.Ord.cmp in
    let outcome = g.C.Cell.outcome in
    let summary = g.C.Summarized.summary_of in
    let old = c.args.known.now.entries in
    let key = c.in-Delta.key in
    let w = c.followed.result in
    let held = c.get_mut.follows.holds w in
    let new = (c.get_mut.follows.lender w).entries in
    subst (λ change. AreSummed order outcome summary (cs ++ change ∷ []) new) (sym c.in-Delta.is)
    (AreKnown-followed order (IsPlaced order outcome summary) (placed_stays order outcome summary) g.met.K.StoreKey.exact cs old new key c.in-Delta.field-1 w
    (subst (λ change. IsPlaced order outcome summary (cs ++ change ∷ []) key w) c.in-Delta.is
    (c.followed.ensures cs (subst (IsKnown order (IsPlaced order outcome summary) cs key) (sym c.in-Some.ensures.value) (known.each key))))
    (held.3 (search rules)).0 known)
