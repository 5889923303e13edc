use Rattle.std.proofs.Common.{rules, ◌≡◌, ◌∷◌, ◌++◌, [], None, ap, sym, subst, ◌∙◌}
use Rattle.std.specs.Map.{lookup}
use Rattle.std.specs.BTreeMap.{is_at}
use Rattle.wtf_kv.specs.Edits.{after_change}
use Rattle.wtf_occ.specs.Known.{AreMade, IsKnown, IsMade}
use Rattle.wtf_occ.proofs.Knowing.{gone_both, made_stays, made_followed, AreKnown-absent, AreKnown-dropped, AreKnown-followed}
use Rattle.wtf_occ.proofs.known.follow.Goals as goal

pub returns-in_default-get_mut : goal.returns-in_default-get_mut
returns-in_default-get_mut g c = λ cs made.
    let order = g.K.Ord.cmp in
    let outcome = g.C.Cell.outcome in
    let old = c.args.known.now.entries in
    let none : lookup (is_at (order c.in-Delta.key)) old ≡ None = search rules in
    let same : c.get_mut.follows.lender-at-none.entries ≡ old = search rules in
    subst (λ es. AreMade order outcome (cs ++ c.args.change.now ∷ []) es) (sym same)
    (subst (λ change. AreMade order outcome (cs ++ change ∷ []) old) (sym c.in-Delta.is)
    (AreKnown-absent order (IsMade order outcome) (made_stays order outcome) g.met.K.StoreKey.exact cs old old c.in-Delta.key c.in-Delta.field-1 none made))

pub returns-in-Err : goal.returns-in-Err
returns-in-Err g c = λ cs made.
    let order = g.K.Ord.cmp in
    let outcome = g.C.Cell.outcome in
    let old = c.args.known.now.entries in
    let w = c.follow.new.self in
    let held = c.get_mut.follows.holds w in
    subst (λ change. AreMade order outcome (cs ++ change ∷ []) c.remove.new.self.entries) (sym c.in-Delta.is)
    (AreKnown-dropped order (IsMade order outcome) (made_stays order outcome) g.met.K.StoreKey.exact cs old c.remove.new.self.entries c.in-Delta.key c.in-Delta.field-1
    (gone_both order old _ c.remove.new.self.entries c.in-Delta.key w c.remove.ensures.updates.0 (held.3 (search rules)).0) made)

pub returns-in-Ok : goal.returns-in-Ok
returns-in-Ok g c = λ cs made.
    let order = g.K.Ord.cmp in
    let outcome = g.C.Cell.outcome in
    let old = c.args.known.now.entries in
    let key = c.in-Delta.key in
    let stood = c.in-Some.value.now in
    let w = c.follow.new.self in
    let held = c.get_mut.follows.holds w in
    let is = c.in-Ok.ensures ∙ ap (λ change. record stood { after = after_change order outcome change key stood.after }) c.in-Delta.is in
    let new = (c.get_mut.follows.lender w).entries in
    subst (λ change. AreMade order outcome (cs ++ change ∷ []) new) (sym c.in-Delta.is)
    (AreKnown-followed order (IsMade order outcome) (made_stays order outcome) g.met.K.StoreKey.exact cs old new key c.in-Delta.field-1 w
    (made_followed order outcome cs key c.in-Delta.field-1 stood w is (subst (IsKnown order (IsMade order outcome) cs key) (sym c.in-Some.ensures.value) (made.each key)))
    (held.3 (search rules)).0 made)
