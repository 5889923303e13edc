use Rattle.std.proofs.Common.{◌≡◌, ◌∙◌, ◌++◌, ◌∷◌, [], ap, sym, subst, refl, cond, get_or}
use Rattle.std.specs.BTreeMap.{is_at}
use Rattle.wtf_kv.specs.declared.changes.Change.TheVariants.{Delta}
use Rattle.wtf_occ.specs.Known.{AreMade, AreSummed}
use Rattle.wtf_occ.specs.Positions.{listed_positions, positions_of, is_delta_of}
use Rattle.wtf_occ.proofs.Noted.{index_pushed, last_is}
use Rattle.wtf_occ.proofs.write_set.WriteSet.delta.Goals as goal

pub invariant_of-self-2 : goal.invariant_of-self-2
invariant_of-self-2 g c =
    let order = g.K.Ord.cmp in
    let inside = c.self.inside in
    let old = listed_positions inside.positions.entries in
    let all = c.delta.new.self in
    let made = Delta c.args.key c.args.d in
    let change = c.index-all-position.result in
    let pushed : all ≡ inside.changes ++ made ∷ [] = c.in_default.ensures.ok in
    let last : change ≡ made = last_is inside.changes all made change c.len-position.result pushed c.len-position.ensures (c.index-all-position.is ∙ ap (λ l. get_or l c.len-position.result change) c.as_slice-all.ensures) in (
      index_pushed order inside.changes all made old (listed_positions c.note_delta.new.positions.entries) inside.cuts.items inside.cuts.items
          c.self.invariant.0 pushed
          (λ q. c.in-Ok.ensures.ok q
          ∙ ap (λ d. cond (is_delta_of order q d) (positions_of order old q ++ c.len-position.result ∷ []) (positions_of order old q)) last
          ∙ ap (λ n. cond (is_at (order c.args.key) q) (positions_of order old q ++ n ∷ []) (positions_of order old q)) c.len-position.ensures)
          refl,
      subst (λ l. AreMade order g.C.Cell.outcome l c.follow.new.known.entries) (ap (λ x. inside.changes ++ x ∷ []) last ∙ sym pushed) (c.follow.ensures inside.changes c.self.invariant.1),
      subst (λ l. AreSummed order g.C.Cell.outcome g.C.Summarized.summary_of l c.follow_place.new.known.entries) (ap (λ x. inside.changes ++ x ∷ []) last ∙ sym pushed) (c.follow_place.ensures inside.changes c.self.invariant.2),
    )
