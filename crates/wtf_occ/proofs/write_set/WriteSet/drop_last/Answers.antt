use Rattle.std.proofs.Common.{sym, ap, ◌∙◌, ◌≡◌, ◌<◌, ◌-◌, ◌∷◌, ◌++◌, [], take, length, get_or, subst}
use Rattle.wtf_occ.specs.Positions.{listed_positions}
use Rattle.wtf_occ.specs.Known.{AreMade, AreSummed, IsMade, IsPlaced}
use Rattle.wtf_occ.proofs.Knowing.{AreKnown-back, made_stays, placed_stays}
use Rattle.wtf_occ.proofs.Noted.{index_dropped, ends_with}
use Rattle.wtf_occ.proofs.write_set.WriteSet.drop_last.Goals as goal

pub invariant_of-self : goal.invariant_of-self
invariant_of-self g c =
    let order = g.K.Ord.cmp in
    let outcome = g.C.Cell.outcome in
    let summary = g.C.Summarized.summary_of in
    let inside = c.self.inside in
    let all = inside.changes in
    let change = c.index-all-last.result in
    let some : 0 < length all = subst (λ l. 0 < length l) (sym c.self.view_is) c.requires in
    let last : c.len-last.result - 1 ≡ length all - 1 = ap (λ n. n - 1) c.len-last.ensures in
    let is : change ≡ get_or all (length all - 1) change = c.index-all-last.is ∙ ap (λ l. get_or l (c.len-last.result - 1) change) c.as_slice-all.ensures ∙ ap (λ n. get_or all n change) last in
    let ends : all ≡ c.shorten.new.self ++ change ∷ [] = ends_with all change some is ∙ ap (λ l. l ++ change ∷ []) (sym (c.shorten.ensures ∙ ap (λ n. take n all) last)) in (
      index_dropped g.K.Ord.cmp c.shorten.new.self all change (listed_positions c.forget.new.positions.entries) (listed_positions inside.positions.entries) c.forget.new.cuts.items inside.cuts.items
          c.self.invariant.0
          ends
          c.forget.ensures.deltas
          c.forget.ensures.cuts,
      AreKnown-back order (IsMade order outcome) (made_stays order outcome) g.met.K.StoreKey.exact c.shorten.new.self inside.known.entries c.unlearn.new.known.entries change c.unlearn.ensures
          (subst (λ l. AreMade order outcome l inside.known.entries) ends c.self.invariant.1),
      AreKnown-back order (IsPlaced order outcome summary) (placed_stays order outcome summary) g.met.K.StoreKey.exact c.shorten.new.self
          inside.summaries.entries c.unlearn-2.new.known.entries change c.unlearn-2.ensures
          (subst (λ l. AreSummed order outcome summary l inside.summaries.entries) ends c.self.invariant.2),
    )
