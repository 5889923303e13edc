use Rattle.std.proofs.Common.{◌∙◌, ◌++◌, ◌∷◌, [], ap, refl}
use Rattle.wtf_kv.specs.declared.changes.Change.TheVariants.{Cut}
use Rattle.wtf_occ.specs.Positions.{listed_positions}
use Rattle.wtf_occ.specs.Known.{IsMade, IsPlaced}
use Rattle.wtf_occ.proofs.Knowing.{AreKnown-nothing}
use Rattle.wtf_occ.proofs.Noted.{index_pushed}
use Rattle.wtf_occ.proofs.write_set.WriteSet.cut_range.Goals as goal

pub invariant_of-self-2 : goal.invariant_of-self-2
invariant_of-self-2 g c =
    let inside = c.self.inside in
    let old = listed_positions inside.positions.entries in (
      index_pushed g.K.Ord.cmp inside.changes c.cut_range.new.self (Cut c.args.from c.args.to) old old inside.cuts.items c.push_position.new.list.items
          c.self.invariant.0 c.in_default.ensures.ok
          (λ q. refl)
          (c.in_default-push_position.ensures.ok ∙ ap (λ n. inside.cuts.items ++ n ∷ []) c.len-position.ensures),
      AreKnown-nothing g.K.Ord.cmp (IsMade g.K.Ord.cmp g.C.Cell.outcome) c.cut_range.new.self c.clear.new.self.entries c.clear.ensures.empty,
      AreKnown-nothing g.K.Ord.cmp (IsPlaced g.K.Ord.cmp g.C.Cell.outcome g.C.Summarized.summary_of) c.cut_range.new.self
          c.clear-2.new.self.entries c.clear-2.ensures.empty,
    )
