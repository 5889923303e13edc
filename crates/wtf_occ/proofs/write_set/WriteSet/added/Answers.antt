use Rattle.std.proofs.Common.{rules, ◌≡◌, ◌-◌, ◌∙◌, ◌++◌, None, ap, sym, subst, arith, cond, map, length, length-append}
use Rattle.std.proofs.lemmas.List.{length-map}
use Rattle.std.specs.Map.{lookup}
use Rattle.std.specs.Option.{unwrap_or}
use Rattle.std.specs.BTreeMap.{is_at}
use Rattle.wtf_kv.specs.declared.changes.Change.TheVariants.{Delta}
use Rattle.wtf_occ.specs.Known.{AreMade, AreSummed, IsKnown, IsMade, IsPlaced}
use Rattle.wtf_occ.specs.Positions.{listed_positions, positions_of, upto}
use Rattle.wtf_occ.proofs.Knowing.{AreKnown-free, made_stays, placed_stays, placed_free}
use Rattle.wtf_occ.proofs.Several.{index_ran}
use Rattle.wtf_occ.proofs.write_set.WriteSet.added.Goals as goal

pub invariant_of-self-2 : goal.invariant_of-self-2
invariant_of-self-2 g c =
    let order = g.K.Ord.cmp in
    let outcome = g.C.Cell.outcome in
    let summary = g.C.Summarized.summary_of in
    let exact = g.met.K.StoreKey.exact in
    let inside = c.self.inside in
    let key = c.args.key.now in
    let ds = c.args.ds.items in
    let cs = inside.changes in
    let all = c.add_all.new.changes in
    let old = listed_positions inside.positions.entries in
    let added : all ≡ cs ++ map (Delta key) ds = c.in_ok-add_all.ensures.ok in
    let many : c.len-to.result - c.len-from.result ≡ length ds =
    omega (arith, c.len-to.ensures, c.len-from.ensures, ap length added, length-append cs (map (Delta key) ds), length-map ds (Delta key)) in
    let unknown : lookup (is_at (order key)) inside.known.entries ≡ None = search rules in
    let unplaced : unwrap_or (lookup (is_at (order key)) inside.summaries.entries) None ≡ None = search rules in (
      index_ran order key cs all ds old (listed_positions c.note_added.new.positions.entries) inside.cuts.items c.self.invariant.0 added
          (λ q. c.in_default.ensures.ok q
          ∙ ap (λ n. cond (is_at (order key) q) (positions_of order old q ++ upto c.len-from.result n) (positions_of order old q)) many
          ∙ ap (λ n. cond (is_at (order key) q) (positions_of order old q ++ upto n (length ds)) (positions_of order old q)) c.len-from.ensures),
      subst (λ l. AreMade order outcome l inside.known.entries) (sym added)
          (AreKnown-free order (IsMade order outcome) (made_stays order outcome) exact key inside.known.entries
          (λ l. subst (IsKnown order (IsMade order outcome) l key) (sym unknown) tt) ds cs c.self.invariant.1),
      subst (λ l. AreSummed order outcome summary l c.place_for.new.known.entries) (sym added)
          (c.place_for.ensures (cs ++ map (Delta key) ds)
          (AreKnown-free order (IsPlaced order outcome summary) (placed_stays order outcome summary) exact key inside.summaries.entries
          (placed_free order outcome summary key (lookup (is_at (order key)) inside.summaries.entries) unplaced) ds cs c.self.invariant.2)),
    )
