use Rattle.wtf_core.proofs.Common.{EachFollows, is_down, span, subst}
use Rattle.wtf_core.proofs.{Lent.either, Lent.ok_map, SaveLaws.line_lengths}
use Rattle.wtf_core.proofs.store.Core.save.Goals as goal

-- a save punches nothing
pub returns-clause-follows : goal.returns-clause-follows
returns-clause-follows g c =
    let did = c.take.ensures in
    either c.take.result did.does did.fails
    (λ a d. subst (EachFollows g.S.SliceStore.kind c.args.shelf.now c.take.new.shelf) d.punched.punches.are.0 d.punched.punches.follows) (λ f. f.follows)

-- and adds no byte
pub returns-clause-lengths : goal.returns-clause-lengths
returns-clause-lengths g c =
    let old = c.args.self.now in
    ok_map c.take.result c.take.ensures.does
    (λ a d. line_lengths g.S.SliceStore.kind (span (is_down old.replicas) c.args.shelf.now c.take.new.shelf) old.settings old c.take.new.self a d.turn
    d.stored.adds)
