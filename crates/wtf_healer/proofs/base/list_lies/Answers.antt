use Rattle.std.proofs.Common.{sym, ◌∙◌}
use Rattle.wtf_overlay.specs.declared.part.Entry.{Entry}
use Rattle.wtf_replica.specs.Downs.{is_down}
use Rattle.wtf_replica.specs.Inside.{size_in}
use Rattle.wtf_healer.specs.Bases.{part_lies}
use Rattle.wtf_healer.proofs.Walks.{all_more, all_not}
use Rattle.wtf_healer.proofs.base.list_lies.Goals as goal

pub loop-i-preserved : goal.loop-i-preserved
loop-i-preserved g c =
    all_more (λ (e : Entry). part_lies (is_down c.args.replicas.now) c.args.servers (size_in g.S.SliceStore.kind c.args.shelf.now) e.part) c.args.list.now
    c.loop-i.i c.get-e.result c.get-e.ensures (sym c.part_lies.ensures ∙ c.if-not-part_lies.false) c.loop-i.invariant

pub returns-then-not-part_lies : goal.returns-then-not-part_lies
returns-then-not-part_lies g c =
    sym (all_not (λ (e : Entry). part_lies (is_down c.args.replicas.now) c.args.servers (size_in g.S.SliceStore.kind c.args.shelf.now) e.part) c.args.list.now
    c.loop-i.i c.get-e.result c.get-e.ensures (sym c.part_lies.ensures ∙ c.if-not-part_lies.true))
