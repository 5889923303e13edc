use Rattle.std.proofs.Common.{sym, ◌∙◌}
use Rattle.wtf_imagefmt.specs.Rows.{EntryRow, entry_row}
use Rattle.wtf_image.specs.Rules.{is_lost, is_part_inside_without, size_in}
use Rattle.wtf_image.proofs.Elements.{all_fails, all_more}
use Rattle.wtf_image.proofs.inside.is_list_inside.Goals as goal

pub returns-then-not-is_part_inside : goal.returns-then-not-is_part_inside
returns-then-not-is_part_inside g c =
    sym (all_fails (λ (e : EntryRow). is_part_inside_without (is_lost c.args.lost) c.args.servers (size_in g.S.SliceStore.kind c.args.shelf.now) e.part)
    entry_row c.args.list.now c.loop-i.i c.get.result c.get.ensures (sym c.is_part_inside.ensures ∙ c.if-not-is_part_inside.true))

pub loop-i-preserved : goal.loop-i-preserved
loop-i-preserved g c =
    all_more (λ (e : EntryRow). is_part_inside_without (is_lost c.args.lost) c.args.servers (size_in g.S.SliceStore.kind c.args.shelf.now) e.part)
    entry_row c.args.list.now c.loop-i.i c.get.result c.get.ensures (sym c.is_part_inside.ensures ∙ c.if-not-is_part_inside.false) c.loop-i.invariant
