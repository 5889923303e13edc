use Rattle.wtf_overlay.specs.declared.part.Entry.{Entry}
use Rattle.wtf_gc.specs.Extents.{extents_cover}
use Rattle.wtf_gc.specs.Named.{part_has}
use Rattle.wtf_gc.proofs.Adding.{any_told}
use Rattle.wtf_gc.proofs.naming.add_list.Goals as goal

pub loop-i-preserved : goal.loop-i-preserved
loop-i-preserved c = λ p.
    any_told (λ (e : Entry). part_has e.part p) c.args.list.now c.loop-i.i c.get-e.result c.get-e.ensures
    (extents_cover c.args.found.now p) (extents_cover c.loop-i.found p) (extents_cover c.add_part.new.found p) (c.loop-i.invariant p)
    (c.in_ok-add_part.ensures p)
