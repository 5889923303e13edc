use Rattle.std.proofs.Common.{◌||◌, ap, ◌∙◌}
use Rattle.wtf_base.specs.Slices.{pointers_of}
use Rattle.wtf_gc.specs.Extents.{extents_cover}
use Rattle.wtf_gc.specs.Named.{pointer_has}
use Rattle.wtf_gc.proofs.Adding.{any_told}
use Rattle.wtf_gc.proofs.naming.add_slice.Goals as goal

pub loop-i-preserved : goal.loop-i-preserved
loop-i-preserved c = λ p.
    any_told (λ q. pointer_has q p) (pointers_of c.args.slice.now) c.loop-i.i c.pointer.result c.pointer.ensures.value
    (extents_cover c.args.found.now p) (extents_cover c.loop-i.found p) (extents_cover c.add.new.self p) (c.loop-i.invariant p)
    (c.in_ok-add.ensures.ok p ∙ ap (λ b. extents_cover c.loop-i.found p || b) (c.extent_of.ensures p))
