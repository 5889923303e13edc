use Rattle.std.proofs.Common.{List, subst, sym}
use Rattle.wtf_gc.specs.declared.extent.Extent.{Extent}
use Rattle.wtf_gc.specs.Extents.{extents_cover}
use Rattle.wtf_gc.specs.Frees.{ranges_of}
use Rattle.wtf_gc.specs.Unused.{IsUnused}
use Rattle.wtf_gc.specs.Views.{mark_in}
use Rattle.wtf_gc.proofs.Ranges.{no_file}
use Rattle.wtf_gc.proofs.garbage.unused_of.Goals as goal

pub loop-file-init : goal.loop-file-init
loop-file-init c =
    subst (λ (l : List Extent). IsUnused c.args.k (mark_in c.args.marks.now) (extents_cover c.args.used.now) 0 (ranges_of l) 0) (sym c.new.ensures.items)
    (no_file c.args.k (mark_in c.args.marks.now) (extents_cover c.args.used.now))
