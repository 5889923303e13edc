use Rattle.wtf_gc.specs.Extents.{extents_cover}
use Rattle.wtf_gc.specs.Frees.{ranges_of}
use Rattle.wtf_gc.specs.Unused.{IsUnused}
use Rattle.wtf_gc.specs.Views.{mark_in}
use Rattle.wtf_gc.proofs.garbage.unused_of.Given as goal

abbrev pub invariant-loop-file : goal.invariant-loop-file
invariant-loop-file l = IsUnused l.k (mark_in l.marks) (extents_cover l.used) l.file (ranges_of l.all.extents.items) l.all.bytes
