use Rattle.std.proofs.Common.{◌≡◌, take}
use Rattle.wtf_base.specs.Places.{Place}
use Rattle.wtf_gc.specs.Extents.{extents_cover}
use Rattle.wtf_gc.proofs.extents.merged.Given as goal

abbrev pub invariant-loop-e : goal.invariant-loop-e
invariant-loop-e l = (p : Place) → extents_cover l.out.items p ≡ extents_cover (take l.e-index l.extents) p
