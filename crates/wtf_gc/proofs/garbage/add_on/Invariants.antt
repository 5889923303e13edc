use Rattle.std.proofs.Common.{◌≡◌, ◌||◌, take}
use Rattle.wtf_base.specs.Places.{Place}
use Rattle.wtf_gc.specs.Extents.{extents_cover}
use Rattle.wtf_gc.proofs.garbage.add_on.Given as goal

abbrev pub invariant-loop-e : goal.invariant-loop-e
invariant-loop-e l = (p : Place) → p.server ≡ l.k → extents_cover l.to.items p ≡ (extents_cover l.fn.to.items p || extents_cover (take l.e-index l.extents) p)
