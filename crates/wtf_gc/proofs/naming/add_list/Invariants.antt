use Rattle.std.proofs.Common.{◌≡◌, ◌||◌, take}
use Rattle.wtf_base.specs.Places.{Place}
use Rattle.wtf_gc.specs.Extents.{extents_cover}
use Rattle.wtf_gc.specs.Named.{list_has}
use Rattle.wtf_gc.proofs.naming.add_list.Given as goal

abbrev pub invariant-loop-i : goal.invariant-loop-i
invariant-loop-i l = (p : Place) → extents_cover l.found p ≡ (extents_cover l.fn.found p || list_has (take l.i l.list) p)
