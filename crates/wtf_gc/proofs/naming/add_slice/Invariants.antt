use Rattle.std.proofs.Common.{◌≡◌, ◌||◌, take}
use Rattle.std.specs.List.{list_any}
use Rattle.wtf_base.specs.Places.{Place}
use Rattle.wtf_base.specs.Slices.{pointers_of}
use Rattle.wtf_gc.specs.Extents.{extents_cover}
use Rattle.wtf_gc.specs.Named.{pointer_has}
use Rattle.wtf_gc.proofs.naming.add_slice.Given as goal

abbrev pub invariant-loop-i : goal.invariant-loop-i
invariant-loop-i l = (p : Place) → extents_cover l.found p ≡ (extents_cover l.fn.found p || list_any (λ q. pointer_has q p) (take l.i (pointers_of l.slice)))
