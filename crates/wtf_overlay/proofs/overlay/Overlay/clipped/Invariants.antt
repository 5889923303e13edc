use Rattle.std.proofs.Common.{◌≡◌, take}
use Rattle.wtf_overlay.specs.Clips.{clip_list}
use Rattle.wtf_overlay.proofs.overlay.Overlay.clipped.Given as goal

abbrev pub invariant-loop-i : goal.invariant-loop-i
invariant-loop-i l = l.out ≡ clip_list l.end (take l.i l.self)
