use Rattle.std.proofs.Common.{◌≡◌, ◌++◌, take}
use Rattle.wtf_overlay.proofs.overlay.Overlay.with_each.Given as goal

abbrev pub invariant-loop-e : goal.invariant-loop-e
invariant-loop-e l = l.list ≡ l.self ++ take l.e-index l.entries
