use Rattle.std.proofs.Common.{◌≡◌, ℕ, List, ◌++◌, length}
use Rattle.std.specs.declared.alloc.Global.{Global}
use Rattle.std.specs.declared.rc.RcSlice.{RcSlice}
use Rattle.std.specs.Rc.{rc_slice_items}
use Rattle.std.specs.Ordering.{nat_cmp}
use Rattle.wtf_machine.specs.Maps.{map_of}
use Rattle.wtf_machine.proofs.labels.Slices.share.Given as goal

-- what was taken from the back is shared already
abbrev pub invariant-loop-label : goal.invariant-loop-label
invariant-loop-label l = (done : List (ℕ × RcSlice ℕ Global)) × (l.self ≡ map_of nat_cmp rc_slice_items (l.rest ++ done))
    × (l.shared ≡ map_of nat_cmp rc_slice_items done)

abbrev pub decreases-loop-label : goal.decreases-loop-label
decreases-loop-label l = length l.rest
