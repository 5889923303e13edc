use Rattle.std.proofs.Common.{◌≡◌, ℕ, List, ◌++◌, length}
use Rattle.std.specs.Ordering.{nat_cmp}
use Rattle.wtf_machine.specs.declared.labels.Cursor.{Cursor}
use Rattle.wtf_machine.specs.Maps.{map_of, handle_of}
use Rattle.wtf_machine.proofs.labels.Handles.share.Given as goal

-- what was taken from the back is shared already
abbrev pub invariant-loop-f : goal.invariant-loop-f
invariant-loop-f l = (done : List (ℕ × Cursor)) × (l.self ≡ map_of nat_cmp handle_of (l.rest ++ done)) × (l.shared ≡ map_of nat_cmp handle_of done)

abbrev pub decreases-loop-f : goal.decreases-loop-f
decreases-loop-f l = length l.rest
