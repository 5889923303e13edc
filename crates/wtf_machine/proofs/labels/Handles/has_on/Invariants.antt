use Rattle.std.proofs.Common.{◌≡◌, length, map}
use Rattle.std.specs.List.{list_any}
use Rattle.std.specs.FinMap.{values}
use Rattle.wtf_model.specs.Done.{is_on}
use Rattle.wtf_machine.specs.Maps.{handle_of}
use Rattle.wtf_machine.proofs.labels.Handles.has_on.Given as goal

-- no handle so far is on the path, so the others decide
abbrev pub invariant-loop-handle : goal.invariant-loop-handle
invariant-loop-handle l = list_any (is_on l.path) (map (λ e. handle_of e.1) l.rest) ≡ list_any (is_on l.path) (values l.self)

abbrev pub decreases-loop-handle : goal.decreases-loop-handle
decreases-loop-handle l = length l.rest
