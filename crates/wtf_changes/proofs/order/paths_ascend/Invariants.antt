use Rattle.std.proofs.Common.{◌≡◌, drop}
use Rattle.wtf_imagefmt.specs.Shapes.{ascends_from, ascends}
use Rattle.wtf_changes.specs.Shapes.{path_before}
use Rattle.wtf_changes.proofs.order.paths_ascend.Given as goal

abbrev pub invariant-loop-path : goal.invariant-loop-path
invariant-loop-path l = ascends_from path_before l.before (drop l.path-index l.rest) ≡ ascends path_before l.paths
