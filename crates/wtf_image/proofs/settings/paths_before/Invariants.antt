use Rattle.std.proofs.Common.{◌≡◌, true, take}
use Rattle.std.specs.List.{list_all}
use Rattle.wtf_image.specs.Rules.{is_node_before}
use Rattle.wtf_image.proofs.settings.paths_before.Given as goal

abbrev pub invariant-loop-record : goal.invariant-loop-record
invariant-loop-record l = list_all (λ r. is_node_before l.tx r.node) (take l.record-index l.paths) ≡ true
