use Rattle.std.proofs.Common.{◌≡◌, drop}
use Rattle.std.specs.List.{list_all}
use Rattle.wtf_image.specs.Tables.{shown, is_shown_node}
use Rattle.wtf_image.proofs.tree.are_recorded.Given as goal

abbrev pub invariant-loop-record : goal.invariant-loop-record
invariant-loop-record l = list_all (λ r. is_shown_node (shown l.kv) r.node) (drop l.record-index l.paths)
    ≡ list_all (λ r. is_shown_node (shown l.kv) r.node) l.paths
