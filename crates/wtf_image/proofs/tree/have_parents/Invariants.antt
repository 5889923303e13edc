use Rattle.std.proofs.Common.{◌≡◌, drop}
use Rattle.std.specs.List.{list_all}
use Rattle.wtf_image.specs.Tables.{shown, has_shown_parent}
use Rattle.wtf_image.proofs.tree.have_parents.Given as goal

abbrev pub invariant-loop-record : goal.invariant-loop-record
invariant-loop-record l = list_all (has_shown_parent (shown l.kv)) (drop l.record-index l.paths) ≡ list_all (has_shown_parent (shown l.kv)) l.paths
