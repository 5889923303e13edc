use Rattle.std.proofs.Common.{◌≡◌, drop, map}
use Rattle.std.specs.Ordering.{nat_cmp}
use Rattle.std.specs.Cmp.Lexicographic.{slice_cmp}
use Rattle.wtf_changes.specs.Drafts.{set_all, node_change}
use Rattle.wtf_changes.proofs.draft.set_paths.Given as goal

abbrev pub invariant-loop-change : goal.invariant-loop-change
invariant-loop-change l = set_all (slice_cmp nat_cmp) l.paths.entries (map node_change (drop l.change-index l.changes))
    ≡ set_all (slice_cmp nat_cmp) l.initial.paths.entries (map node_change l.changes)
