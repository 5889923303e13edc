use Rattle.std.proofs.Common.{◌≡◌, [], drop, map}
use Rattle.std.specs.Ordering.{nat_cmp}
use Rattle.std.specs.Cmp.Lexicographic.{slice_cmp}
use Rattle.wtf_changes.specs.Drafts.{set_all, node_taken}
use Rattle.wtf_changes.proofs.draft.take_paths.Given as goal

abbrev pub invariant-loop-entry : goal.invariant-loop-entry
invariant-loop-entry l = set_all (slice_cmp nat_cmp) l.made.entries (map node_taken (drop l.entry-index l.paths))
    ≡ set_all (slice_cmp nat_cmp) [] (map node_taken l.paths)
