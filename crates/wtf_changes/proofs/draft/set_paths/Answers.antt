use Rattle.std.proofs.Common.{map, drop, ◌+◌, ap}
use Rattle.std.specs.Ordering.{nat_cmp}
use Rattle.std.specs.Cmp.Lexicographic.{slice_cmp}
use Rattle.wtf_changes.specs.Drafts.{set_all, node_change}
use Rattle.wtf_changes.proofs.Steps.{stepped}
use Rattle.wtf_changes.proofs.draft.set_paths.Goals as goal

pub loop-change-preserved : goal.loop-change-preserved
loop-change-preserved c =
    let cs = c.args.changes.now in
    let i = c.loop-change.change-index in
    stepped (λ es cs. set_all (slice_cmp nat_cmp) es (map node_change cs)) cs i c.change-item.result c.loop-change-test.true c.change-item.is
    c.loop-change.paths.entries c.set_path.new.paths.entries (set_all (slice_cmp nat_cmp) c.args.paths.now.entries (map node_change cs))
    (ap (λ es. set_all (slice_cmp nat_cmp) es (map node_change (drop (i + 1) cs))) c.in_ok-set_path.ensures) c.loop-change.invariant
