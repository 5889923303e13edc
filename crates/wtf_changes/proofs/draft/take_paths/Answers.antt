use Rattle.std.proofs.Common.{map, drop, ◌+◌, [], ap, ◌∙◌}
use Rattle.std.specs.Ordering.{nat_cmp}
use Rattle.std.specs.Cmp.Lexicographic.{slice_cmp}
use Rattle.std.specs.BTreeMap.{insert_entry}
use Rattle.wtf_changes.specs.Drafts.{set_all, node_taken}
use Rattle.wtf_changes.proofs.Steps.{stepped}
use Rattle.wtf_changes.proofs.draft.take_paths.Goals as goal

pub loop-entry-preserved : goal.loop-entry-preserved
loop-entry-preserved c =
    let rs = c.args.paths.now in
    let r = c.entry-item.result in
    let i = c.loop-entry.entry-index in
    let es = c.loop-entry.made.entries in
    let made = c.in_ok-insert.ensures.entries ∙ ap (λ p. insert_entry (slice_cmp nat_cmp) es p r.node) c.in_ok-path.ensures in
    stepped (λ es rs. set_all (slice_cmp nat_cmp) es (map node_taken rs)) rs i r c.loop-entry-test.true c.entry-item.is
    es c.insert.new.self.entries (set_all (slice_cmp nat_cmp) [] (map node_taken rs))
    (ap (λ es. set_all (slice_cmp nat_cmp) es (map node_taken (drop (i + 1) rs))) made) c.loop-entry.invariant
