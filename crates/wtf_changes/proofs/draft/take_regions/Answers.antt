use Rattle.std.proofs.Common.{map, drop, ◌+◌, ap, ◌∙◌}
use Rattle.std.specs.Ordering.{nat_cmp}
use Rattle.std.specs.BTreeMap.{insert_entry}
use Rattle.wtf_imagefmt.specs.Rows.{value_row, region_rows}
use Rattle.wtf_changes.specs.Drafts.{set_all, value_taken, regions_taken}
use Rattle.wtf_changes.specs.Kept.{seen}
use Rattle.wtf_changes.proofs.Seen.{insert-seen}
use Rattle.wtf_changes.proofs.Steps.{stepped}
use Rattle.wtf_changes.proofs.draft.take_regions.Goals as goal

pub loop-region-preserved : goal.loop-region-preserved
loop-region-preserved c =
    let rs = c.args.regions.now in
    let r = c.region-item.result in
    let i = c.loop-region.region-index in
    let es = c.loop-region.made.entries in
    let made = ap (seen value_row) (c.in_ok-insert.ensures.entries ∙ ap (λ v. insert_entry nat_cmp es r.number v) c.in_ok-value.ensures)
    ∙ insert-seen nat_cmp value_row es r.number r.value in
    stepped (λ es rs. set_all nat_cmp es (map value_taken (region_rows rs))) rs i r c.loop-region-test.true c.region-item.is
    (seen value_row es) (seen value_row c.insert.new.self.entries) (regions_taken (region_rows rs))
    (ap (λ es. set_all nat_cmp es (map value_taken (region_rows (drop (i + 1) rs)))) made) c.loop-region.invariant
