use Rattle.std.proofs.Common.{◌≡◌, ◌∙◌, ◌+◌, ◌≤◌, Some, true, sym, ap, arith}
use Rattle.std.proofs.lemmas.Bool.{leb-true}
use Rattle.wtf_overlay.specs.Origin.{pieces_len}
use Rattle.wtf_kv.specs.Edits.{fits}
use Rattle.wtf_values.specs.Outcomes.{outcome_region}
use Rattle.wtf_values.specs.Regions.{fits_at_end}
use Rattle.wtf_values.proofs.OutcomeLaws.{fits-region}
use Rattle.wtf_values.proofs.cell.region_after.Goals as goal

pub add_all-requires : goal.add_all-requires
add_all-requires c =
    let v = c.args.region in
    let ps = c.in-PushRel.pieces in
    let size = c.in-PushRel.size in
    let fit : fits_at_end (Some v) ps size ≡ true = sym (fits-region v ps size) ∙ ap (λ d. fits (outcome_region (Some v) d)) (sym c.in-PushRel.is) ∙ c.requires in
    let le : v.end + pieces_len ps ≤ size = leb-true _ _ fit in
    let same : pieces_len c.as_slice.result.now ≡ pieces_len ps = ap pieces_len c.as_slice.ensures in
    omega (arith, le, same, c.type_inv._size)
