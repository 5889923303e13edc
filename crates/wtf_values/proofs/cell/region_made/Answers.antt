use Rattle.std.proofs.Common.{◌≡◌, ◌∙◌, None, Some, true, sym, ap}
use Rattle.wtf_kv.specs.Edits.{fits, value_made}
use Rattle.wtf_values.specs.Outcomes.{makes_region, outcome_region}
use Rattle.wtf_values.proofs.OutcomeLaws.{makes_of_empty}
use Rattle.wtf_values.proofs.cell.region_made.Goals as goal

pub region_after-requires : goal.region_after-requires
region_after-requires c =
    let d = c.args.delta.now in
    let makes : makes_region d ≡ true = sym c.makes_region.ensures ∙ c.if-makes_region.true in
    ap (λ v. fits (outcome_region (Some v) d)) c.in_ok-empty.ensures ∙ ap fits (makes_of_empty d makes) ∙ c.requires

pub returns-then-makes_region : goal.returns-then-makes_region
returns-then-makes_region c =
    let d = c.args.delta.now in
    let makes : makes_region d ≡ true = sym c.makes_region.ensures ∙ c.if-makes_region.true in
    sym (ap (λ o. value_made o None) (sym (makes_of_empty d makes) ∙ ap (λ v. outcome_region (Some v) d) (sym c.in_ok-empty.ensures)
    ∙ c.in_ok-region_after.ensures))
