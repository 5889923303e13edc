use Rattle.std.proofs.Common.{◌≡◌, ◌∙◌, None, true, false, sym, ap}
use Rattle.wtf_kv.specs.Edits.{fits, value_made}
use Rattle.wtf_values.specs.Outcomes.{adds_link}
use Rattle.wtf_values.proofs.OutcomeLaws.{none_counts, none_region}
use Rattle.wtf_values.proofs.cell.none_after.Goals as goal

pub returns-then-adds_link : goal.returns-then-adds_link
returns-then-adds_link c =
    let d = c.args.delta.now in
    let adds : adds_link d ≡ true = sym c.adds_link.ensures ∙ c.if-adds_link.true in
    sym (ap (λ o. value_made o None) (none_counts d adds))

pub region_made-requires : goal.region_made-requires
region_made-requires c =
    let d = c.args.delta.now in
    let other : adds_link d ≡ false = sym c.adds_link.ensures ∙ c.if-adds_link.false in
    ap fits (sym (none_region d other)) ∙ c.requires

pub returns : goal.returns
returns c =
    let d = c.args.delta.now in
    let other : adds_link d ≡ false = sym c.adds_link.ensures ∙ c.if-adds_link.false in
    c.in_ok-region_made.ensures ∙ ap (λ o. value_made o None) (sym (none_region d other))
