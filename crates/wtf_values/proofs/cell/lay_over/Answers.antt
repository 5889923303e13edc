use Rattle.std.proofs.Common.{◌∙◌, Option, Some, sym, ap}
use Rattle.wtf_kv.specs.Edits.{value_made}
use Rattle.wtf_values.specs.declared.region.RegionValue.{RegionValue}
use Rattle.wtf_values.specs.declared.value.Value.{Value}
use Rattle.wtf_values.specs.declared.value.Value.TheVariants.{Region}
use Rattle.wtf_values.specs.declared.value.Delta.TheVariants.{Push}
use Rattle.wtf_values.specs.Outcomes.{outcome_kind}
use Rattle.wtf_values.specs.Regions.{pushed}
use Rattle.wtf_values.proofs.cell.lay_over.Goals as goal

pub returns-in_ok-lay-in-None : goal.returns-in_ok-lay-in-None
returns-in_ok-lay-in-None c =
    ap (λ (v : RegionValue). Some (Region v)) (c.in_ok-lay-in-None.ensures ∙ ap (λ (v : RegionValue). pushed (Some v) c.args.e.now) c.in_ok-region-in-None.ensures)
    ∙ ap (λ (o : Option Value). value_made (outcome_kind o (Push c.args.e.now)) o) (sym c.in-None.is)
