use Rattle.std.proofs.Common.{◌∙◌, Option, Some, sym, ap}
use Rattle.wtf_values.specs.declared.region.RegionValue.{RegionValue}
use Rattle.wtf_values.specs.declared.value.Value.{Value}
use Rattle.wtf_values.specs.declared.value.Value.TheVariants.{Region}
use Rattle.wtf_values.specs.Pushes.{laid_all}
use Rattle.wtf_values.specs.Regions.{pushed_all}
use Rattle.wtf_values.proofs.cell.lay_all.Goals as goal

pub returns-in_ok-lay_all-in-None : goal.returns-in_ok-lay_all-in-None
returns-in_ok-lay_all-in-None c =
    ap (λ (v : RegionValue). Some (Region v)) (c.in_ok-lay_all-in-None.ensures ∙ ap (λ (v : RegionValue). pushed_all v c.args.entries.now) c.in_ok-region-in-None.ensures)
    ∙ ap (λ (o : Option Value). laid_all o c.args.entries.now) (sym c.in-None.is)
