use Rattle.std.proofs.Common.{◌≡◌, drop, Some}
use Rattle.wtf_values.specs.declared.region.RegionValue.{RegionValue}
use Rattle.wtf_values.specs.declared.value.Value.TheVariants.{Region}
use Rattle.wtf_values.specs.Keys.{key_cmp}
use Rattle.wtf_values.specs.Outcomes.{outcome_of}
use Rattle.wtf_values.specs.Regions.{pushed_all}
use Rattle.wtf_occ.specs.Positions.{after_positions}
use Rattle.wtf_region.proofs.own.entries_at.Given as goal

abbrev pub invariant-loop-position : goal.invariant-loop-position
invariant-loop-position l = (v : RegionValue) → after_positions key_cmp outcome_of l.changes l.key 0 (drop l.position-index l.positions) (Some (Region (pushed_all v l.entries.items)))
    ≡ after_positions key_cmp outcome_of l.changes l.key 0 l.positions (Some (Region v))
