use Rattle.std.proofs.Common.{ap, refl, arith}
use Rattle.wtf_kv.specs.declared.cell.Applied.TheVariants.{Is}
use Rattle.wtf_values.specs.declared.region.RegionValue.{RegionValue}
use Rattle.wtf_values.specs.declared.value.Value.TheVariants.{Region}
use Rattle.wtf_values.proofs.RegionLaws.{zeroed_in-none, zeroed_in-end}
use Rattle.wtf_values.proofs.examples.zeroes_regions.Goals as goal

pub returns : goal.returns
returns c = record {
  missing = λ from upto. refl;
  past = λ v from upto le. ap (λ (w : RegionValue). Is (Region w)) (zeroed_in-none from upto v (omega arith));
  empty = λ v from. ap (λ (w : RegionValue). Is (Region w)) (zeroed_in-none from from v (omega arith));
  end = λ v from upto. zeroed_in-end from upto v;
}
