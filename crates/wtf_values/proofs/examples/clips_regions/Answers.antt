use Rattle.std.proofs.Common.{◌≡◌, ◌∙◌, min, ap, refl, arith}
use Rattle.wtf_values.specs.Bases.{base_below, seen_upto}
use Rattle.wtf_values.proofs.RegionLaws.{clipped-base_none, clipped-base_whole}
use Rattle.wtf_values.proofs.examples.clips_regions.Goals as goal

pub returns : goal.returns
returns c = record {
  none = clipped-base_none;
  cut = λ v s is seen. ap (base_below 3) is ∙ ap (seen_upto s) (let e : min s.visible 3 ≡ 3 = omega arith in e);
  whole = λ v end le. clipped-base_whole end v le;
  end = λ v end. refl;
  missing = λ end. refl;
}
