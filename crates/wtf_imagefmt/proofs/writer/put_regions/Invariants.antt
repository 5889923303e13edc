use Rattle.wtf_spillfmt.proofs.Written.{Wrote}
use Rattle.wtf_imagefmt.specs.Rows.{region_row}
use Rattle.wtf_imagefmt.specs.Texts.{region_text}
use Rattle.wtf_imagefmt.specs.Shapes.{IsRegion}
use Rattle.wtf_imagefmt.proofs.writer.put_regions.Given as goal

abbrev pub invariant-loop-region : goal.invariant-loop-region
invariant-loop-region l = Wrote (λ x. region_text (region_row x)) (λ x. IsRegion (region_row x)) l.initial.out.items l.out.items l.regions l.region-index
