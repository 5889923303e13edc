use Rattle.wtf_spillfmt.proofs.Written.{Wrote}
use Rattle.wtf_changes.specs.Rows.{region_row}
use Rattle.wtf_changes.specs.Texts.{region_text}
use Rattle.wtf_changes.specs.Shapes.{IsRegionRow}
use Rattle.wtf_changes.proofs.writer.put_regions.Given as goal

abbrev pub invariant-loop-region : goal.invariant-loop-region
invariant-loop-region l = Wrote (λ x. region_text (region_row x)) (λ x. IsRegionRow (region_row x)) l.initial.out.items l.out.items l.regions l.region-index
