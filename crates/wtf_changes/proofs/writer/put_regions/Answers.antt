use Rattle.std.proofs.Common.{◌^◌, arith}
use Rattle.std.specs.Int.{w32}
use Rattle.wtf_spillfmt.proofs.Written.{wrote_all, counted_then}
use Rattle.wtf_changes.specs.Rows.{region_row}
use Rattle.wtf_changes.specs.Texts.{region_text, regions_text}
use Rattle.wtf_changes.specs.Shapes.{IsRegionRow}
use Rattle.wtf_changes.proofs.writer.put_regions.Goals as goal

pub returns : goal.returns
unfolding regions_text
returns c =
    let xs = c.args.regions.now in
    counted_then w32 (2 ^ 32) region_row region_text IsRegionRow c.args.out.now.items c.put_u32.new.out.items c.loop-region.out.items xs c.in_ok-put_u32.ensures
    (wrote_all (λ x. region_text (region_row x)) (λ x. IsRegionRow (region_row x)) c.put_u32.new.out.items c.loop-region.out.items xs c.loop-region.region-index
    (omega arith) c.loop-region.invariant)
