use Rattle.std.proofs.Common.{◌^◌, arith}
use Rattle.std.specs.Int.{w16}
use Rattle.wtf_spillfmt.proofs.Written.{wrote_more, wrote_all, counted_then}
use Rattle.wtf_imagefmt.specs.Rows.{region_row}
use Rattle.wtf_imagefmt.specs.Texts.{region_text, regions_text}
use Rattle.wtf_imagefmt.specs.Shapes.{IsRegion}
use Rattle.wtf_imagefmt.proofs.writer.put_regions.Goals as goal

pub loop-region-preserved : goal.loop-region-preserved
loop-region-preserved c =
    wrote_more (λ x. region_text (region_row x)) (λ x. IsRegion (region_row x)) c.put_u16.new.out.items c.loop-region.out.items c.put_region.new.out.items
    c.args.regions.now c.loop-region.region-index c.region-item.result (omega arith) c.region-item.is c.loop-region.invariant
    c.in_ok-put_region.ensures

pub returns : goal.returns
unfolding regions_text
returns c =
    let xs = c.args.regions.now in
    counted_then w16 (2 ^ 16) region_row region_text IsRegion c.args.out.now.items c.put_u16.new.out.items c.loop-region.out.items xs c.in_ok-put_u16.ensures
    (wrote_all (λ x. region_text (region_row x)) (λ x. IsRegion (region_row x)) c.put_u16.new.out.items c.loop-region.out.items xs c.loop-region.region-index
    (omega arith) c.loop-region.invariant)
