use Rattle.std.proofs.Common.{◌≡◌, ◌++◌, ◌∷◌, [], arith}
use Rattle.std.proofs.lemmas.Result.{err_from_is_err_and}
use Rattle.std.proofs.lemmas.List.{map_push}
use Rattle.wtf_overlay.specs.Reading.{many_at}
use Rattle.wtf_spillfmt.proofs.Many.{goes_on, ends}
use Rattle.wtf_imagefmt.specs.Rows.{region_row, region_rows}
use Rattle.wtf_imagefmt.specs.Reading.{region_at}
use Rattle.wtf_imagefmt.proofs.Many.{all_read}
use Rattle.wtf_imagefmt.proofs.parser.regions_of.Goals as goal

pub returns-in_err-region : goal.returns-in_err-region
returns-in_err-region c =
    let p = err_from_is_err_and c.from_residual-in_err-region.result c.from_residual-in_err-region.ensures.1 in
    rw (p.1, p.2) (ends region_at c.in_err-region.field-0.0 (region_rows c.loop.regions.items) c.args.count c.loop.counter c.loop.rest.now
    (many_at region_at c.args.count c.args.bytes.now) c.loop-test.true c.in_err-region.ensures c.loop.invariant)

pub loop-preserved : goal.loop-preserved
loop-preserved c =
    let x = c.in_ok-region.region in
    let all : region_rows c.push.new.self.items ≡ region_rows c.loop.regions.items ++ region_row x ∷ [] =
    rw c.in_ok-push.ensures.items (map_push _ c.loop.regions.items x) in
    rw all (goes_on region_at (region_rows c.loop.regions.items) c.args.count c.loop.counter c.loop.rest.now (region_row x) c.in_ok-region.after.now
    (many_at region_at c.args.count c.args.bytes.now) c.loop-test.true c.in_ok-region.ensures c.loop.invariant)

pub returns : goal.returns
returns c =
    all_read region_at (region_rows c.loop.regions.items) c.args.count c.loop.counter c.loop.rest.now (many_at region_at c.args.count c.args.bytes.now)
    (omega (arith, c.loop-test.false)) c.loop.invariant
