use Rattle.std.proofs.Common.{arith}
use Rattle.std.proofs.lemmas.Result.{err_from_is_err_and}
use Rattle.wtf_overlay.specs.Reading.{many_at}
use Rattle.wtf_spillfmt.proofs.Many.{goes_on, ends}
use Rattle.wtf_imagefmt.specs.Reading.{path_at}
use Rattle.wtf_imagefmt.proofs.Many.{all_read}
use Rattle.wtf_imagefmt.proofs.parser.some_paths_of.Goals as goal

pub returns-in_err-path : goal.returns-in_err-path
returns-in_err-path c =
    let p = err_from_is_err_and c.from_residual.result c.from_residual.ensures.1 in
    rw (p.1, p.2) (ends path_at c.in_err-path.field-0.0 c.loop.paths.items c.args.count c.loop.counter c.loop.rest.now
    (many_at path_at c.args.count c.args.bytes.now) c.loop-test.true c.in_err-path.ensures c.loop.invariant)

pub loop-preserved : goal.loop-preserved
loop-preserved c =
    let x = c.in_ok-path.path in
    rw c.in_ok-push.ensures.items (goes_on path_at c.loop.paths.items c.args.count c.loop.counter c.loop.rest.now x c.in_ok-path.after.now
    (many_at path_at c.args.count c.args.bytes.now) c.loop-test.true c.in_ok-path.ensures c.loop.invariant)

pub returns : goal.returns
returns c =
    all_read path_at c.loop.paths.items c.args.count c.loop.counter c.loop.rest.now (many_at path_at c.args.count c.args.bytes.now)
    (omega (arith, c.loop-test.false)) c.loop.invariant
