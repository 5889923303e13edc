use Rattle.std.proofs.Common.{◌≡◌, ◌++◌, ◌∷◌, [], arith}
use Rattle.std.proofs.lemmas.Result.{err_from_is_err_and}
use Rattle.std.proofs.lemmas.List.{map_push}
use Rattle.wtf_overlay.specs.Reading.{many_at}
use Rattle.wtf_spillfmt.proofs.Many.{goes_on, ends}
use Rattle.wtf_imagefmt.specs.Rows.{file_row, file_rows}
use Rattle.wtf_imagefmt.specs.Reading.{file_at}
use Rattle.wtf_imagefmt.proofs.Many.{all_read}
use Rattle.wtf_imagefmt.proofs.parser.some_files_of.Goals as goal

pub returns-in_err-file : goal.returns-in_err-file
returns-in_err-file c =
    let p = err_from_is_err_and c.from_residual.result c.from_residual.ensures.1 in
    rw (p.1, p.2) (ends file_at c.in_err-file.field-0.0 (file_rows c.loop.files.items) c.args.count c.loop.counter c.loop.rest.now
    (many_at file_at c.args.count c.args.bytes.now) c.loop-test.true c.in_err-file.ensures c.loop.invariant)

pub loop-preserved : goal.loop-preserved
loop-preserved c =
    let x = c.in_ok-file.file in
    let all : file_rows c.push.new.self.items ≡ file_rows c.loop.files.items ++ file_row x ∷ [] =
    rw c.in_ok-push.ensures.items (map_push _ c.loop.files.items x) in
    rw all (goes_on file_at (file_rows c.loop.files.items) c.args.count c.loop.counter c.loop.rest.now (file_row x) c.in_ok-file.after.now
    (many_at file_at c.args.count c.args.bytes.now) c.loop-test.true c.in_ok-file.ensures c.loop.invariant)

pub returns : goal.returns
returns c =
    all_read file_at (file_rows c.loop.files.items) c.args.count c.loop.counter c.loop.rest.now (many_at file_at c.args.count c.args.bytes.now)
    (omega (arith, c.loop-test.false)) c.loop.invariant
