use Rattle.std.proofs.Common.{◌^◌, arith}
use Rattle.std.specs.Int.{w32}
use Rattle.wtf_spillfmt.proofs.Written.{wrote_more, wrote_all, counted_then}
use Rattle.wtf_imagefmt.specs.Rows.{file_row}
use Rattle.wtf_imagefmt.specs.Texts.{file_text, files_text}
use Rattle.wtf_imagefmt.specs.Writing.{IsWideFile}
use Rattle.wtf_imagefmt.proofs.writer.put_files.Goals as goal

pub loop-file-preserved : goal.loop-file-preserved
loop-file-preserved c =
    wrote_more (λ x. file_text (file_row x)) (λ x. IsWideFile (file_row x)) c.put_u32.new.out.items c.loop-file.out.items c.put_file.new.out.items
    c.args.files.now c.loop-file.file-index c.file-item.result (omega arith) c.file-item.is c.loop-file.invariant c.in_ok-put_file.ensures

pub returns : goal.returns
unfolding files_text
returns c =
    let xs = c.args.files.now in
    counted_then w32 (2 ^ 32) file_row file_text IsWideFile c.args.out.now.items c.put_u32.new.out.items c.loop-file.out.items xs c.in_ok-put_u32.ensures
    (wrote_all (λ x. file_text (file_row x)) (λ x. IsWideFile (file_row x)) c.put_u32.new.out.items c.loop-file.out.items xs c.loop-file.file-index
    (omega arith) c.loop-file.invariant)
