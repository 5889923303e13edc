use Rattle.wtf_spillfmt.proofs.Written.{Wrote}
use Rattle.wtf_imagefmt.specs.Rows.{file_row}
use Rattle.wtf_imagefmt.specs.Texts.{file_text}
use Rattle.wtf_imagefmt.specs.Writing.{IsWideFile}
use Rattle.wtf_imagefmt.proofs.writer.put_files.Given as goal

abbrev pub invariant-loop-file : goal.invariant-loop-file
invariant-loop-file l = Wrote (λ x. file_text (file_row x)) (λ x. IsWideFile (file_row x)) l.initial.out.items l.out.items l.files l.file-index
