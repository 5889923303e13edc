use Rattle.wtf_spillfmt.proofs.Written.{Wrote}
use Rattle.wtf_changes.specs.Texts.{file_text}
use Rattle.wtf_changes.specs.Shapes.{IsFileRow}
use Rattle.wtf_changes.proofs.writer.put_files.Given as goal

abbrev pub invariant-loop-file : goal.invariant-loop-file
invariant-loop-file l = Wrote file_text IsFileRow l.initial.out.items l.out.items l.files l.file-index
