use Rattle.wtf_spillfmt.proofs.Written.{Wrote}
use Rattle.wtf_changes.specs.Texts.{path_text}
use Rattle.wtf_changes.specs.Shapes.{IsPathRow}
use Rattle.wtf_changes.proofs.writer.put_paths.Given as goal

abbrev pub invariant-loop-path : goal.invariant-loop-path
invariant-loop-path l = Wrote path_text IsPathRow l.initial.out.items l.out.items l.paths l.path-index
