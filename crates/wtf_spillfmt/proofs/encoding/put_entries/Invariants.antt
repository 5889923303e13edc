use Rattle.wtf_overlay.specs.Rows.{entry_row, part_row}
use Rattle.wtf_overlay.specs.Texts.{entry_text}
use Rattle.wtf_overlay.specs.Shapes.{IsPart}
use Rattle.wtf_spillfmt.proofs.Written.{Wrote}
use Rattle.wtf_spillfmt.proofs.encoding.put_entries.Given as goal

abbrev pub invariant-loop-i : goal.invariant-loop-i
invariant-loop-i l = Wrote (λ e. entry_text (entry_row e)) (λ e. IsPart e.len (part_row e.part)) l.initial.out.items l.out.items l.list l.i
