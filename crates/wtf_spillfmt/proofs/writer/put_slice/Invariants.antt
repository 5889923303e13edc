use Rattle.wtf_base.specs.Slices.{pointers_of, len_of}
use Rattle.wtf_overlay.specs.Texts.{pointer_text}
use Rattle.wtf_overlay.specs.Shapes.{IsPointer}
use Rattle.wtf_spillfmt.proofs.Written.{Wrote}
use Rattle.wtf_spillfmt.proofs.writer.put_slice.Given as goal

abbrev pub invariant-loop-i : goal.invariant-loop-i
invariant-loop-i l = Wrote pointer_text (IsPointer (len_of l.slice)) l.initial.out.items l.out.items (pointers_of l.slice) l.i
