use Rattle.std.proofs.Common.{◌≡◌, ◌<◌, ◌^◌, length, get_or, sym, subst, arith}
use Rattle.std.specs.Int.{w32, to_be_bytes}
use Rattle.std.proofs.lemmas.Option.{get_or_from_slice_get, slice_get_within}
use Rattle.wtf_overlay.specs.Rows.{entry_row, part_row}
use Rattle.wtf_overlay.specs.Texts.{entry_text, entries_text}
use Rattle.wtf_overlay.specs.Shapes.{IsPart}
use Rattle.wtf_spillfmt.specs.Writing.{Writes}
use Rattle.wtf_spillfmt.proofs.Written.{wrote_more, wrote_all, counted_rows}
use Rattle.wtf_spillfmt.proofs.encoding.put_entries.Goals as goal

pub loop-i-preserved : goal.loop-i-preserved
loop-i-preserved c =
    let es = c.args.list.now in
    let e = c.get.result in
    let is : e ≡ get_or es c.loop-i.i e = sym (get_or_from_slice_get es c.loop-i.i e e c.get.ensures) in
    let inside : c.loop-i.i < length es = slice_get_within es c.loop-i.i e c.get.ensures in
    wrote_more (λ e. entry_text (entry_row e)) (λ e. IsPart e.len (part_row e.part)) c.put_u32.new.out.items c.loop-i.out.items c.put_entry.new.out.items es c.loop-i.i e inside is c.loop-i.invariant c.in_ok-put_entry.ensures

pub returns : goal.returns
unfolding entries_text
returns c =
    let es = c.args.list.now in
    counted_rows w32 (2 ^ 32) entry_row entry_text (λ e. IsPart e.len (part_row e.part)) c.args.out.now.items c.put_u32.new.out.items c.loop-i.out.items es
    (subst (λ n. Writes c.args.out.now.items c.put_u32.new.out.items (to_be_bytes w32 n) (n < 2 ^ 32)) c.len-count.ensures c.in_ok-put_u32.ensures)
    (wrote_all (λ e. entry_text (entry_row e)) (λ e. IsPart e.len (part_row e.part)) c.put_u32.new.out.items c.loop-i.out.items es c.loop-i.i (omega arith) c.loop-i.invariant)
