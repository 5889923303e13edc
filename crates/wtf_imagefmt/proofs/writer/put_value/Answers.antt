use Rattle.std.proofs.Common.{◌++◌, ap, ◌∙◌, rules}
use Rattle.std.specs.Int.{w32, to_be_bytes}
use Rattle.wtf_overlay.specs.Texts.{entries_text}
use Rattle.wtf_imagefmt.specs.Rows.{base_row, entry_rows}
use Rattle.wtf_imagefmt.specs.Texts.{base_text, value_text}
use Rattle.wtf_imagefmt.proofs.Written.{text_then}
use Rattle.wtf_imagefmt.proofs.writer.put_value.Goals as goal

pub returns : goal.returns
unfolding value_text
returns c =
    let v = c.args.value.now in
    let old = c.args.out.now.items in
    let mid = c.extend_from_slice.new.self.items in
    let next = c.put_base.new.out.items in
    let new = c.put_list.new.out.items in
    let base = c.in_ok-put_base.ensures in
    let list = c.in_ok-put_list.ensures in
    record {
      text_is = text_then old mid new (to_be_bytes w32 v.end) (base_text (base_row v.base) ++ entries_text (entry_rows v.list))
          (c.in_ok-extend_from_slice.ensures.items ∙ ap (λ t. old ++ t) c.to_be_bytes.ensures)
          (text_then mid next new (base_text (base_row v.base)) (entries_text (entry_rows v.list)) base.text_is list.text_is);
      form = record { end = search rules; base = base.form; count = list.form.0; entries = list.form.1 };
    }
