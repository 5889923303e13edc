use Rattle.std.proofs.Common.{◌≡◌, ◌++◌, ap, ◌∙◌, rules}
use Rattle.std.specs.Int.{w32, to_be_bytes}
use Rattle.wtf_base.specs.Slices.{pointers_of, len_of}
use Rattle.wtf_overlay.specs.Texts.{slice_text}
use Rattle.wtf_imagefmt.specs.Texts.{spill_text}
use Rattle.wtf_imagefmt.proofs.Written.{text_then}
use Rattle.wtf_imagefmt.proofs.writer.put_spill.Goals as goal

pub returns : goal.returns
unfolding spill_text
returns c =
    let s = c.args.spill in
    let old = c.args.out.now.items in
    let mid = c.extend_from_slice.new.self.items in
    let next = c.extend_from_slice-2.new.self.items in
    let new = c.put_slice.new.out.items in
    let slice = c.in_ok-put_slice.ensures in
    let len : next ≡ mid ++ to_be_bytes w32 (len_of s.slice) =
    c.in_ok-extend_from_slice-2.ensures.items ∙ ap (λ t. mid ++ t) (c.to_be_bytes-2.ensures ∙ ap (to_be_bytes w32) c.len.ensures.value) in
    record {
      text_is = text_then old mid new (to_be_bytes w32 s.visible) (to_be_bytes w32 (len_of s.slice) ++ slice_text (pointers_of s.slice))
          (c.in_ok-extend_from_slice.ensures.items ∙ ap (λ t. old ++ t) c.to_be_bytes.ensures)
          (text_then mid next new (to_be_bytes w32 (len_of s.slice)) (slice_text (pointers_of s.slice)) len slice.text_is);
      form = record { visible = search rules; len = search rules; some = c.requires.0; within = c.requires.1; slice = slice.form };
    }
