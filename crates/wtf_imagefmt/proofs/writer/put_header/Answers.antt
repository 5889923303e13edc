use Rattle.std.proofs.Common.{[], ◌∷◌, ◌++◌, ap, ◌∙◌, rules}
use Rattle.std.specs.Int.{w32, w64, to_be_bytes}
use Rattle.wtf_spillfmt.proofs.Written.{five_texts}
use Rattle.wtf_imagefmt.specs.Texts.{header_text}
use Rattle.wtf_imagefmt.proofs.writer.put_header.Goals as goal

pub returns : goal.returns
unfolding header_text
returns c =
    let h = c.args.header in
    record {
      text_is = five_texts c.args.out.now.items c.push.new.self.items c.push-2.new.self.items c.extend_from_slice.new.self.items
          c.extend_from_slice-2.new.self.items c.extend_from_slice-3.new.self.items
          (h.servers ∷ []) (h.replicas ∷ []) (to_be_bytes w32 h.region) (to_be_bytes w64 h.installs) (to_be_bytes w64 h.next_tx)
          c.in_ok-push.ensures.items c.in_ok-push-2.ensures.items
          (c.in_ok-extend_from_slice.ensures.items ∙ ap (λ t. c.push-2.new.self.items ++ t) c.to_be_bytes.ensures)
          (c.in_ok-extend_from_slice-2.ensures.items ∙ ap (λ t. c.extend_from_slice.new.self.items ++ t) c.to_be_bytes-2.ensures)
          (c.in_ok-extend_from_slice-3.ensures.items ∙ ap (λ t. c.extend_from_slice-2.new.self.items ++ t) c.to_be_bytes-3.ensures);
      form = search rules;
    }
