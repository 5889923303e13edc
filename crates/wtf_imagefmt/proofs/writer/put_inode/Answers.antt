use Rattle.std.proofs.Common.{◌++◌, ap, ◌∙◌, rules}
use Rattle.std.specs.Int.{w32, w64, to_be_bytes}
use Rattle.wtf_imagefmt.specs.Texts.{inode_text}
use Rattle.wtf_imagefmt.proofs.Written.{text_then}
use Rattle.wtf_imagefmt.proofs.writer.put_inode.Goals as goal

pub returns : goal.returns
unfolding inode_text
returns c =
    let i = c.args.inode in
    let old = c.args.out.now.items in
    let mid = c.extend_from_slice.new.self.items in
    record {
      text_is = text_then old mid c.extend_from_slice-2.new.self.items (to_be_bytes w64 i.tx.0) (to_be_bytes w32 i.index)
          (c.in_ok-extend_from_slice.ensures.items ∙ ap (λ t. old ++ t) c.to_be_bytes.ensures)
          (c.in_ok-extend_from_slice-2.ensures.items ∙ ap (λ t. mid ++ t) c.to_be_bytes-2.ensures);
      form = record { tx = search rules; index = search rules };
    }
