use Rattle.std.proofs.Common.{◌++◌, ap, ◌∙◌, subst, rules}
use Rattle.std.specs.Int.{w16, to_be_bytes}
use Rattle.wtf_spillfmt.specs.Writing.{Writes}
use Rattle.wtf_imagefmt.specs.Rows.{region_rows}
use Rattle.wtf_imagefmt.specs.Texts.{inode_text, regions_text, file_text}
use Rattle.wtf_imagefmt.specs.Writing.{AreRegions}
use Rattle.wtf_imagefmt.proofs.Written.{text_then}
use Rattle.wtf_imagefmt.proofs.writer.put_file.Goals as goal

pub returns : goal.returns
unfolding file_text
returns c =
    let f = c.args.file.now in
    let old = c.args.out.now.items in
    let mid = c.put_inode.new.out.items in
    let next = c.extend_from_slice.new.self.items in
    let new = c.put_regions.new.out.items in
    let inode = c.in_ok-put_inode.ensures in
    let regions = subst (λ xs. Writes next new (regions_text (region_rows xs)) (AreRegions (region_rows xs))) c.as_slice.ensures.value
    c.in_ok-put_regions.ensures in
    record {
      text_is = text_then old mid new (inode_text f.inode) (to_be_bytes w16 f.last ++ regions_text (region_rows f.regions.items)) inode.text_is
          (text_then mid next new (to_be_bytes w16 f.last) (regions_text (region_rows f.regions.items))
          (c.in_ok-extend_from_slice.ensures.items ∙ ap (λ t. mid ++ t) c.to_be_bytes.ensures) regions.text_is);
      form = record { inode = inode.form; last = search rules; regions = regions.form };
    }
