use Rattle.std.proofs.Common.{refl, ap}
use Rattle.wtf_imagefmt.specs.declared.records.Image.{Image}
use Rattle.wtf_imagefmt.specs.declared.records.Version.TheVariants.{Two}
use Rattle.wtf_imagefmt.specs.Rows.{image_rows}
use Rattle.wtf_imagefmt.specs.Saving.{header_of, IsSaveOf}
use Rattle.wtf_imagefmt.proofs.Gathered.{image_form}
use Rattle.wtf_image.proofs.SaveMap.{is_kept}
use Rattle.wtf_image.proofs.saving.save.Goals as goal

saved : (c : goal.After-drop-image-3) → IsSaveOf c.args.kv.now c.args.settings c.args.next_tx c.in_ok-bytes.bytes.items
saved c =
    let s = c.args.settings in
    let image : Image = record {
      version = Two;
      header = header_of s c.number.result c.args.next_tx;
      paths = c.in_ok-paths.paths;
      files = c.in_ok-files.files;
    } in
    let x = image_rows image in
    let paths = c.in_ok-paths.ensures in
    let files = c.in_ok-files.ensures in
    record {
      rows = x;
      text = record {
        shape = image_form x c.in_ok-bytes.ensures.wide paths.ascend files.ascend files.regions;
        text = c.in_ok-bytes.ensures.text;
      };
      version = refl;
      header = ap (λ n. header_of s n c.args.next_tx) c.number.ensures.number;
      says = record { paths = paths.each; files = files.each };
    }

pub returns-clause-image : goal.returns-clause-image
returns-clause-image c = saved c

pub returns-clause-kept : goal.returns-clause-kept
returns-clause-kept c = λ number last savable. is_kept c.args.kv.now c.args.settings c.args.next_tx c.in_ok-bytes.bytes.items
    (saved c) c.args.settings.limits number last savable
