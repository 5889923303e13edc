use Rattle.std.proofs.Common.{refl}
use Rattle.wtf_imagefmt.specs.Rows.{image_rows}
use Rattle.wtf_image.proofs.loads.load_without.Goals as goal

pub returns-clause-loaded : goal.returns-clause-loaded
returns-clause-loaded g c =
    let x = image_rows c.in-Ok.image in
    record {
      rows = x;
      taken = record {
        text = c.in-Ok.ensures.image;
        good = c.in-Some.ensures.good;
        tree = c.in-Ok-try_rules.ensures.tree;
        inside = c.in-Ok-try_rules.ensures.inside;
      };
      settings = c.in-Some.ensures.settings;
      next_tx = refl;
      store = c.in-Ok-add_names.ensures;
    }
