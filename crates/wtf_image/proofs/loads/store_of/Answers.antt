use Rattle.std.proofs.Common.{subst}
use Rattle.std.specs.List.{flat_map}
use Rattle.wtf_imagefmt.specs.Rows.{image_rows, file_rows}
use Rattle.wtf_image.specs.Seeds.{Adds, file_seeds, path_seed}
use Rattle.wtf_image.proofs.LoadLaws.{started, no_path_yet, is_partly}
use Rattle.wtf_image.proofs.loads.store_of.Goals as goal

pub seed_paths-requires-clause-fresh : goal.seed_paths-requires-clause-fresh
seed_paths-requires-clause-fresh c =
    let x = image_rows c.args.image.now in
    let a = c.in_ok-kv.kv in
    let first = started a x.header.installs c.start.result c.in_ok-kv.was c.start.ensures in
    let files = subst (λ fs. Adds a c.seed_files.new.kv (flat_map file_seeds (file_rows fs))) c.as_slice.ensures.value c.in_ok-seed_files.ensures in
    no_path_yet x a c.seed_files.new.kv first.1 files

pub returns : goal.returns
returns c =
    let x = image_rows c.args.image.now in
    let a = c.in_ok-kv.kv in
    let first = started a x.header.installs c.start.result c.in_ok-kv.was c.start.ensures in
    let files = subst (λ fs. Adds a c.seed_files.new.kv (flat_map file_seeds (file_rows fs))) c.as_slice.ensures.value c.in_ok-seed_files.ensures in
    let paths = subst (λ ps. Adds c.seed_files.new.kv c.seed_paths.new.kv (flat_map path_seed ps)) c.as_slice-2.ensures.value c.in_ok-seed_paths.ensures in
    is_partly x a c.seed_files.new.kv c.seed_paths.new.kv first.0 first.1 files paths
