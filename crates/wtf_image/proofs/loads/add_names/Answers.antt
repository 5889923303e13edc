use Rattle.std.proofs.Common.{◌≡◌, ℕ, List, subst}
use Rattle.std.specs.List.{flat_map}
use Rattle.wtf_base.specs.declared.ids.InodeId.{InodeId}
use Rattle.wtf_imagefmt.specs.declared.records.FileRecord.{FileRecord}
use Rattle.wtf_imagefmt.specs.declared.records.PathRecord.{PathRecord}
use Rattle.wtf_imagefmt.specs.Rows.{image_rows, file_rows}
use Rattle.wtf_imagefmt.specs.Lookups.{times_named}
use Rattle.wtf_image.specs.Seeds.{Adds, dir_seed, count_seed}
use Rattle.wtf_image.specs.Tables.{count_in}
use Rattle.wtf_image.proofs.LoadLaws.{is_loaded, counts_fresh}
use Rattle.wtf_image.proofs.loads.add_names.Goals as goal

pub seed_counts-requires-clause-fresh : goal.seed_counts-requires-clause-fresh
seed_counts-requires-clause-fresh c =
    let x = image_rows c.args.image.now in
    let b = c.args.kv.now in
    let names = subst (λ (ps : List PathRecord). Adds b c.seed_dirs.new.kv
    (flat_map (dir_seed ps) ps)) c.as_slice-paths.ensures.value c.in_ok-seed_dirs.ensures in
    counts_fresh x b c.seed_dirs.new.kv c.requires.partly names

pub returns : goal.returns
returns c =
    let x = image_rows c.args.image.now in
    let b = c.args.kv.now in
    let names = subst (λ (ps : List PathRecord). Adds b c.seed_dirs.new.kv
    (flat_map (dir_seed ps) ps)) c.as_slice-paths.ensures.value c.in_ok-seed_dirs.ensures in
    let files = subst (λ (fs : List FileRecord). Adds c.seed_dirs.new.kv c.seed_counts.new.kv
    (flat_map (count_seed (count_in c.args.counts.now.entries)) (file_rows fs)))
    c.as_slice.ensures.value c.in_ok-seed_counts.ensures in
    let same : count_in c.args.counts.now.entries ≡ times_named x.paths = λ j i. c.requires.counts i j in
    let counts = subst (λ (times : InodeId → ℕ). Adds c.seed_dirs.new.kv c.seed_counts.new.kv (flat_map (count_seed times) x.files)) same files in
    is_loaded x c.requires.partly c.requires.shape.paths.ascend c.requires.tree.recorded names counts
