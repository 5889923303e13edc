use Rattle.std.proofs.Common.{[], ◌∷◌, sym, subst}
use Rattle.wtf_values.specs.declared.key.Key.TheVariants as keys
use Rattle.wtf_values.specs.declared.value.Value.TheVariants as value
use Rattle.wtf_imagefmt.specs.Lookups.{NamesAre}
use Rattle.wtf_image.specs.Seeds.{Adds, dir_seed_by}
use Rattle.wtf_image.specs.Tables.{table_names}
use Rattle.wtf_image.proofs.SeedLaws.{adds_one}
use Rattle.wtf_image.proofs.names.seed_dir.Goals as goal

pub returns-in-Folder : goal.returns-in-Folder
returns-in-Folder c =
    let old = c.args.kv.now in
    let new = c.seed.new.self in
    let r = c.args.entry.now in
    let p = c.in_ok-path-in-Folder.path in
    let names = c.in_ok-names-in-Folder.names in
    let one = adds_one old new (keys.Dir p) (value.Names names) c.seed.ensures.number c.seed.ensures.pins c.in_ok-seed-in-Folder.ensures.ok in
    let at_path = subst (λ x. Adds old new ((keys.Dir x, NamesAre names) ∷ [])) c.in_ok-path-in-Folder.ensures one in
    let with_names = subst (λ s. Adds old new ((keys.Dir r.path, NamesAre s) ∷ [])) c.in_ok-names-in-Folder.ensures at_path in
    subst (λ n. Adds old new (dir_seed_by (table_names c.args.dirs.now.entries r.path) r.path n)) (sym c.in-Folder.is) with_names
