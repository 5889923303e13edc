use Rattle.std.proofs.Common.{sym, subst}
use Rattle.wtf_kv.specs.Stores.{Store}
use Rattle.wtf_values.specs.declared.key.Key.{Key}
use Rattle.wtf_values.specs.declared.key.Key.TheVariants.{Path, Dir}
use Rattle.wtf_values.specs.declared.value.Node.TheVariants.{Folder}
use Rattle.wtf_values.specs.declared.value.Value.{Value}
use Rattle.wtf_values.specs.declared.value.Value.TheVariants as value
use Rattle.wtf_meta.specs.Bytes.{MapBytes}
use Rattle.wtf_meta.specs.Maps.{metadata_at}
use Rattle.wtf_files_rows.proofs.BenchLaws.{seeded_bytes}
use Rattle.wtf_files_rows.proofs.bench.root_seeded.Goals as goal

pub returns : goal.returns
returns c = λ P Q hole.
    let kv = c.args.kv.now in
    let n = c.seed-2.new.self.number in
    let none : MapBytes P Q (metadata_at kv n) = subst (λ (s : Store Key Value). MapBytes P Q (metadata_at s n)) (sym c.requires) (λ q. tt {0}) in
    seeded_bytes P Q c.seed.new.self c.seed-2.new.self (Dir c.in_ok-root-2.root) (value.Names c.new.result) n c.in_ok-seed-2.ensures.ok (tt {0})
    (seeded_bytes P Q kv c.seed.new.self (Path c.in_ok-root.root) (value.Node Folder) n c.in_ok-seed.ensures.ok (tt {0}) none)
