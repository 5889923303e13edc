use Rattle.std.proofs.Common.{refl, sym, subst}
use Rattle.wtf_dev.specs.Memory.{mem_store}
use Rattle.wtf_kv.specs.Stores.{Store}
use Rattle.wtf_values.specs.declared.key.Key.{Key}
use Rattle.wtf_values.specs.declared.value.Value.{Value}
use Rattle.wtf_meta.specs.Bytes.{any_slice}
use Rattle.wtf_meta.specs.Maps.{metadata_at}
use Rattle.wtf_region.specs.Inside.{is_inside, IsStoredInside}
use Rattle.wtf_files_rows.proofs.BenchLaws.{held_begun}
use Rattle.wtf_files_rows.proofs.bench.begun.Goals as goal

pub returns : goal.returns
returns c =
    let kv = c.in_ok-kv.kv in
    let begins = c.in_ok-txn.ensures in
    record {
      fit = begins.fit;
      held = λ shelf settings.
          let root : IsStoredInside mem_store shelf settings (metadata_at kv kv.number) =
          c.in_ok-kv.ensures (is_inside mem_store shelf settings) any_slice refl in
          held_begun shelf settings c.begin.new.kv c.in_ok-txn.txn _ kv.number begins.value begins.fit
          (subst (λ (s : Store Key Value). IsStoredInside mem_store shelf settings (metadata_at s kv.number)) (sym begins.ok) root)
          (subst (λ (s : Store Key Value). IsStoredInside mem_store shelf settings (metadata_at s s.number)) (sym begins.ok) root);
    }
