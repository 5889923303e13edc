use Rattle.std.proofs.Common.{refl, sym, subst}
use Rattle.std.specs.Prelude.{IsTrue}
use Rattle.wtf_kv.specs.Stores.{is_pinned, Store}
use Rattle.wtf_dev.specs.Memory.{mem_store}
use Rattle.wtf_values.specs.declared.key.Key.{Key}
use Rattle.wtf_values.specs.declared.value.Value.{Value}
use Rattle.wtf_meta.specs.Maps.{metadata_at}
use Rattle.wtf_region.specs.Inside.{IsStoredInside}
use Rattle.wtf_replay.specs.Views.{TxnView}
use Rattle.wtf_files_rows.specs.Benches.{IsTxnHeld}
use Rattle.wtf_files_rows.proofs.BenchLaws.{held_next}
use Rattle.wtf_files_rows.proofs.bench.Bench.next.Goals as goal

pub invariant_of-self-2 : goal.invariant_of-self-2
invariant_of-self-2 c =
    let was = c.self.invariant in
    let at = c.self.inside in
    let kv = at.kv in
    let begins = c.in_ok-next.ensures in
    let last = c.replace-last.result in (
      was.0,
      subst (λ (x : TxnView). IsTxnHeld at.parts.shelf at.parts.settings c.drop_all.new.kv x) (sym c.replace-last.ensures.after)
          (held_next at.parts.shelf at.parts.settings kv c.begin.new.kv c.begin.new.kv c.drop_all.new.kv c.in_ok-next.next _ last.at.base begins.value begins.ok
          begins.pinned begins.fit (λ n le. refl) (λ n. refl)
          c.drop_all.ensures.rest c.drop_all.ensures.once
          (subst (λ (x : TxnView). IsTrue (is_pinned kv x.at.base)) (sym c.replace-last.ensures.value) was.1.fit.pinned)
          was.1.now
          (subst (λ (s : Store Key Value). IsStoredInside mem_store at.parts.shelf at.parts.settings (metadata_at s s.number)) (sym begins.ok) was.1.now)),
    )
