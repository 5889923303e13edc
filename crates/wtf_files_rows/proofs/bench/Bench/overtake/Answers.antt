use Rattle.std.proofs.Common.{sym, ap, ◌∙◌, subst}
use Rattle.std.specs.Prelude.{IsTrue}
use Rattle.wtf_kv.specs.Stores.{is_pinned}
use Rattle.wtf_meta.specs.Maps.{metadata_at}
use Rattle.wtf_replay.specs.Views.{TxnView}
use Rattle.wtf_files_rows.specs.Benches.{IsTxnHeld}
use Rattle.wtf_files_rows.proofs.BenchLaws.{lent_on, now_on, base_stays, held_next}
use Rattle.wtf_files_rows.proofs.bench.Bench.overtake.Goals as goal

pub invariant_of-self-2 : goal.invariant_of-self-2
invariant_of-self-2 c =
    let was = c.self.invariant in
    let at = c.self.inside in
    let kv = at.kv in
    let into = c.commit-came.new.dev in
    let begins = c.in_ok-next.ensures in
    let did = c.commit-came.ensures.commit in
    let last = c.replace-last.result in
    let base_is = ap (λ (x : TxnView). x.at.base) c.replace-last.ensures.value
    ∙ base_stays c.commit-came.result at.txn c.commit-came.new.self did.over did.err in (
      lent_on _ into was.0 did.dev,
      subst (λ (x : TxnView). IsTxnHeld into.shelf.now at.parts.settings c.drop_all.new.kv x) (sym c.replace-last.ensures.after)
          (held_next into.shelf.now at.parts.settings kv c.begin.new.kv c.commit-came.new.kv c.drop_all.new.kv c.in_ok-next.next _ last.at.base begins.value
          begins.ok begins.pinned begins.fit did.maps did.pins
          c.drop_all.ensures.rest c.drop_all.ensures.once
          (subst (λ b. IsTrue (is_pinned kv b)) (sym base_is) was.1.fit.pinned)
          (now_on _ into (metadata_at kv kv.number) was.0.enough did.dev was.1.now)
          did.inside_now),
    )
