use Rattle.std.proofs.Common.{◌≡◌, false, true, length, sym, ◌∙◌, subst}
use Rattle.wtf_model.specs.declared.answer.Word.TheVariants.{Replaying, Full}
use Rattle.wtf_model.specs.declared.limits.TheConstants.{MAX_LOGGED}
use Rattle.wtf_replay.specs.Views.{TxnView, is_txn_live}
use Rattle.wtf_replay.proofs.Turning.{refuses_replaying, refuses_full, call_refused}
use Rattle.wtf_replay.proofs.txn.Txn.call.Goals as goal

pub returns-then-not-is_live : goal.returns-then-not-is_live
returns-then-not-is_live g c =
    let x = c.args.self.now in
    let live : is_txn_live x ≡ false = sym c.is_live.ensures ∙ c.if-not-is_live.true in
    record {
      call = call_refused g.met.S.SliceStore.laws c.args.dev.now c.requires.sound c.args.kv.now x c.args.op Replaying
          (refuses_replaying x live) c.requires.fit c.requires.inside;
    }

pub returns-then-is_full : goal.returns-then-is_full
returns-then-is_full g c =
    let x = c.args.self.now in
    let live : is_txn_live x ≡ true = sym c.is_live.ensures ∙ c.if-not-is_live.false in
    let full : length x.log.ops ≡ MAX_LOGGED = subst (λ (y : TxnView). length y.log.ops ≡ MAX_LOGGED) c.self.view_is
    (c.is_full.ensures.0 c.if-is_full.true) in
    record {
      call = call_refused g.met.S.SliceStore.laws c.args.dev.now c.requires.sound c.args.kv.now x c.args.op Full (refuses_full x live full)
          c.requires.fit c.requires.inside;
    }
