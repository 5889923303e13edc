use Rattle.std.proofs.Common.{◌≡◌, [], false, sym, subst}
use Rattle.wtf_occ.specs.Attempts.{Attempted}
use Rattle.wtf_values.specs.declared.key.Key.{Key}
use Rattle.wtf_values.specs.declared.value.Delta.{Delta}
use Rattle.wtf_log.specs.Calls.{Calls, no_calls}
use Rattle.wtf_meta.specs.Sessions.{SessionView, nothing_open}
use Rattle.wtf_replay.specs.Views.{TxnView, begun}
use Rattle.wtf_replay.specs.Sounds.{LogStands}
use Rattle.wtf_replay.proofs.Starting.{sound_rebased}
use Rattle.wtf_replay.proofs.txn.Txn.begin.Goals as goal

pub returns-clause-sound : goal.returns-clause-sound
returns-clause-sound c = λ size told.
    let kv = c.start.new.kv in
    let n = c.args.kv.now.number in
    let hand = c.in_ok-at.ensures.hand in
    let new = c.in_ok-log.ensures in
    let log : c.in_ok-log.log ≡ no_calls = cc in
    let at : Attempted Key Delta → SessionView → Calls → TxnView =
    λ a s l. record { tx = c.args.tx.0; at = a; session = s; log = l; replayed = 0; ended = false } in
    subst (λ l. LogStands size kv told (at c.in_ok-at.at c.in_ok-at.session l) []) (sym log)
    (subst (λ s. LogStands size kv told (at c.in_ok-at.at s no_calls) []) (sym hand.1)
    (subst (λ a. LogStands size kv told (at a nothing_open no_calls) []) (sym hand.0) (sound_rebased size kv told (begun c.args.tx.0 n) n [] tt)))
