use Rattle.std.proofs.Common.{◌≡◌, ◌≢◌, false, length, sym, subst}
use Rattle.std.proofs.lemmas.Bool.{eqb-false}
use Rattle.wtf_replay.specs.Views.{TxnView, is_txn_live, rebased}
use Rattle.wtf_replay.specs.Tried.{commit_from}
use Rattle.wtf_replay.proofs.Froms.{from_base, from_older}
use Rattle.wtf_replay.proofs.txn.Txn.commit.Goals as goal

-- a replay runs at the number
pub go_on-requires-clause-from : goal.go_on-requires-clause-from
go_on-requires-clause-from g c =
    let kv = c.args.kv.now in
    let i = c.self.inside in
    let x : TxnView = record { tx = i.tx.0; at = i.at; session = i.session; log = i.log; replayed = i.replayed; ended = i.ended } in
    let off : is_txn_live c.args.self.now ≡ false = sym c.if-is_live.ensures in
    let left : x.replayed ≢ length x.log.ops = subst (λ (y : TxnView). y.replayed ≢ length y.log.ops) (sym c.self.view_is)
    (eqb-false c.args.self.now.replayed (length c.args.self.now.log.ops) off) in
    let number = c.number.ensures.number in
    let base = c.base.ensures in
    let test = c.if-base-number.true in
    let same : x.at.base ≡ kv.number = cc in
    subst (λ y. commit_from kv y ≡ y) c.self.view_is (from_base kv x left same)

-- or below it
pub start_over-requires-clause-from : goal.start_over-requires-clause-from
start_over-requires-clause-from g c =
    let kv = c.args.kv.now in
    let i = c.self.inside in
    let x : TxnView = record { tx = i.tx.0; at = i.at; session = i.session; log = i.log; replayed = i.replayed; ended = i.ended } in
    let off : is_txn_live c.args.self.now ≡ false = sym c.if-is_live.ensures in
    let left : x.replayed ≢ length x.log.ops = subst (λ (y : TxnView). y.replayed ≢ length y.log.ops) (sym c.self.view_is)
    (eqb-false c.args.self.now.replayed (length c.args.self.now.log.ops) off) in
    let number = c.number.ensures.number in
    let base = c.base.ensures in
    let test = c.if-base-number.false in
    let other : x.at.base ≢ kv.number = λ e. let met : c.base.result ≡ c.number.result = cc in test met in
    subst (λ y. commit_from kv y ≡ rebased y kv.number) c.self.view_is (from_older kv x left other)
