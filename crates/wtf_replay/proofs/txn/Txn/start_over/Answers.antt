use Rattle.std.proofs.Common.{◌≡◌, ◌≤◌, ◌∙◌, Bool, sym, ap, subst}
use Rattle.wtf_kv.specs.Stores.{Store, IsPinnedOnceMore, versions_of}
use Rattle.wtf_occ.specs.Attempts.{Attempted}
use Rattle.wtf_values.specs.declared.key.Key.{Key}
use Rattle.wtf_values.specs.declared.value.Value.{Value}
use Rattle.wtf_values.specs.declared.value.Delta.{Delta}
use Rattle.wtf_values.specs.Keys.{key_cmp}
use Rattle.wtf_meta.specs.Maps.{metadata_at}
use Rattle.wtf_meta.specs.Sessions.{SessionView}
use Rattle.wtf_replay.specs.Fits.{IsLog}
use Rattle.wtf_replay.specs.Views.{TxnView, replaying, rebased, untouched}
use Rattle.wtf_replay.specs.Tried.{KeepsPins, commit_from}
use Rattle.wtf_replay.specs.Verbs.{turn, FinishOf, CommitOf, CanCommit, ended_by}
use Rattle.wtf_replay.proofs.Committing.{ShowsAs, starts_over, finish_along, commit_by}
use Rattle.wtf_replay.proofs.Keeping.{pins_back, pinned_there}
use Rattle.wtf_replay.proofs.txn.Txn.start_over.Goals as goal

pub returns : goal.returns
returns g c =
    let kind = g.S.SliceStore.kind in
    let kv = c.args.kv.now in
    let dev = c.args.dev.now in
    let pinned = c.start.new.kv in
    let mid = c.finish-ended.new.kv in
    let after = c.unpin.new.self in
    let into = c.finish-ended.new.dev in
    let r = c.finish-ended.result in
    let n = c.number-number.result in
    let new = c.end.new.self in
    let i = c.self.inside in
    let x : TxnView = record { tx = i.tx.0; at = i.at; session = i.session; log = i.log; replayed = i.replayed; ended = i.ended } in
    let y : TxnView = rebased x kv.number in
    let ready : CanCommit kind dev kv x = subst (λ y. CanCommit kind dev kv y) (sym c.self.view_is) c.requires.ready in
    let from : commit_from kv x ≡ y = subst (λ y. commit_from kv y ≡ rebased y kv.number) (sym c.self.view_is) c.requires.from in
    let number = c.number-number.ensures.number in
    let below : x.at.base ≤ kv.number = subst (λ m. x.at.base ≤ m) number (c.number-number.ensures.pins x.at.base ready.fit.pinned) in
    let started = c.in-Ok.ensures in
    let more : IsPinnedOnceMore n kv pinned = subst (λ m. IsPinnedOnceMore m kv pinned) (sym number) started.pinned in
    let same : replaying x.tx c.in-Ok.both.0 c.in-Ok.both.1 x.log 0 ≡ y =
    ap (λ (a : Attempted Key Delta). replaying x.tx a c.in-Ok.both.1 x.log 0) started.hand.0
    ∙ ap (λ (s : SessionView). replaying x.tx (untouched kv.number) s x.log 0) started.hand.1
    ∙ ap (λ (b : Bool). record y { ended = b }) (sym ready.going) in
    let made = subst (λ (z : TxnView). FinishOf (turn kind dev into pinned mid z z) r) same c.finish-ended.ensures.made in
    let pins : KeepsPins kv after = pins_back kv pinned mid after n more made.pins c.unpin.ensures.once in
    let shows : ShowsAs pinned kv = record {
      number = ap (λ (s : Store Key Value). s.number) (sym started.ok);
      maps = λ m. ap (λ (s : Store Key Value). metadata_at s m) (sym started.ok);
      versions = λ q. ap (λ (s : Store Key Value). versions_of key_cmp s q) (sym started.ok);
    } in
    let leaves : ShowsAs mid after = record {
      number = ap (λ (s : Store Key Value). s.number) c.unpin.ensures.rest;
      maps = λ m. ap (λ (s : Store Key Value). metadata_at s m) c.unpin.ensures.rest;
      versions = λ q. ap (λ (s : Store Key Value). versions_of key_cmp s q) c.unpin.ensures.rest;
    } in
    let there = finish_along (turn kind dev into pinned mid y y) kv after shows leaves r pins made in
    let is : new ≡ ended_by x r = subst (λ (z : TxnView). new ≡ ended_by z r) (sym c.self.view_is) c.end.ensures.new in
    let t = turn kind dev into kv after x new in
    record {
      commit =
          subst (λ q. CommitOf (turn kind dev into kv after c.args.self.now new) q) (sym c.end.ensures.result)
          (subst (λ (z : TxnView). CommitOf (turn kind dev into kv after z new) r) c.self.view_is
          (commit_by t g.met.S.SliceStore.laws y from (starts_over t) ready below r is there));
    }

-- the number is pinned still
pub unpin-requires : goal.unpin-requires
unpin-requires g c =
    let kv = c.args.kv.now in
    let pinned = c.start.new.kv in
    let n = c.number-number.result in
    pinned_there kv pinned c.finish-ended.new.kv n (subst (λ m. IsPinnedOnceMore m kv pinned) (sym c.number-number.ensures.number) c.in-Ok.ensures.pinned)
    c.finish-ended.ensures.made.pins

pub finish-ended-requires-clause-log : goal.finish-ended-requires-clause-log
finish-ended-requires-clause-log g c = subst (λ (y : TxnView). IsLog y.log) (sym c.self.view_is) c.requires.ready.fit.log
