use Rattle.std.proofs.Common.{◌≡◌, ◌≤◌, length, true, nat_eq, count_by, sym, ap, ◌∙◌, subst}
use Rattle.std.specs.Prelude.{Ok}
use Rattle.wtf_occ.specs.Attempts.{Attempted}
use Rattle.wtf_occ.specs.Tries.{IsTried, IsInstalled, IsConflict}
use Rattle.wtf_model.specs.declared.answer.Answer.TheVariants as answer
use Rattle.wtf_values.specs.declared.key.Key.{Key}
use Rattle.wtf_values.specs.declared.value.Delta.{Delta}
use Rattle.wtf_values.specs.Keys.{key_cmp}
use Rattle.wtf_values.specs.Outcomes.{outcome_of}
use Rattle.wtf_replay.specs.Views.{TxnView, rebased}
use Rattle.wtf_replay.specs.Tried.{KeepsPins, commit_from}
use Rattle.wtf_replay.specs.Verbs.{turn, CommitOf, CanCommit}
use Rattle.wtf_replay.proofs.Committing.{starts_here, commit_by, commit_along, ready_along, finish_live}
use Rattle.wtf_replay.proofs.Froms.{from_free, from_way, way_along}
use Rattle.wtf_replay.proofs.txn.Txn.commit_live.Goals as goal

-- no key was in the way
pub returns-in-Installed : goal.returns-in-Installed
returns-in-Installed g c =
    let kind = g.S.SliceStore.kind in
    let laws = g.met.S.SliceStore.laws in
    let dev = c.args.dev.now in
    let kv = c.args.kv.now in
    let mid = c.install.new.kv in
    let n = c.in-Installed.n in
    let i = c.self.inside in
    let x : TxnView = record { tx = i.tx.0; at = i.at; session = i.session; log = i.log; replayed = i.replayed; ended = i.ended } in
    let new : TxnView = record x { at = c.install.new.self; ended = true } in
    let ready : CanCommit kind dev kv x = subst (λ y. CanCommit kind dev kv y) (sym c.self.view_is) c.requires.ready in
    let live : x.replayed ≡ length x.log.ops = subst (λ (y : TxnView). y.replayed ≡ length y.log.ops) (sym c.self.view_is) c.requires.live in
    let below : x.at.base ≤ kv.number = subst (λ m. x.at.base ≤ m) c.number-number.ensures.number (c.number-number.ensures.pins x.at.base ready.fit.pinned) in
    let keeps : KeepsPins kv mid = λ m. ap (count_by (nat_eq m)) c.install.ensures.pins in
    let installed : IsInstalled key_cmp outcome_of x.at kv mid n =
    subst (λ t. IsTried key_cmp outcome_of x.at kv mid t) c.in-Installed.is c.in-Ok.ensures.tried in
    let is : new ≡ record x { ended = true } = ap (λ (a : Attempted Key Delta). record x { at = a; ended = true }) c.install.ensures.attempt in
    let t = turn kind dev dev kv mid x new in
    record {
      commit =
          subst (λ (y : TxnView). CommitOf (turn kind dev dev kv mid y new) (Ok (answer.Committed n))) c.self.view_is
          (commit_by t laws x (from_free kv x live installed.free) (starts_here t) ready below (Ok (answer.Committed n)) is
          (finish_live laws dev kv mid x x n ready.sound ready.fit.log live installed c.install.ensures.maps keeps));
    }

-- one was: the calls are made once more, over a store that shows the same
pub start_over-requires-clause-ready : goal.start_over-requires-clause-ready
start_over-requires-clause-ready g c =
    let kind = g.S.SliceStore.kind in
    let dev = c.args.dev.now in
    let kv = c.args.kv.now in
    let mid = c.install.new.kv in
    let i = c.self.inside in
    let x : TxnView = record { tx = i.tx.0; at = i.at; session = i.session; log = i.log; replayed = i.replayed; ended = i.ended } in
    let ready : CanCommit kind dev kv x = subst (λ y. CanCommit kind dev kv y) (sym c.self.view_is) c.requires.ready in
    let below : x.at.base ≤ kv.number = subst (λ m. x.at.base ≤ m) c.number-number.ensures.number (c.number-number.ensures.pins x.at.base ready.fit.pinned) in
    let keeps : KeepsPins kv mid = λ m. ap (count_by (nat_eq m)) c.install.ensures.pins in
    let tried : IsConflict key_cmp outcome_of x.at kv mid c.in-Conflict.key c.in-Conflict.seen c.in-Conflict.now =
    subst (λ t. IsTried key_cmp outcome_of x.at kv mid t) c.in-Conflict.is c.in-Ok.ensures.tried in
    subst (λ (a : Attempted Key Delta). CanCommit kind dev mid (record x { at = a })) (sym c.install.ensures.attempt)
    (ready_along kind dev kv mid x tried.stays keeps below ready)

pub start_over-requires-clause-from : goal.start_over-requires-clause-from
start_over-requires-clause-from g c =
    let kv = c.args.kv.now in
    let mid = c.install.new.kv in
    let i = c.self.inside in
    let x : TxnView = record { tx = i.tx.0; at = i.at; session = i.session; log = i.log; replayed = i.replayed; ended = i.ended } in
    let live : x.replayed ≡ length x.log.ops = subst (λ (y : TxnView). y.replayed ≡ length y.log.ops) (sym c.self.view_is) c.requires.live in
    let tried : IsConflict key_cmp outcome_of x.at kv mid c.in-Conflict.key c.in-Conflict.seen c.in-Conflict.now =
    subst (λ t. IsTried key_cmp outcome_of x.at kv mid t) c.in-Conflict.is c.in-Ok.ensures.tried in
    subst (λ (a : Attempted Key Delta). commit_from mid (record x { at = a }) ≡ rebased (record x { at = a }) mid.number) (sym c.install.ensures.attempt)
    (from_way mid x c.in-Conflict.key live (way_along kv mid x tried.stays ∙ tried.names))

pub returns-in-Conflict : goal.returns-in-Conflict
returns-in-Conflict g c =
    let kind = g.S.SliceStore.kind in
    let dev = c.args.dev.now in
    let kv = c.args.kv.now in
    let mid = c.install.new.kv in
    let after = c.start_over.new.kv in
    let into = c.start_over.new.dev in
    let last = c.start_over.new.self in
    let r = c.start_over.result in
    let i = c.self.inside in
    let x : TxnView = record { tx = i.tx.0; at = i.at; session = i.session; log = i.log; replayed = i.replayed; ended = i.ended } in
    let keeps : KeepsPins kv mid = λ m. ap (count_by (nat_eq m)) c.install.ensures.pins in
    let tried : IsConflict key_cmp outcome_of x.at kv mid c.in-Conflict.key c.in-Conflict.seen c.in-Conflict.now =
    subst (λ t. IsTried key_cmp outcome_of x.at kv mid t) c.in-Conflict.is c.in-Ok.ensures.tried in
    let there : CommitOf (turn kind dev into mid after x last) r =
    subst (λ (a : Attempted Key Delta). CommitOf (turn kind dev into mid after
    (record x { at = a }) last) r) c.install.ensures.attempt c.start_over.ensures.commit in
    record {
      commit =
          subst (λ (y : TxnView). CommitOf (turn kind dev into kv after y last) r) c.self.view_is
          (commit_along (turn kind dev into mid after x last) kv tried.stays keeps r there);
    }
