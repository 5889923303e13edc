use Rattle.std.proofs.Common.{◌≡◌, ◌≤◌, ◌∙◌, Bool, sym, ap, subst, arith}
use Rattle.wtf_occ.specs.Attempts.{Attempted}
use Rattle.wtf_values.specs.declared.key.Key.{Key}
use Rattle.wtf_values.specs.declared.value.Delta.{Delta}
use Rattle.wtf_meta.specs.Sessions.{SessionView}
use Rattle.wtf_rw.proofs.AppendWays.{mark_within}
use Rattle.wtf_replay.specs.Fits.{IsLog}
use Rattle.wtf_replay.specs.Views.{TxnView, replaying}
use Rattle.wtf_replay.specs.Tried.{commit_from}
use Rattle.wtf_replay.specs.Verbs.{turn, FinishOf, CommitOf, CanCommit, ended_by}
use Rattle.wtf_replay.proofs.Committing.{starts_here, commit_by}
use Rattle.wtf_replay.proofs.txn.Txn.go_on.Goals as goal

pub finish-ended-requires-clause-log : goal.finish-ended-requires-clause-log
finish-ended-requires-clause-log g c = subst (λ (y : TxnView). IsLog y.log) (sym c.self.view_is) c.requires.ready.fit.log

pub rewind-requires-clause-reads : goal.rewind-requires-clause-reads
rewind-requires-clause-reads g c =
    mark_within c.mark-mark.result.reads c.self.inside.at.reads c.finish-ended.new.at.reads (ap (λ m. m.reads) c.mark-mark.ensures)
    c.finish-ended.ensures.grows.reads

pub rewind-requires-clause-changes : goal.rewind-requires-clause-changes
rewind-requires-clause-changes g c =
    mark_within c.mark-mark.result.changes c.self.inside.at.changes c.finish-ended.new.at.changes (ap (λ m. m.changes) c.mark-mark.ensures)
    c.finish-ended.ensures.grows.changes

pub returns : goal.returns
returns g c =
    let kind = g.S.SliceStore.kind in
    let kv = c.args.kv.now in
    let dev = c.args.dev.now in
    let after = c.finish-ended.new.kv in
    let into = c.finish-ended.new.dev in
    let r = c.finish-ended.result in
    let new = c.end.new.self in
    let i = c.self.inside in
    let x : TxnView = record { tx = i.tx.0; at = i.at; session = i.session; log = i.log; replayed = i.replayed; ended = i.ended } in
    let ready : CanCommit kind dev kv x = subst (λ y. CanCommit kind dev kv y) (sym c.self.view_is) c.requires.ready in
    let base : x.at.base ≡ kv.number = subst (λ (y : TxnView). y.at.base ≡ kv.number) (sym c.self.view_is) c.requires.base in
    let from : commit_from kv x ≡ x = subst (λ y. commit_from kv y ≡ y) (sym c.self.view_is) c.requires.from in
    let below : x.at.base ≤ kv.number = omega (arith, base) in
    let same : replaying x.tx x.at c.in-Ok.session x.log x.replayed ≡ x =
    ap (λ (s : SessionView). replaying x.tx x.at s x.log x.replayed) c.in-Ok.ensures ∙ ap (λ (b : Bool). record x { ended = b }) (sym ready.going) in
    let made = subst (λ (y : TxnView). FinishOf (turn kind dev into kv after y y) r) same c.finish-ended.ensures.made in
    let back : c.rewind.new.self ≡ x.at = c.rewind.ensures.back c.self.inside.at c.finish-ended.ensures.grows c.mark-mark.ensures in
    let is : new ≡ ended_by x r = c.end.ensures.new ∙ ap (λ (a : Attempted Key Delta). ended_by (record x { at = a }) r) back in
    let t = turn kind dev into kv after x new in
    record {
      commit =
          subst (λ q. CommitOf (turn kind dev into kv after c.args.self.now new) q) (sym c.end.ensures.result)
          (subst (λ (y : TxnView). CommitOf (turn kind dev into kv after y new) r) c.self.view_is
          (commit_by t g.met.S.SliceStore.laws x from (starts_here t) ready below r is made));
    }
