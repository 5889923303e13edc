use Rattle.std.proofs.Common.{[], ◌∷◌, arith, subst}
use Rattle.wtf_journal.specs.Follows.{SyncedState, SyncedFollows}
use Rattle.wtf_journal.proofs.Within.{within_sync, sync_ends}
use Rattle.wtf_journal.proofs.Follow.{follows_within, misses_range}
use Rattle.wtf_journal.proofs.synced.SyncedSliceStore.punch.Goals as goal

pub returns-in_err-write_zeros-clause-follows : goal.returns-in_err-write_zeros-clause-follows
returns-in_err-write_zeros-clause-follows g c =
    let old = c.self.inside.disk in
    subst (λ (s : SyncedState g.row.D.Denot). SyncedFollows g.D.Disk.kind s (record { disk = c.write_zeros.new.disk; syncs = c.self.inside.syncs })
    (record { file = c.args.file; at = c.args.at; len = c.args.len } ∷ [])) c.self.view_is
    (follows_within g.D.Disk.kind g.met.D.Disk.laws (record { disk = old; syncs = c.self.inside.syncs })
    (record { disk = c.write_zeros.new.disk; syncs = c.self.inside.syncs })
    c.args.file c.args.at c.args.len _ c.write_zeros.ensures.kept
    (λ tells. misses_range c.args.file c.args.at c.args.len _) (omega arith))

pub returns-clause-follows : goal.returns-clause-follows
returns-clause-follows g c =
    let kind = g.D.Disk.kind in
    let laws = g.met.D.Disk.laws in
    let old = c.self.inside.disk in
    let mid = c.write_zeros.new.disk in
    subst (λ (s : SyncedState g.row.D.Denot). SyncedFollows kind s (record { disk = c.sync.new.self; syncs = c.self.inside.syncs })
    (record { file = c.args.file; at = c.args.at; len = c.args.len } ∷ [])) c.self.view_is
    (follows_within kind laws (record { disk = old; syncs = c.self.inside.syncs }) (record { disk = c.sync.new.self; syncs = c.self.inside.syncs })
    c.args.file c.args.at c.args.len _
    (within_sync kind c.args.file c.sync.result c.args.at c.args.len old mid c.sync.new.self c.write_zeros.ensures.kept c.sync.ensures.kept
    (λ still. sync_ends kind c.args.file c.sync.result mid c.sync.new.self laws still c.sync.ensures.settled c.sync.ensures.remains))
    (λ tells. misses_range c.args.file c.args.at c.args.len _) (omega arith))
