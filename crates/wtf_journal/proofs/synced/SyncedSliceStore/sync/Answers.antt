use Rattle.std.proofs.Common.{◌≤◌, [], arith, rules, subst}
use Rattle.wtf_journal.specs.Follows.{SyncedState, SyncedFollows}
use Rattle.wtf_journal.proofs.synced.SyncedSliceStore.sync.Goals as goal

pub returns-in_err-sync_all-clause-follows : goal.returns-in_err-sync_all-clause-follows
returns-in_err-sync_all-clause-follows g c =
    subst (λ (s : SyncedState g.row.D.Denot). SyncedFollows g.D.Disk.kind s
    (record { disk = c.sync_all.new.disk; syncs = c.self.inside.syncs }) []) c.self.view_is
    (c.sync_all.ensures.follows c.self.inside.syncs c.self.inside.syncs (omega arith))

pub returns-clause-follows : goal.returns-clause-follows
returns-clause-follows g c =
    let le : c.self.inside.syncs ≤ c.saturating_add-self-inside.result = search rules in
    subst (λ (s : SyncedState g.row.D.Denot). SyncedFollows g.D.Disk.kind s
    (record { disk = c.sync_all.new.disk; syncs = c.saturating_add-self-inside.result }) []) c.self.view_is
    (c.sync_all.ensures.follows c.self.inside.syncs c.saturating_add-self-inside.result le)
