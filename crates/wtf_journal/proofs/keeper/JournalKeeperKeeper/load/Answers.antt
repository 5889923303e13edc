use Rattle.std.proofs.Common.{◌≤◌, [], rules, refl}
use Rattle.wtf_dev.specs.Counts.{Rose}
use Rattle.wtf_journal.proofs.Keeping.{reads_follow, refuses}
use Rattle.wtf_journal.proofs.keeper.JournalKeeperKeeper.load.Goals as goal

pub returns-then-not-is_on-clause-follows : goal.returns-then-not-is_on-clause-follows
returns-then-not-is_on-clause-follows g c =
    let le : c.args.self.now.short ≤ c.saturating_add-self.result = search rules in
    let rose : Rose c.args.self.now.short c.saturating_add-self.result = search rules in
    refuses g.D.Disk.kind c.args.self.now c.saturating_add-self.result [] le rose

pub returns-clause-follows : goal.returns-clause-follows
returns-clause-follows g c = reads_follow g.D.Disk.kind c.args.self.now _ refl c.image.ensures.kept refl refl refl
