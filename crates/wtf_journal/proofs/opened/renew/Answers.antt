use Rattle.std.proofs.Common.{◌⊎◌, ◌++◌, Bool, sym, subst}
use Rattle.wtf_dev.specs.Disk.{DiskLeaves}
use Rattle.wtf_journal.specs.Held.{renewal}
use Rattle.wtf_journal.specs.Records.{HasBodies}
use Rattle.wtf_journal.proofs.opened.renew.Goals as goal

pub returns-clause-any_moment : goal.returns-clause-any_moment
returns-clause-any_moment g c = λ bodies tells rests.
    subst (λ (b : Bool). DiskLeaves g.D.Disk.kind c.args.disk.now c.append.new.disk
    (λ x. HasBodies bodies (x 0) ⊎ HasBodies (bodies ++ renewal b c.args.image.now) (x 0)))
    (sym c.if-not-behind.false) (c.append.ensures.any_moment bodies tells rests)
