use Rattle.std.proofs.Common.{ap, ◌∙◌}
use Rattle.std.specs.FinMap.{insert, nat_cmp-IsAntisymmetric}
use Rattle.std.specs.Cmp.{nat_cmp_total}
use Rattle.wtf_machine.specs.Kept.{planned_in, jobs_in}
use Rattle.wtf_machine.proofs.SeenLaws.{planned_new}
use Rattle.wtf_machine.proofs.MapLaws.{map_of-put}
use Rattle.wtf_machine.proofs.jobs.Jobs.add.Goals as goal

pub returns-in-Ok-clause-ok : goal.returns-in-Ok-clause-ok
returns-in-Ok-clause-ok c =
    map_of-put nat_cmp_total (planned_in c.args.self.now.changed.items) nat_cmp-IsAntisymmetric _ _ c.args.j c.args.job c.in-Ok.ensures.updates.0
    ∙ ap (insert (jobs_in c.args.self.now) c.args.j) (planned_new c.args.self.now.changed.items c.args.job c.requires.since)
