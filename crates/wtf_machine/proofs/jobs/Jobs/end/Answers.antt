use Rattle.std.specs.FinMap.{nat_cmp-IsAntisymmetric}
use Rattle.std.specs.Cmp.{nat_cmp_total}
use Rattle.wtf_machine.specs.Kept.{planned_in}
use Rattle.wtf_machine.proofs.MapLaws.{map_of-take}
use Rattle.wtf_machine.proofs.jobs.Jobs.end.Goals as goal

pub returns-clause-gone : goal.returns-clause-gone
returns-clause-gone c = map_of-take nat_cmp_total (planned_in c.args.self.now.changed.items) nat_cmp-IsAntisymmetric _ _ c.args.j c.remove.ensures.updates.0
