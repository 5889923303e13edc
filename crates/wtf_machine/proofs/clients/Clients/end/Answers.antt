use Rattle.std.specs.FinMap.{nat_cmp-IsAntisymmetric}
use Rattle.std.specs.Cmp.{nat_cmp_total}
use Rattle.wtf_machine.specs.Verdicts.{open_in}
use Rattle.wtf_machine.proofs.MapLaws.{map_of-take}
use Rattle.wtf_machine.proofs.clients.Clients.end.Goals as goal

pub returns-clause-gone : goal.returns-clause-gone
returns-clause-gone c = map_of-take nat_cmp_total (open_in c.args.self.now.changed.items) nat_cmp-IsAntisymmetric _ _ c.args.c c.remove.ensures.updates.0
