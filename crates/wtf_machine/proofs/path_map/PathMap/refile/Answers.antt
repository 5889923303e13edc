use Rattle.wtf_machine.proofs.FileWays.{refiled-by}
use Rattle.wtf_machine.proofs.path_map.PathMap.refile.Goals as goal

pub returns : goal.returns
returns c = refiled-by _ _ _ _ _ _ _ c.take_each.ensures c.deref.ensures c.in_ok-put_each.ensures
