use Rattle.std.proofs.Common.{◌∙◌}
use Rattle.wtf_machine.proofs.OrderedLaws.{count-set}
use Rattle.wtf_machine.proofs.file_paths.FilePaths.count.Goals as goal

pub returns : goal.returns
returns c = c.len.ensures.len ∙ count-set _ _ c.self.view_is c.len.ensures.ordered
