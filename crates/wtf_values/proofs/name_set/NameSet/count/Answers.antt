use Rattle.std.proofs.Common.{◌∙◌, ap, sym, length}
use Rattle.wtf_values.specs.Trees.{listed}
use Rattle.wtf_values.proofs.NameLaws.{named}
use Rattle.wtf_values.proofs.name_set.NameSet.count.Goals as goal

pub returns : goal.returns
returns c = c.count.ensures ∙ ap length (sym (named (listed c.self.inside.names) c.args.self.now c.self.view_is c.self.invariant))
