use Rattle.std.proofs.Common.{sym}
use Rattle.wtf_values.proofs.NameLaws.{without-missing, has-gap}
use Rattle.wtf_values.proofs.name_set.NameSet.remove.Goals as goal

pub returns-in-Err-clause-ok : goal.returns-in-Err-clause-ok
returns-in-Err-clause-ok c =
    let s = c.args.self.now in
    let name = c.args.name.now in
    sym (without-missing s name (has-gap s name c.in-Err.field-0 c.in-Err.ensures.absent))
