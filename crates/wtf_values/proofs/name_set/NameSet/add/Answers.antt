use Rattle.std.proofs.Common.{sym, subst}
use Rattle.wtf_values.specs.Names.{names_in, IsAt}
use Rattle.wtf_values.proofs.NameLaws.{with-there, has-at}
use Rattle.wtf_values.proofs.name_set.NameSet.add.Goals as goal

pub returns-in-Ok-clause-ok : goal.returns-in-Ok-clause-ok
returns-in-Ok-clause-ok c =
    let s = c.args.self.now in
    let name = c.args.name in
    let at = subst (λ q. IsAt (names_in s) q c.in-Ok.field-0) c.as_bytes.ensures c.in-Ok.ensures.found in
    sym (with-there s name (has-at s name c.in-Ok.field-0 at))
