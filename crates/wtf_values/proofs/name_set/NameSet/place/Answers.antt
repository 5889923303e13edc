use Rattle.std.proofs.Common.{IfOk, IfErr, sym, subst}
use Rattle.wtf_values.specs.Names.{IsAt, IsGap}
use Rattle.wtf_values.specs.Trees.{listed}
use Rattle.wtf_values.proofs.NameLaws.{named}
use Rattle.wtf_values.proofs.name_set.NameSet.place.Goals as goal

pub returns-clause-found : goal.returns-clause-found
returns-clause-found c =
    subst (λ l. IfOk c.place.result (IsAt l c.args.name.now)) (sym (named (listed c.self.inside.names) c.args.self.now c.self.view_is c.self.invariant)) c.place.ensures.found

pub returns-clause-absent : goal.returns-clause-absent
returns-clause-absent c =
    subst (λ l. IfErr c.place.result (IsGap l c.args.name.now)) (sym (named (listed c.self.inside.names) c.args.self.now c.self.view_is c.self.invariant)) c.place.ensures.absent
