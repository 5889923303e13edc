use Rattle.std.proofs.Common.{length, ap, sym, subst, arith, ◌∙◌}
use Rattle.wtf_values.specs.Names.{Rise, set_of, with_name, IsGap}
use Rattle.wtf_values.specs.Trees.{listed}
use Rattle.wtf_values.proofs.NameLaws.{named, Rise-with, set_of-with}
use Rattle.wtf_values.proofs.name_set.NameSet.add_at.Goals as goal

pub with-requires : goal.with-requires
with-requires c =
    let inside = c.requires.inside in
    omega (arith, inside, ap length (named (listed c.self.inside.names) c.args.self.now c.self.view_is c.self.invariant))

pub invariant_of-self : goal.invariant_of-self
invariant_of-self c =
    let items = listed c.self.inside.names in
    let same = named items c.args.self.now c.self.view_is c.self.invariant in
    subst Rise (sym c.in_ok-names.ensures) (Rise-with items c.args.name c.args.at c.self.invariant (subst (λ l. IsGap l c.args.name c.args.at) same c.requires))

pub returns-clause-ok : goal.returns-clause-ok
returns-clause-ok c =
    let items = listed c.self.inside.names in
    let name = c.args.name in
    let same = named items c.args.self.now c.self.view_is c.self.invariant in
    ap set_of c.in_ok-names.ensures ∙ set_of-with items name c.args.at c.self.invariant (subst (λ l. IsGap l name c.args.at) same c.requires)
    ∙ ap (λ s. with_name s name) c.self.view_is
