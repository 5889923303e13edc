use Rattle.std.proofs.Common.{ℕ, ◌<◌, List, length, ◌∙◌, ap, sym, subst, arith}
use Rattle.wtf_values.specs.Names.{Rise, set_of, without_name, IsAt}
use Rattle.wtf_values.specs.Trees.{listed}
use Rattle.wtf_values.proofs.NameLaws.{named, Rise-cut, set_of-without}
use Rattle.wtf_values.proofs.name_set.NameSet.remove_at.Goals as goal

pub without-requires : goal.without-requires
without-requires c = omega (arith, c.requires, ap length (named (listed c.self.inside.names) c.args.self.now c.self.view_is c.self.invariant))

pub invariant_of-self : goal.invariant_of-self
invariant_of-self c =
    let items = listed c.self.inside.names in
    let same = named items c.args.self.now c.self.view_is c.self.invariant in
    subst Rise (sym c.in_ok-names.ensures) (Rise-cut items c.args.at c.self.invariant (subst (λ (l : List (List ℕ)). c.args.at < length l) same c.requires))

pub returns-clause-ok : goal.returns-clause-ok
returns-clause-ok c = λ name at.
    let items = listed c.self.inside.names in
    let same = named items c.args.self.now c.self.view_is c.self.invariant in
    ap set_of c.in_ok-names.ensures ∙ set_of-without items name c.args.at c.self.invariant (subst (λ l. IsAt l name c.args.at) same at)
    ∙ ap (λ s. without_name s name) c.self.view_is
