use Rattle.std.proofs.Common.{◌∙◌, ap, length, arith}
use Rattle.std.specs.Prelude.{slice_get}
use Rattle.wtf_values.specs.Trees.{listed}
use Rattle.wtf_values.proofs.NameLaws.{named}
use Rattle.wtf_values.proofs.name_set.NameSet.name.Goals as goal

pub name_at-requires : goal.name_at-requires
name_at-requires c = omega (arith, c.requires, ap length (named (listed c.self.inside.names) c.args.self.now c.self.view_is c.self.invariant))

pub returns : goal.returns
returns c = ap (λ l. slice_get l c.args.i) (named (listed c.self.inside.names) c.args.self.now c.self.view_is c.self.invariant) ∙ c.name_at.ensures
