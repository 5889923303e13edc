use Rattle.std.proofs.Common.{true, false, [], ◌∷◌, codes, refl}
use Rattle.wtf_model.specs.declared.item.Item.TheVariants.{BodyOf}
use Rattle.wtf_model.specs.Examples.{a}
use Rattle.wtf_model.proofs.ItemExamples.{appends}
use Rattle.wtf_model.proofs.item_examples.appends_beside_appends.Goals as goal

pub returns : goal.returns
returns c = record {
  read = λ s h bytes there path. appends (BodyOf a ∷ []) true s h bytes there path refl;
  another_file = λ s h bytes there path. appends (BodyOf (codes "/b") ∷ []) false s h bytes there path refl;
}
