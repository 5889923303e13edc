use Rattle.wtf_model.specs.declared.answer.Word.TheVariants.{NoEnt, IsDir}
use Rattle.wtf_model.proofs.CallLaws.{call-open_refused, source-no_entry, source-directory}
use Rattle.wtf_model.proofs.examples.open_is_refused.Goals as goal

pub returns : goal.returns
returns c = record {
  no_entry = λ cap s f p unused gone. call-open_refused cap s f p NoEnt unused (source-no_entry s.tree p gone);
  directory = λ cap s f p unused is. call-open_refused cap s f p IsDir unused (source-directory s.tree p is);
}
