use Rattle.std.proofs.Common.{◌≡◌, ◌∙◌, sym, ap}
use Rattle.std.proofs.lemmas.Slice.Eq.{slice_eq-Decides, bytes_eq-Decides}
use Rattle.wtf_model.specs.declared.answer.Answer.TheVariants as answer
use Rattle.wtf_model.proofs.same.is_same_answer.Goals as goal

pub returns-in-Names-Names : goal.returns-in-Names-Names
returns-in-Names-Names c =
    let shown = c.in-Names-Names.is-0 in
    let now = c.in-Names-Names.is-1 in
    let decides = slice_eq-Decides bytes_eq-Decides c.in-Names-Names.x c.in-Names-Names.y c.eq-in-Names-Names.result c.eq-in-Names-Names.ensures in (
      λ is. shown ∙ ap answer.Names (decides.0 is) ∙ sym now,
      λ is. let same : answer.Names c.in-Names-Names.x ≡ answer.Names c.in-Names-Names.y = sym shown ∙ is ∙ now in let names : c.in-Names-Names.x ≡ c.in-Names-Names.y = cc in decides.1 names,
    )
