use Rattle.std.proofs.Common.{ℕ, ◌++◌, List, [], Some, refl, ap, ◌∙◌, arith}
use Rattle.std.proofs.lemmas.List.{append-nil, take_all}
use Rattle.wtf_summary.proofs.Sound.{unmoved}
use Rattle.wtf_summary.proofs.state.bring_out.Goals as goal

pub returns-in-Ok : goal.returns-in-Ok
returns-in-Ok g c = record {
  sound = unmoved (g.O.Sink.view c.args.out.now) (g.O.Sink.view c.write.new.self) c.args.state.now c.requires.sound
      (λ l h. c.in-Ok.ensures.told l h ∙ ap Some (ap (λ (x : List ℕ). l ++ x) (take_all c.in-Ok.field-0 [] (omega arith)) ∙ append-nil l))
      c.in-Ok.ensures.steady;
  lines = refl;
  first = refl;
  text = refl;
  faults = refl;
}
