use Rattle.std.proofs.Common.{◌≡◌, ◌++◌, ◌∷◌, [], subst, sym, ap, ◌∙◌}
use Rattle.wtf_overlay.specs.Clips.{Within}
use Rattle.wtf_overlay.specs.Stacks.{StandFor}
use Rattle.wtf_overlay.proofs.Wholes.{StandFor-one}
use Rattle.wtf_overlay.proofs.layers.Layers.of_run.Goals as goal

pub invariant_of-result : goal.invariant_of-result
invariant_of-result c =
    let es = c.args.run.items in
    let r = c.in_ok-from_vec.field-0 in
    let list : c.in_ok-entries.entries ≡ es = c.in_ok-entries.ensures ∙ c.as_slice.ensures.value in
    let runs : c.push.new.self.items ≡ r ∷ [] = c.in_ok-push.ensures.items ∙ ap (λ l. l ++ r ∷ []) c.new-runs.ensures.items in (
      subst (λ l. StandFor l c.push.new.self.items c.new.result.items) (sym list)
          (subst (λ l. StandFor es l c.new.result.items) (sym runs)
          (subst (λ l. StandFor es (r ∷ []) l) (sym c.new.ensures.items) (StandFor-one es r c.in_ok-from_vec.ensures c.requires))),
      subst (λ l. Within c.reach_of-reach.result l) (sym list)
          (subst (λ l. Within c.reach_of-reach.result l) c.as_slice-2.ensures.value c.reach_of-reach.ensures),
    )
