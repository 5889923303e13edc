use Rattle.std.proofs.Common.{◌≡◌, subst, sym, ◌∙◌}
use Rattle.wtf_overlay.specs.Clips.{Within}
use Rattle.wtf_overlay.specs.Stacks.{StandFor}
use Rattle.wtf_overlay.proofs.Stacking.{StandFor-alike}
use Rattle.wtf_overlay.proofs.layers.LayersClone.clone.Goals as goal

pub invariant_of-result : goal.invariant_of-result
invariant_of-result c =
    let old = c.self.inside in
    let same : c.in_ok-share.field-0 ≡ old.entries = c.in_ok-share.ensures in
    let tail : c.in_ok-to_vec.field-0.items ≡ old.tail.items =
    c.in_ok-to_vec.ensures.items_if_clones_equal (λ x y same. same) ∙ c.deref.ensures.value in (
      subst (λ es. StandFor es c.in_ok-clone.field-0.items c.in_ok-to_vec.field-0.items) (sym same)
          (subst (λ l. StandFor old.entries c.in_ok-clone.field-0.items l) (sym tail)
          (StandFor-alike old.entries old.tail.items old.runs.items c.in_ok-clone.field-0.items c.in_ok-clone.ensures.cases.0 c.self.invariant.0)),
      subst (λ es. Within old.reach es) (sym same) c.self.invariant.1,
    )
