use Rattle.std.proofs.Common.{ℕ, arith, ap, length, sym, subst, ◌∙◌}
use Rattle.wtf_overlay.specs.Clips.{Within}
use Rattle.wtf_overlay.specs.Named.{EachByte}
use Rattle.wtf_overlay.specs.Origin.{origin}
use Rattle.wtf_overlay.proofs.Shown.{same_within, same_places}
use Rattle.wtf_overlay.proofs.Wholes.{run_most}
use Rattle.wtf_overlay.proofs.overlay.Overlay.compact.Goals as goal

pub returns-clause-count : goal.returns-clause-count
returns-clause-count c =
    let all = c.in_ok-all in
    omega (
      arith,
      ap length c.in_ok-list.ensures,
      c.in_ok-run.ensures.count,
      ap length c.as_slice.ensures.value,
      run_most c.args.self.now all.all.items all.ensures.run all.ensures.edges,
    )

pub returns-clause-within : goal.returns-clause-within
returns-clause-within c = λ end within.
    let es = c.in_ok-run.run'.items in
    let same = λ (x : ℕ). c.in_ok-run.ensures.origins x ∙ ap (λ l. origin l x) c.as_slice.ensures.value ∙ c.in_ok-all.ensures.origins x in
    subst (λ l. Within end l) (sym c.in_ok-list.ensures) (same_within end es c.args.self.now c.in_ok-run.ensures.compact same within)

pub returns-clause-places : goal.returns-clause-places
returns-clause-places c = λ P named.
    let es = c.in_ok-run.run'.items in
    let same = λ (x : ℕ). c.in_ok-run.ensures.origins x ∙ ap (λ l. origin l x) c.as_slice.ensures.value ∙ c.in_ok-all.ensures.origins x in
    subst (λ l. EachByte P l) (sym c.in_ok-list.ensures) (same_places P es c.args.self.now c.in_ok-run.ensures.compact same named)
