use Rattle.std.proofs.Common.{rules, ◌≡◌, Some, refl, subst}
use Rattle.wtf_occ.specs.Known.{IsPlaced}
use Rattle.wtf_occ.proofs.Knowing.{summed_followed}
use Rattle.wtf_occ.proofs.known.followed.Goals as goal

pub returns : goal.returns
returns g c = λ cs was.
    let order = g.K.Ord.cmp in
    let outcome = g.C.Cell.outcome in
    let summary = g.C.Summarized.summary_of in
    let is : c.args.summed ≡ Some c.in_ok-summed.summed = search rules in
    summed_followed order outcome summary cs c.args.change.now c.args.key.now c.in_ok-summed.summed _ refl c.changed_summary-summed.ensures
    (subst (IsPlaced order outcome summary cs c.args.key.now) is was)
