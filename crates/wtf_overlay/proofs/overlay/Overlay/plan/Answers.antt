use Rattle.std.proofs.Common.{◌+◌, ◌*◌, ◌≤◌, length, subst}
use Rattle.std.proofs.lemmas.List.{append-nil}
use Rattle.std.specs.Prelude.{IfOk}
use Rattle.wtf_overlay.specs.Origin.{origin, Plans}
use Rattle.wtf_overlay.proofs.overlay.Overlay.plan.Goals as goal

pub returns-clause-origins : goal.returns-clause-origins
returns-clause-origins c =
    subst (λ es. IfOk c.plan_with.result (λ v. Plans v.items c.args.len (λ i. origin es (c.args.off + i))))
    (append-nil c.args.self.now) c.plan_with.ensures.origins

pub returns-clause-count : goal.returns-clause-count
returns-clause-count c =
    subst (λ es. IfOk c.plan_with.result (λ v. length v.items ≤ 2 * length es + 1)) (append-nil c.args.self.now) c.plan_with.ensures.count
