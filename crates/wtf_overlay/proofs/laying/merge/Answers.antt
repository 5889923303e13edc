use Rattle.std.proofs.Common.{◌≡◌, ◌++◌, ℕ, Bool}
use Rattle.std.proofs.lemmas.Result.{IfOk-weaker}
use Rattle.wtf_overlay.specs.Edges.{EdgesIn}
use Rattle.wtf_overlay.specs.Runs.{laid_over, Shows}
use Rattle.wtf_overlay.proofs.Edging.{EdgesIn-joined}
use Rattle.wtf_overlay.proofs.Merging.{older_first, newer_first}
use Rattle.wtf_overlay.proofs.laying.merge.Goals as goal

pub returns-then-lies_before-clause-shows : goal.returns-then-lies_before-clause-shows
returns-then-lies_before-clause-shows c =
    let newer = c.args.newer.now in
    let older = c.args.older.now in
    IfOk-weaker c.joined.result (λ v. v.items ≡ older ++ newer) (λ v. Shows v.items (laid_over newer older))
    (λ v is. older_first newer older v.items is) c.joined.ensures

pub returns-then-lies_before-clause-edges : goal.returns-then-lies_before-clause-edges
returns-then-lies_before-clause-edges c =
    let newer = c.args.newer.now in
    let older = c.args.older.now in
    IfOk-weaker c.joined.result (λ v. v.items ≡ older ++ newer) (λ v. (p : ℕ → Bool) → EdgesIn p newer → EdgesIn p older → EdgesIn p v.items)
    (λ v is p new old. EdgesIn-joined p older newer v.items is old new) c.joined.ensures

pub returns-then-lies_before-2-clause-shows : goal.returns-then-lies_before-2-clause-shows
returns-then-lies_before-2-clause-shows c =
    let newer = c.args.newer.now in
    let older = c.args.older.now in
    let run = c.lies_before-2.ensures c.if-lies_before-2.true in
    IfOk-weaker c.joined-then-lies_before-2.result (λ v. v.items ≡ newer ++ older) (λ v. Shows v.items (laid_over newer older))
    (λ v is. newer_first _ newer older v.items is run) c.joined-then-lies_before-2.ensures

pub returns-then-lies_before-2-clause-edges : goal.returns-then-lies_before-2-clause-edges
returns-then-lies_before-2-clause-edges c =
    let newer = c.args.newer.now in
    let older = c.args.older.now in
    IfOk-weaker c.joined-then-lies_before-2.result (λ v. v.items ≡ newer ++ older) (λ v. (p : ℕ → Bool) → EdgesIn p newer → EdgesIn p older → EdgesIn p v.items)
    (λ v is p new old. EdgesIn-joined p newer older v.items is new old) c.joined-then-lies_before-2.ensures
