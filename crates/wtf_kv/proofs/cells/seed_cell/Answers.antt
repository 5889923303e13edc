use Rattle.std.proofs.Common.{ap, ◌∙◌, ◌∷◌, [], ◌++◌, Some}
use Rattle.wtf_kv.proofs.Updated.{versions_updated}
use Rattle.wtf_kv.proofs.cells.seed_cell.Goals as goal

pub returns-in-Ok-clause-ok : goal.returns-in-Ok-clause-ok
returns-in-Ok-clause-ok g c =
    versions_updated g.K.Ord.cmp g.met.K.StoreKey.exact c.args.cells.now.entries _ c.args.key c.push.new.self (λ _. (c.args.number, Some c.args.value) ∷ []) c.in-Ok.ensures.updates.0
    (c.in_ok-push.ensures.items ∙ ap (λ vs. vs ++ (c.args.number, Some c.args.value) ∷ []) c.in_ok-versions.ensures.items)
