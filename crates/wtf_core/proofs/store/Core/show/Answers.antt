use Rattle.wtf_core.proofs.Common.{Store, Key, Value, CoreView, ShowsTree, IfOk, subst}
use Rattle.wtf_core.proofs.store.Core.show.Goals as goal

pub returns-clause-shows : goal.returns-clause-shows
returns-clause-shows c =
    subst (λ (core : CoreView). IfOk c.tree_now.result (λ a. ShowsTree core.settings.region core.tables.kv a)) c.self.view_is
    (subst (λ (kv : Store Key Value). IfOk c.tree_now.result (λ a. ShowsTree c.self.inside.settings.region kv a)) c.kv.ensures c.tree_now.ensures.rows)
