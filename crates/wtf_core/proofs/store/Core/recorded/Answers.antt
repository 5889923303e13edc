use Rattle.wtf_core.proofs.Common.{IsTrue, Store, is_pinned, Key, Value, sym, ◌∙◌, subst}
use Rattle.wtf_core.proofs.Watching.{watched_pinned}
use Rattle.wtf_core.proofs.store.Core.recorded.Goals as goal

pub changes-requires : goal.changes-requires
changes-requires c =
    subst (λ (kv : Store Key Value). IsTrue (is_pinned kv c.in-Some.since)) (sym c.kv.ensures)
    (watched_pinned c.self.inside.tables c.in-Some.since c.self.invariant.tables_are (sym c.watched.ensures ∙ c.in-Some.is))
