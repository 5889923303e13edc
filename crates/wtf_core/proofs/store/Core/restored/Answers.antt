use Rattle.wtf_core.proofs.Restored.{core_of}
use Rattle.wtf_core.proofs.store.Core.restored.Goals as goal

pub returns-in-Ok-over-clause-loaded : goal.returns-in-Ok-over-clause-loaded
returns-in-Ok-over-clause-loaded c = λ size bytes load.
    let made = c.in-Ok.ensures in
    let core = c.in-Ok-over.ensures in
    core_of size bytes c.args.loaded c.in-Ok.tables c.in-Ok-over.core load core.settings core.tables made.kv made.next made.clients made.beside core.lists
