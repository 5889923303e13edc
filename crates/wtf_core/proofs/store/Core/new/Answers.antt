use Rattle.wtf_core.proofs.Common.{CacheInside, TablesView, TablesBytes, sym, subst}
use Rattle.wtf_core.proofs.Started.{nothing_in, stands_first, bytes_first}
use Rattle.wtf_core.proofs.store.Core.new.Goals as goal

pub returns-in-Ok-over-clause-stands : goal.returns-in-Ok-over-clause-stands
returns-in-Ok-over-clause-stands c = λ told.
    let made = c.in-Ok.ensures in
    let core = c.in-Ok-over.ensures in
    stands_first told c.args.settings c.in-Ok.tables c.in-Ok-over.core core.settings core.tables made.number made.clients made.beside made.first core.up
    made.sound

pub returns-in-Ok-over-clause-inside : goal.returns-in-Ok-over-clause-inside
returns-in-Ok-over-clause-inside c = λ P Q.
    let made = c.in-Ok.ensures in
    record {
      tables = subst (λ (t : TablesView). TablesBytes P Q t) (sym c.in-Ok-over.ensures.tables)
          (bytes_first P Q c.in-Ok.tables made.sound made.number made.clients made.beside made.first);
      lists = subst (CacheInside P) (sym c.in-Ok-over.ensures.lists) (λ e there. absurd (nothing_in e there));
    }
