use Rattle.wtf_clients.proofs.Common.{IsTidied, TablesView, refl, subst}
use Rattle.wtf_clients.proofs.Soundness.{tidied_sound}
use Rattle.wtf_clients.proofs.{Lives.tables_of}
use Rattle.wtf_clients.proofs.tables.Tables.tidy.Goals as goal
use Rattle.wtf_clients.proofs.tables.Tables.tidy.Goals.{After-prune_when_due}

-- the tables before it, and behind it
abbrev old : After-prune_when_due → TablesView
old c = tables_of c.self.inside

abbrev new : After-prune_when_due → TablesView
new c = record (old c) { kv = c.prune_when_due.new.self }

tidied : (c : After-prune_when_due) → IsTidied (old c) (new c)
tidied c =
    let did = c.prune_when_due.ensures in
    record { number = did.number; pins = did.pins; kept = did.kept; maps = did.maps; versions = did.versions; next_tx = refl; clients = refl; beside = refl }

pub invariant_of-self : goal.invariant_of-self
invariant_of-self c = tidied_sound (old c) (new c) c.self.invariant (tidied c)

pub returns-clause-tidied : goal.returns-clause-tidied
returns-clause-tidied c = subst (λ (t : TablesView). IsTidied t (new c)) c.self.view_is (tidied c)

pub returns-clause-sound : goal.returns-clause-sound
returns-clause-sound c = tidied_sound (old c) (new c) c.self.invariant (tidied c)
