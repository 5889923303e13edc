use Rattle.wtf_overlay.proofs.Dropping.{IsRunIn-take, EdgesIn-take}
use Rattle.wtf_overlay.proofs.finding.entries_within.Goals as goal

pub entries_up_to-requires : goal.entries_up_to-requires
entries_up_to-requires c = record { run = IsRunIn-take 0 _ c.entries_from-found.result.now _ c.entries_from-found.ensures.run }

pub returns-clause-edges : goal.returns-clause-edges
returns-clause-edges c = λ p edges. c.entries_up_to.ensures.edges p (EdgesIn-take p c.entries_from-found.result.now _ (c.entries_from-found.ensures.edges p edges))
