use Rattle.std.proofs.Common.{ap, subst, sym}
use Rattle.wtf_changes.specs.Drafts.{written}
use Rattle.wtf_journal.specs.declared.held.Shown.{Shown}
use Rattle.wtf_journal.specs.Held.{IsKeptAs, rows_shown}
use Rattle.wtf_journal.proofs.held.draft_of.Goals as goal

pub returns-in-Changed : goal.returns-in-Changed
returns-in-Changed c = (
  written c.in-Changed.draft,
  ap (λ (s : Shown). rows_shown s) c.in-Changed.is,
  sym (subst (λ (s : Shown). IsKeptAs s) c.in-Changed.is c.requires),
)
