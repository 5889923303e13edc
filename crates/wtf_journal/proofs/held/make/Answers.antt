use Rattle.wtf_changes.specs.Rows.{change_rows}
use Rattle.wtf_journal.proofs.Gives.{draft_changed}
use Rattle.wtf_journal.proofs.held.make.Goals as goal

pub returns-in-Ok : goal.returns-in-Ok
returns-in-Ok c = λ x start. draft_changed x (change_rows c.args.changes.now) c.args.draft start c.change.new.self c.in-Ok.ensures
