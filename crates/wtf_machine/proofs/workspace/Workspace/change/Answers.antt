use Rattle.std.proofs.Common.{sym, ap, ◌∙◌}
use Rattle.wtf_model.specs.Done.{Done}
use Rattle.wtf_model.specs.Items.{changes, unless_refused}
use Rattle.wtf_machine.specs.Sessions.{session_in}
use Rattle.wtf_machine.proofs.workspace.Workspace.change.Goals as goal

pub returns-clause-left : goal.returns-clause-left
returns-clause-left c = sym (ap (λ (d : Done). d.session) c.in_ok-due.ensures)

pub returns-clause-changed : goal.returns-clause-changed
returns-clause-changed c =
    c.unless_refused.ensures ∙ ap (unless_refused c.in_ok-due.due) c.in_ok-changes.ensures
    ∙ ap (λ (d : Done). unless_refused d.answer (changes (session_in c.args.self.now) c.args.op.now)) (sym c.in_ok-due.ensures)
