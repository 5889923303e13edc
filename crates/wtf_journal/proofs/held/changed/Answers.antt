use Rattle.std.specs.Prelude.{MatchOption, None, Option}
use Rattle.std.proofs.Common.{◌≡◌, arith, subst}
use Rattle.wtf_spillfmt.specs.declared.error.ListError.{ListError}
use Rattle.wtf_changes.specs.Drafts.{DraftRows}
use Rattle.wtf_changes.specs.Outcome.{IsUnread}
use Rattle.wtf_changes.specs.Rows.{change_rows}
use Rattle.wtf_journal.specs.Held.{DrawsHeld, rows_shown}
use Rattle.wtf_journal.proofs.Gives.{changes_made, changes_unread}
use Rattle.wtf_journal.proofs.held.changed.Goals as goal

pub returns-in-Ok : goal.returns-in-Ok
returns-in-Ok c =
    let held = rows_shown c.args.before in
    let drawn = subst (λ (o : Option DraftRows). MatchOption o (held ≡ None) (DrawsHeld held)) c.in-Some.is c.in_ok-draft.ensures in
    changes_made held c.args.bytes.now c.make.result drawn.0 (change_rows c.in-Ok.changes) drawn.1 c.in-Ok.ensures.changes (c.make.ensures drawn.0 drawn.2)

pub returns-in-Err-NotAList : goal.returns-in-Err-NotAList
returns-in-Err-NotAList c =
    let held = rows_shown c.args.before in
    let drawn = subst (λ (o : Option DraftRows). MatchOption o (held ≡ None) (DrawsHeld held)) c.in-Some.is c.in_ok-draft.ensures in
    changes_unread held c.args.bytes.now drawn.0 drawn.1 (λ i. omega (arith, c.type_inv.bytes i))
    (subst (λ (w : ListError). IsUnread c.args.bytes.now w) c.in-Err-NotAList.field-0-is c.in-Err-NotAList.ensures.cause)
