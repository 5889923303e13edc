use Rattle.wtf_imagefmt.specs.Rows.{image_rows}
use Rattle.wtf_changes.specs.Rows.{change_rows}
use Rattle.wtf_changes.proofs.Applied.{has_applied, refused_made}
use Rattle.wtf_changes.proofs.applying.apply.Goals as goal

pub returns-in-Err-change-clause-refused : goal.returns-in-Err-change-clause-refused
returns-in-Err-change-clause-refused c =
    refused_made c.args.image.now c.args.changes.now (image_rows c.in_ok-image.image) (change_rows c.in-Ok.changes) c.in_ok-image.ensures
    c.in-Ok.ensures.changes
    c.in_ok-draft.draft c.in-Err-change.why c.in_ok-draft.ensures c.in-Err-change.ensures

pub returns-clause-made : goal.returns-clause-made
returns-clause-made c =
    has_applied c.args.image.now c.args.changes.now (image_rows c.in_ok-image.image) (change_rows c.in-Ok.changes) c.in_ok-image.ensures c.in-Ok.ensures.changes
    c.in_ok-draft.draft c.change.new.self (image_rows c.in_ok-image-2.image) c.in_ok-bytes.bytes.items
    c.in_ok-draft.ensures c.in-Ok-change.ensures c.in_ok-image-2.ensures c.in_ok-bytes.ensures.text c.in_ok-bytes.ensures.wide
