use Rattle.wtf_imagefmt.specs.Rows.{image_rows}
use Rattle.wtf_journal.proofs.Gives.{draft_text}
use Rattle.wtf_journal.proofs.held.text_of.Goals as goal

pub returns : goal.returns
returns c = draft_text c.args.draft.now (image_rows c.in_ok-image.image) c.write.result c.requires c.in_ok-image.ensures c.write.ensures.text
    c.write.ensures.wide
