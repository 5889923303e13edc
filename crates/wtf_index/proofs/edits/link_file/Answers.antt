use Rattle.wtf_index.proofs.Going.{edit_then}
use Rattle.wtf_index.proofs.edits.link_file.Goals as goal

pub returns-clause-went : goal.returns-clause-went
returns-clause-went c = edit_then _ _ _ _ _ c.in_ok-put_at.ensures.went (edit_then _ _ _ _ _ c.in_ok-add_to.ensures.went c.in_ok-add_link.ensures.went)
