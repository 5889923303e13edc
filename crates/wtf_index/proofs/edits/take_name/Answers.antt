use Rattle.wtf_index.proofs.Going.{edit_then}
use Rattle.wtf_index.proofs.edits.take_name.Goals as goal

pub returns-clause-went : goal.returns-clause-went
returns-clause-went c = edit_then _ _ _ _ _ c.in_ok-take_at.ensures.went (edit_then _ _ _ _ _ c.in_ok-drop_from.ensures.went c.in_ok-sub_link.ensures.went)
