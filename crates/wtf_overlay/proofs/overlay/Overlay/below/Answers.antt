use Rattle.wtf_overlay.proofs.Clipping.{clip_list_within}
use Rattle.wtf_overlay.proofs.overlay.Overlay.below.Goals as goal

pub returns-else-passes : goal.returns-else-passes
returns-else-passes c = rw (clip_list_within c.args.end c.args.self.now c.if-passes.ensures) c.share.ensures
