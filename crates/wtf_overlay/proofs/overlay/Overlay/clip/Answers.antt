use Rattle.std.proofs.Common.{sym}
use Rattle.wtf_overlay.proofs.Clipping.{clip_list_within}
use Rattle.wtf_overlay.proofs.overlay.Overlay.clip.Goals as goal

pub returns-then-not-passes-clause-ok : goal.returns-then-not-passes-clause-ok
returns-then-not-passes-clause-ok c = sym (clip_list_within c.args.end c.args.self.now c.if-not-passes.ensures)
