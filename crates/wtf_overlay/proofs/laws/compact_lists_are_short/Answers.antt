use Rattle.wtf_overlay.proofs.Shown.{compact_count}
use Rattle.wtf_overlay.proofs.laws.compact_lists_are_short.Goals as goal

pub returns : goal.returns
returns c = λ end es compact within. compact_count end es compact within
