use Rattle.wtf_healer.proofs.Nothing.{live_none}
use Rattle.wtf_healer.proofs.examples.nothing_is_lost.Goals as goal

pub returns : goal.returns
returns c told bytes t h = live_none told bytes t h
