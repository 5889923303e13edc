use Rattle.wtf_durable.proofs.Smallness.{events_small}
use Rattle.wtf_durable.proofs.laws.many_events_leave_a_small_tree.Goals as goal

pub returns : goal.returns
returns c = λ told image t settings number events answers from form few. events_small told image t settings number events answers from form few
