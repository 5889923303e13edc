use Rattle.wtf_healer.specs.Ends.{sink_span}
use Rattle.wtf_healer.proofs.Ending.{none_for_memory, over, silent}
use Rattle.wtf_healer.proofs.program.heal_and_tell.Goals as goal

pub tell-status-requires : goal.tell-status-requires
tell-status-requires g c = none_for_memory _ _ _ c.run-ended.result c.run-ended.ensures.stopped

pub returns-clause-over : goal.returns-clause-over
returns-clause-over g c =
    over _ _ _ _ (λ v. v.items) c.tell-status.result c.run-ended.result c.run-ended.ensures.done c.run-ended.ensures.stopped c.tell-status.ensures.done
    c.tell-status.ensures.stopped

pub returns-clause-silent : goal.returns-clause-silent
returns-clause-silent g c =
    silent (sink_span g.O.Sink.view c.args.out.now c.tell-status.new.out) (λ v. v.items) c.tell-status.result c.run-ended.result c.run-ended.ensures.early
    c.tell-status.ensures.done c.tell-status.ensures.stopped
