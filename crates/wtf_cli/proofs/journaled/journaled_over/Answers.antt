use Rattle.std.proofs.Common.{inr}
use Rattle.wtf_cli.proofs.Statuses.{program_status}
use Rattle.wtf_cli.proofs.journaled.journaled_over.Goals as goal

pub returns-clause-status : goal.returns-clause-status
returns-clause-status g c = c.brought_out.ensures.known (inr (program_status _ _ _ _ _ _ c.wtf_journaled-status.ensures.ran))

pub returns-clause-ran : goal.returns-clause-ran
returns-clause-ran g c = record {
  found = c.wtf_journaled-status.result;
  sink = g.O.Sink.view c.wtf_journaled-status.new.out;
  run = rw (← c.behind-words.ensures) c.wtf_journaled-status.ensures.ran;
  out = c.brought_out.ensures.out;
}
