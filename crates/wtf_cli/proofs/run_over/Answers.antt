use Rattle.wtf_cli.proofs.run_over.Goals as goal

pub returns-clause-ran : goal.returns-clause-ran
returns-clause-ran g c = record {
  found = c.wtf-status.result;
  sink = g.O.Sink.view c.wtf-status.new.out;
  run = rw (← c.behind-words.ensures) c.wtf-status.ensures.served;
  out = c.brought_out.ensures.out;
}
