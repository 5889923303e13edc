use Rattle.wtf_script.specs.Reading.{work}
use Rattle.wtf_serve.specs.Passes.{input}
use Rattle.wtf_journaled.specs.Engine.{journaled_hand, journaled}
use Rattle.wtf_journaled.specs.Runs.{on_devices}
use Rattle.wtf_journaled.proofs.Exits.{Journaling}
use Rattle.wtf_journaled.proofs.run.run.Given as goal

-- the run so far
abbrev pub invariant-loop-more : goal.invariant-loop-more
invariant-loop-more g l = record {
  so_far : Journaling g.S.Disk.kind g.D.Disk.kind g.met.S.Disk.laws g.met.D.Disk.laws l.fn.settings
      (on_devices (g.I.Source.view l.fn.script) (g.O.Sink.view l.fn.out) l.fn.shelf l.fn.disk)
      (journaled_hand g.D.Disk.kind (input (g.I.Source.view l.script) l.reader.lines) (g.O.Sink.view l.out) l.shelf (journaled l.durable l.disk)) l.bad;
}

abbrev pub decreases-loop-more : goal.decreases-loop-more
decreases-loop-more g l = work l.reader.lines
