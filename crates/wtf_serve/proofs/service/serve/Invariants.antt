use Rattle.wtf_script.specs.Reading.{work}
use Rattle.wtf_serve.specs.Cores.{engine}
use Rattle.wtf_serve.specs.Endings.{devices}
use Rattle.wtf_serve.specs.Passes.{input, hand}
use Rattle.wtf_serve.specs.Stocks.{stock}
use Rattle.wtf_serve.proofs.Serving.{Serving}
use Rattle.wtf_serve.proofs.service.serve.Given as goal

-- the run so far, and what its lines left alone
abbrev pub invariant-loop-more : goal.invariant-loop-more
invariant-loop-more g l = record {
  run : Serving (engine g.S.SliceStore.kind) (g.K.Keeper.follows l.fn.keeper l.keeper) l.fn.settings
      (devices (g.I.Source.view l.fn.script) (g.O.Sink.view l.fn.out) l.fn.shelf (g.K.Keeper.view l.fn.keeper))
      (hand (input (g.I.Source.view l.script) l.reader.lines) (g.O.Sink.view l.out) (stock l.shelf (g.K.Keeper.view l.keeper)) l.core) l.bad;
}

abbrev pub decreases-loop-more : goal.decreases-loop-more
decreases-loop-more g l = work l.reader.lines
