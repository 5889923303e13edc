use Rattle.std.proofs.Common.{ℕ, List}
use Rattle.wtf_dev.specs.Streams.{SourceView}
use Rattle.wtf_script.specs.Reading.{work}
use Rattle.wtf_checker.specs.Reading.{IsReading}
use Rattle.wtf_checker.proofs.script.skip.Given as goal

-- lines were read on
abbrev pub invariant-loop-stop : goal.invariant-loop-stop
invariant-loop-stop g l = record {
  read : (start : SourceView) (lines : List (List ℕ)) → IsReading start (g.I.Source.view l.fn.script) l.fn.reader.lines lines
      → (more : List (List ℕ)) × IsReading start (g.I.Source.view l.script) l.reader.lines more;
}

abbrev pub decreases-loop-stop : goal.decreases-loop-stop
decreases-loop-stop g l = work l.reader.lines
