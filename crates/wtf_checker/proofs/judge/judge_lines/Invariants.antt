use Rattle.std.proofs.Common.{◌≡◌, ◌+◌, ◌≤◌, ℕ, List, []}
use Rattle.wtf_base.specs.declared.settings.Settings.{Settings}
use Rattle.wtf_dev.specs.Streams.{SourceView}
use Rattle.wtf_script.specs.declared.limits.TheConstants.{SCRIPT_BYTES}
use Rattle.wtf_script.specs.Reading.{work}
use Rattle.wtf_machine.specs.Machines.{machine_in}
use Rattle.wtf_checker.specs.Lawful.{BeginsWith, first, first_text}
use Rattle.wtf_checker.specs.Reading.{IsReading}
use Rattle.wtf_checker.specs.Judging.{IsWithin, IsLawfulSoFar, place}
use Rattle.wtf_checker.proofs.judge.judge_lines.Given as goal

-- the lines so far are answered lawfully
abbrev pub invariant-loop-asked : goal.invariant-loop-asked
invariant-loop-asked g l = record {
  room : l.lines + work l.reader.lines ≤ SCRIPT_BYTES + 1;
  within : IsWithin l.lines (machine_in l.machine);
  read : (start : SourceView) → IsReading start (g.I.Source.view l.fn.script) l.fn.reader.lines []
      → (ls : List (List ℕ)) × IsReading start (g.I.Source.view l.script) l.reader.lines ls;
  sofar : (start : SourceView) (settings : Settings) (output : List ℕ) → IsReading start (g.I.Source.view l.fn.script) l.fn.reader.lines []
      → machine_in l.fn.machine ≡ first settings
      → BeginsWith (first_text settings) l.fn.answers output
      → IsLawfulSoFar start (place (g.I.Source.view l.script) l.reader.lines) settings output l.left l.lines (machine_in l.machine);
}

abbrev pub decreases-loop-asked : goal.decreases-loop-asked
decreases-loop-asked g l = work l.reader.lines
