use Rattle.wtf_gc_rows.specs.Ready.{IsGcReady}
use Rattle.wtf_gc_rows.proofs.scans.steps_come.Given as goal

-- the calls find what they ask for
abbrev pub invariant-loop-step : goal.invariant-loop-step
invariant-loop-step l = IsGcReady l.dev l.kv l.gc
