-- How the program ends.
use Rattle.std.specs.Prelude.{◌≡◌, ◌⊎◌, ℕ, List, Some}
use Rattle.wtf_dev.specs.Counts.{Rose}
use Rattle.wtf_dev.specs.Streams.{SinkView}
use Rattle.wtf_real.specs.declared.fault.OpenFault.{OpenFault}
use Rattle.wtf_real.specs.declared.fault.OpenFault.TheVariants.{Failed, Memory}
use Rattle.wtf_checker.specs.Checked.{Streams, IsChecked}

-- the status where a file could not be opened: there is none that can be read, or memory was wanted
abbrev pub check_open_status : OpenFault → ℕ
check_open_status Failed = 10
check_open_status Memory = 7

-- A check that ended with this status once what the sink held back was brought out, to which no byte was added: it is that of the
-- check, or 4 where the sink failed.
pub record IsCheckOver (status : ℕ) (old new : Streams) : Type 0 where
  pub found : ℕ
  pub sink : SinkView
  pub checked : IsChecked found old (record { script = new.script; output = new.output; sink = sink })
  pub taken : (bytes : List ℕ) → sink.taken ≡ Some bytes → new.sink.taken ≡ Some bytes
  pub ended : ((status ≡ found) × (new.sink.faults ≡ sink.faults)) ⊎ ((status ≡ 4) × Rose sink.faults new.sink.faults)
