-- Lines with their answers, and what a run counts along them.
use Rattle.std.specs.Prelude.{◌≡◌, ◌+◌, ℕ, Bool, true, false, if◌then◌else◌, List, [], ◌∷◌, ◌++◌, map, length}
use Rattle.std.specs.List.{flat_map}
use Rattle.wtf_model.specs.declared.answer.Answer.{Answer}
use Rattle.wtf_model.specs.declared.answer.Answer.TheVariants as answer
use Rattle.wtf_model.specs.Lines.{Line, machine_after}
use Rattle.wtf_model.specs.Machines.{Machine}
use Rattle.wtf_model.specs.Servers.{none_down, downs_after}
use Rattle.wtf_model.specs.Tree.{Tree}
use Rattle.wtf_core.specs.Outcomes.{has_spilled}
use Rattle.wtf_serve.specs.Answering.{line_data, line_load}
use Rattle.wtf_serve.specs.Openings.{Opening, first}
use Rattle.wtf_serve.specs.Scripts.{line_of, line_text, settings_line}

-- lines with their answers, in order
pub record Log : Type 0 where
  pub lines : List (List ℕ)
  pub answers : List Answer

-- what the lines ask
abbrev pub asked : Log → List (Line)
asked log = map line_of log.lines

-- the machine behind them, where a run starts from this tree
abbrev pub last : Opening → Tree → Log → Machine
last opening t log = machine_after (first opening t) (asked log) log.answers

-- the servers that are down behind them
abbrev pub last_downs : Log → ℕ → Bool
last_downs log = downs_after none_down (asked log) log.answers

-- the line that a run begins with
abbrev pub first_line : Opening → List ℕ
first_line opening = settings_line opening.settings opening.number

-- what is written: the settings, and one line an answer
abbrev pub output : Opening → List Answer → List ℕ
output opening answers = first_line opening ++ flat_map line_text answers

-- an answer that says of no list that it is none
abbrev pub IsUndamaged : Answer → Type 0
IsUndamaged (answer.Damaged k) = ⊥
IsUndamaged a = Unit {0}

abbrev pub is_fault : Answer → Bool
is_fault (answer.FaultRead k) = true
is_fault answer.FaultWrite = true
is_fault (answer.FaultPunch k) = true
is_fault answer.FaultSave = true
is_fault a = false

abbrev pub is_write_fault : Answer → Bool
is_write_fault answer.FaultWrite = true
is_write_fault a = false

-- how many lines answered a fault
abbrev pub fault_count : List Answer → ℕ
fault_count [] = 0
fault_count (a ∷ answers) = (if is_fault a then 1 else 0) + fault_count answers

abbrev pub write_fault_count : List Answer → ℕ
write_fault_count [] = 0
write_fault_count (a ∷ answers) = (if is_write_fault a then 1 else 0) + write_fault_count answers

abbrev pub if_okay : Answer → ℕ → ℕ
if_okay answer.Okay n = n
if_okay a n = 0

-- the bytes that writes and appends with the answer `ok` handed in
abbrev pub written_bytes : List (Line) → List Answer → ℕ
written_bytes (e ∷ es) (a ∷ answers) = if_okay a (length (line_data e)) + written_bytes es answers
written_bytes es answers = 0

-- how many plans to spill a region were answered `planned`
abbrev pub spill_count : List Line → List Answer → ℕ
spill_count (e ∷ es) (a ∷ answers) = (if has_spilled (line_load e) a then 1 else 0) + spill_count es answers
spill_count es answers = 0

-- no region was spilled
abbrev pub IsUnspilledLog : Log → Type 0
IsUnspilledLog log = spill_count (asked log) log.answers ≡ 0
