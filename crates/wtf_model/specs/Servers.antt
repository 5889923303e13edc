-- Which servers are down along lines and their answers, and the faults that only a store that failed can have caused.
-- Lines and answers tell all of this: it needs no machine.
use Rattle.std.specs.Prelude.{◌≡◌, ℕ, zero, suc, ◌+◌, ◌==◌, Bool, true, false, not, ◌||◌, nat_lt, nat_le, if◌then◌else◌, List, Ok, Err}
use Rattle.wtf_base.specs.declared.settings.Settings.{Settings}
use Rattle.wtf_model.specs.declared.answer.Answer.{Answer}
use Rattle.wtf_model.specs.declared.answer.Answer.TheVariants as answer
use Rattle.wtf_model.specs.declared.event.Event.{Event}
use Rattle.wtf_model.specs.declared.event.Event.TheVariants as event
use Rattle.wtf_model.specs.Lines.{Line, state_after, AlongBy, count_by}

-- before the first line no server is down
abbrev pub none_down : ℕ → Bool
none_down k = false

-- a line that takes server k down or up does so where it answers `ok`
abbrev pub set_down : (ℕ → Bool) → ℕ → Bool → Answer → ℕ → Bool
set_down down k to answer.Okay j = if j == k then to else down j
set_down down k to a j = down j

abbrev pub down_after_event : (ℕ → Bool) → Event → Answer → ℕ → Bool
down_after_event down (event.Down k) a = set_down down k true a
down_after_event down (event.Up k) a = set_down down k false a
down_after_event down e a = down

-- the servers that are down after a line with this answer
abbrev pub down_after : (ℕ → Bool) → Line → Answer → ℕ → Bool
down_after down (Ok e) a = down_after_event down e a
down_after down (Err bad) a = down

-- and after many
abbrev pub downs_after : (ℕ → Bool) → List Line → List Answer → ℕ → Bool
downs_after down lines answers = state_after down_after down lines answers

-- each line has one answer, and P holds of both, with the servers that are down before the line
abbrev pub AlongDowns : ((ℕ → Bool) → Line → Answer → Type 0) → (ℕ → Bool) → List Line → List Answer → Type 0
AlongDowns P down lines answers = AlongBy down_after P down lines answers

-- no server is down
abbrev pub IsAllUp : (ℕ → Bool) → Line → Answer → Type 0
IsAllUp down line a = (k : ℕ) → down k ≡ false

-- how many of the servers below n are down
abbrev pub downs_below : (ℕ → Bool) → ℕ → ℕ
downs_below down zero = 0
downs_below down (suc n) = (if down n then 1 else 0) + downs_below down n

-- of all of a store's servers
abbrev pub downs : Settings → (ℕ → Bool) → ℕ
downs settings down = downs_below down settings.servers

-- a write that failed while at least as many servers were up as there are replicas, a read or a collection that failed on a server that
-- was up, and a save that failed while no server was down
abbrev pub is_device_fault : Settings → (ℕ → Bool) → Answer → Bool
is_device_fault settings down answer.FaultWrite = nat_le (settings.replicas + downs settings down) settings.servers
is_device_fault settings down (answer.FaultRead k) = not (down k)
is_device_fault settings down (answer.FaultPunch k) = not (down k)
is_device_fault settings down answer.FaultSave = downs settings down == 0
is_device_fault settings down a = false

-- where each slice has as many copies as there are replicas, also a read that failed while fewer servers than that were
-- down
abbrev pub is_device_fault_of_run : Settings → (ℕ → Bool) → Answer → Bool
is_device_fault_of_run settings down (answer.FaultRead k) = not (down k) || nat_lt (downs settings down) settings.replicas
is_device_fault_of_run settings down a = is_device_fault settings down a

-- how many lines answered such a fault
abbrev pub count_along : ((ℕ → Bool) → Answer → Bool) → (ℕ → Bool) → List Line → List Answer → ℕ
count_along counts down lines answers = count_by down_after counts down lines answers
