-- Which statuses a run may end with.
use Rattle.std.specs.Prelude.{◌≡◌, ◌<◌, ◌⊎◌, ℕ, Bool, true, false, if◌then◌else◌}
use Rattle.wtf_hostile.specs.declared.fault.Device.{Device}
use Rattle.wtf_hostile.specs.declared.fault.Device.TheVariants.{Source, Sink, Keeper, Store}

-- of which no device failed: whether a line was bad, and a server was down at the end
abbrev pub due_status : Bool → Bool → ℕ
due_status bad down = if down then 5 else (if bad then 1 else 0)

-- of which calls of this device failed, from this one on, and `due` is the status that is due where all lines were answered
abbrev pub MayFail : Device → ℕ → ℕ → ℕ → Type 0
MayFail Source call due status = status ≡ 3
MayFail Sink call due status = status ≡ 4
MayFail Keeper call due status = ((call ≡ 0) × (status ≡ 8)) ⊎ ((0 < call) × ((status ≡ due) ⊎ (status ≡ 5)))
MayFail (Store k) call due status = (status ≡ due) ⊎ (status ≡ 5)

-- the same, where a call of it failed, or none
abbrev pub MayEnd : Device → ℕ → Bool → ℕ → ℕ → Type 0
MayEnd device call false due status = status ≡ due
MayEnd device call true due status = MayFail device call due status
