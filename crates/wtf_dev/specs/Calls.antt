-- Which calls of a device in memory fail, and what a call counts.
use Rattle.std.specs.Prelude.{◌≡◌, ◌↔◌, ◌⊎◌, ℕ, ◌<◌, ◌≤◌, Bool, true, false, if◌then◌else◌, List, Result, Ok, Err}
use Rattle.std.specs.List.{Contains}
use Rattle.wtf_dev.specs.declared.fault.LoadFault.{LoadFault}
use Rattle.wtf_dev.specs.declared.fault.LoadFault.TheVariants.{Failed, Memory}
use Rattle.wtf_dev.specs.Counts.{Rose, risen}

-- the numbers of the calls that fail, the number of the next call, from 0, and the counts
pub record CallCounts : Type 0 where
  pub fails : List ℕ
  pub calls : ℕ
  pub faults : ℕ
  -- how often a growth found no memory
  pub short : ℕ

-- before the first call
abbrev pub uncalled : List ℕ → CallCounts
uncalled fails = record { fails = fails; calls = 0; faults = 0; short = 0 }

-- a call was counted, and as a fault where it failed
pub record IsCounted (failed : Bool) (old new : CallCounts) : Type 0 where
  pub fails : new.fails ≡ old.fails
  pub calls : new.calls ≡ risen old.calls
  pub faults : new.faults ≡ (if failed then risen old.faults else old.faults)

-- a call that takes no memory: it fails exactly where its number says so
pub record IsCall (failed : Bool) (old new : CallCounts) : Type 0 where
  pub counted : IsCounted failed old new
  pub due : (failed ≡ true) ↔ Contains old.fails old.calls
  pub short : new.short ≡ old.short

-- a call that may grow: it fails where its number says so or memory is short, and there alone
pub record IsGrowth (failed : Bool) (old new : CallCounts) : Type 0 where
  pub counted : IsCounted failed old new
  pub due : Contains old.fails old.calls → failed ≡ true
  pub short : old.short < new.short → failed ≡ true
  pub only : failed ≡ true → Contains old.fails old.calls ⊎ Rose old.short new.short
  pub steady : old.short ≤ new.short

-- the same calls fail, and as many were made, or more
pub record CallsGoOn (old new : CallCounts) : Type 0 where
  pub fails : new.fails ≡ old.fails
  pub calls : old.calls ≤ new.calls
  pub short : old.short ≤ new.short

-- a `load` failed: want of memory is no fault of the device
abbrev pub has_failed : {A : Type 0} → Result A LoadFault → Bool
has_failed (Ok bytes) = false
has_failed (Err Failed) = true
has_failed (Err Memory) = false
