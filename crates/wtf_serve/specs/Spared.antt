-- What a run leaves alone, by its lines and their answers.
use Rattle.std.specs.Prelude.{◌≡◌, ◌⊎◌, ℕ, List, [], ◌++◌, Option, Ok}
use Rattle.wtf_dev.specs.Store.{StoreKind}
use Rattle.wtf_replica.specs.Outs.{IsLeftDown, SameSyncs}
use Rattle.wtf_replica.specs.Spans.{span}
use Rattle.wtf_model.specs.declared.event.Event.TheVariants as event
use Rattle.wtf_model.specs.Servers.{none_down}
use Rattle.wtf_serve.specs.Endings.{Devices, IsEarlyStatus, IsNextLine}
use Rattle.wtf_serve.specs.Logs.{Log, asked, last_downs}
use Rattle.wtf_serve.specs.Scripts.{line_of, IsEndStatus}
use Rattle.wtf_serve.specs.Sparing.{IsOneImage, IsOneAtMost, SparesAlong, HandsAlong}

-- the next line of the script behind these is a save
abbrev pub IsOfSave : Option (List ℕ) → List (List ℕ) → Type 0
IsOfSave script lines = (line : List ℕ) × IsNextLine script lines line × (line_of line ≡ Ok event.Save)

-- Over the devices before and after a run, where the stores were `mid` when the last of its lines was answered:
pub record RunSpares {S : Type 0} (kind : StoreKind S) (handed : List (List ℕ) → Type 0) (status : ℕ) (log : Log) (mid : List S) (old new : Devices S)
    : Type 0 where
  -- line by line the store of each server that is down then is left alone, and a save alone syncs
  pub along : SparesAlong kind none_down (asked log) log.answers old.stock.shelf mid
  -- and behind the last line no store of a server that is down was touched either
  pub down : IsLeftDown (span (last_downs log) mid new.stock.shelf)
  -- The keeper was handed these images, those of the lines and then those of the closing save: one where that was answered, and one
  -- at most where it failed.
  pub images : List (List ℕ)
  pub last : List (List ℕ)
  pub handed_are : handed (images ++ last)
  pub each : HandsAlong (asked log) log.answers images
  pub saved : IsEndStatus status → (installs : ℕ) × IsOneImage installs last
  pub failed : status ≡ 5 → IsOneAtMost last
  pub early : IsEarlyStatus status → last ≡ []
  -- for want of memory nothing is synced behind the last line, and nothing handed, but by a save for whose answer there was none
  pub memory : status ≡ 7 → (SameSyncs kind mid new.stock.shelf × (last ≡ [])) ⊎ (IsOfSave old.source.rest log.lines × IsOneAtMost last)
