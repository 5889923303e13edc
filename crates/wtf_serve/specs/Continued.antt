-- Two runs in a row: the second goes on where the first ended.
use Rattle.std.specs.Prelude.{◌≡◌, ◌≤◌, ◌+◌, ◌^◌, ℕ, List, length, Some}
use Rattle.wtf_base.specs.declared.settings.Settings.{Settings}
use Rattle.wtf_words.specs.Words.{numbers}
use Rattle.wtf_dev.specs.Store.{StoreKind}
use Rattle.wtf_dev.specs.Sums.{TellsAll}
use Rattle.wtf_replica.specs.Bytes.{byte_at}
use Rattle.wtf_model.specs.Tree.{Tree}
use Rattle.wtf_meta.specs.Contents.{Told}
use Rattle.wtf_serve.specs.Endings.{Devices}
use Rattle.wtf_serve.specs.Logs.{Log, last}
use Rattle.wtf_serve.specs.Openings.{Opening, StartsFrom}
use Rattle.wtf_serve.specs.Scripts.{IsEndStatus}
use Rattle.wtf_serve.specs.Stocks.{IsTelling}
use Rattle.wtf_serve.specs.Unopened.{IsOpened}

-- A run that was answered to its end and saved, over stores and a keeper that tell, where the numbers of the image leave room for
-- the script's: the tree that it started from, and the bytes that it left on the keeper.
pub record IsWholeRun {S : Type 0} (kind : StoreKind S) (handed : List (List ℕ) → Type 0) (asked : Settings) (status : ℕ)
    (old new : Devices S) : Type 0 where
  pub opened : IsOpened kind handed asked status old new
  pub end : IsEndStatus status
  pub tells : TellsAll kind old.stock.shelf
  pub telling : IsTelling old.stock.keeper opened.opening.bytes
  pub number : opened.opening.number ≤ 2 ^ 61
  pub next_tx : opened.opening.next_tx ≤ 2 ^ 61
  pub tree : Tree
  pub from : StartsFrom (byte_at kind old.stock.shelf) opened.opening.bytes tree
  pub kept : List ℕ
  pub held : new.stock.keeper.held ≡ Some kept

-- An opening goes on from the run before, which started from this tree and answered these lines: it has the same settings, the
-- number of installs and the tree behind all lines, and no transaction more than lines.
pub record GoesOnFrom (told : Told) (before : Opening) (tree : Tree) (log : Log) (next : Opening) : Type 0 where
  pub settings : numbers next.settings ≡ numbers before.settings
  pub number : next.number ≡ (last before tree log).number
  pub next_tx : next.next_tx ≤ before.next_tx + length log.lines
  pub starts : StartsFrom told next.bytes (last before tree log).now

-- a run begins over the stores, and with the bytes on its keeper, that another left
pub record BeginsBehind {S : Type 0} (left start : Devices S) (kept : List ℕ) : Type 0 where
  pub shelf : start.stock.shelf ≡ left.stock.shelf
  pub held : start.stock.keeper.held ≡ Some kept
