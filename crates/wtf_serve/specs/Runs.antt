-- What a run promises of the lines that it answered.
use Rattle.std.specs.Prelude.{◌≡◌, ◌⊎◌, ◌<◌, ◌+◌, ◌-◌, ◌*◌, ◌^◌, ℕ, List, [], length, slice_index_or}
use Rattle.std.specs.List.{All}
use Rattle.wtf_dev.specs.Store.{Range, StoreKind}
use Rattle.wtf_dev.specs.Each.{EachFollows}
use Rattle.wtf_dev.specs.Sums.{TellsAll, all_stored}
use Rattle.wtf_replica.specs.Bytes.{byte_at}
use Rattle.wtf_model.specs.Tree.{Tree}
use Rattle.wtf_model.specs.Steps.{Accepts}
use Rattle.wtf_model.specs.Lines.{MayLine, Along, events_of, answers_to}
use Rattle.wtf_model.specs.Servers.{none_down, AlongDowns, is_device_fault, is_device_fault_of_run, count_along}
use Rattle.wtf_core.specs.Pictured.{IsBareImage}
use Rattle.wtf_core.specs.Telling.{stores_of}
use Rattle.wtf_gc.specs.Frees.{AreApart, ranges_len}
use Rattle.wtf_serve.specs.Answering.{IsOwnAnswer}
use Rattle.wtf_serve.specs.Openings.{Opening, StartsFrom, first}
use Rattle.wtf_serve.specs.Logs.{Log, asked, IsUndamaged, write_fault_count, written_bytes, IsUnspilledLog}
use Rattle.wtf_serve.specs.Punched.{punch_fault_count, collected_bytes}
use Rattle.wtf_serve.specs.Stocks.{Stock, RoseBy}

-- a count of faults did not rise, and does not stand at its end
abbrev pub IsStill : ℕ → ℕ → Type 0
IsStill before now = (now ≡ before) × (now < 2 ^ 64 - 1)

-- no store failed, as far as the counts of faults tell
abbrev pub AreStoresStill : {S : Type 0} → StoreKind S → List S → List S → Type 0
AreStoresStill {S} kind before after = (k : ℕ) (d : S) → k < length after
    → IsStill (kind.view (slice_index_or before k d)).faults (kind.view (slice_index_or after k d)).faults

-- Lines and their answers, over stores and a keeper that were `before` and are `after`.
pub record Ran {S : Type 0} (kind : StoreKind S) (opening : Opening) (log : Log) (before after : Stock S) : Type 0 where
  -- Where the stores tell their content, the machine accepts the lines' events with their answers, from the tree that the
  -- run starts with: committed transactions ran whole, one by one, on one tree.
  pub accepts : TellsAll kind before.shelf → (t : Tree) → StartsFrom (byte_at kind before.shelf) opening.bytes t
      → Accepts (first opening t) (events_of (asked log)) (answers_to (asked log) log.answers)
  -- the same line by line, with the lines that ask nothing; and a retry comes only where others have changed what was read
  pub accepted : TellsAll kind before.shelf → (t : Tree) → StartsFrom (byte_at kind before.shelf) opening.bytes t
      → Along MayLine (first opening t) (asked log) log.answers
  -- over every store each line has one answer, and one that asks nothing has its own
  pub each : AlongDowns (λ down e a. IsOwnAnswer e a) none_down (asked log) log.answers
  -- where all lists of regions are in the image, or it gave nothing, and no region was spilled, none was read that is no list
  pub undamaged : IsUnspilledLog log → IsBareImage opening.bytes → All IsUndamaged log.answers
  -- nor, whatever was spilled over such an image, where the stores tell their content, and the bytes of the tree that the run starts with
  pub undamaged_told : TellsAll kind before.shelf → (t : Tree) → StartsFrom (byte_at kind before.shelf) opening.bytes t
      → IsBareImage opening.bytes → All IsUndamaged log.answers
  -- nor, whatever lists the image gave or were spilled, where the stores tell their content, and those of the settings' servers by
  -- themselves the bytes of that tree
  pub undamaged_from : TellsAll kind before.shelf → (t : Tree)
      → StartsFrom (byte_at kind (stores_of opening.settings before.shelf)) opening.bytes t → All IsUndamaged log.answers
  -- each line whose fault only a store or the keeper can have caused raised a count
  pub faults : RoseBy kind before after (count_along (is_device_fault opening.settings) none_down (asked log) log.answers)
  -- and so did, where the keeper held nothing, and no region was spilled or the stores tell their content, each read that failed while
  -- fewer servers were down than a slice has copies
  pub faults_of_run : IsUnspilledLog log ⊎ TellsAll kind before.shelf → opening.bytes ≡ []
      → RoseBy kind before after (count_along (is_device_fault_of_run opening.settings) none_down (asked log) log.answers)
  -- where no store failed and no region was spilled they grew by the bytes of the writes and appends that answered `ok`, once on each
  -- replica
  pub grew : IsUnspilledLog log → AreStoresStill kind before.shelf after.shelf → write_fault_count log.answers ≡ 0
      → all_stored kind after.shelf ≡ all_stored kind before.shelf + opening.settings.replicas * written_bytes (asked log) log.answers
  -- These ranges were punched: each store follows what it was, with its own of them. Where no collection failed no two
  -- share a byte, and they have as many bytes as the collections answered to have freed.
  pub punched : List (ℕ × Range)
  pub follows_on : EachFollows kind before.shelf after.shelf punched
  pub freed : punch_fault_count log.answers ≡ 0 → AreApart punched × (ranges_len punched ≡ collected_bytes log.answers)
