-- What holds of the store, of the open transactions and of the jobs over every device.
use Rattle.std.specs.Prelude.{◌≡◌, ◌≢◌, ◌⊎◌, ◌<◌, ◌≤◌, ℕ, ◌+◌, false, IsTrue, if◌then◌else◌, nat_eq, count_by, Option, Some, None}
use Rattle.std.specs.List.{sum_by, Contains}
use Rattle.wtf_kv.specs.Seen.{kept_versions}
use Rattle.wtf_kv.specs.Stores.{Store, times_pinned, is_pinned, is_live, versions_of, version_of}
use Rattle.wtf_values.specs.declared.key.Key.{Key}
use Rattle.wtf_values.specs.declared.value.Value.{Value}
use Rattle.wtf_values.specs.Keys.{key_cmp}
use Rattle.wtf_meta.specs.Maps.{metadata_at}
use Rattle.wtf_replay.specs.Views.{TxnView}
use Rattle.wtf_replay.specs.Fits.{IsFit}
use Rattle.wtf_replay.specs.Tried.{KeepsVersions, KeepsPins}
use Rattle.wtf_compact.specs.Jobs.{JobView}
use Rattle.wtf_gc.specs.Views.{RunView}
use Rattle.wtf_compact.specs.Planned.{HasForm}
use Rattle.wtf_clients.specs.Views.{Clients, of_client, set_client, without_hands, Jobs, of_label, BesideView, TablesView, metadata_now}

-- how many pins of a number a transaction owns: one, of its base
abbrev pub owned : ℕ → Option TxnView → ℕ
owned n None = 0
owned n (Some x) = if nat_eq n x.at.base then 1 else 0

-- how many pins of a number the open transactions own
abbrev pub all_owned : ℕ → Clients → ℕ
all_owned n clients = sum_by (λ e. owned n (Some e.1)) clients

-- a transaction that is open
pub record IsOpen (kv : Store Key Value) (next_tx : ℕ) (x : TxnView) : Type 0 where
  pub going : x.ended ≡ false
  pub fit : IsFit kv x
  pub based : x.at.base ≤ kv.number
  pub older : x.tx < next_tx

-- how many pins of a number a job owns: one, of its base
abbrev pub planned : ℕ → Option JobView → ℕ
planned n None = 0
planned n (Some x) = if nat_eq n x.base then 1 else 0

-- how many pins of a number the jobs own
abbrev pub all_planned : ℕ → Jobs → ℕ
all_planned n jobs = sum_by (planned n) jobs

-- how many pins of a number the scan owns that runs: one for each time that it has seen it
abbrev pub all_seen : ℕ → Option RunView → ℕ
all_seen n None = 0
all_seen n (Some r) = count_by (nat_eq n) r.seen

-- how many pins of a number are owned because it is watched
abbrev pub all_watched : ℕ → Option ℕ → ℕ
all_watched n None = 0
all_watched n (Some w) = if nat_eq n w then 1 else 0

-- how many pins of a number are owned beside those of transactions: by the images that may be on the keeper, one each, by the jobs, by the
-- scan that runs, and by what is watched
abbrev pub all_kept : ℕ → BesideView → ℕ
all_kept n beside =
    count_by (nat_eq n) beside.images + all_planned n beside.jobs + all_seen n beside.gc.running + all_watched n beside.watched

-- Each transaction goes on, on a base that is pinned. A number is pinned as often as a transaction, an image, a job or a scan owns it, and
-- once more where it is watched. No number that is pinned, and no image, is of an install to come. No two transactions have one number, and
-- none has the number 0. What a job is to put in a region's place has the form that its kind says.
pub record AreSound (tables : TablesView) : Type 0 where
  pub begun : 0 < tables.next_tx
  pub each : (c : ℕ) (x : TxnView) → of_client tables.clients c ≡ Some x → IsOpen tables.kv tables.next_tx x
  pub pins : (n : ℕ) → times_pinned tables.kv n ≡ all_owned n tables.clients + all_kept n tables.beside
  pub upto : (n : ℕ) → IsTrue (is_pinned tables.kv n) → n ≤ tables.kv.number
  pub kept : (n : ℕ) → Contains tables.beside.images n → n ≤ tables.kv.number
  pub apart : (c d : ℕ) (x y : TxnView) → of_client tables.clients c ≡ Some x → of_client tables.clients d ≡ Some y → x.tx ≡ y.tx → c ≡ d
  pub formed : (j : ℕ) (x : JobView) → of_label tables.beside.jobs j ≡ Some x → HasForm x.target x.value

-- of all clients one alone has now this transaction, or none, and all stand in the order in which they began
pub record Sets (c : ℕ) (now : Option TxnView) (old new : Clients) : Type 0 where
  pub is : of_client new c ≡ now
  pub others : (d : ℕ) → d ≢ c → of_client new d ≡ of_client old d
  pub pins : (n : ℕ) → all_owned n new + owned n (of_client old c) ≡ all_owned n old + owned n now
  pub order : new ≡ set_client c now old

-- of all jobs one alone is now this one, or there is none of its label
pub record SetsJob (j : ℕ) (now : Option JobView) (old new : Jobs) : Type 0 where
  pub is : of_label new j ≡ now
  pub others : (l : ℕ) → l ≢ j → of_label new l ≡ of_label old l
  pub pins : (n : ℕ) → all_planned n new + planned n (of_label old j) ≡ all_planned n old + planned n now

-- What want of memory leaves: the transactions in their order, but for what they have in hand, where handles may have moved;
-- the number, the map now, the versions of each key, how often each number is pinned, the next transaction's number, what may be
-- on the keeper, the jobs, and the scans.
pub record IsAlike (old new : TablesView) : Type 0 where
  pub clients : without_hands new.clients ≡ without_hands old.clients
  pub number : new.kv.number ≡ old.kv.number
  pub map : metadata_now new.kv ≡ metadata_now old.kv
  pub versions : KeepsVersions old.kv new.kv
  pub pins : KeepsPins old.kv new.kv
  pub next_tx : new.next_tx ≡ old.next_tx
  pub beside : new.beside ≡ old.beside

-- Versions that no one sees may be gone: the number and the pins are what they were, and so is each map that can be read, with
-- the versions that it reports. Of a key all versions stand, or those that are kept.
pub record IsTidied (old new : TablesView) : Type 0 where
  pub number : new.kv.number ≡ old.kv.number
  pub pins : new.kv.pins ≡ old.kv.pins
  pub kept : (q : Key) → (versions_of key_cmp new.kv q ≡ versions_of key_cmp old.kv q)
      ⊎ (versions_of key_cmp new.kv q ≡ kept_versions old.kv.pins (versions_of key_cmp old.kv q))
  pub maps : (n : ℕ) → IsTrue (is_live old.kv n) → metadata_at new.kv n ≡ metadata_at old.kv n
  pub versions : (n : ℕ) → IsTrue (is_live old.kv n) → version_of key_cmp new.kv n ≡ version_of key_cmp old.kv n
  pub next_tx : new.next_tx ≡ old.next_tx
  pub clients : new.clients ≡ old.clients
  pub beside : new.beside ≡ old.beside
