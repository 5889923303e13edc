-- A stop in a call: what it may leave of the devices, and which tree is found there.
use Rattle.std.specs.Prelude.{◌≡◌, ◌⊎◌, ℕ, ◌<◌, ◌≤◌, ◌^◌, ◌-◌, min, nat_lt, if◌then◌else◌, List, length, None, slice_get, slice_index_or}
use Rattle.wtf_dev.specs.Disk.{DiskContent, DiskKind, MayLeave}
use Rattle.wtf_journal.specs.Follows.{SyncedState}
use Rattle.wtf_journal.specs.Held.{Held, IsTextOf, held_by}
use Rattle.wtf_journal.specs.Scan.{JournalGives}
use Rattle.wtf_image.specs.Loading.{AreSettingsOf, IsTaken}
use Rattle.wtf_imagefmt.specs.Rows.{ImageRows}
use Rattle.wtf_meta.specs.Contents.{Told}
use Rattle.wtf_model.specs.Machines.{Machine}
use Rattle.wtf_model.specs.Tree.{Tree}
use Rattle.wtf_serve.specs.Openings.{StartsFrom}
use Rattle.wtf_durable.specs.Views.{DurableScene}

-- what a stop leaves: the files of each store, by server, and those of the journal's disk
pub record Leftover : Type 0 where
  pub stores : ℕ → DiskContent
  pub journal : DiskContent

-- the bytes of the stores that were left, by their places
abbrev pub left_at : (ℕ → DiskContent) → Told
left_at stores p = if nat_lt p.file 8 then slice_get (stores p.server p.file) p.at else None

module _ {S : Type 0} (kind : DiskKind S) where
  -- a stop now may leave the stores so
  abbrev pub StoresMayLeave : List (SyncedState S) → (ℕ → DiskContent) → Type 0
  StoresMayLeave shelf stores =
      (k : ℕ) (d : SyncedState S) → k < length shelf → MayLeave (kind.view (slice_index_or shelf k d).disk) (stores k)

  -- stops, each at some moment of its own since the stores were `old`, might have left them so
  abbrev pub StoresLeft : (old new : List (SyncedState S)) → (ℕ → DiskContent) → Type 0
  StoresLeft old new stores =
      (k : ℕ) (d : SyncedState S) → k < length old
      → kind.left_since (slice_index_or new k d).disk (kind.view (slice_index_or old k d).disk).moment (stores k)

module _ {S D : Type 0} (stores : DiskKind S) (kind : DiskKind D) where
  -- a stop now
  pub record StopNow (now : DurableScene S D) (left : Leftover) : Type 0 where
    pub shelf : StoresMayLeave stores now.shelf left.stores
    pub disk : MayLeave (kind.view now.disk) left.journal

  -- a stop while the stores are used: the journal is as at the start of the call, and each store is at any moment of it
  pub record StopEarly (old new : DurableScene S D) (left : Leftover) : Type 0 where
    pub shelf : StoresLeft stores old.shelf new.shelf left.stores
    pub disk : MayLeave (kind.view old.disk) left.journal

  -- and one while the journal is written: the stores are as at the end of the call, and the journal is at any moment of it
  pub record StopLate (old new : DurableScene S D) (left : Leftover) : Type 0 where
    pub shelf : StoresMayLeave stores new.shelf left.stores
    pub disk : kind.left_since new.disk (kind.view old.disk).moment left.journal

  -- A stop in a call finds one of both, since a call uses the stores first, and then writes the journal.
  abbrev pub StopIn : (old new : DurableScene S D) → Leftover → Type 0
  StopIn old new left = StopEarly old new left ⊎ StopLate old new left

-- The journal gives an image, or none; over the bytes that the stores tell that stands for the tree.
pub record FindsTree (told : Told) (journal : List ℕ) (t : Tree) : Type 0 where
  pub held : Held
  pub gives : JournalGives held_by None journal held
  pub image : List ℕ
  pub text : IsTextOf held image
  pub tree : StartsFrom told image t

-- a stop left this tree
abbrev pub LeavesTree : Leftover → Tree → Type 0
LeavesTree left t = FindsTree (left_at left.stores) (left.journal 0) t

-- how long stores show the files that were left
abbrev pub left_size : (ℕ → DiskContent) → ℕ → ℕ → ℕ
left_size stores k f = min (length (stores k f)) (2 ^ 61 - 1)

-- A stop left a store that a run can go on with from this machine: its tree is found; and the image that the journal gives breaks no rule over the
-- stores as they were left, has the settings and the number of installs, and begins with a transaction that is at most this.
pub record LeavesStore (left : Leftover) (m : Machine) (next : ℕ) : Type 0 where
  pub tree : LeavesTree left m.now
  pub rows : ImageRows
  pub taken : IsTaken (left_size left.stores) tree.image rows
  pub settings : AreSettingsOf rows m.settings
  pub number : rows.header.installs ≡ m.number
  pub next_tx : rows.header.next_tx ≤ next
