-- What lines make of the tables over stores that tell their content. There the list that is read of a slice is the one that was stored, and so
-- what holds of each byte goes on holding behind a spill.
use Rattle.std.specs.Prelude.{◌≡◌, ◌≢◌, ℕ, ◌≤◌, Bool, true, List, length, ⊤}
use Rattle.std.specs.List.{All}
use Rattle.wtf_base.specs.declared.settings.Settings.{Settings}
use Rattle.wtf_dev.specs.Store.{Range, StoreKind}
use Rattle.wtf_dev.specs.Sums.{TellsAll}
use Rattle.wtf_overlay.specs.Origin.{Place}
use Rattle.wtf_replica.specs.Bytes.{byte_at, shown_byte}
use Rattle.wtf_replica.specs.Inside.{size_in}
use Rattle.wtf_replica.specs.Spans.{Span}
use Rattle.wtf_model.specs.declared.answer.Answer.{Answer}
use Rattle.wtf_model.specs.declared.answer.Answer.TheVariants as answer
use Rattle.wtf_meta.specs.Contents.{Told, is_told}
use Rattle.wtf_region.specs.Apart.{are_apart}
use Rattle.wtf_region.specs.Cached.{Remembered, CacheTrue}
use Rattle.wtf_region.specs.Inside.{is_inside}
use Rattle.wtf_clients.specs.Views.{TablesView}
use Rattle.wtf_gc.specs.Frees.{LiesOn}
pub use Rattle.wtf_clients.specs.Named.{ListedBytes}
use Rattle.wtf_clients.specs.Named.{has_copies}
use Rattle.wtf_clients.specs.Safe.{Went}
use Rattle.wtf_clients.specs.Outcomes.{IsUnread}

-- The stores tell their content. Each byte that the tables name is told, also those that the lists of bases name; and it lies in none of the
-- ranges that were punched, each of which lies in its file. Each list that is remembered of a slice of which no byte lies in these is what its
-- bytes decode to.
pub record TellsTables {S : Type 0} (kind : StoreKind S) (shelf : List S) (settings : Settings) (lists : Remembered) (tables : TablesView) : Type 0 where
  pub all : TellsAll kind shelf
  pub punched : List (ℕ × Range)
  pub lie : All (LiesOn (size_in kind shelf) settings.servers) punched
  pub cache : CacheTrue (shown_byte kind shelf) settings.region punched lists
  pub names : ListedBytes settings.region (byte_at kind shelf) (is_told (byte_at kind shelf)) tables
  pub away : ListedBytes settings.region (byte_at kind shelf) (are_apart punched) tables

-- each of these bytes has as many copies as there are replicas
abbrev pub AreWide : Settings → Told → TablesView → Type 0
AreWide settings told tables = ListedBytes settings.region told (has_copies settings.replicas) tables

-- each of them lies inside the stores, on servers of the settings
abbrev pub AreWithin : {S : Type 0} → StoreKind S → List S → Settings → TablesView → Type 0
AreWithin kind shelf settings tables = ListedBytes settings.region (byte_at kind shelf) (is_inside kind shelf settings) tables

-- These are the places of a byte that was appended: as many copies as there are replicas, each behind what its file had, inside the stores as
-- they are left, which tell it.
pub record IsAdded {S : Type 0} (kind : StoreKind S) (t : Span S) (settings : Settings) (places : List Place) : Type 0 where
  pub wide : length places ≡ settings.replicas
  pub past : All (λ (p : Place). size_in kind t.before p.server p.file ≤ p.at) places
  pub within : is_inside kind t.after settings places ≡ true
  pub told : is_told (byte_at kind t.after) places ≡ true

-- P holds of each of these
abbrev pub HoldsOfAdded : {S : Type 0} → StoreKind S → Span S → Settings → (List Place → Bool) → Type 0
HoldsOfAdded kind t settings P = (places : List Place) → IsAdded kind t settings places → P places ≡ true

-- A line over stores that tell: what holds of each byte that the tables name, also of those that the lists of bases name, and of each that the
-- line added, holds of each that they name then. So each of these is told as the stores are left.
-- Each has as many copies as there are replicas where each had, and lies inside the stores where each did; no list was then read that is none.
-- And a byte that was not read had as many copies where each has.
pub record ServesTold {S : Type 0} (kind : StoreKind S) (t : Span S) (settings : Settings) (tables : TablesView × TablesView) (a : Answer) : Type 0 where
  pub went : Went settings.region (byte_at kind t.before) (byte_at kind t.after) (HoldsOfAdded kind t settings) tables.0 tables.1
  pub names : ListedBytes settings.region (byte_at kind t.after) (is_told (byte_at kind t.after)) tables.1
  pub wide : AreWide settings (byte_at kind t.before) tables.0 → AreWide settings (byte_at kind t.after) tables.1
  pub within : AreWithin kind t.before settings tables.0 → AreWithin kind t.after settings tables.1
  pub undamaged : AreWithin kind t.before settings tables.0 → (k : ℕ) → a ≢ answer.Damaged k
  pub unread : AreWide settings (byte_at kind t.before) tables.0 → (k : ℕ) → a ≡ answer.FaultRead k → IsUnread kind t settings ⊤ k

-- What was read over stores that tell: no list that is none where all lists name bytes inside the stores, and a byte that was not read had as
-- many copies as there are replicas where each has.
pub record ReadsTold {S : Type 0} (kind : StoreKind S) (t : Span S) (settings : Settings) (tables : TablesView) (a : Answer) : Type 0 where
  pub undamaged : AreWithin kind t.before settings tables → (k : ℕ) → a ≢ answer.Damaged k
  pub unread : AreWide settings (byte_at kind t.before) tables → (k : ℕ) → a ≡ answer.FaultRead k → IsUnread kind t settings ⊤ k
