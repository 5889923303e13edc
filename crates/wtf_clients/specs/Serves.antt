-- What an answered line made of the bytes that the tables name, and of the stores.
use Rattle.std.specs.Prelude.{◌≡◌, Bool, true, List, [], ⊤}
use Rattle.wtf_base.specs.declared.settings.Settings.{Settings}
use Rattle.wtf_base.specs.declared.slice.Slice.{Slice}
use Rattle.wtf_dev.specs.Store.{StoreKind}
use Rattle.wtf_overlay.specs.Origin.{Place}
use Rattle.wtf_replica.specs.Spans.{Span}
use Rattle.wtf_model.specs.declared.answer.Answer.{Answer}
use Rattle.wtf_model.specs.declared.answer.Answer.TheVariants as answer
use Rattle.wtf_meta.specs.Bytes.{any_slice}
use Rattle.wtf_region.specs.Inside.{is_inside}
use Rattle.wtf_clients.specs.Views.{TablesView}
use Rattle.wtf_clients.specs.Named.{TablesBytes, any_byte, no_slice, has_copies}
use Rattle.wtf_model.specs.declared.event.Event.{Event}
use Rattle.wtf_clients.specs.Asked.{Lending, Asked, line_asked, IsPlaced, HasFailed}
use Rattle.wtf_clients.specs.Outcomes.{AddsBytes, IsUnspilled, SaveFault, HasCause}

-- what is named was named before: what holds of the places of each of those bytes, and of a hole, goes on holding, and so does
-- what holds of the slice of each base
abbrev pub NamesTables : TablesView → TablesView → Type 0
NamesTables old new = (P : List Place → Bool) (Q : Slice → Bool) → P [] ≡ true → TablesBytes P Q old → TablesBytes P Q new

-- an answer that is no fault of the stores
abbrev pub IsPlain : Answer → Type 0
IsPlain (answer.FaultRead k) = ⊥
IsPlain answer.FaultWrite = ⊥
IsPlain (answer.FaultPunch k) = ⊥
IsPlain answer.FaultSave = ⊥
IsPlain (answer.Damaged k) = ⊥
IsPlain a = ⊤

-- the slice of each base passes a test
abbrev pub AreBased : TablesView → (Slice → Bool) → Type 0
AreBased tables Q = TablesBytes any_byte Q tables

-- no region has a base: all lists of regions are in the metadata
abbrev pub AreBare : TablesView → Type 0
AreBare tables = AreBased tables no_slice

-- and each byte has as many copies as there are replicas
abbrev pub AreFull : Settings → TablesView → Type 0
AreFull settings tables = TablesBytes (has_copies settings.replicas) no_slice tables

-- What the tables, before and after a line, name lies inside the stores as they are left. Unless the line has spilled a list, no region has a
-- base where none had one before, and each byte has as many copies as there are replicas where it had before. The stores grew by what the line
-- was to store, and a fault has its cause in the line.
pub record Serves {S : Type 0} (kind : StoreKind S) (t : Span S) (settings : Settings) (saving : Type 0) (tables : TablesView × TablesView)
    (asked : Asked) (a : Answer) : Type 0 where
  pub inside : TablesBytes (is_inside kind t.after settings) any_slice tables.1
  pub bare : IsUnspilled asked.given a → AreBare tables.0 → AreBare tables.1
  pub full : IsUnspilled asked.given a → AreFull settings tables.0 → AreFull settings tables.1
  pub adds : AddsBytes kind t settings asked.given a
  pub caused : HasCause kind t settings saving (AreBased tables.0) (AreFull settings tables.0) asked.given a
  pub placed : IsPlaced kind t settings asked a
  pub failed : HasFailed asked.fails a

-- the same of a line that is lent no keeper
abbrev pub ServesLine : {S : Type 0} → StoreKind S → Span S → Lending → (old new : TablesView) → Event → Answer → Type 0
ServesLine kind t lent old new e a = Serves kind t lent.settings ⊥ (old, new) (line_asked kind t lent old e) a

-- and of each line, where `rose` says that the keeper's count of faults rose
abbrev pub ServesEvent : {S : Type 0} → StoreKind S → Span S → Lending → (rose : Type 0) → TablesView × TablesView → Event → Answer → Type 0
ServesEvent kind t lent rose tables e a = Serves kind t lent.settings (SaveFault kind t lent.settings rose e) tables (line_asked kind t lent tables.0 e) a
