-- What a line adds to the stores, and why one is answered by a fault.
use Rattle.std.specs.Prelude.{◌≡◌, ◌⊎◌, ◌<◌, ◌≤◌, ◌+◌, ℕ, Bool, true, false, List, [], ◌∷◌, length, Some, ⊤}
use Rattle.std.specs.List.{All}
use Rattle.wtf_base.specs.declared.settings.Settings.{Settings}
use Rattle.wtf_base.specs.declared.slice.Slice.{Slice}
use Rattle.wtf_base.specs.Slices.{len_of}
use Rattle.wtf_dev.specs.Store.{StoreKind}
use Rattle.wtf_overlay.specs.declared.part.Entry.{Entry}
use Rattle.wtf_overlay.specs.Origin.{Place}
use Rattle.wtf_overlay.specs.Spilled.{decoded, encoded}
use Rattle.wtf_ring.specs.Points.{PlaceView}
use Rattle.wtf_replica.specs.Spans.{Span, span}
use Rattle.wtf_replica.specs.Outs.{IsOut, SameLengths}
use Rattle.wtf_replica.specs.Copies.{IsFetched, IsStored, GrowsOnce}
use Rattle.wtf_replica.specs.Inside.{size_in}
use Rattle.wtf_replica.specs.Faults.{AreTooFew}
use Rattle.wtf_meta.specs.Lists.{ListFact}
use Rattle.wtf_region.specs.Inside.{list_lies_inside}
use Rattle.wtf_model.specs.declared.op.Op.{Op}
use Rattle.wtf_model.specs.declared.op.Op.TheVariants as op
use Rattle.wtf_model.specs.declared.op.JobKind.{JobKind}
use Rattle.wtf_model.specs.declared.op.JobKind.TheVariants.{Compact, Spill}
use Rattle.wtf_model.specs.declared.event.Verb.{Verb}
use Rattle.wtf_model.specs.declared.event.Verb.TheVariants as verb
use Rattle.wtf_model.specs.declared.event.Event.{Event}
use Rattle.wtf_model.specs.declared.event.Event.TheVariants as event
use Rattle.wtf_model.specs.declared.answer.Answer.{Answer}
use Rattle.wtf_model.specs.declared.answer.Answer.TheVariants as answer

-- the bytes that an event hands in to be written
abbrev pub data_of_op : Op (List ℕ) → List ℕ
data_of_op (op.Write f bytes) = bytes
data_of_op (op.Append f bytes) = bytes
data_of_op other = []

abbrev pub data_of_verb : Verb → List ℕ
data_of_verb (verb.Call o) = data_of_op o
data_of_verb other = []

abbrev pub data_of_event : Event → List ℕ
data_of_event (event.Client c v) = data_of_verb v
data_of_event other = []

-- what a line asks of the stores but to be read: to store bytes that it hands in, or the list of a region, which is in no line; or to free
-- what is garbage of a server
pub data Load : Type 0 where
  Data : (bytes : List ℕ) → Load
  RegionList : Load
  Frees : (k : ℕ) → Load

-- nothing
abbrev pub no_load : Load
no_load = Data []

abbrev pub load_of_job : JobKind → Load
load_of_job Compact = no_load
load_of_job Spill = RegionList

abbrev pub load_of : Event → Load
load_of (event.Plan j kind p r) = load_of_job kind
load_of (event.Collect k) = Frees k
load_of e = Data (data_of_event e)

-- there is a byte to store
abbrev pub HasToStore : Load → Type 0
HasToStore (Data bytes) = 0 < length bytes
HasToStore RegionList = ⊤
HasToStore (Frees k) = ⊥

-- Behind reads, the bytes of this list were stored in its slice, at a place that is as P says: once on each server that is to have a copy.
pub record AddsThisList {S : Type 0} (kind : StoreKind S) (t : Span S) (settings : Settings) (P : PlaceView → Type 0) (own : ListFact) : Type 0 where
  pub mid : List S
  pub same : SameLengths kind t.before mid
  pub place : PlaceView
  pub goes_to : P place
  pub stored : IsStored kind (span t.down mid t.after) settings.replicas place (encoded own.list) own.slice

-- so were those of one list
abbrev pub AddsOneList : {S : Type 0} → StoreKind S → Span S → Settings → (PlaceView → Type 0) → Type 0
AddsOneList kind t settings P = (own : ListFact) × AddsThisList kind t settings P own

-- that, or nothing was stored
abbrev pub AddsList : {S : Type 0} → StoreKind S → Span S → Settings → Type 0
AddsList kind t settings = SameLengths kind t.before t.after ⊎ AddsOneList kind t settings (λ place. ⊤)

-- so many bytes are those that a line is to store: those that it hands in, or those of some list of a region
abbrev pub HasLength : Load → ℕ → Type 0
HasLength (Data bytes) n = n ≡ length bytes
HasLength RegionList n = (es : List Entry) × (n ≡ length (encoded es))
HasLength (Frees k) n = ⊥

-- no file of a store grew, or but that of one place: each server's that did not fail by nothing, or by the bytes that are to be stored, once
abbrev pub AddsOnce : {S : Type 0} → StoreKind S → Span S → Load → Type 0
AddsOnce kind t load = SameLengths kind t.before t.after ⊎ ((place : PlaceView) × (n : ℕ) × HasLength load n × GrowsOnce kind t place n)

-- What a line adds: the bytes of a write or an append that answers `ok`, or those of the list that a spill makes, once on each server
-- that is to have a copy, and what a store that failed in it may have taken; one that fails may leave those, once on some servers; no other
-- line adds a byte.
abbrev pub AddsBytes : {S : Type 0} → StoreKind S → Span S → Settings → Load → Answer → Type 0
AddsBytes kind t settings (Data (b ∷ bs)) answer.Okay =
    (place : PlaceView) × (slice : Slice) × IsStored kind t settings.replicas place (b ∷ bs) slice
AddsBytes kind t settings RegionList answer.Planned = AddsList kind t settings
AddsBytes kind t settings load answer.FaultWrite = AddsOnce kind t load
AddsBytes kind t settings load a = SameLengths kind t.before t.after

-- a plan to spill a region was answered `planned`
abbrev pub has_spilled : Load → Answer → Bool
has_spilled RegionList answer.Planned = true
has_spilled load a = false

-- a line made no region's list a slice of its own
abbrev pub IsUnspilled : Load → Answer → Type 0
IsUnspilled load a = has_spilled load a ≡ false

-- the places go up by server, from server `from` on
abbrev pub AscendFrom : ℕ → List Place → Type 0
AscendFrom from [] = ⊤
AscendFrom from (p ∷ ps) = (from ≤ p.server) × AscendFrom (p.server + 1) ps

-- the server of the last of these places
abbrev pub last_of : List Place → ℕ → ℕ
last_of [] k = k
last_of (p ∷ ps) k = last_of ps p.server

-- A byte with these places was not read: there is a copy of it, the servers of all its copies are out, and k is that of the
-- last one.
pub record IsLost {S : Type 0} (kind : StoreKind S) (t : Span S) (settings : Settings) (places : List Place) (k : ℕ) : Type 0 where
  pub some : 0 < length places
  pub ascend : AscendFrom 0 places
  pub known : All (λ p. p.server < settings.servers) places
  pub out : All (λ p. IsOut kind t p.server) places
  pub last : last_of places 0 ≡ k

-- Some byte that a line needs was not read, one that it is to show or one of a list. Where each slice is `full` it has as many
-- copies as there are replicas.
pub record IsUnread {S : Type 0} (kind : StoreKind S) (t : Span S) (settings : Settings) (full : Type 0) (k : ℕ) : Type 0 where
  pub places : List Place
  pub lost : IsLost kind t settings places k
  pub width : full → length places ≡ settings.replicas

-- What was read from server k of a slice that a line needs is no list of a region's entries, or is one that names bytes outside the
-- stores. The slice is a base: it passes each test that each base does, where `based` says of a test that each does.
pub record IsNoList {S : Type 0} (kind : StoreKind S) (t : Span S) (settings : Settings) (based : (Slice → Bool) → Type 0) (k : ℕ) : Type 0 where
  pub slice : Slice
  pub bytes : List ℕ
  pub whole : length bytes ≡ len_of slice
  pub read : IsFetched kind t slice 0 bytes k
  pub bad : (es : List Entry) → decoded settings.region bytes ≡ Some es → list_lies_inside settings.servers (size_in kind t.after) es ≡ false
  pub passes : (Q : Slice → Bool) → based Q → Q slice ≡ true

-- one of so many servers is out
abbrev pub SomeOut : {S : Type 0} → StoreKind S → Span S → ℕ → Type 0
SomeOut kind t servers = (k : ℕ) × (k < servers) × IsOut kind t k

-- why a save fails, where `rose` says that the keeper's count of faults rose; no other line does
abbrev pub SaveFault : {S : Type 0} → StoreKind S → Span S → Settings → Type 0 → Event → Type 0
SaveFault kind t settings rose event.Save = SomeOut kind t settings.servers ⊎ rose
SaveFault kind t settings rose e = ⊥

-- why server j failed to free what is garbage of it: it is out
abbrev pub PunchFault : {S : Type 0} → StoreKind S → Span S → Load → ℕ → Type 0
PunchFault kind t (Frees k) j = (j ≡ k) × IsOut kind t j
PunchFault kind t load j = ⊥

-- Why a line is answered by a fault: `fault read K` where a byte that it needs was not read, `damaged K` where what was read as
-- a list is none, `fault write` where fewer servers than replicas are not out and there are bytes to store, `fault punch K` where the line
-- is to free what is garbage of server K, which is out, and `fault save` for `saving`. No line answers another fault.
abbrev pub HasCause : {S : Type 0} → StoreKind S → Span S → Settings → (saving : Type 0) → (based : (Slice → Bool) → Type 0) → (full : Type 0) → Load → Answer
    → Type 0
HasCause kind t settings saving based full load (answer.FaultRead k) = IsUnread kind t settings full k
HasCause kind t settings saving based full load answer.FaultWrite = HasToStore load × AreTooFew kind t settings.servers settings.replicas
HasCause kind t settings saving based full load (answer.FaultPunch k) = PunchFault kind t load k
HasCause kind t settings saving based full load answer.FaultSave = saving
HasCause kind t settings saving based full load (answer.Damaged k) = IsNoList kind t settings based k
HasCause kind t settings saving based full load a = ⊤
