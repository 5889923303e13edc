-- What a line leaves alone of the stores and of the lists that are remembered, whatever comes of it.
use Rattle.std.specs.Prelude.{◌≡◌, ◌≢◌, ◌⊎◌, ℕ, Option, None, Some, ⊤}
use Rattle.wtf_dev.specs.Store.{StoreKind}
use Rattle.wtf_ring.specs.Points.{PlaceView}
use Rattle.wtf_replica.specs.Copies.{GrowsOnce}
use Rattle.wtf_replica.specs.Outs.{IsLeftDown, SameFrom, SameLengths, SameSyncs}
use Rattle.wtf_replica.specs.Spans.{Span}
use Rattle.wtf_model.specs.declared.event.Event.{Event}
use Rattle.wtf_model.specs.declared.event.Event.TheVariants as event
use Rattle.wtf_model.specs.declared.event.Verb.{Verb}
use Rattle.wtf_model.specs.declared.event.Verb.TheVariants as verb
use Rattle.wtf_replay.specs.Refusals.{call_refusal, step_refusal}
use Rattle.wtf_replay.specs.Views.{TxnView}
use Rattle.wtf_clients.specs.Asked.{Lending, Asked, line_asked}
use Rattle.wtf_clients.specs.Dumped.{IsNoFile}
use Rattle.wtf_clients.specs.Outcomes.{HasLength}
use Rattle.wtf_clients.specs.Planning.{refusal_of}
use Rattle.wtf_clients.specs.Views.{TablesView, of_client, of_label, metadata_now}

-- a line of a client that is refused before a call is made, or that makes none
abbrev pub MakesNoCall : Option TxnView → Verb → Type 0
MakesNoCall None v = ⊤
MakesNoCall (Some x) (verb.Call o) = call_refusal x ≢ None
MakesNoCall (Some x) verb.Step = step_refusal x ≢ None
MakesNoCall (Some x) verb.Commit = ⊥
MakesNoCall (Some x) v = ⊤

-- A line that reads no list: it makes no call; it dumps no file; it plans no job, since the label has one, or since the map gives a reason against
-- it, where a region has `size` bytes; it does no part of a scan, since none runs; or it is none of these.
abbrev pub ReadsNoList : (size : ℕ) → TablesView → Event → Type 0
ReadsNoList size tables (event.Client c v) = MakesNoCall (of_client tables.clients c) v
ReadsNoList size tables (event.Dump p) = IsNoFile (metadata_now tables.kv) p
ReadsNoList size tables (event.Plan j kind p r) =
    (of_label tables.beside.jobs j ≢ None) ⊎ (refusal_of size (metadata_now tables.kv) p r ≢ None)
ReadsNoList size tables (event.Piece n) = tables.beside.gc.running ≡ None
ReadsNoList size tables e = ⊤

-- only a save syncs
abbrev pub SyncsNone : {S : Type 0} → StoreKind S → Span S → Event → Type 0
SyncsNone kind t event.Save = ⊤
SyncsNone kind t e = SameSyncs kind t.before t.after

-- no file of a store grew, or but the one of the place to which the bytes were to go that the line stores, by these bytes, once
abbrev pub GrowsOnly : {S : Type 0} → StoreKind S → Span S → Asked → Type 0
GrowsOnly kind t asked =
    SameLengths kind t.before t.after ⊎ ((place : PlaceView) × asked.goes_to place × (n : ℕ) × HasLength asked.given n × GrowsOnce kind t place n)

-- What a line leaves alone, also behind want of memory: each store of a server that is down, and each of no server of the settings; all syncs,
-- but in a save; each file, but the one to which its bytes were to go; and the lists that are remembered, where it reads none.
pub record LeavesAlone {S : Type 0} (kind : StoreKind S) (t : Span S) (lent : Lending) (tables : TablesView) (e : Event) : Type 0 where
  pub down : IsLeftDown t
  pub past : SameFrom lent.settings.servers t.before t.after
  pub syncs : SyncsNone kind t e
  pub files : GrowsOnly kind t (line_asked kind t lent tables e)
  pub lists : ReadsNoList lent.settings.region tables e → lent.left ≡ lent.lists
