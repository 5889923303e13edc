-- What a line did to the keeper of the image, and which images it may hold.
use Rattle.std.specs.Prelude.{◌≡◌, ◌⊎◌, ◌<◌, ◌≤◌, ℕ, true, List, [], ◌∷◌, Some}
use Rattle.std.specs.List.{Contains}
use Rattle.std.specs.Option.{option_map}
use Rattle.wtf_base.specs.declared.settings.Settings.{Settings}
use Rattle.wtf_dev.specs.Counts.{Rose}
use Rattle.wtf_dev.specs.Keep.{KeeperView}
use Rattle.wtf_dev.specs.Store.{StoreKind}
use Rattle.wtf_replica.specs.Outs.{HasSynced}
use Rattle.wtf_replica.specs.Spans.{Span}
use Rattle.wtf_model.specs.declared.answer.Answer.{Answer}
use Rattle.wtf_model.specs.declared.answer.Answer.TheVariants as answer
use Rattle.wtf_model.specs.declared.event.Event.{Event}
use Rattle.wtf_model.specs.declared.event.Event.TheVariants as event
use Rattle.wtf_meta.specs.Maps.{metadata_at}
use Rattle.wtf_image.specs.Images.{HasText}
use Rattle.wtf_image.specs.Lookups.{plain}
use Rattle.wtf_image.specs.Rows.{ImageRows}
use Rattle.wtf_image.specs.Saving.{Says, header_of, IsSaveOf}
use Rattle.wtf_clients.specs.Views.{TablesView}
use Rattle.wtf_clients.specs.Outcomes.{SomeOut}
use Rattle.wtf_clients.specs.Saves.{with_image}

-- A span of time of a keeper: what is seen of it at its begin and at its end, that these images were handed to it between
-- them, what it says more of one that it refused, and that it is as it was.
pub record KeeperSpan : Type 1 where
  pub before : KeeperView
  pub after : KeeperView
  pub handed : List (List ℕ) → Type 0
  pub refused : Type 0
  pub untouched : Type 0

abbrev pub keeper_span : {K : Type 0} → (K → KeeperView) → (K → K → List (List ℕ) → Type 0) → (K → K → Type 0) → K → K → KeeperSpan
keeper_span view follows refused old new =
    record { before = view old; after = view new; handed = follows old new; refused = refused old new; untouched = new ≡ old }

-- where the stores go through this span, and the keeper through this one
module _ {S : Type 0} (kind : StoreKind S) (t : Span S) (k : KeeperSpan) (settings : Settings) where
  -- A save brought all stores' bytes to where they last, and handed these bytes to the keeper: the image of the metadata at
  -- the number.
  pub record Hands (tables : TablesView) : Type 0 where
    pub bytes : List ℕ
    pub image : IsSaveOf tables.kv settings tables.next_tx bytes
    pub handed : k.handed (bytes ∷ [])
    pub synced : (j : ℕ) → j < settings.servers → HasSynced kind t.before t.after j

  -- it was saved: a keeper that tells what it holds has just these bytes
  pub record HasSaved (tables : TablesView) : Type 0 where
    pub hands : Hands tables
    pub held : k.before.tells ≡ true → k.after.held ≡ Some hands.bytes

  -- a server was out, so nothing was handed over, and the images that may be on the keeper are those before
  pub record SyncFailed (old new : TablesView) : Type 0 where
    pub out : SomeOut kind t settings.servers
    pub untouched : k.untouched
    pub beside : new.beside ≡ old.beside

  -- the keeper failed, so it may hold the new image, or what it held
  pub record KeeperFailed (old new : TablesView) : Type 0 where
    pub hands : Hands old
    pub rose : Rose k.before.faults k.after.faults
    pub refused : k.refused
    pub beside : new.beside ≡ with_image old.beside old.kv.number

  -- what a line did to the keeper: a save alone hands it something
  abbrev pub KeeperTurn : TablesView → TablesView → Event → Answer → Type 0
  KeeperTurn old new event.Save (answer.Saved n) = HasSaved old
  KeeperTurn old new event.Save answer.FaultSave = SyncFailed old new ⊎ KeeperFailed old new
  KeeperTurn old new e a = k.untouched

-- the bytes are an image of the metadata at the number n, made before the next transaction began
pub record IsImageAt (tables : TablesView) (settings : Settings) (n : ℕ) (bytes : List ℕ) : Type 0 where
  pub rows : ImageRows
  pub next : ℕ
  pub begun : next ≤ tables.next_tx
  pub text : HasText rows bytes
  pub header : rows.header ≡ header_of settings n next
  pub says : Says (λ q. option_map plain (metadata_at tables.kv n q)) rows

-- they are what a keeper may hold: nothing, or an image at a number that is kept for it
abbrev pub IsHeldBy : TablesView → Settings → List ℕ → Type 0
IsHeldBy tables settings bytes =
    ((bytes ≡ []) × (tables.beside.none ≡ true))
    ⊎ ((n : ℕ) × Contains tables.beside.images n × IsImageAt tables settings n bytes)

-- a keeper holds such bytes, and tells them
abbrev pub HoldsKept : KeeperView → Settings → TablesView → Type 0
HoldsKept v settings tables = (bytes : List ℕ) × (v.held ≡ Some bytes) × IsHeldBy tables settings bytes
