-- How a run ends before anything of it is said: what was kept, or why nothing was.
use Rattle.std.specs.Prelude.{◌≡◌, ◌≢◌, ◌⊎◌, ℕ, ◌≤◌, ◌^◌, true, List, [], ◌∷◌, length, slice_index_or, Option, None, Some, Result, Ok, Err, ⊤}
use Rattle.wtf_base.specs.declared.fault.Fault.TheVariants as fault
use Rattle.wtf_dev.specs.Counts.{Rose}
use Rattle.wtf_dev.specs.Each.{EachFollows}
use Rattle.wtf_dev.specs.Keep.{KeeperView}
use Rattle.wtf_dev.specs.Store.{StoreKind}
use Rattle.wtf_dev.specs.Streams.{SinkView}
use Rattle.wtf_kv.specs.Stores.{Store}
use Rattle.wtf_replica.specs.declared.replicas.Replicas.{Replicas}
use Rattle.wtf_replica.specs.Downs.{is_down, during}
use Rattle.wtf_replica.specs.Outs.{IsLeftDown, SameLengths}
use Rattle.wtf_values.specs.declared.key.Key.{Key}
use Rattle.wtf_values.specs.declared.value.Value.{Value}
use Rattle.wtf_meta.specs.Maps.{metadata_at}
use Rattle.wtf_image.specs.declared.error.LoadError.{LoadError}
use Rattle.wtf_image.specs.declared.error.LoadError.TheVariants as error
use Rattle.wtf_image.specs.declared.loads.Loaded.{Loaded}
use Rattle.wtf_image.specs.Kept.{IsKept}
use Rattle.wtf_image.specs.Loading.{IsRefusalWithout}
use Rattle.wtf_image.specs.Outcome.{IsLoadWithout}
use Rattle.wtf_image.specs.Rules.{size_in}
use Rattle.wtf_image.specs.Savable.{IsSavable}
use Rattle.wtf_image.specs.Saving.{IsSaveOf}
use Rattle.wtf_image.specs.Tables.{shown}
use Rattle.wtf_healer.specs.declared.ends.Stop.{Stop}
use Rattle.wtf_healer.specs.declared.ends.Stop.TheVariants as stop
use Rattle.wtf_healer.specs.declared.regions.Healed.{Healed}
use Rattle.wtf_healer.specs.Lines.{done_lines, fault_line, refusal_line}
use Rattle.wtf_healer.specs.Regions.{AreHealed, IsHealFault}
use Rattle.wtf_healer.specs.Runs.{AreNotSpared, SaysText}
use Rattle.wtf_healer.specs.Spared.{AreSpared}
use Rattle.wtf_healer.specs.Steps.{IsPutIn, AreUpSynced, HasUpFailed, Passed, SaysOrNot}
use Rattle.wtf_healer.specs.Words.{is_server_in}

-- what a run is lent, before it and behind it, and which images may have been handed to the keeper meanwhile
pub record RunSpan (S : Type 0) : Type 1 where
  pub old : List S
  pub new : List S
  pub keeper : KeeperView
  pub keeper_now : KeeperView
  pub handed : List (List ℕ) → Type 0

abbrev pub run_span : {S K : Type 0} → (K → KeeperView) → (K → K → List (List ℕ) → Type 0) → List S × K → List S × K → RunSpan S
run_span view follows (old, held) (new, holds) =
    record { old = old; new = new; keeper = view held; keeper_now = view holds; handed = follows held holds }

-- the stores of lost servers are as they were
abbrev pub AreLostSame : {S : Type 0} → List ℕ → (old new : List S) → Type 0
AreLostSame {S} ks old new = (k : ℕ) (d : S) → is_server_in ks k ≡ true → slice_index_or new k d ≡ slice_index_or old k d

-- what each run leaves of stores, however it ends: those of lost servers are as they were, and each store follows what it was
pub record GoesBy {S : Type 0} (kind : StoreKind S) (names : Option (List ℕ)) (t : RunSpan S) : Type 0 where
  pub lost : (ks : List ℕ) → names ≡ Some ks → AreLostSame ks t.old t.new
  pub follows : EachFollows kind t.old t.new []

-- ---- over what was loaded

-- none of the stores of servers that are down was touched, and each store follows what it was
pub record OnlyHealed {S : Type 0} (kind : StoreKind S) (replicas : Replicas) (old new : List S) : Type 0 where
  pub down : IsLeftDown (during replicas old new)
  pub follows : EachFollows kind old new []

-- each region was healed that had to be, all of it was installed, and these are the image of that and the lines
pub record WasMade {S : Type 0} (kind : StoreKind S) (replicas : Replicas) (l : Loaded) (old new : List S) (image lines : List ℕ) : Type 0 where
  pub healed : Healed
  pub passed : Passed kind replicas l.settings old new (λ before after. AreHealed kind before after (metadata_at l.kv l.kv.number) healed)
  pub kv : Store Key Value
  pub put : IsPutIn healed.changes l.kv kv
  pub saved : IsSaveOf kv l.settings l.next_tx image
  pub kept : kv.number ≤ 2 ^ 62 → l.next_tx ≤ 2 ^ 62 → IsSavable l.settings.region l.next_tx (shown kv) → IsKept kv l.settings l.next_tx image
  pub lines_are : lines ≡ done_lines (length healed.changes) healed.bytes

-- why it was not; memory may be short at any time
abbrev pub IsMakeStop : {S : Type 0} → StoreKind S → Replicas → Loaded → (old new : List S) → Stop → Type 0
IsMakeStop kind replicas l old new stop.Words = ⊥
IsMakeStop kind replicas l old new stop.Load = ⊥
IsMakeStop kind replicas l old new (stop.Refused why) = ⊥
IsMakeStop kind replicas l old new (stop.Unhealed why) = (why ≢ fault.Memory)
    × Passed kind replicas l.settings old new (λ before after. IsHealFault kind before after (metadata_at l.kv l.kv.number) why)
IsMakeStop kind replicas l old new stop.Save = ⊥
IsMakeStop kind replicas l old new stop.Memory = ⊤

-- A pass was whole: it left the stores as `middle`, and made this image and these lines. No byte was stored behind that.
pub record WasWhole {S : Type 0} (kind : StoreKind S) (replicas : Replicas) (l : Loaded) (t : RunSpan S) (lines : List ℕ) : Type 0 where
  pub middle : List S
  pub image : List ℕ
  pub made : WasMade kind replicas l t.old middle image lines
  pub follows : EachFollows kind middle t.new []
  pub lengths : SameLengths kind middle t.new

-- Behind a whole pass all stores of servers that are up were synced, and its image was handed to the keeper, which has it where it tells
-- what it holds.
pub record WasKept {S : Type 0} (kind : StoreKind S) (replicas : Replicas) (l : Loaded) (t : RunSpan S) (lines : List ℕ) : Type 0 where
  pub whole : WasWhole kind replicas l t lines
  pub synced : AreUpSynced kind replicas whole.middle t.new
  pub handed : t.handed (whole.image ∷ [])
  pub held : t.keeper.tells ≡ true → t.keeper_now.held ≡ Some whole.image

-- Behind a whole pass a store of a server that is up failed as it was to be synced, and nothing was handed over; or all of them were
-- synced, the image of the pass was handed over, and the keeper failed, which has what it held, or that image.
pub record IsUnsaved {S : Type 0} (kind : StoreKind S) (replicas : Replicas) (l : Loaded) (t : RunSpan S) : Type 0 where
  pub lines : List ℕ
  pub whole : WasWhole kind replicas l t lines
  pub cause : (HasUpFailed kind replicas whole.middle t.new × t.handed [])
      ⊎ (AreUpSynced kind replicas whole.middle t.new × t.handed (whole.image ∷ []) × Rose t.keeper.faults t.keeper_now.faults)

-- why nothing was kept of what was loaded; memory may be short at any time
abbrev pub IsPassStop : {S : Type 0} → StoreKind S → Replicas → Loaded → RunSpan S → Stop → Type 0
IsPassStop kind replicas l t stop.Words = ⊥
IsPassStop kind replicas l t stop.Load = ⊥
IsPassStop kind replicas l t (stop.Refused why) = ⊥
IsPassStop kind replicas l t (stop.Unhealed why) = (why ≢ fault.Memory) × t.handed []
    × Passed kind replicas l.settings t.old t.new (λ before after. IsHealFault kind before after (metadata_at l.kv l.kv.number) why)
IsPassStop kind replicas l t stop.Save = IsUnsaved kind replicas l t
IsPassStop kind replicas l t stop.Memory = t.handed []

-- ---- over an image

-- an image was loaded that can do without the lost servers
pub record IsLoadedFor {S : Type 0} (kind : StoreKind S) (ks : List ℕ) (image : List ℕ) (shelf : List S) (loaded : Loaded) : Type 0 where
  pub load : IsLoadWithout (is_server_in ks) (size_in kind shelf) image loaded
  pub spared : AreSpared ks loaded.settings (length shelf)

-- and they are down
pub record Began {S : Type 0} (kind : StoreKind S) (ks : List ℕ) (image : List ℕ) (shelf : List S) : Type 0 where
  pub loaded : Loaded
  pub is_loaded : IsLoadedFor kind ks image shelf loaded
  pub replicas : Replicas
  pub settings : replicas.settings ≡ loaded.settings
  pub down : (k : ℕ) → is_down replicas k ≡ is_server_in ks k

-- all of it was healed, and kept
pub record WasHealed {S : Type 0} (kind : StoreKind S) (ks : List ℕ) (image : List ℕ) (t : RunSpan S) (lines : List ℕ) : Type 0 where
  pub began : Began kind ks image t.old
  pub kept : WasKept kind began.replicas began.loaded t lines

-- nothing of it was kept
pub record WasStopped {S : Type 0} (kind : StoreKind S) (ks : List ℕ) (image : List ℕ) (t : RunSpan S) (why : Stop) : Type 0 where
  pub began : Began kind ks image t.old
  pub cause : IsPassStop kind began.replicas began.loaded t why

-- nothing was touched
pub record IsUntouchedIn {S : Type 0} (t : RunSpan S) : Type 0 where
  pub stores : t.new ≡ t.old
  pub keeper : t.handed []

-- the image breaks a rule, and not the one of servers that it can do without
pub record IsRefusedFor {S : Type 0} (kind : StoreKind S) (ks : List ℕ) (image : List ℕ) (shelf : List S) (why : LoadError) : Type 0 where
  pub not_memory : why ≢ error.Memory
  pub refusal : IsRefusalWithout (is_server_in ks) (size_in kind shelf) image why
  pub not_words : AreNotSpared ks image (length shelf) → ⊥

-- why an image was not loaded; memory may be short at any time
abbrev pub IsLoadStop : {S : Type 0} → StoreKind S → List ℕ → List ℕ → List S → Stop → Type 0
IsLoadStop kind ks image shelf stop.Words = AreNotSpared ks image (length shelf)
IsLoadStop kind ks image shelf stop.Load = ⊥
IsLoadStop kind ks image shelf (stop.Refused why) = IsRefusedFor kind ks image shelf why
IsLoadStop kind ks image shelf (stop.Unhealed why) = ⊥
IsLoadStop kind ks image shelf stop.Save = ⊥
IsLoadStop kind ks image shelf stop.Memory = ⊤

-- why nothing was kept of an image
abbrev pub IsStop : {S : Type 0} → StoreKind S → List ℕ → List ℕ → RunSpan S → Stop → Type 0
IsStop kind ks image t stop.Words = IsUntouchedIn t × AreNotSpared ks image (length t.old)
IsStop kind ks image t stop.Load = ⊥
IsStop kind ks image t (stop.Refused why) = IsUntouchedIn t × IsRefusedFor kind ks image t.old why
IsStop kind ks image t (stop.Unhealed why) = WasStopped kind ks image t (stop.Unhealed why)
IsStop kind ks image t stop.Save = WasStopped kind ks image t stop.Save
IsStop kind ks image t stop.Memory = t.handed []

-- ---- over what the words and the keeper give

-- the words name these servers, and these bytes are what the keeper gave
pub record IsGiven (names : Option (List ℕ)) (ks : List ℕ) (keeper : KeeperView) (image : List ℕ) : Type 0 where
  pub named : names ≡ Some ks
  pub held : (b : List ℕ) → keeper.held ≡ Some b → image ≡ b

-- an image was healed, or there was none
abbrev pub HasHealed : {S : Type 0} → StoreKind S → Option (List ℕ) → RunSpan S → List ℕ → Type 0
HasHealed kind names t lines = (ks : List ℕ) × (image : List ℕ) × IsGiven names ks t.keeper image
    × (((image ≡ []) × IsUntouchedIn t × (lines ≡ done_lines 0 0)) ⊎ ((image ≢ []) × WasHealed kind ks image t lines))

-- an image was not healed, for this reason
pub record IsUndone {S : Type 0} (kind : StoreKind S) (names : Option (List ℕ)) (t : RunSpan S) (why : Stop) : Type 0 where
  pub ks : List ℕ
  pub image : List ℕ
  pub given : IsGiven names ks t.keeper image
  pub some : image ≢ []
  pub cause : IsStop kind ks image t why

-- the words name servers
abbrev pub AreNamed : Option (List ℕ) → Type 0
AreNamed names = (ks : List ℕ) × (names ≡ Some ks)

-- why nothing was kept
abbrev pub IsEnd : {S : Type 0} → StoreKind S → Option (List ℕ) → RunSpan S → Stop → Type 0
IsEnd kind names t stop.Words = IsUntouchedIn t × ((names ≡ None) ⊎ IsUndone kind names t stop.Words)
IsEnd kind names t stop.Load = IsUntouchedIn t × AreNamed names × Rose t.keeper.faults t.keeper_now.faults
IsEnd kind names t (stop.Refused why) = IsUndone kind names t (stop.Refused why)
IsEnd kind names t (stop.Unhealed why) = IsUndone kind names t (stop.Unhealed why)
IsEnd kind names t stop.Save = IsUndone kind names t stop.Save
IsEnd kind names t stop.Memory = (IsUntouchedIn t × AreNamed names) ⊎ IsUndone kind names t stop.Memory

-- a run ended before its pass began
abbrev pub IsEarly : Stop → Type 0
IsEarly stop.Words = ⊤
IsEarly stop.Load = ⊤
IsEarly (stop.Refused why) = ⊤
IsEarly (stop.Unhealed why) = ⊥
IsEarly stop.Save = ⊥
IsEarly stop.Memory = ⊥

-- ---- what the keeper was handed

-- one image was handed over, that of a whole pass, of which all stores of servers that are left were synced
pub record HandsImage {S : Type 0} (kind : StoreKind S) (names : Option (List ℕ)) (t : RunSpan S) : Type 0 where
  pub ks : List ℕ
  pub image : List ℕ
  pub given : IsGiven names ks t.keeper image
  pub began : Began kind ks image t.old
  pub lines : List ℕ
  pub whole : WasWhole kind began.replicas began.loaded t lines
  pub synced : AreUpSynced kind began.replicas whole.middle t.new
  pub handed : t.handed (whole.image ∷ [])

-- nothing was handed over, or one such image
abbrev pub HandsOne : {S : Type 0} → StoreKind S → Option (List ℕ) → RunSpan S → Type 0
HandsOne kind names t = t.handed [] ⊎ HandsImage kind names t

-- ---- what is said of it

-- a sink, before a run and behind it
pub record SinkSpan (O : Type 0) : Type 0 where
  pub view : O → SinkView
  pub old : O
  pub new : O

abbrev pub sink_span : {O : Type 0} → (O → SinkView) → (old new : O) → SinkSpan O
sink_span view old new = record { view = view; old = old; new = new }

-- the status of a run in which nothing was kept, and what was written: a line where the image is refused or was not healed
abbrev pub IsToldStop : {O : Type 0} → SinkSpan O → ℕ → Stop → Type 0
IsToldStop s status stop.Words = (status ≡ 2) × (s.new ≡ s.old)
IsToldStop s status stop.Load = (status ≡ 8) × (s.new ≡ s.old)
IsToldStop s status (stop.Refused why) = SaysText (refusal_line why) 6 status (s.view s.old) (s.view s.new)
IsToldStop s status (stop.Unhealed why) = SaysOrNot s.view (fault_line why) 11 status s.old s.new
IsToldStop s status stop.Save = (status ≡ 5) × (s.new ≡ s.old)
IsToldStop s status stop.Memory = (status ≡ 7) × (s.new ≡ s.old)

-- how a run ended, and what was said of that
abbrev pub IsEndTold : {S O : Type 0} → StoreKind S → Option (List ℕ) → RunSpan S → SinkSpan O → ℕ → Result (List ℕ) Stop → Type 0
IsEndTold kind names t s status (Ok lines) = HasHealed kind names t lines × SaysText lines 0 status (s.view s.old) (s.view s.new)
IsEndTold kind names t s status (Err why) = IsEnd kind names t why × IsToldStop s status why

-- How a run ended with this status, over the servers that its words name: the whole of what it promises of stores, keeper and sink.
-- `ended` is what it came to. Where an image was healed and kept, or the keeper holds none, that is the two lines (`HasHealed`); else
-- it is why nothing was kept (`IsEnd`), which says of each reason what causes it, and what was handed to the keeper for all that.
-- What was written is the text of just that end: the two lines with 0, the line of this refusal with 6 and of this fault with 11,
-- a front of one of these with 4, as the sink failed, and nothing with the others (`SaysText`, `IsToldStop`).
pub record IsHealOver {S O : Type 0} (kind : StoreKind S) (names : Option (List ℕ)) (t : RunSpan S) (s : SinkSpan O) (status : ℕ) : Type 0 where
  pub ended : Result (List ℕ) Stop
  pub told : IsEndTold kind names t s status ended
