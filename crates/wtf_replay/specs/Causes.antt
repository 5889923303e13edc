-- Why a call, a step or a commit gave a fault, and when one may come.
use Rattle.std.specs.Prelude.{◌≡◌, ◌⊎◌, ◌≤◌, ◌-◌, ℕ, List, [], Option, None, Some, slice_get, ⊤}
use Rattle.std.specs.Option.{option_map}
use Rattle.wtf_base.specs.declared.fault.Fault.{Fault}
use Rattle.wtf_base.specs.declared.fault.Fault.TheVariants as fault
use Rattle.wtf_base.specs.declared.kept.Kept.{Kept}
use Rattle.wtf_base.specs.declared.settings.Settings.{Settings}
use Rattle.wtf_base.specs.declared.slice.Slice.{Slice}
use Rattle.wtf_dev.specs.Store.{Range, StoreKind}
use Rattle.wtf_overlay.specs.declared.part.Piece.{Piece}
use Rattle.wtf_ring.specs.Points.{PlaceView}
use Rattle.wtf_replica.specs.Bytes.{byte_at}
use Rattle.wtf_kv.specs.Stores.{Store}
use Rattle.wtf_occ.specs.Attempts.{Attempted}
use Rattle.wtf_model.specs.declared.answer.Answer.{Answer}
use Rattle.wtf_model.specs.declared.answer.Answer.TheVariants as answer
use Rattle.wtf_model.specs.declared.op.Op.{Op}
use Rattle.wtf_model.specs.declared.op.Op.TheVariants as op
use Rattle.wtf_model.specs.Lawful.{IsDone, IsReadFault}
use Rattle.wtf_model.specs.Transaction.{answers_of}
use Rattle.wtf_model.specs.Tree.{Tree}
use Rattle.wtf_values.specs.declared.key.Key.{Key}
use Rattle.wtf_values.specs.declared.value.Value.{Value}
use Rattle.wtf_values.specs.declared.value.Delta.{Delta}
use Rattle.wtf_log.specs.Standing.{OpStandsFor}
use Rattle.wtf_meta.specs.declared.session.Handle.{Handle}
use Rattle.wtf_meta.specs.Contents.{Told}
use Rattle.wtf_meta.specs.Lists.{ListFact}
use Rattle.wtf_meta.specs.FileEdits.{file_of}
use Rattle.wtf_meta.specs.Maps.{Map, seen, metadata_at}
use Rattle.wtf_meta.specs.Sessions.{SessionView, handle_in, slice_in}
use Rattle.wtf_meta.specs.Trees.{Stands}
use Rattle.wtf_meta.specs.Calls.{InHand, cap_for}
use Rattle.wtf_region.specs.declared.dev.Dev.{Dev}
use Rattle.wtf_region.specs.Devs.{GoesOn, stores, remembered}
use Rattle.wtf_region.specs.Reads.{Recalls}
use Rattle.wtf_steps.specs.Faults.{MayFault}
use Rattle.wtf_steps.specs.Scenes.{Scene}
use Rattle.wtf_rw.specs.Ops.{OwnBy, place_at, place_at_end}
use Rattle.wtf_rw.specs.Reads.{LacksRead}
use Rattle.wtf_steps.specs.Recorded.{found_in}
use Rattle.wtf_rw.specs.Stored.{IsPutFault}
use Rattle.wtf_slicing.specs.Ops.{IsYankFault, IsConcatFault}
use Rattle.wtf_slicing.specs.Shown.{LacksSlice}
use Rattle.wtf_replay.specs.Views.{TxnView, in_hand, hand_of, replaying}
use Rattle.wtf_replay.specs.Tried.{commit_from}
use Rattle.wtf_replay.specs.Insides.{NamesAgain}
use Rattle.wtf_replay.specs.Sounds.{LogStands, TellsMap, IsAwayTxn, caller_at}
use Rattle.wtf_replay.specs.Effects.{scope, AreRedone}

-- what came of the bytes that a call was to store
abbrev pub IsOwnOf : {S : Type 0} → StoreKind S → (old new : Dev S) → Map → SessionView → Op (List ℕ) → Option Slice → Type 0
IsOwnOf kind old new w s (op.Write f bytes) own = OwnBy kind old new (handle_in s f) (place_at old) bytes own
IsOwnOf kind old new w s (op.Append f bytes) own = OwnBy kind old new (handle_in s f) (place_at_end old w) bytes own
IsOwnOf kind old new w s (op.Read f n) own = own ≡ None
IsOwnOf kind old new w s (op.Yank f n label) own = own ≡ None
IsOwnOf kind old new w s (op.Peek label off n) own = own ≡ None
IsOwnOf kind old new w s (op.Concat q paths) own = own ≡ None
IsOwnOf kind old new w s o own = (new ≡ old) × (own ≡ None)

-- a call that reads neither bytes nor lists of the stores
abbrev pub IsStillOp : {D : Type 0} → Op D → Type 0
IsStillOp (op.Read f n) = ⊥
IsStillOp (op.Yank f n label) = ⊥
IsStillOp (op.Peek label off n) = ⊥
IsStillOp (op.Concat q paths) = ⊥
IsStillOp o = ⊤

-- why n bytes of a slice were not shown; memory may be short at any time. The lists that are remembered stay.
abbrev pub IsPeekCause : {S : Type 0} → StoreKind S → (old new : Dev S) → Option (List Piece) → ℕ → ℕ → Fault → Type 0
IsPeekCause kind old new slice off n why = ((why ≡ fault.Memory) ⊎ LacksSlice kind old new slice off n why) × (remembered new ≡ remembered old)

-- a call that is to store no byte
abbrev pub StoresNothing : Op (List ℕ) → Type 0
StoresNothing (op.Write f bytes) = ⊥
StoresNothing (op.Append f bytes) = ⊥
StoresNothing o = ⊤

-- where the bytes go that a call is to store, where its handle is open: those that are written to the place of the region of the handle's
-- offset, and those that are appended to that of the file's end
abbrev pub grown_place : {S : Type 0} → Dev S → Map → SessionView → Op (List ℕ) → Option PlaceView
grown_place dev w s (op.Write f bytes) = option_map (place_at dev) (handle_in s f)
grown_place dev w s (op.Append f bytes) = option_map (place_at_end dev w) (handle_in s f)
grown_place dev w s o = None

-- why n bytes from a handle's offset on were not shown; memory may be short at any time
abbrev pub IsReadCause : {S : Type 0} → StoreKind S → (old new : Dev S) → Map → Option Handle → ℕ → Fault → Type 0
IsReadCause kind old new w handle n why =
    (why ≡ fault.Memory) ⊎ ((h : Handle) × (handle ≡ Some h) × LacksRead kind old new (file_of h.inode w) h.off (found_in old.settings.region w h n) why)

-- why a call gave a fault, where P says why its data was not stored: bytes are read that are to be shown, and the lists of files
-- that are taken; memory may be short at any time
abbrev pub FaultOf : {S D : Type 0} → Scene S → (D → Fault → Type 0) → SessionView → Op D → Fault → Type 0
FaultOf sc P s (op.Write f d) why = P d why
FaultOf sc P s (op.Append f d) why = P d why
FaultOf sc P s (op.Read f n) why = IsReadCause sc.kind sc.before sc.after sc.map (handle_in s f) n why
FaultOf sc P s (op.Yank f n label) why = IsYankFault sc.kind sc.before sc.after sc.map (handle_in s f) n why
FaultOf sc P s (op.Peek label off n) why = IsPeekCause sc.kind sc.before sc.after (slice_in s label) off n why
FaultOf sc P s (op.Concat q paths) why = IsConcatFault sc.kind sc.before sc.after sc.map paths why
FaultOf sc P s o why = why ≡ fault.Memory

-- of a call that is made for the first time
abbrev pub IsCallFault : {S : Type 0} → StoreKind S → (old new : Dev S) → Map → SessionView → Op (List ℕ) → Fault → Type 0
IsCallFault kind old new w s o why = FaultOf (record { kind = kind; before = old; after = new; map = w }) (IsPutFault kind old new) s o why

-- and of one that stores nothing: one without data, or one that is made once more
abbrev pub IsAgainFault : {S D : Type 0} → StoreKind S → (old new : Dev S) → Map → SessionView → Op D → Fault → Type 0
IsAgainFault kind old new w s k why = FaultOf (record { kind = kind; before = old; after = new; map = w }) (λ d y. y ≡ fault.Memory) s k why

-- it may come in place of what is due, for whatever bytes the call stands
abbrev pub MayAgainFault : Settings → Map → SessionView → Op Kept → Fault → Type 0
MayAgainFault settings w s k why = (o : Op (List ℕ)) → OpStandsFor (λ p bytes. ⊤) k o → MayFault settings w s o why

-- the call of a log gave the fault when it was made once more with this in hand
pub record FaultAt {S : Type 0} (kind : StoreKind S) (mid new : Dev S) (kv : Store Key Value) (hand : InHand) (call : Option (Op Kept))
    (why : Fault) : Type 0 where
  pub op : Op Kept
  pub at_op : call ≡ Some op
  pub cause : IsAgainFault kind mid new (seen kv hand.at) hand.session op why
  pub due : MayAgainFault mid.settings (seen kv hand.at) hand.session op why

-- A replay that began as x gave the fault at one of the calls that were left, where those before it were done, and the lists that
-- they read are remembered.
pub record ReplayFault {S : Type 0} (kind : StoreKind S) (old new : Dev S) (kv : Store Key Value) (x : TxnView) (why : Fault) : Type 0 where
  pub mid : Dev S
  pub goes : GoesOn kind old mid []
  pub at : Attempted Key Delta
  pub session : SessionView
  pub k : ℕ
  pub from : x.replayed ≤ k
  pub base : at.base ≡ x.at.base
  pub lists : List ListFact
  pub redone : AreRedone (scope kind old mid) kv x (k - x.replayed) lists (in_hand at session)
  pub recalls : Recalls kind old mid lists
  pub named : NamesAgain kind old mid kv (hand_of x) (in_hand at session) x.log
  pub done : (ops : List (Op (List ℕ))) (ranges : List (ℕ × Range)) → TellsMap kind old ranges (metadata_at kv x.at.base) → IsAwayTxn kind old ranges kv x
      → LogStands old.settings.region kv (byte_at kind (stores old)) x ops
      → LogStands old.settings.region kv (byte_at kind (stores mid)) (replaying x.tx at session x.log k) ops
  pub fault : FaultAt kind mid new kv (in_hand at session) (slice_get x.log.ops k) why

-- Memory was short, or it was a replay of the calls that a commit has to make once more: none of a live transaction that
-- finds no key in the way, those that are left of a replay at the number, else all.
abbrev pub IsCommitFault : {S : Type 0} → StoreKind S → (old new : Dev S) → Store Key Value → TxnView → Fault → Type 0
IsCommitFault kind old new kv x why = (why ≡ fault.Memory) ⊎ ReplayFault kind old new kv (commit_from kv x) why

-- The machine's answer to a fault; want of memory has none.
abbrev pub fault_answer : Fault → Option Answer
fault_answer (fault.Read k) = Some (answer.FaultRead k.0)
fault_answer fault.Write = Some answer.FaultWrite
fault_answer (fault.Punch k) = Some (answer.FaultPunch k.0)
fault_answer (fault.Damaged k) = Some (answer.Damaged k.0)
fault_answer fault.Memory = None

-- where call k is to be made once more, the machine allows the answer of a fault: the call would not be refused
abbrev pub MayFaultAt : ℕ → List Answer → ℕ → Option Answer → Type 0
MayFaultAt servers answers k None = ⊤
MayFaultAt servers answers k (Some a) = IsDone (slice_get answers k) × IsReadFault servers a

-- on each tree for which the map stands
abbrev pub MayStepFault : Settings → Map → Told → TxnView → List (Op (List ℕ)) → Fault → Type 0
MayStepFault settings w told x ops why =
    (t : Tree) → Stands settings.region told x.tx 0 w t
    → MayFaultAt settings.servers (answers_of (cap_for (caller_at settings.region x.tx 0)) t ops) x.replayed (fault_answer why)

-- and where calls are replayed to an end, it allows each read's
abbrev pub MayEndFault : ℕ → Option Answer → Type 0
MayEndFault servers None = ⊤
MayEndFault servers (Some a) = IsReadFault servers a

abbrev pub MayCommitFault : Settings → Map → Told → TxnView → Fault → Type 0
MayCommitFault settings w told x why = (t : Tree) → Stands settings.region told x.tx 0 w t → MayEndFault settings.servers (fault_answer why)
