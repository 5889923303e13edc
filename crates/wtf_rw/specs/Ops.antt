-- The calls on bytes and handles: what each is among the definitions' calls, what it asks, records and brings.
use Rattle.std.specs.Prelude.{◌≡◌, ◌⊎◌, ◌<◌, ◌≤◌, ℕ, Bool, List, [], length, Option, None, Some, ⊤}
use Rattle.std.specs.Option.{option_map}
use Rattle.wtf_base.specs.declared.fault.Fault.{Fault}
use Rattle.wtf_base.specs.declared.fault.Fault.TheVariants as fault
use Rattle.wtf_base.specs.declared.settings.Settings.{Settings}
use Rattle.wtf_base.specs.declared.slice.Slice.{Slice}
use Rattle.wtf_dev.specs.Store.{StoreKind}
use Rattle.wtf_overlay.specs.Origin.{Place}
use Rattle.wtf_ring.specs.Points.{PlaceView}
use Rattle.wtf_model.specs.declared.answer.Answer.{Answer}
use Rattle.wtf_model.specs.declared.limits.TheConstants.{MAX_HANDLES, MAX_SHOWN, MAX_WRITTEN}
use Rattle.wtf_model.specs.declared.op.Op.{Op}
use Rattle.wtf_model.specs.declared.op.Op.TheVariants as op
use Rattle.wtf_values.specs.declared.key.Key.{Key}
use Rattle.wtf_meta.specs.declared.session.Handle.{Handle}
use Rattle.wtf_meta.specs.Maps.{Map}
use Rattle.wtf_meta.specs.FileEdits.{file_of}
use Rattle.wtf_meta.specs.Sessions.{SessionView, handle_in}
use Rattle.wtf_meta.specs.Calls.{Caller, Did, InHand}
use Rattle.wtf_region.specs.declared.dev.Dev.{Dev}
use Rattle.wtf_region.specs.Devs.{place_in, stores}
use Rattle.wtf_rw.specs.declared.op.Given.{Given}
use Rattle.wtf_rw.specs.declared.op.Given.TheVariants.{Fresh, Stored}
use Rattle.wtf_rw.specs.declared.op.RwOp.{RwOp}
use Rattle.wtf_rw.specs.declared.op.RwOp.TheVariants as rw
use Rattle.wtf_steps.specs.Steps.{IsStepWith, NeedsNoBytes, IsRefusal}
use Rattle.wtf_rw.specs.Recorded.{open_keys, seek_keys, stat_keys}
use Rattle.wtf_steps.specs.Recorded.{append_keys, read_keys, found_in}
use Rattle.wtf_rw.specs.Stored.{TellsOwn, BringsSlice, SliceBytes, IsOwn, IsPutFault, Answers, end_place}
use Rattle.wtf_rw.specs.Reads.{TellsRead, LacksRead}
use Rattle.wtf_steps.specs.Faults.{MayFault}
pub use Rattle.wtf_steps.specs.Scenes.{Scene, AreInside}

-- the definitions' call, on the bytes that it writes, if it writes some
abbrev pub op_of : RwOp → List ℕ → Op (List ℕ)
op_of (rw.Open f p) bytes = op.Open f p.now
op_of (rw.Close f) bytes = op.Close f
op_of (rw.Seek f place) bytes = op.Seek f place
op_of (rw.Tell f) bytes = op.Tell f
op_of (rw.Read f n) bytes = op.Read f n
op_of (rw.Write f d) bytes = op.Write f bytes
op_of (rw.Append f d) bytes = op.Append f bytes
op_of (rw.Truncate f n) bytes = op.Truncate f n
op_of (rw.Punch f n) bytes = op.Punch f n
op_of (rw.Stat p) bytes = op.Stat p.now

-- data is these bytes, or as many that were stored before
abbrev pub IsData : Given → List ℕ → Type 0
IsData (Fresh bs) bytes = bytes ≡ bs.now
IsData (Stored kept) bytes = length bytes ≡ kept.len

abbrev pub Writes : RwOp → List ℕ → Type 0
Writes (rw.Write f d) bytes = IsData d bytes
Writes (rw.Append f d) bytes = IsData d bytes
Writes o bytes = ⊤

-- data that was stored before has its slice, if it has a byte
abbrev pub HasSlice : Given → Type 0
HasSlice (Fresh bs) = ⊤
HasSlice (Stored kept) = kept.slice ≡ None → kept.len ≡ 0

abbrev pub IsWhole : RwOp → Type 0
IsWhole (rw.Write f d) = HasSlice d
IsWhole (rw.Append f d) = HasSlice d
IsWhole o = ⊤

-- P holds of the places of each byte of a slice that a call is given
abbrev pub GivenBytes : (List Place → Bool) → Given → Type 0
GivenBytes P (Fresh bs) = ⊤
GivenBytes P (Stored kept) = SliceBytes P kept.slice

abbrev pub RwBytes : (List Place → Bool) → RwOp → Type 0
RwBytes P (rw.Write f d) = GivenBytes P d
RwBytes P (rw.Append f d) = GivenBytes P d
RwBytes P o = ⊤

-- the number of bytes of data
abbrev pub size_of : Given → ℕ
size_of (Fresh bs) = length bs.now
size_of (Stored kept) = kept.len

-- a call in form: its label, and how much it shows or hands in
abbrev pub IsFormRw : RwOp → Type 0
IsFormRw (rw.Open f p) = f < MAX_HANDLES
IsFormRw (rw.Close f) = f < MAX_HANDLES
IsFormRw (rw.Seek f place) = f < MAX_HANDLES
IsFormRw (rw.Tell f) = f < MAX_HANDLES
IsFormRw (rw.Read f n) = (f < MAX_HANDLES) × (n ≤ MAX_SHOWN)
IsFormRw (rw.Write f d) = (f < MAX_HANDLES) × (size_of d ≤ MAX_WRITTEN)
IsFormRw (rw.Append f d) = (f < MAX_HANDLES) × (size_of d ≤ MAX_WRITTEN)
IsFormRw (rw.Truncate f n) = f < MAX_HANDLES
IsFormRw (rw.Punch f n) = f < MAX_HANDLES
IsFormRw (rw.Stat p) = ⊤

-- the keys that it records, where a region has b bytes
abbrev pub rw_keys : ℕ → Map → SessionView → RwOp → List Key
rw_keys b w s (rw.Open f p) = open_keys (handle_in s f) p.now
rw_keys b w s (rw.Seek f place) = seek_keys w (handle_in s f) place
rw_keys b w s (rw.Read f n) = read_keys b w (handle_in s f) n
rw_keys b w s (rw.Append f d) = append_keys b w (handle_in s f) (size_of d)
rw_keys b w s (rw.Stat p) = stat_keys w p.now
rw_keys b w s o = []

-- what is known of the bytes that data brings
abbrev pub DoesData : {S : Type 0} → Scene S → Given → Option Slice → List ℕ → Did → Type 0
DoesData sc (Fresh bs) own bytes did = TellsOwn sc.kind (stores sc.before) (stores sc.after) own did
DoesData sc (Stored kept) own bytes did = BringsSlice kept.slice bytes did × (own ≡ None)

-- and of those that a call reads and brings
abbrev pub DoesRw : {S : Type 0} → Scene S → RwOp → Option Slice → List ℕ → Did → Type 0
DoesRw sc (rw.Read f n) own bytes did = TellsRead sc.kind sc.before sc.after sc.map did × (own ≡ None)
DoesRw sc (rw.Write f d) own bytes did = DoesData sc d own bytes did
DoesRw sc (rw.Append f d) own bytes did = DoesData sc d own bytes did
DoesRw sc o own bytes did = NeedsNoBytes did × (own ≡ None)

-- of a call that is lent no store
abbrev pub DoesPlain : RwOp → List ℕ → Did → Type 0
DoesPlain (rw.Write f (Stored kept)) bytes did = BringsSlice kept.slice bytes did
DoesPlain (rw.Append f (Stored kept)) bytes did = BringsSlice kept.slice bytes did
DoesPlain o bytes did = NeedsNoBytes did

-- whoever calls, the step is the definitions' call on all bytes that the data may be
abbrev pub IsRwStep : {S : Type 0} → Scene S → ℕ → (old new : InHand) → RwOp → Option Slice → Answer → Type 0
IsRwStep sc b old new o own a =
    (x : Caller) (bytes : List ℕ) → x.size ≡ b → Writes o bytes → IsWhole o → IsStepWith (DoesRw sc o own bytes) x sc.map old new (op_of o bytes) a

abbrev pub IsPlainStep : ℕ → Map → (old new : InHand) → RwOp → Answer → Type 0
IsPlainStep b w old new o a =
    (x : Caller) (bytes : List ℕ) → x.size ≡ b → Writes o bytes → IsWhole o → IsStepWith (DoesPlain o bytes) x w old new (op_of o bytes) a

-- where the bytes that a write and an append store go: to the region of the handle's offset, and to that of the file's end
abbrev pub place_at : {S : Type 0} → Dev S → Handle → PlaceView
place_at dev h = place_in dev h.inode h.off

abbrev pub place_at_end : {S : Type 0} → Dev S → Map → Handle → PlaceView
place_at_end dev w h = place_in dev h.inode (end_place dev.settings.region (file_of h.inode w))

-- of a call, if it is to store some for a handle that is open
abbrev pub rw_place : {S : Type 0} → Dev S → Map → SessionView → RwOp → Option PlaceView
rw_place dev w s (rw.Write f (Fresh bs)) = option_map (place_at dev) (handle_in s f)
rw_place dev w s (rw.Append f (Fresh bs)) = option_map (place_at_end dev w) (handle_in s f)
rw_place dev w s o = None

-- how many bytes a call is to store
abbrev pub rw_len : RwOp → ℕ
rw_len (rw.Write f (Fresh bs)) = length bs.now
rw_len (rw.Append f (Fresh bs)) = length bs.now
rw_len o = 0

-- what came of the bytes that a call was to store, by its handle: with none open nothing was lent for writing
abbrev pub OwnBy : {S : Type 0} → StoreKind S → (old new : Dev S) → Option Handle → (Handle → PlaceView) → List ℕ → Option Slice → Type 0
OwnBy kind old new None place bytes own = (new ≡ old) × (own ≡ None)
OwnBy kind old new (Some h) place bytes own = IsOwn kind old new (place h) bytes own

-- and of a call
abbrev pub IsRwOwn : {S : Type 0} → StoreKind S → (old new : Dev S) → Map → SessionView → RwOp → Option Slice → Type 0
IsRwOwn kind old new w s (rw.Write f (Fresh bs)) own = OwnBy kind old new (handle_in s f) (place_at old) bs.now own
IsRwOwn kind old new w s (rw.Append f (Fresh bs)) own = OwnBy kind old new (handle_in s f) (place_at_end old w) bs.now own
IsRwOwn kind old new w s (rw.Read f n) own = own ≡ None
IsRwOwn kind old new w s o own = (new ≡ old) × (own ≡ None)

-- fresh data of which nothing was stored has no byte, or its call was refused
abbrev pub LacksOwn : RwOp → Option Slice → Answer → Type 0
LacksOwn (rw.Write f (Fresh bs)) own a = own ≡ None → (length bs.now ≡ 0) ⊎ IsRefusal a
LacksOwn (rw.Append f (Fresh bs)) own a = own ≡ None → (length bs.now ≡ 0) ⊎ IsRefusal a
LacksOwn o own a = ⊤

-- a call that is to store no byte
abbrev pub StoresNone : RwOp → Type 0
StoresNone (rw.Write f (Fresh bs)) = ⊥
StoresNone (rw.Append f (Fresh bs)) = ⊥
StoresNone o = ⊤

-- a call that needs neither bytes nor lists of the stores, and stores none there
abbrev pub NeedsNoStore : RwOp → Type 0
NeedsNoStore (rw.Read f n) = ⊥
NeedsNoStore (rw.Write f (Fresh bs)) = ⊥
NeedsNoStore (rw.Append f (Fresh bs)) = ⊥
NeedsNoStore o = ⊤

-- why a call gave a fault; memory may be short at any time
abbrev pub IsRwFault : {S : Type 0} → StoreKind S → (old new : Dev S) → Map → SessionView → RwOp → Fault → Type 0
IsRwFault kind old new w s (rw.Write f (Fresh bs)) why = IsPutFault kind old new bs.now why
IsRwFault kind old new w s (rw.Append f (Fresh bs)) why = IsPutFault kind old new bs.now why
IsRwFault kind old new w s (rw.Read f n) why =
    (why ≡ fault.Memory) ⊎ ((h : Handle) × (handle_in s f ≡ Some h) × LacksRead kind old new (file_of h.inode w) h.off (found_in old.settings.region w h n) why)
IsRwFault kind old new w s o why = why ≡ fault.Memory

-- and it may come in place of what is due, whatever the bytes are
abbrev pub MayRwFault : Settings → Map → SessionView → RwOp → Fault → Type 0
MayRwFault settings w s o why = (bytes : List ℕ) → Writes o bytes → MayFault settings w s (op_of o bytes) why

-- data that was stored before, of which there is no slice
abbrev pub LacksSlice : Given → Type 0
LacksSlice (Fresh bs) = ⊥
LacksSlice (Stored kept) = kept.slice ≡ None

abbrev pub IsBare : RwOp → Type 0
IsBare (rw.Write f d) = LacksSlice d
IsBare (rw.Append f d) = LacksSlice d
IsBare o = ⊥

-- then the answer alone is due, whatever the bytes are
abbrev pub IsBareAnswer : ℕ → Map → SessionView → RwOp → Answer → Type 0
IsBareAnswer b w s o a =
    (x : Caller) (bytes : List ℕ) → x.size ≡ b → Writes o bytes → IsBare o → Answers x w s (rw_keys b w s o) (op_of o bytes) a
