-- The calls on slices: what each is among the definitions' calls, what it asks, records and reads.
use Rattle.std.specs.Prelude.{◌≡◌, ◌⊎◌, ℕ, List, [], Option, Some, Ok, ⊤}
use Rattle.wtf_base.specs.declared.fault.Fault.{Fault}
use Rattle.wtf_base.specs.declared.fault.Fault.TheVariants as fault
use Rattle.wtf_base.specs.declared.ids.InodeId.{InodeId}
use Rattle.wtf_base.specs.declared.settings.Settings.{Settings}
use Rattle.wtf_dev.specs.Store.{StoreKind}
use Rattle.wtf_model.specs.declared.answer.Answer.{Answer}
use Rattle.wtf_model.specs.declared.op.Op.{Op}
use Rattle.wtf_model.specs.declared.op.Op.TheVariants as op
use Rattle.wtf_model.specs.Form.{IsHandle, IsSlice, IsNumber, IsShowable}
use Rattle.wtf_values.specs.declared.key.Key.{Key}
use Rattle.wtf_meta.specs.declared.session.Handle.{Handle}
use Rattle.wtf_meta.specs.FileEdits.{file_of}
use Rattle.wtf_meta.specs.Maps.{Map}
use Rattle.wtf_meta.specs.Sessions.{SessionView, handle_in, slice_in}
use Rattle.wtf_meta.specs.Calls.{Caller, Did, InHand}
use Rattle.wtf_region.specs.declared.dev.Dev.{Dev}
use Rattle.wtf_region.specs.Devs.{stores}
use Rattle.wtf_region.specs.Reads.{LacksRegion}
use Rattle.wtf_steps.specs.Faults.{MayFault}
use Rattle.wtf_steps.specs.Scenes.{Scene}
use Rattle.wtf_steps.specs.Recorded.{found_in, read_keys}
use Rattle.wtf_steps.specs.Steps.{IsStepWith, NeedsNoBytes}
use Rattle.wtf_slicing.specs.declared.op.SliceOp.{SliceOp}
use Rattle.wtf_slicing.specs.declared.op.SliceOp.TheVariants.{Yank, Peek, Cut, Paste, Glue, Concat, Copy}
use Rattle.wtf_slicing.specs.Recorded.{glue_keys, concat_keys, copy_keys}
use Rattle.wtf_slicing.specs.Shown.{TellsLists, TellsSlices, LacksSlice}
use Rattle.wtf_slicing.specs.Sources.{sources_of, LacksFile}
use Rattle.wtf_slicing.specs.Steps.{IsNewFor}

-- the definitions' call
abbrev pub op_of : SliceOp → Op (List ℕ)
op_of (Yank f n label) = op.Yank f n label
op_of (Peek label off n) = op.Peek label off n
op_of (Cut label off n made) = op.Cut label off n made
op_of (Paste f label) = op.Paste f label
op_of (Glue f label) = op.Glue f label
op_of (Concat q ps) = op.Concat q.now ps.now
op_of (Copy p q) = op.Copy p.now q.now

-- a call in form: its labels, the part that it names, and how much it shows
abbrev pub IsFormSlice : SliceOp → Type 0
IsFormSlice (Yank f n label) = IsHandle f × IsSlice label
IsFormSlice (Peek label off n) = IsSlice label × IsNumber off × IsShowable n
IsFormSlice (Cut label off n made) = IsSlice label × IsNumber off × IsNumber n × IsSlice made
IsFormSlice (Paste f label) = IsHandle f × IsSlice label
IsFormSlice (Glue f label) = IsHandle f × IsSlice label
IsFormSlice (Concat q ps) = ⊤
IsFormSlice (Copy p q) = ⊤

-- the keys that it records, where a region has b bytes
abbrev pub slice_keys : ℕ → Map → SessionView → SliceOp → List Key
slice_keys b w s (Yank f n label) = read_keys b w (handle_in s f) n
slice_keys b w s (Glue f label) = glue_keys b w (handle_in s f) (slice_in s label)
slice_keys b w s (Concat q ps) = concat_keys w q.now ps.now
slice_keys b w s (Copy p q) = copy_keys w p.now q.now
slice_keys b w s o = []

-- what is known of the bytes and of the lists that it reads: none stores any byte
abbrev pub DoesSlice : {S : Type 0} → Scene S → SessionView → SliceOp → Did → Type 0
DoesSlice sc s (Yank f n label) did = TellsLists sc.kind sc.before sc.after sc.map did
DoesSlice sc s (Peek label off n) did = TellsSlices sc.kind (stores sc.before) (stores sc.after) s did
DoesSlice sc s (Concat q ps) did = TellsLists sc.kind sc.before sc.after sc.map did
DoesSlice sc s o did = NeedsNoBytes did

-- whoever calls, with `made` as the inode of the call, the step is the definitions' call
abbrev pub IsSliceStep : {S : Type 0} → Scene S → ℕ → InodeId → (old new : InHand) → SliceOp → Answer → Type 0
IsSliceStep sc b made old new o a = (x : Caller) → x.size ≡ b → IsNewFor x made → IsStepWith (DoesSlice sc old.session o) x sc.map old new (op_of o) a

-- why bytes of a file were not taken: a list of a base was not read
abbrev pub IsYankFault : {S : Type 0} → StoreKind S → (old new : Dev S) → Map → Option Handle → ℕ → Fault → Type 0
IsYankFault kind old new w handle n why =
    (why ≡ fault.Memory) ⊎ ((h : Handle) × (handle ≡ Some h) × LacksRegion kind old new (file_of h.inode w) h.off (found_in old.settings.region w h n) why)

-- and why files were not put together
abbrev pub IsConcatFault : {S : Type 0} → StoreKind S → (old new : Dev S) → Map → List (List ℕ) → Fault → Type 0
IsConcatFault kind old new w ps why = (why ≡ fault.Memory) ⊎ ((is : List InodeId) × (sources_of w ps ≡ Ok is) × LacksFile kind old new w is why)

-- why a call gave a fault: bytes are read that are to be shown, and the lists of files that are taken; memory may be short at any
-- time
abbrev pub IsSliceFault : {S : Type 0} → StoreKind S → (old new : Dev S) → Map → SessionView → SliceOp → Fault → Type 0
IsSliceFault kind old new w s (Yank f n label) why = IsYankFault kind old new w (handle_in s f) n why
IsSliceFault kind old new w s (Peek label off n) why = LacksSlice kind old new (slice_in s label) off n why
IsSliceFault kind old new w s (Concat q ps) why = IsConcatFault kind old new w ps.now why
IsSliceFault kind old new w s o why = why ≡ fault.Memory

-- and it may come in place of what is due
abbrev pub MaySliceFault : Settings → Map → SessionView → SliceOp → Fault → Type 0
MaySliceFault settings w s o why = MayFault settings w s (op_of o) why

-- a call that needs neither bytes nor lists
abbrev pub NeedsNoStore : SliceOp → Type 0
NeedsNoStore (Cut label off n made) = ⊤
NeedsNoStore (Paste f label) = ⊤
NeedsNoStore (Glue f label) = ⊤
NeedsNoStore (Copy p q) = ⊤
NeedsNoStore o = ⊥
