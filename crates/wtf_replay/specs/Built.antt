-- How calls are made: those on names, those on handles and the bytes of files, and those on slices.
use Rattle.std.specs.Prelude.{◌≡◌, ℕ, Bool, true, false, List, [], length}
use Rattle.wtf_base.specs.declared.kept.Kept.{Kept}
use Rattle.wtf_model.specs.declared.op.Op.{Op}
use Rattle.wtf_model.specs.declared.op.Op.TheVariants as op
use Rattle.wtf_rw.specs.declared.op.Given.{Given}
use Rattle.wtf_rw.specs.declared.op.Given.TheVariants.{Fresh, Stored}
use Rattle.wtf_rw.specs.declared.op.RwOp.{RwOp}
use Rattle.wtf_rw.specs.declared.op.RwOp.TheVariants as rw
use Rattle.wtf_slicing.specs.declared.op.SliceOp.{SliceOp}
use Rattle.wtf_slicing.specs.declared.op.SliceOp.TheVariants as slicing

-- whether it is one on a handle or on the bytes of a file
abbrev pub is_rw_op : {D : Type 0} → Op D → Bool
is_rw_op (op.Stat p) = true
is_rw_op (op.Open f p) = true
is_rw_op (op.Close f) = true
is_rw_op (op.Seek f place) = true
is_rw_op (op.Tell f) = true
is_rw_op (op.Read f n) = true
is_rw_op (op.Write f d) = true
is_rw_op (op.Append f d) = true
is_rw_op (op.Truncate f n) = true
is_rw_op (op.Punch f n) = true
is_rw_op o = false

-- whether it is one on slices, or one that makes a file of others
abbrev pub is_slice_op : {D : Type 0} → Op D → Bool
is_slice_op (op.Yank f n s) = true
is_slice_op (op.Peek s off n) = true
is_slice_op (op.Cut s off n to) = true
is_slice_op (op.Paste f s) = true
is_slice_op (op.Glue f s) = true
is_slice_op (op.Concat q paths) = true
is_slice_op (op.Copy p q) = true
is_slice_op o = false

-- the same call with other data
abbrev pub with_data : {D E : Type 0} → E → Op D → Op E
with_data x (op.Mkdir p) = op.Mkdir p
with_data x (op.Rmdir p) = op.Rmdir p
with_data x (op.Create p) = op.Create p
with_data x (op.Unlink p) = op.Unlink p
with_data x (op.Rename p q) = op.Rename p q
with_data x (op.Link p q) = op.Link p q
with_data x (op.List p) = op.List p
with_data x (op.Stat p) = op.Stat p
with_data x (op.Open f p) = op.Open f p
with_data x (op.Close f) = op.Close f
with_data x (op.Seek f place) = op.Seek f place
with_data x (op.Tell f) = op.Tell f
with_data x (op.Read f n) = op.Read f n
with_data x (op.Write f d) = op.Write f x
with_data x (op.Append f d) = op.Append f x
with_data x (op.Truncate f n) = op.Truncate f n
with_data x (op.Punch f n) = op.Punch f n
with_data x (op.Yank f n s) = op.Yank f n s
with_data x (op.Peek s off len) = op.Peek s off len
with_data x (op.Cut s off len to) = op.Cut s off len to
with_data x (op.Paste f s) = op.Paste f s
with_data x (op.Glue f s) = op.Glue f s
with_data x (op.Concat q paths) = op.Concat q paths
with_data x (op.Copy p q) = op.Copy p q

-- a call without data is this call
abbrev pub IsPlainOp : {D : Type 0} → Op D → Op (List ℕ) → Type 0
IsPlainOp k o = o ≡ with_data [] k

-- a call on slices is made as r
abbrev pub IsSliceOpOf : {D : Type 0} → SliceOp → Op D → Type 0
IsSliceOpOf (slicing.Yank f n s) o = o ≡ op.Yank f n s
IsSliceOpOf (slicing.Peek s off n) o = o ≡ op.Peek s off n
IsSliceOpOf (slicing.Cut s off n to) o = o ≡ op.Cut s off n to
IsSliceOpOf (slicing.Paste f s) o = o ≡ op.Paste f s
IsSliceOpOf (slicing.Glue f s) o = o ≡ op.Glue f s
IsSliceOpOf (slicing.Concat q paths) o = o ≡ op.Concat q.now paths.now
IsSliceOpOf (slicing.Copy p q) o = o ≡ op.Copy p.now q.now

-- a call on handles or bytes is made as r, whose data is as G says
abbrev pub IsOpOf : {D : Type 0} → (Given → D → Type 0) → RwOp → Op D → Type 0
IsOpOf G (rw.Open f p) o = o ≡ op.Open f p.now
IsOpOf G (rw.Close f) o = o ≡ op.Close f
IsOpOf G (rw.Seek f place) o = o ≡ op.Seek f place
IsOpOf G (rw.Tell f) o = o ≡ op.Tell f
IsOpOf G (rw.Read f n) o = o ≡ op.Read f n
IsOpOf {D} G (rw.Write f d) o = (x : D) × (o ≡ op.Write f x) × G d x
IsOpOf {D} G (rw.Append f d) o = (x : D) × (o ≡ op.Append f x) × G d x
IsOpOf G (rw.Truncate f n) o = o ≡ op.Truncate f n
IsOpOf G (rw.Punch f n) o = o ≡ op.Punch f n
IsOpOf G (rw.Stat p) o = o ≡ op.Stat p.now

-- data is to be stored, and is these bytes
abbrev pub IsFresh : Given → List ℕ → Type 0
IsFresh (Fresh bs) bytes = bytes ≡ bs.now
IsFresh (Stored kept) bytes = ⊥

-- or a log kept this of it
abbrev pub IsStored : Given → Kept → Type 0
IsStored (Fresh bs) kept = ⊥
IsStored (Stored k) kept = kept ≡ k

-- the data of a call that writes
abbrev pub call_data : Op (List ℕ) → List ℕ
call_data (op.Write f bytes) = bytes
call_data (op.Append f bytes) = bytes
call_data o = []

-- and the number of its bytes
abbrev pub data_len : Op (List ℕ) → ℕ
data_len o = length (call_data o)
