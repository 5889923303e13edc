-- What a call of a transaction records and changes, by what it sees: its keys, in order and up to a refusal, its changes, and the lists
-- that it asks for, and nothing else.
-- NSDI 2016, sections 2.3 to 2.6 (what a call read is what a later install of others may not have changed).
use Rattle.std.specs.Prelude.{◌≡◌, ◌≢◌, ℕ, zero, suc, ◌+◌, ◌-◌, ◌*◌, ◌++◌, Bool, true, false, bytes_eq, if◌then◌else◌, List, [], ◌∷◌, length}
use Rattle.std.specs.Prelude.{Option, None, Some, Ok, slice_get}
use Rattle.std.specs.List.{list_any}
use Rattle.wtf_base.specs.declared.ids.InodeId.{InodeId}
use Rattle.wtf_base.specs.declared.kept.Kept.{Kept}
use Rattle.wtf_base.specs.declared.slice.Slice.{Slice}
use Rattle.wtf_dev.specs.Store.{StoreKind}
use Rattle.wtf_kv.specs.Stores.{Store}
use Rattle.wtf_occ.specs.Attempts.{Attempted}
use Rattle.wtf_model.specs.declared.answer.Answer.{Answer}
use Rattle.wtf_model.specs.declared.limits.TheConstants.{MAX_REGIONS}
use Rattle.wtf_model.specs.declared.op.Op.{Op}
use Rattle.wtf_model.specs.declared.op.Op.TheVariants as op
use Rattle.wtf_model.specs.Steps.{IsLogged}
use Rattle.wtf_values.specs.declared.key.Key.{Key}
use Rattle.wtf_values.specs.declared.key.Key.TheVariants.{Path}
use Rattle.wtf_values.specs.declared.value.Value.{Value}
use Rattle.wtf_values.specs.declared.value.Delta.{Delta}
use Rattle.wtf_values.specs.declared.value.Node.{Node}
use Rattle.wtf_values.specs.declared.value.Node.TheVariants.{Folder, File}
use Rattle.wtf_log.specs.Calls.{own_of}
use Rattle.wtf_meta.specs.declared.session.Handle.{Handle}
use Rattle.wtf_meta.specs.Lists.{ListFact}
use Rattle.wtf_meta.specs.Files.{file_len}
use Rattle.wtf_meta.specs.FileEdits.{file_of}
use Rattle.wtf_meta.specs.Maps.{Map, Edits, seen}
use Rattle.wtf_meta.specs.Sessions.{SessionView, SetsHandle, handle_in, slice_in}
use Rattle.wtf_meta.specs.Calls.{InHand}
use Rattle.wtf_region.specs.declared.dev.Dev.{Dev}
use Rattle.wtf_region.specs.Bases.{slices_of, bases_in}
use Rattle.wtf_region.specs.Reads.{Recalls, TellsFacts}
use Rattle.wtf_index.specs.Checks.{stands_at}
use Rattle.wtf_index.specs.Recorded.{target_keys, directory_keys, rmdir_keys, unlink_keys, rename_keys}
use Rattle.wtf_index.specs.Changed.{mkdir_changes, rmdir_changes, create_changes, unlink_changes, rename_changes, link_changes}
use Rattle.wtf_steps.specs.Recorded.{append_keys, read_keys, found_in}
use Rattle.wtf_steps.specs.Made.{Makes, LaysAt, AddsAt}
use Rattle.wtf_steps.specs.Holding.{LeavesHand, MovesHandle, MovesOn}
use Rattle.wtf_steps.specs.Recalling.{ReadsFor}
use Rattle.wtf_rw.specs.Recorded.{open_keys, seek_keys, stat_keys}
use Rattle.wtf_rw.specs.Changed.{OfSlice, CutsAt, PunchesAt}
use Rattle.wtf_rw.specs.Held.{OpensFile, held_len}
use Rattle.wtf_rw.specs.Seeks.{lands}
use Rattle.wtf_slicing.specs.Recorded.{glue_keys, concat_keys, copy_keys}
use Rattle.wtf_slicing.specs.Changed.{kept_pieces, IsConcat, IsCopied}
use Rattle.wtf_slicing.specs.Held.{Yanks, Cuts, Pastes}
use Rattle.wtf_slicing.specs.Sights.{Sight, sight}
use Rattle.wtf_slicing.specs.Sources.{sources_of, files_bases}
use Rattle.wtf_replay.specs.Views.{TxnView, hand_of}

-- whether a handle was opened by a path
abbrev pub is_by : List ℕ → Option Handle → Bool
is_by p None = false
is_by p (Some h) = bytes_eq h.path p

abbrev pub is_held : SessionView → List ℕ → Bool
is_held s p = list_any (is_by p) s.handles

abbrev pub is_file : Option Node → Bool
is_file (Some (File i)) = true
is_file (Some Folder) = false
is_file None = false

-- whether a handle keeps a file at its path
abbrev pub is_busy : Map → SessionView → List ℕ → Bool
is_busy w s p = if is_held s p then is_file (stands_at w p) else false

-- Of a call that takes a file from a path: one on which a handle is, is busy. What stands there is looked at, and nothing more is
-- looked at or changed.
abbrev pub taken_keys : Map → SessionView → List ℕ → List Key → List Key
taken_keys w s p ks = if is_busy w s p then Path p ∷ [] else ks

abbrev pub taken_changes : Map → SessionView → List ℕ → Edits → Edits
taken_changes w s p cs = if is_busy w s p then [] else cs

-- the keys of a call whose data has n bytes
abbrev pub call_keys : {D : Type 0} → Sight → ℕ → Op D → List Key
call_keys x n (op.Mkdir p) = target_keys x.map p
call_keys x n (op.Rmdir p) = rmdir_keys x.map p
call_keys x n (op.Create p) = target_keys x.map p
call_keys x n (op.Unlink p) = taken_keys x.map x.hand p (unlink_keys x.map p)
call_keys x n (op.Rename p q) = taken_keys x.map x.hand p (rename_keys x.map p q)
call_keys x n (op.Link p q) = rename_keys x.map p q
call_keys x n (op.List p) = directory_keys x.map p
call_keys x n (op.Stat p) = stat_keys x.map p
call_keys x n (op.Open f p) = open_keys (handle_in x.hand f) p
call_keys x n (op.Seek f place) = seek_keys x.map (handle_in x.hand f) place
call_keys x n (op.Read f m) = read_keys x.size x.map (handle_in x.hand f) m
call_keys x n (op.Append f d) = append_keys x.size x.map (handle_in x.hand f) n
call_keys x n (op.Yank f m label) = read_keys x.size x.map (handle_in x.hand f) m
call_keys x n (op.Glue f label) = glue_keys x.size x.map (handle_in x.hand f) (slice_in x.hand label)
call_keys x n (op.Concat q paths) = concat_keys x.map q paths
call_keys x n (op.Copy p q) = copy_keys x.map p q
call_keys x n o = []

-- the changes of a call that answered a, of whose data the slice `own` is stored
abbrev pub CallMakes : {D : Type 0} → Sight → Option Slice → Op D → Answer → Attempted Key Delta → Attempted Key Delta → Type 0
CallMakes x own (op.Mkdir p) a old new = new.changes ≡ old.changes ++ mkdir_changes x.map p
CallMakes x own (op.Rmdir p) a old new = new.changes ≡ old.changes ++ rmdir_changes x.map p
CallMakes x own (op.Create p) a old new = new.changes ≡ old.changes ++ create_changes x.map p x.new
CallMakes x own (op.Unlink p) a old new = new.changes ≡ old.changes ++ taken_changes x.map x.hand p (unlink_changes x.map p)
CallMakes x own (op.Rename p q) a old new = new.changes ≡ old.changes ++ taken_changes x.map x.hand p (rename_changes x.map p q)
CallMakes x own (op.Link p q) a old new = new.changes ≡ old.changes ++ link_changes x.map p q
CallMakes x own (op.Write f d) a old new = Makes a (OfSlice own (LaysAt x.size (handle_in x.hand f))) old new
CallMakes x own (op.Append f d) a old new = Makes a (OfSlice own (AddsAt x.size x.map (handle_in x.hand f))) old new
CallMakes x own (op.Truncate f n) a old new = Makes a (CutsAt x.size (handle_in x.hand f) n) old new
CallMakes x own (op.Punch f n) a old new = Makes a (PunchesAt x.size (handle_in x.hand f) n) old new
CallMakes x own (op.Paste f label) a old new = Makes a (LaysAt x.size (handle_in x.hand f) (kept_pieces x.hand label)) old new
CallMakes x own (op.Glue f label) a old new = Makes a (AddsAt x.size x.map (handle_in x.hand f) (kept_pieces x.hand label)) old new
CallMakes x own (op.Concat q paths) a old new = Makes a (IsConcat x q paths) old new
CallMakes x own (op.Copy p q) a old new = Makes a (IsCopied x.map p q x.new) old new
CallMakes x own o a old new = new.changes ≡ old.changes

-- What a call that answered a leaves in hand, of whose data the slice `own` is stored: the handle that it opens, ends or moves, and
-- the slice that it keeps, by its places; where it was refused, what was there.
abbrev pub CallHolds : {D : Type 0} → Sight → Option Slice → Op D → Answer → SessionView → SessionView → Type 0
CallHolds x own (op.Open f p) a old new = LeavesHand a (OpensFile x.map f p) old new
CallHolds x own (op.Close f) a old new = LeavesHand a (SetsHandle f None) old new
CallHolds x own (op.Seek f place) a old new =
    LeavesHand a (MovesHandle f (λ h n. lands (MAX_REGIONS * x.size) (file_len x.size (file_of h.inode x.map)) h.off place ≡ Some n)) old new
CallHolds x own (op.Read f n) a old new = LeavesHand a (MovesOn f (λ h. found_in x.size x.map h n)) old new
CallHolds x own (op.Write f d) a old new = LeavesHand a (MovesOn f (λ h. held_len own)) old new
CallHolds x own (op.Yank f n label) a old new = LeavesHand a (Yanks x f n label) old new
CallHolds x own (op.Cut label off n to) a old new = LeavesHand a (Cuts label off n to) old new
CallHolds x own (op.Paste f label) a old new = LeavesHand a (Pastes f label) old new
CallHolds x own o a old new = new ≡ old

-- lists are, in order, those of the bases under the bytes that are found of n at a handle
abbrev pub AreFoundAt : Sight → (f n : ℕ) → List ListFact → Type 0
AreFoundAt x f n lists =
    (h : Handle) × (handle_in x.hand f ≡ Some h) × (slices_of lists ≡ bases_in x.size (file_of h.inode x.map) h.off (found_in x.size x.map h n))

-- and those of all bases of files, one file behind the other
abbrev pub AreOfFiles : Sight → List (List ℕ) → List ListFact → Type 0
AreOfFiles x paths lists = (is : List InodeId) × (sources_of x.map paths ≡ Ok is) × (slices_of lists ≡ files_bases x.size x.map is)

-- The lists that a call asked for that answered a: to read bytes of a file, or to take them as a slice, those under the bytes that are
-- found, to put files together those of the files, and to be refused none. Any other call asks for none.
abbrev pub CallReads : {D : Type 0} → Sight → Op D → Answer → Type 0
CallReads x (op.Read f n) a = ReadsFor a (AreFoundAt x f n) x.lists
CallReads x (op.Yank f n label) a = ReadsFor a (AreFoundAt x f n) x.lists
CallReads x (op.Concat q paths) a = ReadsFor a (AreOfFiles x paths) x.lists
CallReads x o a = x.lists ≡ []

-- an attempt goes on by a call that answered a, of whose n bytes of data the slice `own` is stored: by its keys and changes
pub record Acts {D : Type 0} (x : Sight) (n : ℕ) (own : Option Slice) (o : Op D) (a : Answer) (old new : Attempted Key Delta) : Type 0 where
  pub base : new.base ≡ old.base
  pub keys : new.reads ≡ old.reads ++ call_keys x n o
  pub makes : CallMakes x own o a old new

-- the number of bytes of the data that a log kept of a call
abbrev pub kept_len : Op Kept → ℕ
kept_len (op.Write f kept) = kept.len
kept_len (op.Append f kept) = kept.len
kept_len o = 0

-- what call k + 1 of the transaction tx sees, with this in hand, where it read these lists
abbrev pub sight_at : ℕ → Store Key Value → ℕ → ℕ → InHand → List ListFact → Sight
sight_at size kv tx k hand lists = sight size (seen kv hand.at) hand.session (record { tx = record { 0 = tx }; index = k + 1 }) lists

-- how many bytes a region has, which lists of slices are known, and whether lists are those that were asked for, one after another
pub record Scope : Type 1 where
  pub size : ℕ
  pub known : List ListFact → Type 0
  pub recalls : List ListFact → Type 0

-- Known are those that the stores tell that are left, where each byte of the slices was told and lies apart from what was punched. Lists
-- that were asked for were remembered or read, and are remembered.
abbrev pub scope : {S : Type 0} → StoreKind S → (old new : Dev S) → Scope
scope kind old new = record { size = old.settings.region; known = TellsFacts kind old new; recalls = Recalls kind old new }

-- call k of a transaction, from 0 on, was made once more and answered a: it recorded its own keys, made its own changes and set what is in
-- hand, by lists that it asked for and that are known
pub record MakesAgain (b : Scope) (kv : Store Key Value) (x : TxnView) (k : ℕ) (a : Answer) (old new : InHand) : Type 0 where
  pub op : Op Kept
  pub at_op : slice_get x.log.ops k ≡ Some op
  pub lists : List ListFact
  pub known : b.known lists
  pub reads : CallReads (sight_at b.size kv x.tx k old lists) op a
  pub acts : Acts (sight_at b.size kv x.tx k old lists) (kept_len op) (own_of op) op a old.at new.at
  pub holds : CallHolds (sight_at b.size kv x.tx k old lists) (own_of op) op a old.session new.session
  pub logged : IsLogged a

-- it answered what was shown
pub record Redoes (b : Scope) (kv : Store Key Value) (x : TxnView) (k : ℕ) (old new : InHand) : Type 0 where
  pub shown : Answer
  pub at_shown : slice_get x.log.shown k ≡ Some shown
  pub makes : MakesAgain b kv x k shown old new

-- n calls of a transaction were made once more and answered what was shown, one after another, from where it stands, and asked for these
-- lists
abbrev pub AreRedone : Scope → Store Key Value → TxnView → ℕ → List ListFact → InHand → Type 0
AreRedone b kv x zero lists hand = (lists ≡ []) × (hand ≡ hand_of x)
AreRedone b kv x (suc n) lists hand =
    (mid : InHand) × (before : List ListFact) × AreRedone b kv x n before mid
    × (last : Redoes b kv x (x.replayed + n) mid hand) × (lists ≡ before ++ last.makes.lists)

-- all that are left
abbrev pub AllRedone : Scope → Store Key Value → TxnView → List ListFact → InHand → Type 0
AllRedone b kv x lists hand = AreRedone b kv x (length x.log.ops - x.replayed) lists hand

-- The calls of a transaction deviate at call i, from 1 on: those before it, from where the transaction stands, were made once more and
-- answered what was shown; it was made once more too, and answered a, which is not what was shown. All these calls asked for those lists
-- that are recalled.
pub record StopsAt (b : Scope) (kv : Store Key Value) (x : TxnView) (i : ℕ) (a : Answer) : Type 0 where
  pub same : ℕ
  pub counted : i ≡ x.replayed + same + 1
  pub before : List ListFact
  pub mid : InHand
  pub redone : AreRedone b kv x same before mid
  pub new : InHand
  pub makes : MakesAgain b kv x (x.replayed + same) a mid new
  pub differs : slice_get x.log.shown (x.replayed + same) ≢ Some a
  pub recalls : b.recalls (before ++ makes.lists)
