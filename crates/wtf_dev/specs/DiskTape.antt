-- A disk in memory: its writes and syncs since it was made of eight empty files, from which each moment is told.
use Rattle.std.specs.Prelude.{◌≡◌, ◌↔◌, ◌⊎◌, ℕ, ◌+◌, ◌-◌, ◌^◌, ◌<◌, ◌≤◌, Bool, true, false, min, nat_lt, if◌then◌else◌, ◌==◌, Option, None, List, [], ◌∷◌, ◌++◌, length, take, replicate, slice_get, slice_index_or, Vec}
use Rattle.std.specs.declared.alloc.Global.{Global}
use Rattle.std.specs.List.{Contains}
use Rattle.wtf_dev.specs.Counts.{Rose, risen}
use Rattle.wtf_dev.specs.Calls.{CallCounts, IsCounted}
use Rattle.wtf_dev.specs.Disk.{DiskFileView, DiskView, DiskKind, DiskContent, IsFileImage, overwritten}
use Rattle.wtf_dev.specs.declared.disk_call.DiskCall.{DiskCall}
use Rattle.wtf_dev.specs.declared.disk_call.DiskCall.TheVariants as call

-- one file: what a read gives, what was there at the last sync, the same with every pending byte 1 at the greatest length, and
-- the bytes that are not pending
pub record FileState : Type 0 where
  pub seen : List ℕ
  pub synced : List ℕ
  pub ones : List ℕ
  pub told : ℕ → Option ℕ

-- nothing is pending
abbrev pub file_settled : List ℕ → FileState
file_settled s = record { seen = s; synced = s; ones = s; told = slice_get s }

-- what is told but for n places
abbrev pub told_outside : ℕ → ℕ → (ℕ → Option ℕ) → ℕ → Option ℕ
told_outside at n told i = if nat_lt i at then told i else if nat_lt i (at + n) then None else told i

-- n bytes are pending
abbrev pub file_spoiled : ℕ → ℕ → FileState → FileState
file_spoiled at n s = record { seen = s.seen; synced = s.synced; ones = overwritten s.ones at (replicate n 1); told = told_outside at n s.told }

abbrev pub file_written : ℕ → List ℕ → FileState → FileState
file_written at bytes s = record {
  seen = overwritten s.seen at bytes;
  synced = s.synced;
  ones = overwritten s.ones at (replicate (length bytes) 1);
  told = told_outside at (length bytes) s.told;
}

-- the file that a call is on
abbrev pub call_file : DiskCall → ℕ
call_file (call.Wrote file at bytes) = file
call_file (call.Spoiled file at len) = file
call_file (call.Settled file) = file

-- what a call makes of file f
abbrev pub file_after : ℕ → FileState → DiskCall → FileState
file_after f s (call.Wrote file at bytes) = if file == f then file_written at bytes.items s else s
file_after f s (call.Spoiled file at len) = if file == f then file_spoiled at len s else s
file_after f s (call.Settled file) = if file == f then file_settled s.seen else s

abbrev pub file_after_all : ℕ → FileState → List DiskCall → FileState
file_after_all f s [] = s
file_after_all f s (x ∷ xs) = file_after_all f (file_after f s x) xs

-- file f after these calls on eight empty files
abbrev pub disk_file : List DiskCall → ℕ → FileState
disk_file calls f = file_after_all f (file_settled []) calls

abbrev pub file_view : FileState → DiskFileView
file_view s = record { seen = s.seen; told = s.told; least = length s.synced; most = length s.ones }

-- the calls that were noted, the counts, and the number from which on every call fails
pub record DiskState : Type 0 where
  pub noted : List DiskCall
  pub counts : CallCounts
  pub fuse : ℕ

abbrev pub disk_view : DiskState → DiskView
disk_view d = record {
  faults = d.counts.faults;
  moment = length d.noted;
  size = λ f. length (disk_file d.noted f).seen;
  tells = true;
  file = λ f. file_view (disk_file d.noted f);
}

-- at some moment from t on a stop might have left these files
abbrev pub LeftSince : DiskState → ℕ → DiskContent → Type 0
LeftSince d t c = (k : ℕ) × (t ≤ k) × (k ≤ length d.noted) × ((f : ℕ) → IsFileImage (file_view (disk_file (take k d.noted) f)) (c f))

abbrev pub mem_disk : DiskKind DiskState
mem_disk = record { view = disk_view; left_since = LeftSince }

-- what a read gives is what the calls make of each file
abbrev pub HoldsNow : List DiskCall → List (List ℕ) → Type 0
HoldsNow noted held = (f : ℕ) → slice_index_or held f [] ≡ (disk_file noted f).seen

-- a call is due to fail: its number says so, or is not below the fuse
abbrev pub IsDueToFail : ℕ → CallCounts → Type 0
IsDueToFail fuse counts = Contains counts.fails counts.calls ⊎ (fuse ≤ counts.calls)

-- a call was counted that was due to fail or not, and found room for what it notes or not
pub record IsCountedSo (due room failed : Bool) (old new : CallCounts) : Type 0 where
  pub counted : IsCounted failed old new
  pub failed_is : failed ≡ (if room then due else true)
  pub short : new.short ≡ (if room then old.short else risen old.short)

-- a call that notes nothing: it fails exactly where it is due to
pub record IsDiskRead (failed : Bool) (old new : DiskState) : Type 0 where
  pub counted : IsCounted failed old.counts new.counts
  pub due : (failed ≡ true) ↔ IsDueToFail old.fuse old.counts
  pub short : new.counts.short ≡ old.counts.short
  pub noted : new.noted ≡ old.noted
  pub fuse : new.fuse ≡ old.fuse

-- a call that notes what it did: it fails where it is due to or memory is short, and there alone
pub record IsDiskGrowth (failed : Bool) (old new : DiskState) : Type 0 where
  pub counted : IsCounted failed old.counts new.counts
  pub due : IsDueToFail old.fuse old.counts → failed ≡ true
  pub short : old.counts.short < new.counts.short → failed ≡ true
  pub only : failed ≡ true → IsDueToFail old.fuse old.counts ⊎ Rose old.counts.short new.counts.short
  pub steady : old.counts.short ≤ new.counts.short
  pub fuse : new.fuse ≡ old.fuse

-- a write was noted, with these bytes
abbrev pub NotesWrite : ℕ → ℕ → List ℕ → List DiskCall → List DiskCall → Type 0
NotesWrite file at bytes old new = (v : Vec ℕ Global) × (v.items ≡ bytes) × (new ≡ old ++ call.Wrote file at v ∷ [])

-- a range was noted as spoiled, as far as a file can reach
abbrev pub NotesSpoil : ℕ → ℕ → ℕ → List DiskCall → List DiskCall → Type 0
NotesSpoil file at n old new = new ≡ old ++ call.Spoiled file at (min n (2 ^ 61 - 1 - at)) ∷ []

-- a sync was noted
abbrev pub NotesSync : ℕ → List DiskCall → List DiskCall → Type 0
NotesSync file old new = new ≡ old ++ call.Settled file ∷ []

-- what was noted of a write that was due to fail or not, and found room or not
abbrev pub IsEntered : Bool → Bool → ℕ → ℕ → List ℕ → List DiskCall → List DiskCall → Type 0
IsEntered due false file at bytes old new = new ≡ old
IsEntered true true file at bytes old new = NotesSpoil file at (length bytes) old new
IsEntered false true file at bytes old new = NotesWrite file at bytes old new

-- what was noted of a sync that was due to fail or not, and found room or not
abbrev pub IsNoted : Bool → Bool → ℕ → List DiskCall → List DiskCall → Type 0
IsNoted true room file old new = new ≡ old
IsNoted false false file old new = new ≡ old
IsNoted false true file old new = NotesSync file old new

-- A write that failed was due to and has spoiled its range, or found no room and changed nothing.
abbrev pub FailsToWrite : ℕ → ℕ → ℕ → DiskState → DiskState → Type 0
FailsToWrite file at n old new =
    (IsDueToFail old.fuse old.counts × NotesSpoil file at n old.noted new.noted)
    ⊎ ((new.noted ≡ old.noted) × Rose old.counts.short new.counts.short)

-- What a stop may leave of a file, by choice: what was there at the last sync, what a read gives, every pending byte 1 at the greatest length.
abbrev pub picked : ℕ → FileState → List ℕ
picked pick s = if pick == 0 then s.synced else if pick == 1 then s.seen else s.ones

-- a file behind some calls: what a read gives, and what a stop leaves, with every pending byte 1 or as at the last sync
pub record IsLeftover (ones : Bool) (seen left : List ℕ) (s : FileState) : Type 0 where
  pub seen_is : seen ≡ s.seen
  pub left_is : left ≡ (if ones then s.ones else s.synced)
