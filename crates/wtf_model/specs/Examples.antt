-- Worked runs: the events of each with its answers. Client 0 is alone, and has the file `/a` open as 0.
use Rattle.std.specs.Prelude.{◌≡◌, ◌↔◌, ℕ, ◌+◌, length, List, [], ◌∷◌, codes, Some, None, true, false}
use Rattle.wtf_model.specs.declared.answer.Answer.{Answer, Aborted'}
use Rattle.wtf_model.specs.declared.answer.Answer.TheVariants.{Okay, Begun, Shown, Committed, Retry, Replayed, Planned, Installed, Stale, Scanning, Held, More, Done, Collected, Saved, Refused, FaultRead, FaultWrite, FaultSave, Damaged}
use Rattle.wtf_model.specs.declared.answer.Word.TheVariants.{Replaying, NoJob}
use Rattle.wtf_model.specs.declared.event.Holder.TheVariants as holder
use Rattle.wtf_model.specs.declared.op.JobKind.{JobKind}
use Rattle.wtf_model.specs.declared.op.JobKind.TheVariants.{Compact, Spill}
use Rattle.wtf_model.specs.declared.op.Op.{Op}
use Rattle.wtf_model.specs.declared.op.Op.TheVariants as op
use Rattle.wtf_model.specs.declared.op.Seek.TheVariants as to
use Rattle.wtf_model.specs.declared.event.Verb.{Verb}
use Rattle.wtf_model.specs.declared.event.Verb.TheVariants as verb
use Rattle.wtf_model.specs.declared.event.Event.{Event}
use Rattle.wtf_model.specs.declared.event.Event.TheVariants as event
use Rattle.std.specs.List.{list_any}
use Rattle.std.specs.FinMap.{get, insert, empty, values, from_sorted}
use Rattle.wtf_path.specs.Parts.{parent_of}
use Rattle.wtf_model.specs.Tree.{PathSet, only_path, has_path, Tree, Dir, File}
use Rattle.wtf_model.specs.Session.{Session, Handle}
use Rattle.wtf_model.specs.Done.{is_on}
use Rattle.wtf_model.specs.Done as what
use Rattle.wtf_model.specs.Transaction.{Transaction, Job, answers_of}
use Rattle.wtf_model.specs.Steps.{Machine, May, after, cap_of}

-- client 0 asks for a verb, and for a call
abbrev pub asks : Verb → Event
asks v = event.Client 0 v

abbrev pub calls : Op (List ℕ) → Event
calls o = asks (verb.Call o)

abbrev pub a : List ℕ
a = codes "/a"

-- a first file: create, open, write, seek, read past the end, and commit
abbrev pub first_file_events : List Event
first_file_events =
    asks verb.Begin ∷ calls (op.Create a) ∷ calls (op.Open 0 a) ∷ calls (op.Write 0 (codes "abcdef"))
    ∷ calls (op.Seek 0 (to.Set 0)) ∷ calls (op.Read 0 9) ∷ asks verb.Try ∷ []

abbrev pub first_file_answers : Answer → Answer → List Answer
first_file_answers read last = Begun 0 ∷ Okay ∷ Okay ∷ Okay ∷ Okay ∷ read ∷ last ∷ []

-- a file is stored; a second transaction writes over its bytes 2 and 3, and a third reads it
abbrev pub overwrite_events : List Event
overwrite_events =
    asks verb.Begin ∷ calls (op.Create a) ∷ calls (op.Open 0 a) ∷ calls (op.Write 0 (codes "abcdef")) ∷ asks verb.Try
    ∷ asks verb.Begin ∷ calls (op.Open 0 a) ∷ calls (op.Seek 0 (to.Set 2)) ∷ calls (op.Write 0 (codes "XY"))
    ∷ calls (op.Seek 0 (to.Set 0)) ∷ calls (op.Read 0 6) ∷ asks verb.Try
    ∷ asks verb.Begin ∷ calls (op.Open 0 a) ∷ calls (op.Read 0 6) ∷ asks verb.Try ∷ []

abbrev pub overwrite_answers : List Answer
overwrite_answers =
    Begun 0 ∷ Okay ∷ Okay ∷ Okay ∷ Committed 1
    ∷ Begun 1 ∷ Okay ∷ Okay ∷ Okay ∷ Okay ∷ Shown (codes "abXYef") ∷ Committed 2
    ∷ Begun 2 ∷ Okay ∷ Shown (codes "abXYef") ∷ Committed 3 ∷ []

-- the calls of a write past the end, of ten bytes at offset 60 of an empty file, and of a read across the gap
abbrev pub gap_calls : List (Op (List ℕ))
gap_calls =
    op.Create a ∷ op.Open 0 a ∷ op.Seek 0 (to.Set 60) ∷ op.Write 0 (codes "0123456789") ∷ op.Seek 0 (to.Set 58)
    ∷ op.Read 0 20 ∷ []

abbrev pub gap_answers : List Answer
gap_answers = Okay ∷ Okay ∷ Okay ∷ Okay ∷ Okay ∷ Shown (0 ∷ 0 ∷ codes "0123456789") ∷ []

-- the store fails in a write and then in a read, and the client asks again
abbrev pub fault_events : List Event
fault_events =
    asks verb.Begin ∷ calls (op.Create a) ∷ calls (op.Open 0 a) ∷ calls (op.Write 0 (codes "abcdef")) ∷ calls (op.Write 0 (codes "abcdef"))
    ∷ calls (op.Seek 0 (to.Set 0)) ∷ calls (op.Read 0 9) ∷ calls (op.Read 0 9) ∷ asks verb.Try ∷ []

abbrev pub fault_answers : List Answer
fault_answers =
    Begun 0 ∷ Okay ∷ Okay ∷ FaultWrite ∷ Okay ∷ Okay ∷ FaultRead 0 ∷ Shown (codes "abcdef") ∷ Committed 1 ∷ []

-- the machine may answer a and nothing else to lines that take server k down and up
abbrev pub OnlyServer : Machine → ℕ → Answer → Type 0
OnlyServer m k a = (b : Answer) → (May m (event.Down k) b ↔ (b ≡ a)) × (May m (event.Up k) b ↔ (b ≡ a))

-- a call that changes nothing
abbrev pub unchanged : Session → Answer → what.Done
unchanged s a = record { session = s; answer = a }

-- bytes are to be shown
abbrev pub ShowsBytes : Answer → Type 0
ShowsBytes (Shown (b ∷ bs)) = Unit {0}
ShowsBytes a = ⊥

-- a store failed
abbrev pub IsStoreFault : Answer → Type 0
IsStoreFault (FaultRead k) = Unit {0}
IsStoreFault FaultWrite = Unit {0}
IsStoreFault (Damaged k) = Unit {0}
IsStoreFault a = ⊥

-- a label is open on a file with these bytes, at an offset
pub record HasOpen (s : Session) (f : ℕ) (h : Handle) (bytes : List ℕ) : Type 0 where
  pub here : get s.handles f ≡ Some h
  pub paths : PathSet
  pub file : get s.tree h.path ≡ Some (File paths bytes)

-- a path is free, below a directory
pub record IsFreeIn (t : Tree) (p dir : List ℕ) : Type 0 where
  pub up : parent_of p ≡ Some dir
  pub parent : get t dir ≡ Some Dir
  pub free : get t p ≡ None

-- what a call leaves and answers
abbrev pub answering : Session → Answer → what.Done
answering s a = record { session = s; answer = a }

-- no handle of a session is on a path, and one is
abbrev pub IsClosed : Session → List ℕ → Type 0
IsClosed s p = list_any (is_on p) (values s.handles) ≡ false

abbrev pub IsBusy : Session → List ℕ → Type 0
IsBusy s p = list_any (is_on p) (values s.handles) ≡ true

-- a tree with a directory of two files, beside a file
abbrev pub logs_tree : Tree
logs_tree = from_sorted (
    (codes "/", Dir)
    ∷ (codes "/a", File (only_path (codes "/a")) (codes "ab"))
    ∷ (codes "/logs", Dir)
    ∷ (codes "/logs/mon", File (only_path (codes "/logs/mon")) (codes "m1m2"))
    ∷ (codes "/logs/tue", File (only_path (codes "/logs/tue")) (codes "t1"))
    ∷ [])

-- the machine may give the answer a to the event e and nothing else
abbrev pub Only : Machine → Event → Answer → Type 0
Only m e a = (b : Answer) → May m e b ↔ (b ≡ a)

-- an answer that says that call i, which answers a now, ended a transaction
abbrev pub IsAborted : ℕ → Answer → Answer → Type 0
IsAborted i a (Aborted' j box b) = (j ≡ i) × (b ≡ a)
IsAborted i a r = ⊥

-- a transaction that begins now
abbrev pub first_transaction : Machine → Transaction
first_transaction m = record { stamp = m.next_stamp; base = m.number; tree = m.now; ops = []; shown = []; replayed = 0; touched = [] }

-- events one after another, each with an answer that it may get
unfoldable pub Runs : Machine → List (Event × Answer) → Type 0
Runs m [] = Unit {0}
Runs m (step ∷ steps) = May m step.0 step.1 × Runs (after m step.0 step.1) steps

-- a job may be planned for a file: its label is idle, and the file, which knows this path, has these bytes
pub record IsPlannable (m : Machine) (j : ℕ) (p bytes : List ℕ) : Type 0 where
  pub idle : get m.jobs j ≡ None
  pub paths : PathSet
  pub file : get m.now p ≡ Some (File paths bytes)
  pub own : has_path paths p ≡ true

-- a job that is planned now
abbrev pub first_job : Machine → JobKind → List ℕ → ℕ → Job
first_job m kind p r = record { stamp = m.next_stamp; path = p; region = r; kind = kind; base = m.number; touched = [] }

-- two jobs are planned for one region, and put in place one after the other; n is the number of installs before
abbrev pub stale_events : List ℕ → ℕ → List (Event × Answer)
stale_events p n =
    (event.Plan 0 Compact p 0, Planned) ∷ (event.Plan 1 Spill p 0, Planned) ∷ (event.Put 0, Installed (n + 1))
    ∷ (event.Put 1, Stale n (n + 1)) ∷ (event.Put 1, Refused NoJob) ∷ []

-- client 0 has a transaction of two calls, which began at this number and answers as it did
pub record HasTwoCalls (m : Machine) (t : Transaction) : Type 0 where
  pub here : get m.transactions 0 ≡ Some t
  pub base : t.base ≡ m.number
  pub two : length t.ops ≡ 2
  pub live : t.replayed ≡ 2
  pub same : answers_of (cap_of m) m.now t.ops ≡ t.shown

-- a region is compacted meanwhile: the transaction is sent to replay, which takes no call, and is committed
abbrev pub moved_events : List ℕ → ℕ → List (Event × Answer)
moved_events p n =
    (event.Plan 0 Compact p 0, Planned) ∷ (event.Put 0, Installed (n + 1)) ∷ (asks verb.Try, Retry n (n + 1))
    ∷ (calls (op.Read 0 2), Refused Replaying) ∷ (asks verb.Step, Replayed 1) ∷ (asks verb.Step, Replayed 2)
    ∷ (asks verb.Try, Committed (n + 2)) ∷ []

-- with another stamp
abbrev pub stamped : ℕ → Transaction → Transaction
stamped stamp t = record t { stamp = stamp }

abbrev pub stamped_job : ℕ → Job → Job
stamped_job stamp j = record j { stamp = stamp }

-- nothing is open, and no scan runs
pub record IsAtRest (m : Machine) : Type 0 where
  pub open_ones : m.transactions ≡ empty
  pub jobs : m.jobs ≡ empty
  pub parts : m.parts_left ≡ None

-- client 0 alone has a transaction, and there was no scan yet
pub record IsAlone (m : Machine) (t : Transaction) : Type 0 where
  pub open_ones : m.transactions ≡ insert empty 0 t
  pub jobs : m.jobs ≡ empty
  pub parts : m.parts_left ≡ None
  pub noted : m.scan_list ≡ []

-- a save that fails and one that does not, two whole scans, and a collection that frees so many bytes
abbrev pub quiet_events : ℕ → ℕ → List (Event × Answer)
quiet_events n freed =
    (event.Save, FaultSave) ∷ (event.Save, Saved n) ∷ (event.Scan, Scanning) ∷ (event.Piece 64, Done) ∷ (event.Scan, Scanning)
    ∷ (event.Piece 64, Done) ∷ (event.Collect 0, Collected freed) ∷ (event.Collect 0, Collected 0) ∷ []

-- a scan that waits for client 0
abbrev pub held_events : List (Event × Answer)
held_events =
    (event.Scan, Scanning) ∷ (event.Piece 64, Done) ∷ (event.Scan, Held (holder.Client 0)) ∷ (asks verb.Abort, Okay)
    ∷ (event.Scan, Scanning) ∷ (event.Piece 64, Done) ∷ (event.Collect 0, Collected 0) ∷ (event.Scan, Scanning)
    ∷ (event.Piece 64, Done) ∷ (event.Collect 0, Collected 4) ∷ []

-- a transaction between two pieces of a scan
abbrev pub pieces_events : ℕ → List (Event × Answer)
pieces_events n =
    (event.Scan, Scanning) ∷ (event.Piece 60, More 4) ∷ (asks verb.Begin, Begun n) ∷ (asks verb.Try, Committed (n + 1))
    ∷ (event.Piece 10, Done) ∷ []
