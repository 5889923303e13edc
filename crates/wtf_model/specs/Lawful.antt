-- What the machine may answer to an event. Its own refusals are tried first, then what the event asks; a store's fault may
-- come in place of an answer that needs the stores.
-- NSDI 2016, sections 2.6 and 2.7; refusals and limits are this store's own.
use Rattle.std.specs.Prelude.{◌≡◌, ◌≢◌, ◌⊎◌, ◌<◌, ◌≤◌, ℕ, ◌+◌, ◌-◌, nat_lt, nat_le, if◌then◌else◌, List, ◌∷◌, length, take, slice_get, Bool, true, false, Option, Some, None, MatchOption, Result, Ok, Err}
use Rattle.std.specs.FinMap.{get}
use Rattle.wtf_model.specs.declared.limits.TheConstants.{MAX_DUMPED}
use Rattle.wtf_model.specs.declared.answer.Answer.{Answer, Aborted'}
use Rattle.wtf_model.specs.declared.answer.Answer.TheVariants as answer
use Rattle.wtf_model.specs.declared.answer.Word.{Word}
use Rattle.wtf_model.specs.declared.answer.Word.TheVariants.{Replaying, Full, InTx, NoTx, NoServer, Live, Long}
use Rattle.wtf_model.specs.declared.op.Op.{Op}
use Rattle.wtf_model.specs.declared.op.Op.TheVariants as op
use Rattle.wtf_model.specs.declared.event.Verb.{Verb}
use Rattle.wtf_model.specs.declared.event.Verb.TheVariants as verb
use Rattle.wtf_model.specs.declared.event.Event.{Event}
use Rattle.wtf_model.specs.declared.event.Event.TheVariants as event
use Rattle.wtf_model.specs.Tree.{Tree, ◌>>=◌, source, rows_of}
use Rattle.wtf_model.specs.Items.{meets, reads_of}
use Rattle.wtf_model.specs.Transaction.{Transaction, answers_of}
use Rattle.wtf_model.specs.Machines.{Machine, IsBehind, cap_of, due, is_down, is_live, is_full}
pub use Rattle.wtf_model.specs.Faults.{IsReadFault, or_refusal}
use Rattle.wtf_model.specs.Jobs.{plan_answer, MayFailPlan, MayPut, drop_answer}
use Rattle.wtf_model.specs.Scans.{scan_answer, piece_answer, MayFailPiece, collect_refusal, MayCollect}

-- The refusals of a client's line, in their order: no transaction, or one already; a replay that runs, or none; a full
-- log.
abbrev pub client_refusal : Option Transaction → Verb → Option Word
client_refusal None verb.Begin = None
client_refusal None v = Some NoTx
client_refusal (Some t) verb.Begin = Some InTx
client_refusal (Some t) verb.Try = if is_live t then None else Some Replaying
client_refusal (Some t) verb.Step = if is_live t then Some Live else None
client_refusal (Some t) verb.Commit = None
client_refusal (Some t) verb.Abort = None
client_refusal (Some t) (verb.Call o) = if is_live t then (if is_full t then Some Full else None) else Some Replaying

-- in place of bytes that are to be shown
abbrev pub MayFailRead : ℕ → Answer → Answer → Type 0
MayFailRead servers (answer.Shown (b ∷ bs)) a = IsReadFault servers a
MayFailRead servers d a = ⊥

-- in place of the length of a slice that has a byte
abbrev pub MayFailYank : ℕ → Answer → Answer → Type 0
MayFailYank servers (answer.Len n) a = (0 < n) × IsReadFault servers a
MayFailYank servers d a = ⊥

-- in place of bytes of a slice, whose lists were read when it was yanked
abbrev pub MayFailPeek : ℕ → Answer → Answer → Type 0
MayFailPeek servers (answer.Shown (b ∷ bs)) (answer.FaultRead k) = k < servers
MayFailPeek servers d a = ⊥

-- where files are put together
abbrev pub MayFailConcat : ℕ → Answer → Answer → Type 0
MayFailConcat servers answer.Okay a = IsReadFault servers a
MayFailConcat servers d a = ⊥

-- where bytes are to be stored
abbrev pub MayFailWrite : Answer → Answer → Type 0
MayFailWrite answer.Okay answer.FaultWrite = Unit {0}
MayFailWrite d a = ⊥

-- the faults of a call, where d is due
abbrev pub MayFail : ℕ → Op (List ℕ) → Answer → Answer → Type 0
MayFail servers (op.Read f n) d a = MayFailRead servers d a
MayFail servers (op.Yank f n label) d a = MayFailYank servers d a
MayFail servers (op.Peek label off n) d a = MayFailPeek servers d a
MayFail servers (op.Concat q paths) d a = MayFailConcat servers d a
MayFail servers (op.Write f (b ∷ bs)) d a = MayFailWrite d a
MayFail servers (op.Append f (b ∷ bs)) d a = MayFailWrite d a
MayFail servers o d a = ⊥

-- a call: what is due
abbrev pub MayCall : Machine → Transaction → Op (List ℕ) → Answer → Type 0
MayCall m t o a = (a ≡ due m t o) ⊎ MayFail m.settings.servers o (due m t o) a

-- a commit: the next number, and run on the tree now the calls answer what was shown
abbrev pub MayInstall : Machine → Transaction → ℕ → Type 0
MayInstall m t n = (n ≡ m.number + 1) × (answers_of (cap_of m) m.now t.ops ≡ t.shown)

-- others have changed an item that a transaction's calls read
abbrev pub is_touched : ℕ → Transaction → Bool
is_touched cap t = meets t.touched (reads_of cap t.tree t.ops)

-- an attempt: a commit; or a replay on the tree now, where others have installed since the base and changed what was read
abbrev pub MayTry : Machine → Transaction → Answer → Type 0
MayTry m t (answer.Committed n) = MayInstall m t n
MayTry m t (answer.Retry base now) = IsBehind m.number t.base base now × (is_touched (cap_of m) t ≡ true)
MayTry m t a = ⊥

-- the answers deviate from what was shown at the i-th call, counted from 1, which answers a now
pub record Deviates (answers shown : List Answer) (i : ℕ) (a : Answer) : Type 0 where
  pub counted : 1 ≤ i
  pub agree : take (i - 1) answers ≡ take (i - 1) shown
  pub answer_is : slice_get answers (i - 1) ≡ Some a
  pub differs : slice_get shown (i - 1) ≢ Some a

-- a call that is replayed would not be refused
abbrev pub IsDone : Option Answer → Type 0
IsDone None = ⊥
IsDone (Some (answer.Refused w)) = ⊥
IsDone (Some a) = Unit {0}

-- one replayed call: it answers on the base as it was shown, or not
abbrev pub MayStepAt : Machine → Transaction → List Answer → Answer → Type 0
MayStepAt m t answers (answer.Replayed i) = (i ≡ t.replayed + 1) × (slice_get answers t.replayed ≡ slice_get t.shown t.replayed)
MayStepAt m t answers (Aborted' i box a) =
    (i ≡ t.replayed + 1) × (slice_get answers t.replayed ≡ Some a) × (slice_get t.shown t.replayed ≢ Some a)
MayStepAt m t answers a = IsDone (slice_get answers t.replayed) × IsReadFault m.settings.servers a

abbrev pub MayStep : Machine → Transaction → Answer → Type 0
MayStep m t a = MayStepAt m t (answers_of (cap_of m) t.tree t.ops) a

-- a commit by replay of all calls on the tree now: it ends with a commit, at the first call that answers otherwise, or
-- with a fault
abbrev pub MayCommit : Machine → Transaction → Answer → Type 0
MayCommit m t (answer.Committed n) = MayInstall m t n
MayCommit m t (Aborted' i box a) = Deviates (answers_of (cap_of m) m.now t.ops) t.shown i a
MayCommit m t a = IsReadFault m.settings.servers a

-- a client's line that is not refused
abbrev pub MayAsk : Machine → Option Transaction → Verb → Answer → Type 0
MayAsk m None v a = a ≡ answer.Begun m.number
MayAsk m (Some t) verb.Begin a = ⊥
MayAsk m (Some t) verb.Try a = MayTry m t a
MayAsk m (Some t) verb.Step a = MayStep m t a
MayAsk m (Some t) verb.Commit a = MayCommit m t a
MayAsk m (Some t) verb.Abort a = a ≡ answer.Okay
MayAsk m (Some t) (verb.Call o) a = MayCall m t o a

abbrev pub MayClient : Machine → Option Transaction → Verb → Answer → Type 0
MayClient m o v a = MatchOption (client_refusal o v) (MayAsk m o v a) (λ w. a ≡ answer.Refused w)

-- a line that takes server k down or up: there must be one
abbrev pub server_answer : Machine → ℕ → Answer
server_answer m k = if nat_lt k m.settings.servers then answer.Okay else answer.Refused NoServer

-- a file that is shown whole
abbrev pub is_short : List ℕ → Result (Unit {0}) Word
is_short bytes = if nat_le (length bytes) MAX_DUMPED then Ok tt else Err Long

abbrev pub dumped : Tree → List ℕ → Result Answer Word
dumped tree p = do
  bytes ← source tree p
  _ ← is_short bytes
  Ok (answer.Shown bytes)

abbrev pub dump_answer : Machine → List ℕ → Answer
dump_answer m p = or_refusal (dumped m.now p)

-- a save: the number, where no server is down; else a fault, which may also come where a store or the keeper fails
abbrev pub MaySave : Machine → Answer → Type 0
MaySave m (answer.Saved n) = (n ≡ m.number) × ((k : ℕ) → k < m.settings.servers → is_down m k ≡ false)
MaySave m answer.FaultSave = Unit {0}
MaySave m a = ⊥

-- the machine may answer a to the event e
abbrev pub May : Machine → Event → Answer → Type 0
May m (event.Client c v) a = MayClient m (get m.transactions c) v a
May m (event.Plan j kind p r) a =
    (a ≡ plan_answer m j p r) ⊎ MayFailPlan m.settings.servers kind (plan_answer m j p r) a
May m (event.Put j) a = MayPut m (get m.jobs j) a
May m (event.DropJob j) a = a ≡ drop_answer (get m.jobs j)
May m event.Scan a = a ≡ scan_answer m
May m (event.Piece k) a =
    (a ≡ piece_answer k m.parts_left) ⊎ MayFailPiece m.settings.servers (piece_answer k m.parts_left) a
May m (event.Collect k) a = MatchOption (collect_refusal m k) (MayCollect k a) (λ w. a ≡ answer.Refused w)
May m (event.Down k) a = a ≡ server_answer m k
May m (event.Up k) a = a ≡ server_answer m k
May m event.Save a = MaySave m a
May m (event.Dump p) a = (a ≡ dump_answer m p) ⊎ MayFailRead m.settings.servers (dump_answer m p) a
May m event.Tree a = a ≡ answer.Tree (rows_of m.now)
