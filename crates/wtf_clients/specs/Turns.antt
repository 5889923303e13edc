-- What a line makes of the tables, over every device.
-- NSDI 2016, sections 2.6 and 2.7.
use Rattle.std.specs.Prelude.{◌≡◌, ◌⊎◌, ℕ, ◌+◌, nat_eq, List, [], ◌∷◌, ◌++◌, Option, Some, None, MatchOption, slice_get}
use Rattle.std.specs.Set.{remove_key}
use Rattle.wtf_base.specs.declared.fault.Fault.{Fault}
use Rattle.wtf_base.specs.declared.slice.Slice.{Slice}
use Rattle.wtf_dev.specs.Store.{Range}
use Rattle.wtf_kv.specs.Stores.{Store, IsPinnedOnceMore}
use Rattle.wtf_values.specs.declared.key.Key.{Key}
use Rattle.wtf_values.specs.declared.value.Value.{Value}
use Rattle.wtf_model.specs.declared.answer.Answer.{Answer, Aborted'}
use Rattle.wtf_model.specs.declared.answer.Answer.TheVariants as answer
use Rattle.wtf_model.specs.declared.answer.Word.{Word}
use Rattle.wtf_model.specs.declared.answer.Word.TheVariants.{InTx, NoTx}
use Rattle.wtf_model.specs.declared.op.Op.{Op}
use Rattle.wtf_model.specs.declared.event.Verb.{Verb}
use Rattle.wtf_model.specs.Tree.{Tree}
use Rattle.wtf_model.specs.Session.{Session}
use Rattle.wtf_model.specs.Call.{call}
use Rattle.wtf_model.specs.Transaction.{answers_of}
use Rattle.wtf_model.specs.Lawful.{IsDone, IsReadFault, MayFail, MayFailRead, dumped, or_refusal}
use Rattle.wtf_model.specs.declared.event.Verb.TheVariants as verb
use Rattle.wtf_meta.specs.Lists.{ListFact, TellLists}
use Rattle.wtf_meta.specs.Bytes.{MapBytes, ListSlices, any_slice}
use Rattle.wtf_meta.specs.Contents.{Told, is_told, is_listed, lists_in}
use Rattle.wtf_meta.specs.Maps.{Map, metadata_at, seen}
use Rattle.wtf_meta.specs.Trees.{Stands}
use Rattle.wtf_meta.specs.Sessions.{Holds}
use Rattle.wtf_meta.specs.Calls.{Caller, cap_for}
use Rattle.wtf_region.specs.Apart.{are_apart}
use Rattle.wtf_region.specs.Bases.{slices_of}
use Rattle.wtf_region.specs.Cached.{TrueBut}
use Rattle.wtf_replay.specs.Views.{TxnView, begun, hand_of}
use Rattle.wtf_replay.specs.Refusals.{call_refusal, try_refusal, step_refusal}
use Rattle.wtf_replay.specs.Fits.{IsFit}
use Rattle.wtf_replay.specs.Sounds.{LogStands, caller_at}
use Rattle.wtf_replay.specs.Causes.{fault_answer}
use Rattle.wtf_replay.specs.Called.{IsCalled}
use Rattle.wtf_replay.specs.Tried.{IsCommitted, IsRetried, IsFinal, KeepsMaps, KeepsVersions, KeepsPins, commit_from}
use Rattle.wtf_replay.specs.Built.{data_len}
use Rattle.wtf_replay.specs.Effects.{Scope, Acts, CallHolds, CallReads, Redoes, StopsAt, sight_at}
use Rattle.wtf_replay.specs.Installs.{GaveUp, Installs}
use Rattle.wtf_replay.specs.Replays.{IsReplayed, DeviatesOn}
use Rattle.wtf_clients.specs.Views.{TablesView, of_client, metadata_now}
use Rattle.wtf_clients.specs.Sounds.{Sets}
use Rattle.wtf_clients.specs.Named.{ListedBytes}
use Rattle.wtf_clients.specs.Dumped.{IsDumpAnswer, dump_bases}
use Rattle.wtf_clients.specs.Seeing.{Seeing, Recalled}

-- client c has now this transaction, or none; the store of the metadata, and what stands beside them, are what they were
pub record SetsClientAlone (old new : TablesView) (c : ℕ) (now : Option TxnView) : Type 0 where
  pub clients : Sets c now old.clients new.clients
  pub kv : new.kv ≡ old.kv
  pub next_tx : new.next_tx ≡ old.next_tx
  pub beside : new.beside ≡ old.beside

-- a line of client c is refused, and leaves all as it was
pub record Refuses (old new : TablesView) (c : ℕ) (w : Word) (a : Answer) : Type 0 where
  pub answer : a ≡ answer.Refused w
  pub keeps : SetsClientAlone old new c (of_client old.clients c)

-- a transaction begins at the number, which it pins
pub record Begins (old new : TablesView) (c : ℕ) (a : Answer) : Type 0 where
  pub answer : a ≡ answer.Begun old.kv.number
  pub clients : Sets c (Some (begun old.next_tx old.kv.number)) old.clients new.clients
  pub kv : new.kv ≡ record old.kv { pins = old.kv.pins ++ old.kv.number ∷ [] }
  pub pinned : IsPinnedOnceMore old.kv.number old.kv new.kv
  pub next_tx : new.next_tx ≡ old.next_tx + 1
  pub beside : new.beside ≡ old.beside
  pub fit : IsFit new.kv (begun old.next_tx old.kv.number)
  pub sound : (size : ℕ) (told : Told) → LogStands size new.kv told (begun old.next_tx old.kv.number) []

-- The transaction x has ended. It left the store as `mid`, and then undid the pin of its base.
pub record Ends (old new : TablesView) (mid : Store Key Value) (c : ℕ) (x : TxnView) : Type 0 where
  pub clients : Sets c None old.clients new.clients
  pub next_tx : new.next_tx ≡ old.next_tx
  pub beside : new.beside ≡ old.beside
  pub maps : KeepsMaps old.kv mid
  pub pins : KeepsPins old.kv mid
  pub kv : new.kv ≡ record mid { pins = remove_key (nat_eq x.at.base) mid.pins }
  pub unpinned : IsPinnedOnceMore x.at.base new.kv mid

-- an attempt committed: no recorded key had changed since the base
pub record Commits (old new : TablesView) (c : ℕ) (x : TxnView) (n : ℕ) : Type 0 where
  pub mid : Store Key Value
  pub ended : TxnView
  pub committed : IsCommitted old.kv mid x ended n
  pub final : (size : ℕ) (told : Told) (ops : List (Op (List ℕ))) → LogStands size old.kv told x ops → IsFinal size told old.kv mid x ops n
  pub ends : Ends old new mid c x

-- an attempt met a key in the way: all calls are to be replayed at the number
pub record Retries (old new : TablesView) (c : ℕ) (x : TxnView) (b n : ℕ) : Type 0 where
  pub later : TxnView
  pub clients : Sets c (Some later) old.clients new.clients
  pub next_tx : new.next_tx ≡ old.next_tx
  pub beside : new.beside ≡ old.beside
  pub retried : IsRetried old.kv new.kv x later b n
  pub maps : KeepsMaps old.kv new.kv
  pub fit : IsFit new.kv later
  pub sound : (size : ℕ) (told : Told) (ops : List (Op (List ℕ))) → LogStands size old.kv told x ops → LogStands size new.kv told later ops

abbrev pub Tries : TablesView → TablesView → ℕ → TxnView → Answer → Type 0
Tries old new c x (answer.Committed n) = Commits old new c x n
Tries old new c x (answer.Retry b n) = Retries old new c x b n
Tries old new c x a = ⊥

-- an attempt, unless it is refused
abbrev pub TryTurn : TablesView → TablesView → ℕ → TxnView → Answer → Type 0
TryTurn old new c x a = MatchOption (try_refusal x) (Tries old new c x a) (λ w. Refuses old new c w a)

-- a transaction is given up
abbrev pub Drops : TablesView → TablesView → ℕ → TxnView → Answer → Type 0
Drops old new c x a = (a ≡ answer.Okay) × Ends old new old.kv c x

-- A line left all that is seen of the tables: of their store, the number, the maps, the versions of each key and how often each
-- number is pinned; and what stands beside them.
pub record TablesStay (old new : TablesView) (c : ℕ) : Type 0 where
  pub clients : Sets c (of_client old.clients c) old.clients new.clients
  pub number : new.kv.number ≡ old.kv.number
  pub maps : KeepsMaps old.kv new.kv
  pub versions : KeepsVersions old.kv new.kv
  pub pins : KeepsPins old.kv new.kv
  pub next_tx : new.next_tx ≡ old.next_tx
  pub beside : new.beside ≡ old.beside

-- a fault of the stores was answered, and left all as it was
pub record Fails (old new : TablesView) (c : ℕ) (a : Answer) : Type 0 where
  pub why : Fault
  pub answer : fault_answer why ≡ Some a
  pub stays : TablesStay old new c

-- The lists that are remembered are true, but where a byte of the slice lies in a range that was punched; and the tables name no byte of these
-- ranges.
pub record AreTrue (size : ℕ) (told : Told) (lists : TrueBut) (tables : TablesView) : Type 0 where
  pub ranges : List (ℕ × Range)
  pub cache : lists ranges
  pub away : ListedBytes size told (are_apart ranges) tables

-- what is seen over a line
module _ (z : Seeing) where
  -- The lists that a dump read are those of the bases under the bytes that it shows, in order, and none where it shows no file; and they are
  -- remembered.
  pub record DumpReads (w : Map) (p : List ℕ) (a : Answer) : Type 0 where
    pub facts : List ListFact
    pub recalls : Recalled z facts
    pub wants : slices_of facts ≡ dump_bases z.size w p a

  -- The dump of a path shows the bytes of the file on each tree for which the map now stands, or is refused; where it is to
  -- show bytes a fault of the stores may come in their place. It leaves all as it was.
  pub record Dumps (old new : TablesView) (p : List ℕ) (a : Answer) : Type 0 where
    pub stays : (c : ℕ) → TablesStay old new c
    pub answered : (IsDumpAnswer a × DumpReads (metadata_now old.kv) p a) ⊎ ((why : Fault) × (fault_answer why ≡ Some a))
    pub shows : AreTrue z.size z.told z.lists old → (tx k : ℕ) (t : Tree) → Stands z.size z.told tx k (metadata_now old.kv) t
        → (a ≡ or_refusal (dumped t p)) ⊎ MayFailRead z.servers (or_refusal (dumped t p)) a

  -- the lists that are remembered are those of their slices; and the stores also tell each byte of a map, those that the lists of its bases
  -- name too
  abbrev pub ListsAreTold : TablesView → Map → Type 0
  ListsAreTold old w = z.telling × AreTrue z.size z.told z.lists old × MapBytes (is_told z.told) (is_listed z.size z.told) w

  -- Lists that were read are those that their slices decode to, but where a range has a byte of one; if the lists that are remembered
  -- are so, and the bytes of the slices were told. Those that were asked for were remembered or read, and are remembered.
  abbrev pub ReadsLists : Scope
  ReadsLists = record {
    size = z.size;
    known = λ facts. (ranges : List (ℕ × Range)) → z.lists ranges → ListSlices (is_told z.told) any_slice facts → ListSlices
        (are_apart ranges) any_slice facts
        → TellLists (lists_in z.size z.later) facts;
    recalls = Recalled z;
  }

  -- A call is logged with its answer, and with what came of its bytes; it recorded its own keys, made its own changes and set what is in hand,
  -- by the lists that it asks for, which are remembered.
  pub record Calls (old new : TablesView) (c : ℕ) (x : TxnView) (o : Op (List ℕ)) (a : Answer) : Type 0 where
    pub later_one : TxnView
    pub own : Option Slice
    pub keeps : SetsClientAlone old new c (Some later_one)
    pub called : IsCalled x later_one o own a
    pub stored : z.owns (seen old.kv x.at) x.session o own
    pub facts : List ListFact
    pub recalls : Recalled z facts
    pub known : ReadsLists.known facts
    pub reads : CallReads (sight_at z.size old.kv x.tx x.replayed (hand_of x) facts) o a
    pub acts : Acts (sight_at z.size old.kv x.tx x.replayed (hand_of x) facts) (data_len o) own o a x.at later_one.at
    pub holds : CallHolds (sight_at z.size old.kv x.tx x.replayed (hand_of x) facts) own o a x.session later_one.session
    pub fit : IsFit old.kv later_one
    pub sound : ListsAreTold old (metadata_at old.kv x.at.base) → (ops : List (Op (List ℕ))) → LogStands z.size old.kv z.told x ops
        → LogStands z.size old.kv z.later later_one (ops ++ o ∷ [])

  -- or a fault of the stores came in place of the answer that is due
  pub record CallFails (old new : TablesView) (c : ℕ) (x : TxnView) (o : Op (List ℕ)) (a : Answer) : Type 0 where
    pub fails : Fails old new c a
    pub may : (y : Caller) (t : Told) (S : Session) → y.size ≡ z.size → Stands y.size t y.tx y.calls (seen old.kv x.at) S.tree
        → Holds t (seen old.kv x.at) x.session S → MayFail z.servers o (call (cap_for y) S o).answer a

  -- one more call was replayed, and answered what was shown; the lists that it asked for are remembered
  pub record Replays (old new : TablesView) (c : ℕ) (x : TxnView) (i : ℕ) : Type 0 where
    pub later_one : TxnView
    pub keeps : SetsClientAlone old new c (Some later_one)
    pub replayed : IsReplayed x later_one i
    pub acts : Redoes ReadsLists old.kv x x.replayed (hand_of x) (hand_of later_one)
    pub recalls : Recalled z acts.makes.lists
    pub fit : IsFit old.kv later_one
    pub sound : ListsAreTold old (metadata_at old.kv x.at.base) → (ops : List (Op (List ℕ))) → LogStands z.size old.kv z.told x ops
        → LogStands z.size old.kv z.later later_one ops

  -- the next call was made once more and answered otherwise at the base, and the transaction has ended
  pub record Aborts (old new : TablesView) (c : ℕ) (x : TxnView) (i : ℕ) (a : Answer) : Type 0 where
    pub index : i ≡ x.replayed + 1
    pub stops : StopsAt ReadsLists old.kv x i a
    pub ends : Ends old new old.kv c x
    pub deviates : ListsAreTold old (metadata_at old.kv x.at.base) → (ops : List (Op (List ℕ))) → LogStands z.size old.kv z.told x ops
        → DeviatesOn (metadata_at old.kv x.at.base) z.size z.told x ops i a

  -- bytes or lists of the next call were not read, which would not be refused
  pub record StepFails (old new : TablesView) (c : ℕ) (x : TxnView) (a : Answer) : Type 0 where
    pub fails : Fails old new c a
    pub may : (ops : List (Op (List ℕ))) → LogStands z.size old.kv z.told x ops → (t : Tree) → Stands z.size z.told x.tx 0 (metadata_at old.kv x.at.base) t
        → IsDone (slice_get (answers_of (cap_for (caller_at z.size x.tx 0)) t ops) x.replayed) × IsReadFault z.servers a

  -- the calls have run on the map now, by the attempt or by a whole replay, and nothing but what they did was installed; the lists that a
  -- replay asked for are remembered
  pub record Finishes (old new : TablesView) (c : ℕ) (x : TxnView) (n : ℕ) : Type 0 where
    pub mid : Store Key Value
    pub next : n ≡ old.kv.number + 1
    pub number : mid.number ≡ n
    pub installs : Installs ReadsLists old.kv mid (commit_from old.kv x) n
    pub ends : Ends old new mid c x
    pub final : ListsAreTold old (metadata_at old.kv x.at.base) → ListsAreTold old (metadata_now old.kv) → (ops : List (Op (List ℕ)))
        → LogStands z.size old.kv z.told x ops
        → IsFinal z.size z.later old.kv mid x ops n

  -- made once more on the map now, the calls first answered otherwise than was shown at call i, and there a
  pub record GivesUp (old new : TablesView) (c : ℕ) (x : TxnView) (i : ℕ) (a : Answer) : Type 0 where
    pub mid : Store Key Value
    pub number : mid.number ≡ old.kv.number
    pub gave_up : GaveUp ReadsLists old.kv mid (commit_from old.kv x) i a
    pub ends : Ends old new mid c x
    pub deviates : ListsAreTold old (metadata_at old.kv x.at.base) → ListsAreTold old (metadata_now old.kv) → (ops : List (Op (List ℕ)))
        → LogStands z.size old.kv z.told x ops
        → DeviatesOn (metadata_now old.kv) z.size z.told x ops i a

  -- bytes or lists of a call that was replayed were not read
  pub record CommitFails (old new : TablesView) (c : ℕ) (x : TxnView) (a : Answer) : Type 0 where
    pub fails : Fails old new c a
    pub may : ListsAreTold old (metadata_at old.kv x.at.base) → ListsAreTold old (metadata_now old.kv) → (ops : List (Op (List ℕ)))
        → LogStands z.size old.kv z.told x ops
        → (t : Tree) → Stands z.size z.told x.tx 0 (metadata_now old.kv) t → IsReadFault z.servers a

  abbrev pub StepTurn : TablesView → TablesView → ℕ → TxnView → Answer → Type 0
  StepTurn old new c x (answer.Replayed i) = Replays old new c x i
  StepTurn old new c x (Aborted' i box a) = Aborts old new c x i a
  StepTurn old new c x a = StepFails old new c x a

  -- a commit never asks for another try
  abbrev pub Finals : TablesView → TablesView → ℕ → TxnView → Answer → Type 0
  Finals old new c x (answer.Committed n) = Finishes old new c x n
  Finals old new c x (Aborted' i box a) = GivesUp old new c x i a
  Finals old new c x a = CommitFails old new c x a

  -- a line of a client without a transaction: it may begin one
  abbrev pub LoneTurn : TablesView → TablesView → ℕ → Verb → Answer → Type 0
  LoneTurn old new c verb.Begin a = Begins old new c a
  LoneTurn old new c v a = Refuses old new c NoTx a

  -- a line of a client with the transaction x
  abbrev pub TxnTurn : TablesView → TablesView → ℕ → TxnView → Verb → Answer → Type 0
  TxnTurn old new c x verb.Begin a = Refuses old new c InTx a
  TxnTurn old new c x verb.Try a = TryTurn old new c x a
  TxnTurn old new c x verb.Step a = MatchOption (step_refusal x) (StepTurn old new c x a) (λ w. Refuses old new c w a)
  TxnTurn old new c x verb.Commit a = Finals old new c x a
  TxnTurn old new c x verb.Abort a = Drops old new c x a
  TxnTurn old new c x (verb.Call o) a = MatchOption (call_refusal x) (Calls old new c x o a ⊎ CallFails old new c x o a) (λ w. Refuses old new c w a)

  -- a line of a client
  abbrev pub ClientTurn : TablesView → TablesView → ℕ → Verb → Answer → Type 0
  ClientTurn old new c v a = MatchOption (of_client old.clients c) (LoneTurn old new c v a) (λ x. TxnTurn old new c x v a)
