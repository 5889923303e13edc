-- What holds of a transaction over stores that tell their content: its calls are the definitions' run.
-- NSDI 2016, section 2.6 (a replay must show what was shown).
use Rattle.std.specs.Prelude.{◌≡◌, ℕ, Bool, List, Option, take}
use Rattle.wtf_dev.specs.Store.{Range, StoreKind}
use Rattle.wtf_dev.specs.Sums.{TellsAll}
use Rattle.wtf_kv.specs.Stores.{Store}
use Rattle.wtf_base.specs.declared.slice.Slice.{Slice}
use Rattle.wtf_base.specs.Slices.{len_of}
use Rattle.wtf_overlay.specs.Origin.{Place, part_origin}
use Rattle.wtf_overlay.specs.declared.part.Part.TheVariants.{Held}
use Rattle.wtf_overlay.specs.declared.part.Piece.{Piece}
use Rattle.wtf_occ.specs.Attempts.{Attempted}
use Rattle.wtf_model.specs.declared.answer.Answer.{Answer}
use Rattle.wtf_model.specs.declared.op.Op.{Op}
use Rattle.wtf_model.specs.Session.{Session}
use Rattle.wtf_model.specs.Call.{call}
use Rattle.wtf_values.specs.declared.key.Key.{Key}
use Rattle.wtf_values.specs.declared.value.Value.{Value}
use Rattle.wtf_values.specs.declared.value.Delta.{Delta}
use Rattle.wtf_log.specs.Standing.{OpsStandFor}
use Rattle.wtf_meta.specs.Lists.{ListFact, TellLists}
use Rattle.wtf_meta.specs.Maps.{Map, metadata_at}
use Rattle.wtf_meta.specs.Bytes.{MapBytes, PiecesBytes}
use Rattle.wtf_meta.specs.Contents.{Told, TellBytes, is_told, is_listed, lists_in}
use Rattle.wtf_meta.specs.Trees.{Stands}
use Rattle.wtf_meta.specs.Sessions.{SessionView, SessionBytes, Holds}
use Rattle.wtf_meta.specs.Calls.{Caller, Fact, Did, InHand, TellFacts, IsStep, IsRun, cap_for}
use Rattle.wtf_region.specs.declared.dev.Dev.{Dev}
use Rattle.wtf_region.specs.Apart.{are_apart}
use Rattle.wtf_region.specs.Devs.{stores, told_in, RemembersTrue}
use Rattle.wtf_rw.specs.Stored.{SliceBytes}
use Rattle.wtf_replay.specs.Views.{TxnView}
use Rattle.wtf_replay.specs.Insides.{LogBytes, TxnBytes, lists_have}

-- the bytes of a slice are told
abbrev pub tells_slice : Told → Slice → List ℕ → Type 0
tells_slice told s bytes = TellBytes told (len_of s) (part_origin (Held s)) bytes

-- a transaction that has made so many calls
abbrev pub caller_at : ℕ → ℕ → ℕ → Caller
caller_at size tx calls = record { size = size; tx = tx; calls = calls }

-- what an attempt did, with the bytes that it read or stored, the pieces that it stored, and the lists of bases that it read
abbrev pub did_by : Attempted Key Delta → List Fact → List Piece → List ListFact → Did
did_by at facts stored lists = record { keys = at.reads; edits = at.changes; facts = facts; stored = stored; lists = lists }

-- the first of the calls, with what was shown of them
abbrev pub first_of : TxnView → List (Op (List ℕ)) → ℕ → List (Op (List ℕ)) × List Answer
first_of x ops n = (take n ops, take n x.log.shown)

-- The logged calls stand for calls; and what the attempt did is the run, on the map at its base, of those that are done
-- there, over stores that tell its facts and what it stored, and whose slices decode to the lists that it read. What it stored
-- are bytes of the slices that the log keeps.
pub record LogStands (size : ℕ) (kv : Store Key Value) (told : Told) (x : TxnView) (ops : List (Op (List ℕ))) : Type 0 where
  pub facts : List Fact
  pub stored : List Piece
  pub lists : List ListFact
  pub ops_are : OpsStandFor (tells_slice told) x.log.ops ops
  pub told_are : TellFacts told facts
  pub stored_are : PiecesBytes (is_told told) stored
  pub kept : (P : List Place → Bool) → LogBytes P x.log → PiecesBytes P stored
  pub lists_are : TellLists (lists_in size told) lists
  pub run : IsRun (caller_at size x.tx 0) (metadata_at kv x.at.base) x.session (did_by x.at facts stored lists) (first_of x ops x.replayed)

-- the stores tell their content, and each byte that a map names, also those that the lists of its bases name; the lists that are
-- remembered are true, but of slices of which a byte lies in these ranges, and the map names no byte of these
pub record TellsMap {S : Type 0} (kind : StoreKind S) (dev : Dev S) (ranges : List (ℕ × Range)) (w : Map) : Type 0 where
  pub all : TellsAll kind (stores dev)
  pub map : MapBytes (is_told (told_in kind dev)) (is_listed dev.settings.region (told_in kind dev)) w
  pub cache : RemembersTrue kind dev ranges
  pub away : MapBytes (are_apart ranges) (lists_have dev.settings.region (told_in kind dev) (are_apart ranges)) w

-- each byte of the slices in hand is told too
pub record TellsHand {S : Type 0} (kind : StoreKind S) (dev : Dev S) (ranges : List (ℕ × Range)) (w : Map) (s : SessionView) : Type 0 where
  pub seen : TellsMap kind dev ranges w
  pub slices : SessionBytes (is_told (told_in kind dev)) s

-- all that a transaction names lies apart from the ranges, also what the lists of bases name
abbrev pub IsAwayTxn : {S : Type 0} → StoreKind S → Dev S → List (ℕ × Range) → Store Key Value → TxnView → Type 0
IsAwayTxn kind dev ranges kv x = TxnBytes (are_apart ranges) (lists_have dev.settings.region (told_in kind dev) (are_apart ranges)) kv x

module _ (told : Told) (own : Option Slice) where
  -- one call more, whose facts the stores tell, what it stored, and the lists that it read; and what it stored are bytes of the
  -- slice that was stored of its data
  pub record IsToldStep (x : Caller) (b : Map) (old new : InHand) (o : Op (List ℕ)) (a : Answer) : Type 0 where
    pub step : IsStep x b old new o a
    pub told_are : TellFacts told step.did.facts
    pub stored_are : PiecesBytes (is_told told) step.did.stored
    pub kept : (P : List Place → Bool) → SliceBytes P own → PiecesBytes P step.did.stored
    pub lists_are : TellLists (lists_in x.size told) step.did.lists

-- on the map, and with this in hand, the definitions' call answers so
abbrev pub IsDue : Told → Caller → Map → SessionView → Op (List ℕ) → Answer → Type 0
IsDue told x w s o a = (S : Session) → Stands x.size told x.tx x.calls w S.tree → Holds told w s S → (call (cap_for x) S o).answer ≡ a
