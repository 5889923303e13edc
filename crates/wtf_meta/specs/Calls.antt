-- Locality: what a call recorded and changed makes it the definitions' call on every map that agrees on the recorded keys.
-- NSDI 2016, section 2.6 (a call is replayed on other metadata, and must show the same).
use Rattle.std.specs.Prelude.{◌≡◌, ℕ, ◌+◌, ◌*◌, Bool, true, List, [], ◌∷◌, ◌++◌, length, ⊤}
use Rattle.wtf_base.specs.declared.slice.Slice.{Slice}
use Rattle.wtf_kv.specs.Edits.{Agree}
use Rattle.wtf_occ.specs.Attempts.{Attempted, GrowsBy}
use Rattle.wtf_overlay.specs.Origin.{Place}
use Rattle.wtf_overlay.specs.declared.part.Piece.{Piece}
use Rattle.wtf_model.specs.declared.limits.TheConstants.{MAX_REGIONS}
use Rattle.wtf_model.specs.declared.answer.Answer.{Answer}
use Rattle.wtf_model.specs.declared.op.Op.{Op}
use Rattle.wtf_model.specs.declared.op.Op.TheVariants as op
use Rattle.wtf_model.specs.Session.{Session}
use Rattle.wtf_model.specs.Tree.{Tree}
use Rattle.wtf_model.specs.Done.{Done}
use Rattle.wtf_model.specs.Call.{call}
use Rattle.wtf_model.specs.Items.{reads, writes, reads_of, writes_of}
use Rattle.wtf_model.specs.Transaction.{answers_of, session_after}
use Rattle.wtf_values.specs.declared.key.Key.{Key}
use Rattle.wtf_values.specs.declared.value.Delta.{Delta}
use Rattle.wtf_meta.specs.Maps.{Map, Edits, with, AllFit}
use Rattle.wtf_meta.specs.Lists.{ListFact, TellLists}
use Rattle.wtf_meta.specs.Bytes.{MapBytes, EditsBytes, PiecesBytes, ListSlices, ListsBytes}
use Rattle.wtf_meta.specs.Contents.{Told, PiecesTell, lists_in}
use Rattle.wtf_meta.specs.Trees.{Stands, Own}
use Rattle.wtf_meta.specs.Feet.{Feet}
use Rattle.wtf_meta.specs.Sessions.{SessionView, Holds, IsOff, SessionBytes, nothing_open}

-- who calls: a transaction by its number, how many calls it has made, and the bytes of a region
pub record Caller : Type 0 where
  pub size : ℕ
  pub tx : ℕ
  pub calls : ℕ

-- the greatest length of a file
abbrev pub cap_for : Caller → ℕ
cap_for x = MAX_REGIONS * x.size

-- pieces, and bytes that were read from them or stored in them
pub record Fact : Type 0 where
  pub pieces : List Piece
  pub bytes : List ℕ

-- What a call did: the keys that it recorded and the changes that it made, in order; the bytes that it read or stored; the
-- pieces that it stored itself; and the lists of bases that it read.
pub record Did : Type 0 where
  pub keys : List Key
  pub edits : Edits
  pub facts : List Fact
  pub stored : List Piece
  pub lists : List ListFact

abbrev pub nothing_done : Did
nothing_done = record { keys = []; edits = []; facts = []; stored = []; lists = [] }

-- one call after another
abbrev pub then_did : Did → Did → Did
then_did a b = record {
  keys = a.keys ++ b.keys;
  edits = a.edits ++ b.edits;
  facts = a.facts ++ b.facts;
  stored = a.stored ++ b.stored;
  lists = a.lists ++ b.lists;
}

-- the stores tell these bytes
abbrev pub TellFacts : Told → List Fact → Type 0
TellFacts told [] = ⊤
TellFacts told (e ∷ es) = PiecesTell told e.pieces e.bytes × TellFacts told es

-- P holds of the places of each byte of the facts
abbrev pub FactsBytes : (List Place → Bool) → List Fact → Type 0
FactsBytes P [] = ⊤
FactsBytes P (e ∷ es) = PiecesBytes P e.pieces × FactsBytes P es

-- What is changed, read or kept in hand are bytes that the map names, that were in hand, that the call stored itself, or that
-- a list names which it read of a base of the map: what holds of the places of all those holds of these.
pub record Names (b : Map) (old new : SessionView) (did : Did) (P : List Place → Bool) (Q : Slice → Bool) : Type 0 where
  pub edits : EditsBytes P Q did.edits
  pub facts : FactsBytes P did.facts
  pub slices : SessionBytes P new
  pub lists : ListSlices P Q did.lists

abbrev pub NamesKnown : Map → SessionView → SessionView → Did → Type 0
NamesKnown b old new did =
    (P : List Place → Bool) (Q : Slice → Bool) → P [] ≡ true → MapBytes P Q b → SessionBytes P old → PiecesBytes P did.stored → ListsBytes P Q did.lists
    → Names b old new did P Q

-- a map and what is in hand become others as the definitions' call says, with its answer
pub record IsDone (x : Caller) (told : Told) (old new : Map) (s : SessionView) (due : Done) (a : Answer) : Type 0 where
  pub answer : a ≡ due.answer
  pub stands : Stands x.size told x.tx (x.calls + 1) new due.session.tree
  pub holds : Holds told new s due.session
  pub own : Own x.tx old new

-- what is so on each map that agrees with b on the keys and that the changes fit, where it stands for a session's tree, over stores
-- that tell the facts and whose slices decode to the lists
abbrev pub OnEach : Caller → Map → SessionView → Did → (Told → Map → Session → Type 0) → Type 0
OnEach x b old did P =
    (told : Told) (w : Map) (S : Session) → Agree did.keys b w → AllFit did.edits w → TellFacts told did.facts
    → TellLists (lists_in x.size told) did.lists → Stands x.size told x.tx x.calls w S.tree → Holds told w old S → P told w S

-- there it is the definitions' call
abbrev pub DoneOnEach : Caller → Map → SessionView → SessionView → Did → Op (List ℕ) → Answer → Type 0
DoneOnEach x b old new did o a = OnEach x b old did (λ told w S. IsDone x told w (with did.edits w) new (call (cap_for x) S o) a)

-- and it read and changed what that call does
abbrev pub FeetOnEach : Caller → Map → SessionView → Did → Op (List ℕ) → Type 0
FeetOnEach x b old did o = OnEach x b old did (λ told w S. Feet x.tx w did.keys did.edits (reads S o) (writes (cap_for x) S o))

-- On the map b a call did this, and left the handles and slices so: on each map that agrees with b on the keys and that
-- the changes fit, over stores that tell the facts and whose slices decode to the lists, it is the definitions' call.
pub record IsCall (x : Caller) (b : Map) (old new : SessionView) (did : Did) (o : Op (List ℕ)) (a : Answer) : Type 0 where
  pub fits : AllFit did.edits b
  pub names : NamesKnown b old new did
  pub acts : DoneOnEach x b old new did o a
  pub feet : FeetOnEach x b old did o

-- an attempt with what its transaction has in hand
pub record InHand : Type 0 where
  pub at : Attempted Key Delta
  pub session : SessionView

-- an attempt that sees the map b goes on by a call
pub record IsStep (x : Caller) (b : Map) (old new : InHand) (o : Op (List ℕ)) (a : Answer) : Type 0 where
  pub did : Did
  pub grows : GrowsBy old.at new.at did.keys did.edits
  pub is_call : IsCall x b old.session new.session did o a

-- the path that a call takes a file from, on which no handle may be open
abbrev pub IsFreeToMove : Op (List ℕ) → SessionView → Type 0
IsFreeToMove (op.Unlink p) s = IsOff p s
IsFreeToMove (op.Rename p q) s = IsOff p s
IsFreeToMove o s = ⊤

-- the same of a call on names, which stores nothing and leaves handles and slices
pub record IsNameStep (x : Caller) (b : Map) (old new : Attempted Key Delta) (o : Op (List ℕ)) (a : Answer) : Type 0 where
  pub keys : List Key
  pub edits : Edits
  pub grows : GrowsBy old new keys edits
  pub is_call : (s : SessionView) → IsFreeToMove o s
      → IsCall x b s s (record { keys = keys; edits = edits; facts = []; stored = []; lists = [] }) o a

-- run on the tree, the calls answer what was shown; the map stands for the tree that they leave, with its session
pub record Ran (x : Caller) (told : Told) (old new : Map) (s : SessionView) (t : Tree) (calls : List (Op (List ℕ)) × List Answer) : Type 0 where
  pub answers : answers_of (cap_for x) t calls.0 ≡ calls.1
  pub stands : Stands x.size told x.tx (length calls.0) new (session_after (cap_for x) t calls.0).tree
  pub holds : Holds told new s (session_after (cap_for x) t calls.0)
  pub own : Own x.tx old new

-- what is so on each map where it stands for a tree, before a transaction's first call
abbrev pub FromEach : Caller → Map → Did → (Told → Map → Tree → Type 0) → Type 0
FromEach x b did P =
    (told : Told) (w : Map) (t : Tree) → Agree did.keys b w → AllFit did.edits w → TellFacts told did.facts
    → TellLists (lists_in x.size told) did.lists → Stands x.size told x.tx 0 w t → P told w t

-- On the map b the calls of a transaction did this: on each map that agrees with b on the keys and that the changes fit,
-- over stores that tell the facts and whose slices decode to the lists, they are the definitions' run.
pub record IsRun (x : Caller) (b : Map) (s : SessionView) (did : Did) (calls : List (Op (List ℕ)) × List Answer) : Type 0 where
  pub fits : AllFit did.edits b
  pub names : NamesKnown b nothing_open s did
  pub acts : FromEach x b did (λ told w t. Ran x told w (with did.edits w) s t calls)
  pub feet : FromEach x b did (λ told w t. Feet x.tx w did.keys did.edits (reads_of (cap_for x) t calls.0) (writes_of (cap_for x) t calls.0))
