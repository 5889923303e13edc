-- What a call stores, and what it is given of bytes that were stored before.
use Rattle.std.specs.Prelude.{◌≡◌, ◌⊎◌, ◌≤◌, ◌+◌, ◌-◌, ◌*◌, min, ℕ, Bool, List, [], ◌∷◌, Option, None, Some, ⊤}
use Rattle.wtf_base.specs.declared.fault.Fault.{Fault}
use Rattle.wtf_base.specs.declared.fault.Fault.TheVariants as fault
use Rattle.wtf_base.specs.declared.slice.Slice.{Slice}
use Rattle.wtf_base.specs.Slices.{len_of}
use Rattle.wtf_dev.specs.Store.{StoreKind}
use Rattle.wtf_dev.specs.Sums.{TellsAll}
use Rattle.wtf_kv.specs.Edits.{Agree}
use Rattle.wtf_overlay.specs.Origin.{Place, part_origin}
use Rattle.wtf_overlay.specs.declared.part.Part.TheVariants.{Held}
use Rattle.wtf_overlay.specs.declared.part.Piece.{Piece}
use Rattle.wtf_ring.specs.Points.{PlaceView}
use Rattle.wtf_replica.specs.Bytes.{byte_at}
use Rattle.wtf_replica.specs.Copies.{IsStored, IsInside}
use Rattle.wtf_replica.specs.Faults.{IsWriteFault}
use Rattle.wtf_model.specs.declared.answer.Answer.{Answer}
use Rattle.wtf_model.specs.declared.op.Op.{Op}
use Rattle.wtf_model.specs.Session.{Session}
use Rattle.wtf_model.specs.Call.{call}
use Rattle.wtf_values.specs.declared.key.Key.{Key}
use Rattle.wtf_meta.specs.Bytes.{PartBytes, PiecesBytes}
use Rattle.wtf_model.specs.declared.limits.TheConstants.{MAX_REGIONS}
use Rattle.wtf_meta.specs.Files.{FileView, end_of, file_len}
use Rattle.wtf_meta.specs.Maps.{Map, Edits, AllFit}
use Rattle.wtf_meta.specs.Contents.{Told, TellBytes}
use Rattle.wtf_meta.specs.Trees.{Stands}
use Rattle.wtf_meta.specs.Sessions.{SessionView, Holds}
use Rattle.wtf_meta.specs.Calls.{Caller, Did, TellFacts, cap_for}
use Rattle.wtf_region.specs.declared.dev.Dev.{Dev}
use Rattle.wtf_region.specs.Devs.{stores, between}
use Rattle.wtf_region.specs.Inside.{IsOnServers}
use Rattle.wtf_steps.specs.Steps.{IsRefusal}

-- the pieces are one, that is the slice
pub record IsPieceOf (s : Slice) (ps : List Piece) : Type 0 where
  pub piece : Piece
  pub one : ps ≡ piece ∷ []
  pub len : piece.len ≡ len_of s
  pub part : piece.part ≡ Held s

-- the pieces are the slice, if there is one
abbrev pub ArePieces : Option Slice → List Piece → Type 0
ArePieces None ps = ps ≡ []
ArePieces (Some s) ps = IsPieceOf s ps

-- a call stored its own slice and no other byte, and read no list of a base; the stores, if they tell their content, tell what
-- it read and stored
pub record TellsOwn {S : Type 0} (kind : StoreKind S) (old new : List S) (own : Option Slice) (did : Did) : Type 0 where
  pub stored : ArePieces own did.stored
  pub lists : did.lists ≡ []
  pub told : TellsAll kind old → TellFacts (byte_at kind new) did.facts

-- the slice that a call stored of the bytes at a place, if it did; else nothing was lent for writing
abbrev pub IsOwn : {S : Type 0} → StoreKind S → (old new : Dev S) → PlaceView → List ℕ → Option Slice → Type 0
IsOwn kind old new place bytes None = new ≡ old
IsOwn kind old new place bytes (Some s) =
    IsStored kind (between old new) old.settings.replicas place bytes s × IsInside kind (stores new) s × IsOnServers old.settings.servers s

-- why bytes were not written: too few servers took them; memory may be short at any time
abbrev pub IsPutFault : {S : Type 0} → StoreKind S → (old new : Dev S) → List ℕ → Fault → Type 0
IsPutFault kind old new [] why = why ≡ fault.Memory
IsPutFault kind old new (b ∷ bs) why = (why ≡ fault.Memory) ⊎ IsWriteFault kind (between old new) old.settings why

-- P holds of the places of each byte of a slice, if there is one
abbrev pub SliceBytes : (List Place → Bool) → Option Slice → Type 0
SliceBytes P None = ⊤
SliceBytes P (Some s) = PartBytes P (len_of s) (Held s)

-- and the stores tell these bytes there
abbrev pub TellSlice : Told → Option Slice → List ℕ → Type 0
TellSlice told None bytes = ⊤
TellSlice told (Some s) bytes = TellBytes told (len_of s) (part_origin (Held s)) bytes

-- a call brought the bytes of a slice that was stored before: what holds of their places holds of those that count as its
-- own, and stores that tell them tell what it brought
pub record BringsSlice (s : Option Slice) (bytes : List ℕ) (did : Did) : Type 0 where
  pub named : (P : List Place → Bool) → SliceBytes P s → PiecesBytes P did.stored
  pub lists : did.lists ≡ []
  pub told : (told : Told) → TellSlice told s bytes → TellFacts told did.facts

-- On each map that agrees with b on the keys, and that these changes fit, the answer is that of the definitions' call; a
-- refusal needs no changes to fit.
pub record Answers (x : Caller) (b : Map) (s : SessionView) (keys : List Key) (o : Op (List ℕ)) (a : Answer) : Type 0 where
  pub edits : Edits
  pub fits : AllFit edits b
  pub refused : IsRefusal a → edits ≡ []
  pub due : (told : Told) (w : Map) (S : Session) → Agree keys b w → AllFit edits w → Stands x.size told x.tx x.calls w S.tree → Holds told w s S
      → (call (cap_for x) S o).answer ≡ a

-- n bytes find room in the last region of a file, or below the greatest length
abbrev pub HasRoom : ℕ → FileView → ℕ → Type 0
HasRoom b v n = (end_of (v.region v.last) + n ≤ b) ⊎ (file_len b v + n ≤ MAX_REGIONS * b)

-- where bytes that are added at a file's end go
abbrev pub end_place : ℕ → FileView → ℕ
end_place b v = min (file_len b v) (MAX_REGIONS * b - 1)
