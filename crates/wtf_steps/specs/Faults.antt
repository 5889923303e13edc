-- Why bytes were not shown, and when a fault may come in place of the answer that is due.
use Rattle.std.specs.Prelude.{◌≡◌, ℕ, List, [], ⊤}
use Rattle.wtf_base.specs.declared.fault.Fault.{Fault}
use Rattle.wtf_base.specs.declared.fault.Fault.TheVariants as fault
use Rattle.wtf_base.specs.declared.settings.Settings.{Settings}
use Rattle.wtf_model.specs.declared.answer.Answer.{Answer}
use Rattle.wtf_model.specs.declared.answer.Answer.TheVariants as answer
use Rattle.wtf_model.specs.declared.op.Op.{Op}
use Rattle.wtf_model.specs.Session.{Session}
use Rattle.wtf_model.specs.Call.{call}
use Rattle.wtf_model.specs.Lawful.{MayFail}
use Rattle.wtf_meta.specs.Maps.{Map}
use Rattle.wtf_meta.specs.Bytes.{PiecesBytes}
use Rattle.wtf_meta.specs.Contents.{Told}
use Rattle.wtf_meta.specs.Trees.{Stands}
use Rattle.wtf_meta.specs.Sessions.{SessionView, Holds}
use Rattle.wtf_meta.specs.Calls.{Caller, cap_for}
use Rattle.wtf_dev.specs.Store.{StoreKind}
use Rattle.wtf_overlay.specs.Origin.{Place, Plans}
use Rattle.wtf_overlay.specs.declared.part.Piece.{Piece}
use Rattle.wtf_region.specs.declared.dev.Dev.{Dev}
use Rattle.wtf_region.specs.Devs.{GoesOn, between, inside_of}
use Rattle.wtf_region.specs.Showing.{IsShowFault, pieces_in}

-- the machine allows the fault's answer where d is due; memory may be short at any time
abbrev pub MayStandFor : ℕ → Op (List ℕ) → Answer → Fault → Type 0
MayStandFor servers o d (fault.Read k) = MayFail servers o d (answer.FaultRead k.0)
MayStandFor servers o d fault.Write = MayFail servers o d answer.FaultWrite
MayStandFor servers o d (fault.Punch k) = MayFail servers o d (answer.FaultPunch k.0)
MayStandFor servers o d (fault.Damaged k) = MayFail servers o d (answer.Damaged k.0)
MayStandFor servers o d fault.Memory = ⊤

-- whoever calls: on each tree for which the map stands, the fault may come in place of what the definitions' call answers
abbrev pub MayFault : Settings → Map → SessionView → Op (List ℕ) → Fault → Type 0
MayFault settings w s o why =
    (x : Caller) (told : Told) (S : Session) → x.size ≡ settings.region → Stands x.size told x.tx x.calls w S.tree → Holds told w s S
    → MayStandFor settings.servers o (call (cap_for x) S o).answer why

-- n bytes of pieces of which Are holds, and which lie inside the stores, were not shown, for a fault
pub record LacksBytes {S : Type 0} (kind : StoreKind S) (old new : Dev S) (n : ℕ) (Are : List Piece → Type 0) (why : Fault) : Type 0 where
  pub mid : Dev S
  pub goes : GoesOn kind old mid []
  pub pieces : List Piece
  pub are : Are pieces
  pub inside : PiecesBytes (inside_of kind mid) pieces
  pub fault : IsShowFault kind (between mid new) (pieces_in 0 n pieces) why

-- the pieces show n bytes with the places that f tells
abbrev pub ShowPlaces : ℕ → (ℕ → List Place) → List Piece → Type 0
ShowPlaces n f pieces = Plans pieces n f
