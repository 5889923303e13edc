-- Calls on names as calls of a transaction.
use Rattle.std.specs.Prelude.{◌≡◌, ◌≢◌, ◌⊎◌, ℕ, Bool, true, false, List, [], ◌∷◌, Option, Some, IsSomeAnd}
use Rattle.wtf_base.specs.declared.slice.Slice.{Slice}
use Rattle.wtf_base.specs.declared.ids.InodeId.{InodeId}
use Rattle.wtf_occ.specs.Attempts.{Attempted, GrowsBy}
use Rattle.wtf_model.specs.declared.answer.Answer.{Answer}
use Rattle.wtf_model.specs.declared.op.Op.{Op}
use Rattle.wtf_model.specs.Steps.{IsLogged}
use Rattle.wtf_values.specs.declared.key.Key.{Key}
use Rattle.wtf_values.specs.declared.key.Key.TheVariants.{Path}
use Rattle.wtf_values.specs.declared.value.Delta.{Delta}
use Rattle.wtf_values.specs.declared.value.Node.TheVariants.{File}
use Rattle.wtf_meta.specs.Maps.{Map, Edits}
use Rattle.wtf_meta.specs.Sessions.{SessionView, handle_in, IsOff}
use Rattle.wtf_meta.specs.Calls.{Caller, IsCall}
use Rattle.wtf_index.specs.Checks.{stands_at}
use Rattle.wtf_slicing.specs.Sights.{sight}
use Rattle.wtf_slicing.specs.Steps.{IsNewFor}
use Rattle.wtf_replay.specs.Built.{IsPlainOp}
use Rattle.wtf_replay.specs.Effects.{Acts, CallHolds}

-- an attempt goes on by a call that stores nothing and leaves handles and slices
pub record IsNameCall (x : Caller) (b : Map) (s : SessionView) (old new : Attempted Key Delta) (o : Op (List ℕ)) (a : Answer) : Type 0 where
  pub keys : List Key
  pub edits : Edits
  pub grows : GrowsBy old new keys edits
  pub is_call : IsCall x b s s (record { keys = keys; edits = edits; facts = []; stored = []; lists = [] }) o a

-- a handle was opened by the path
abbrev pub HasHandleOf : List ℕ → SessionView → Type 0
HasHandleOf p s = (f : ℕ) × IsSomeAnd (handle_in s f) (λ h. h.path ≡ p)

-- the path is recorded, and nothing is changed
abbrev pub IsRecorded : List ℕ → Attempted Key Delta → Attempted Key Delta → Type 0
IsRecorded p old new = GrowsBy old new (Path p ∷ []) []

-- a handle is on the path, where a file stands; the path is recorded
pub record IsBusy (b : Map) (s : SessionView) (p : List ℕ) (old new : Attempted Key Delta) : Type 0 where
  pub held : HasHandleOf p s
  pub recorded : IsRecorded p old new
  pub inode : InodeId
  pub file : stands_at b p ≡ Some (File inode)

-- whether a handle keeps a file at its path; where none does, no key is recorded
abbrev pub IsLooked : Map → SessionView → List ℕ → Attempted Key Delta → Attempted Key Delta → Bool → Type 0
IsLooked b s p old new true = IsBusy b s p old new
IsLooked b s p old new false = (new ≡ old) × (IsOff p s ⊎ ((i : InodeId) → stands_at b p ≢ Some (File i)))

-- a call on names was made, of the inode `made`: whoever calls, it is the definitions' call, and it recorded its keys and made its
-- changes
pub record IsNamed {D : Type 0} (b : Map) (s : SessionView) (made : InodeId) (o : Op D) (old new : Attempted Key Delta) (a : Answer) : Type 0 where
  pub step : (x : Caller) (p : Op (List ℕ)) → IsPlainOp o p → IsNewFor x made → IsNameCall x b s old new p a
  pub acts : (size n : ℕ) (own : Option Slice) → Acts (sight size b s made []) n own o a old new
  pub holds : (size : ℕ) (own : Option Slice) → CallHolds (sight size b s made []) own o a s s
  pub logged : IsLogged a
