-- Steps of an attempt and of what is in hand with it, with what is known beside of what they did.
use Rattle.std.specs.Prelude.{◌≡◌, ℕ, List, [], ⊤}
use Rattle.wtf_occ.specs.Attempts.{Attempted, GrowsBy}
use Rattle.wtf_model.specs.declared.answer.Answer.{Answer}
use Rattle.wtf_model.specs.declared.answer.Answer.TheVariants as answer
use Rattle.wtf_model.specs.declared.op.Op.{Op}
use Rattle.wtf_values.specs.declared.key.Key.{Key}
use Rattle.wtf_values.specs.declared.value.Delta.{Delta}
use Rattle.wtf_meta.specs.declared.session.Handle.{Handle}
use Rattle.wtf_meta.specs.Maps.{Map}
use Rattle.wtf_meta.specs.Sessions.{SessionView}
use Rattle.wtf_meta.specs.Calls.{Caller, Did, InHand, IsCall}
use Rattle.wtf_model.specs.declared.answer.Word.TheVariants.{TooBig}
use Rattle.wtf_steps.specs.declared.handles.Spot.{Spot}
use Rattle.wtf_region.specs.declared.added.Added.{Added}
use Rattle.wtf_region.specs.declared.added.Added.TheVariants as added

-- an attempt, and what is in hand with it
abbrev pub in_hand : Attempted Key Delta → SessionView → InHand
in_hand at s = record { at = at; session = s }

-- an attempt that sees the map b goes on by a call, of whose doing F holds
pub record IsStepWith (F : Did → Type 0) (x : Caller) (b : Map) (old new : InHand) (o : Op (List ℕ)) (a : Answer) : Type 0 where
  pub did : Did
  pub grows : GrowsBy old.at new.at did.keys did.edits
  pub is_call : IsCall x b old.session new.session did o a
  pub more : F did

-- a call that read no byte of the stores and no list of a base, and stored nothing
pub record NeedsNoBytes (did : Did) : Type 0 where
  pub facts : did.facts ≡ []
  pub stored : did.stored ≡ []
  pub lists : did.lists ≡ []

-- the file of a handle, and the offset
abbrev pub spot_of : Handle → Spot
spot_of h = record { inode = h.inode; off = h.off }

-- a call was refused
abbrev pub IsRefusal : Answer → Type 0
IsRefusal (answer.Refused w) = ⊤
IsRefusal a = ⊥

-- the answer to an append
abbrev pub answer_of : Added → Answer
answer_of added.Done = answer.Okay
answer_of added.TooBig = answer.Refused TooBig
