-- What a call leaves in hand: what was there where it is refused, else what its own definition says, and nothing else.
use Rattle.std.specs.Prelude.{◌≡◌, ℕ, ◌+◌, Some}
use Rattle.wtf_model.specs.declared.answer.Answer.{Answer}
use Rattle.wtf_meta.specs.declared.session.Handle.{Handle}
use Rattle.wtf_meta.specs.Sessions.{SessionView, handle_in, SetsHandle, moved_to}
use Rattle.wtf_steps.specs.Steps.{IsRefusal}

-- handles and slices become others by a call that answered a: F holds of them, and a refusal leaves them
pub record LeavesHand (a : Answer) (F : SessionView → SessionView → Type 0) (old new : SessionView) : Type 0 where
  pub refused : IsRefusal a → new ≡ old
  pub made : (IsRefusal a → ⊥) → F old new

-- an open handle, and nothing else, goes to an offset of which To holds
pub record MovesHandle (f : ℕ) (To : Handle → ℕ → Type 0) (old new : SessionView) : Type 0 where
  pub handle : Handle
  pub stood : handle_in old f ≡ Some handle
  pub off : ℕ
  pub to : To handle off
  pub moved : SetsHandle f (Some (moved_to off handle)) old new

-- it goes on by so many bytes
abbrev pub MovesOn : ℕ → (Handle → ℕ) → SessionView → SessionView → Type 0
MovesOn f n old new = MovesHandle f (λ h off. off ≡ h.off + n h) old new
