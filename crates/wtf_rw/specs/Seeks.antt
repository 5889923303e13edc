-- Where a seek leads.
use Rattle.std.specs.Prelude.{◌≡◌, ℕ, Option, Some, None}
use Rattle.std.specs.Option.{option_map}
use Rattle.wtf_model.specs.declared.answer.Word.TheVariants.{Range}
use Rattle.wtf_model.specs.declared.answer.Answer.{Answer}
use Rattle.wtf_model.specs.declared.answer.Answer.TheVariants.{Okay, Refused}
pub use Rattle.wtf_model.specs.HandleCalls.{lands}
use Rattle.wtf_meta.specs.Sessions.{SessionView, handle_in, SetsHandle, moved_to}

-- a handle is moved to where a seek leads, or the seek is refused
abbrev pub IsSought : ℕ → Option ℕ → SessionView → SessionView → Answer → Type 0
IsSought f (Some n) old new a = SetsHandle f (option_map (moved_to n) (handle_in old f)) old new × (a ≡ Okay)
IsSought f None old new a = (new ≡ old) × (a ≡ Refused Range)
