-- What tasks come to, by what their calls say.
use Rattle.std.proofs.Common.{◌≡◌, Option, Some, None, Result, Ok, Err, OnOk, refl, inl, inr}
use Rattle.wtf_dev.specs.Counts.{Rose}
use Rattle.wtf_carry.specs.declared.stop.Stop.{Stop}
use Rattle.wtf_carry.specs.declared.stop.Stop.TheVariants as stop
use Rattle.wtf_file.specs.declared.task.Task.{Task}
use Rattle.wtf_file.specs.Program.{Streams, Does, AreWrong, IsTooLong, IsOutcome, IsCarryOver, WhereBothTell}

-- what a call says of its end
pub record Says (t : Task) (done : Result (Unit {0}) Stop) (old new : Streams) : Type 0 where
  pub does : OnOk done (WhereBothTell old (λ all taken. Does t all taken new.sink.taken))
  pub unread : done ≡ Err stop.Unread → Rose old.source.faults new.source.faults
  pub unwritten : done ≡ Err stop.Unwritten → Rose old.sink.faults new.sink.faults
  pub wrong : done ≡ Err stop.Wrong → AreWrong t old
  pub too_long : done ≡ Err stop.TooLong → IsTooLong t old

pub outcome : (t : Task) (done : Result (Unit {0}) Stop) (old new : Streams) → Says t done old new → IsOutcome t done old new
outcome t (Ok u) old new says = says.does
outcome t (Err stop.Wrong) old new says = says.wrong refl
outcome t (Err stop.TooLong) old new says = says.too_long refl
outcome t (Err stop.Unread) old new says = says.unread refl
outcome t (Err stop.Unwritten) old new says = says.unwritten refl
outcome t (Err stop.Memory) old new says = tt

-- memory was wanted before anything was done
pub no-memory : (asked : Option Task) (now : Streams) → IsCarryOver asked 7 now now
no-memory None now = (inr refl, refl)
no-memory (Some t) now = record { done = Err stop.Memory; sink = now.sink; outcome = tt; out = record { taken = λ bytes e. e; ended = inl (refl, refl) } }
