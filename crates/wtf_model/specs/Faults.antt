-- The faults that may come in place of an answer that needs the stores, and refusals as answers.
use Rattle.std.specs.Prelude.{◌<◌, ℕ, Result, Ok, Err}
use Rattle.wtf_model.specs.declared.answer.Answer.{Answer}
use Rattle.wtf_model.specs.declared.answer.Answer.TheVariants as answer
use Rattle.wtf_model.specs.declared.answer.Word.{Word}

-- a read of server k fails, or what it gives is not as it was stored
abbrev pub IsReadFault : ℕ → Answer → Type 0
IsReadFault servers (answer.FaultRead k) = k < servers
IsReadFault servers (answer.Damaged k) = k < servers
IsReadFault servers a = ⊥

abbrev pub or_refusal : Result Answer Word → Answer
or_refusal (Ok a) = a
or_refusal (Err w) = answer.Refused w
