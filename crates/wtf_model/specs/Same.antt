-- When two answers say the same. The answers of a call are then equal; an answer that tells how a transaction was aborted
-- holds another in memory of its own.
use Rattle.std.specs.Prelude.{◌≡◌, ℕ}
use Rattle.wtf_model.specs.declared.answer.Answer.{Answer, Aborted'}

abbrev pub AreSame : Answer → Answer → Type 0
AreSame (Aborted' i box a) (Aborted' j other b) = (i ≡ j) × AreSame a b
AreSame (Aborted' i box a) b = ⊥
AreSame a b = a ≡ b

-- an answer that tells of a call where a transaction ended, and what it answered
abbrev pub IsAbortedAt : Answer → ℕ → Answer → Type 0
IsAbortedAt (Aborted' i box b) call a = (i ≡ call) × (b ≡ a)
IsAbortedAt r call a = ⊥
