-- What lines punch of the stores, and what counts as freed.
use Rattle.std.specs.Prelude.{◌≡◌, ◌≤◌, ◌+◌, ℕ, Bool, true, false, ◌||◌, if◌then◌else◌, List, [], ◌∷◌, ◌++◌, length, Ok}
use Rattle.wtf_base.specs.Places.{Place}
use Rattle.wtf_dev.specs.Store.{Range}
use Rattle.wtf_model.specs.declared.answer.Answer.{Answer}
use Rattle.wtf_model.specs.declared.answer.Answer.TheVariants as answer
use Rattle.wtf_model.specs.declared.event.Event.TheVariants as event
use Rattle.wtf_model.specs.Lines.{Line}
use Rattle.wtf_gc.specs.Frees.{AreApart, ranges_len, lie_in}

-- the ranges lie on server k, share no byte, and have none that was freed before
pub record AreFresh (freed : Place → Bool) (k : ℕ) (ranges : List (ℕ × Range)) : Type 0 where
  pub apart : AreApart ranges
  pub fresh : (p : Place) → lie_in ranges p ≡ true → (p.server ≡ k) × (freed p ≡ false)

-- the bytes that an answer says were freed
abbrev pub collected_by : Answer → ℕ
collected_by (answer.Collected n) = n
collected_by a = 0

-- A collection punches such ranges on its server, of as many bytes as it answers where it does not fail; no other line punches one, or says so.
abbrev pub ArePunchedIn : (Place → Bool) → Line → Answer → List (ℕ × Range) → Type 0
ArePunchedIn freed (Ok (event.Collect k)) (answer.Collected n) ranges = AreFresh freed k ranges × (n ≡ ranges_len ranges)
ArePunchedIn freed (Ok (event.Collect k)) (answer.FaultPunch j) ranges = AreFresh freed k ranges
ArePunchedIn freed line a ranges = (ranges ≡ []) × (collected_by a ≡ 0)

-- They count as freed then; of those of a collection that failed the last one may not.
abbrev pub CountsIn : (old new : Place → Bool) → Answer → List (ℕ × Range) → Type 0
CountsIn old new (answer.FaultPunch k) ranges =
    (front last : List (ℕ × Range)) × (ranges ≡ front ++ last) × (length last ≤ 1) × ((p : Place) → new p ≡ (old p || lie_in front p))
CountsIn old new a ranges = (p : Place) → new p ≡ (old p || lie_in ranges p)

abbrev pub is_punch_fault : Answer → Bool
is_punch_fault (answer.FaultPunch k) = true
is_punch_fault a = false

-- how many lines answered that a collection failed
abbrev pub punch_fault_count : List Answer → ℕ
punch_fault_count [] = 0
punch_fault_count (a ∷ answers) = (if is_punch_fault a then 1 else 0) + punch_fault_count answers

-- the bytes that collections answered to have freed
abbrev pub collected_bytes : List Answer → ℕ
collected_bytes [] = 0
collected_bytes (a ∷ answers) = collected_by a + collected_bytes answers
