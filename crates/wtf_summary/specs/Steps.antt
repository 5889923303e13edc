-- What a byte, and the summary, make of what is kept.
use Rattle.std.specs.Prelude.{◌≡◌, ◌⊎◌, ℕ, ◌≤◌, List, [], ◌∷◌, ◌++◌, Some, Result, Ok, Err, MatchResult}
use Rattle.wtf_dev.specs.Counts.{Rose, risen}
use Rattle.wtf_dev.specs.Streams.{SinkView}
use Rattle.wtf_summary.specs.States.{SinkStands}
use Rattle.wtf_summary.specs.declared.state.State.{State}

-- the byte was taken, or a fault was counted
abbrev pub TookByte : {E : Type 0} → State → State → ℕ → Result (Unit {0}) E → Type 0
TookByte old new byte (Ok u) = (new.trace.text.numbers ≡ old.trace.text.numbers ++ byte ∷ []) × (new.faults ≡ old.faults)
TookByte old new byte (Err e) = (new.trace.text.numbers ≡ old.trace.text.numbers) × (new.faults ≡ risen old.faults)

-- the run goes on with what it began with, and the byte was taken, or a fault was counted
pub record TakesByte {E : Type 0} (now : SinkView) (old new : State) (byte : ℕ) (result : Result (Unit {0}) E) : Type 0 where
  pub sound : SinkStands now new
  pub lines : new.lines ≡ old.lines
  pub first : new.trace.first.numbers ≡ old.trace.first.numbers
  pub took : TookByte old new byte result
  -- what is missing of the text is what was missing, or this byte
  pub more : (new.trace.more.numbers ≡ old.trace.more.numbers) ⊎ (new.trace.more.numbers ≡ byte ∷ [])

-- the other sink brought out what it holds back, or a fault was counted; no byte was taken
pub record BringsOut {E : Type 0} (now : SinkView) (old new : State) (result : Result (Unit {0}) E) : Type 0 where
  pub sound : SinkStands now new
  pub lines : new.lines ≡ old.lines
  pub first : new.trace.first.numbers ≡ old.trace.first.numbers
  pub text : new.trace.text.numbers ≡ old.trace.text.numbers
  pub faults : MatchResult result (λ u. new.faults ≡ old.faults) (λ e. new.faults ≡ risen old.faults)

-- the summary, which this byte completed, was shown whole
abbrev pub ShowedWhole : SinkView → SinkView → List ℕ → State → State → Type 0
ShowedWhole before now summary old new =
    (new.trace.seen.numbers ≡ old.trace.seen.numbers ++ summary) × (new.trace.rest.numbers ≡ old.trace.rest.numbers)
    × (new.trace.more.numbers ≡ old.trace.more.numbers) × (new.faults ≡ old.faults)
    × ((l : List ℕ) → before.taken ≡ Some l → now.taken ≡ Some (l ++ summary)) × (now.faults ≡ before.faults)

-- or its front was, and then a fault was counted
abbrev pub ShowedFront : SinkView → SinkView → List ℕ → ℕ → State → State → Type 0
ShowedFront before now summary last old new =
    (new.trace.seen.numbers ++ new.trace.rest.numbers ≡ old.trace.seen.numbers ++ summary)
    × (new.trace.more.numbers ≡ last ∷ []) × (new.faults ≡ risen old.faults) × Rose before.faults now.faults

-- what a summary that was written makes of what is kept
pub record ShowsSummary {E : Type 0} (before now : SinkView) (summary : List ℕ) (last : ℕ) (old new : State) (result : Result (Unit {0}) E) : Type 0 where
  pub lines : new.lines ≡ old.lines
  pub begun : new.begun ≡ old.begun
  pub tally : new.tally ≡ old.tally
  pub first : new.trace.first ≡ old.trace.first
  pub text : new.trace.text ≡ old.trace.text
  pub counted : before.faults ≤ now.faults
  pub added : (b : List ℕ) → before.taken ≡ Some (b ++ old.trace.seen.numbers) → now.taken ≡ Some (b ++ new.trace.seen.numbers)
  pub showed : MatchResult result (λ u. ShowedWhole before now summary old new) (λ e. ShowedFront before now summary last old new)
