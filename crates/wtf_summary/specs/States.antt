-- What a sink that sums up keeps, beside the sink that it shows on.
use Rattle.std.specs.Prelude.{◌≡◌, ℕ, ◌^◌, ◌<◌, ◌≤◌, ◌⊎◌, nat_lt, List, [], ◌∷◌, ◌++◌, Some}
use Rattle.std.proofs.Common.{inl, inr, sym, ◌∙◌}
use Rattle.std.proofs.Props.{props}
use Rattle.wtf_dev.specs.Counts.{Rose}
use Rattle.wtf_dev.specs.Streams.{SinkView}
use Rattle.wtf_script.specs.ScriptLines.{line_feed}
use Rattle.wtf_summary.specs.Summaries.{feeds, behind_first, front_lines, shown_text}
use Rattle.wtf_summary.specs.Traces.{numbers_of, mark}
use Rattle.wtf_summary.specs.Tallies.{Tallies, Tallies_prop}
use Rattle.wtf_summary.specs.declared.state.State.{State}

-- The other sink is so now: what it took since the run began, and what is missing of it, is what is shown of the text,
-- of all of it where nothing failed, and else of it and a line feed at most; its faults stood still where nothing failed, and
-- else rose.
pub record SinkStands (now : SinkView) (state : State) : Type 0 where
  pub some : 1 ≤ state.lines
  pub few : state.lines < 2 ^ 64
  pub begun : state.begun ≡ nat_lt 0 (feeds state.trace.text.numbers)
  pub tally : state.faults ≡ 0 → Tallies state.tally (front_lines state.lines (behind_first state.trace.text.numbers))
  pub shows : state.trace.seen.numbers ++ state.trace.rest.numbers ≡ shown_text state.lines (state.trace.text.numbers ++ state.trace.more.numbers)
  pub all : state.faults ≡ 0 → state.trace.rest.numbers ≡ []
  pub whole : state.faults ≡ 0 → state.trace.more.numbers ≡ []
  pub ended : (state.trace.more.numbers ≡ []) ⊎ (state.trace.more.numbers ≡ line_feed ∷ [])
  pub added : (old : SinkView) (before : List ℕ) → state.trace.first.numbers ≡ numbers_of old → old.taken ≡ Some before → now.taken ≡ Some (before ++ state.trace.seen.numbers)
  pub counted : (old : SinkView) → state.trace.first.numbers ≡ numbers_of old → old.faults ≤ now.faults
  pub still : (old : SinkView) → state.trace.first.numbers ≡ numbers_of old → state.faults ≡ 0 → now.faults ≡ old.faults
  pub rose : (old : SinkView) → state.trace.first.numbers ≡ numbers_of old → 0 < state.faults → Rose old.faults now.faults

-- what is told of the bytes that were taken: the mark of the sink with this name, and the bytes
abbrev pub told : ℕ → State → List ℕ
told name state = mark name state.lines state.trace.first.numbers ++ state.trace.text.numbers

equal_prop : (xs ys : List ℕ) → IsProp (xs ≡ ys)
equal_prop xs ys = hlevel props

-- no byte is no line feed
ended_prop : (more : List ℕ) → IsProp ((more ≡ []) ⊎ (more ≡ line_feed ∷ []))
ended_prop more (inl p) (inl q) = λ i. inl (equal_prop more [] p q i)
ended_prop more (inl p) (inr q) = let both : [] ≡ line_feed ∷ [] = sym p ∙ q in absurd (cc)
ended_prop more (inr p) (inl q) = let both : [] ≡ line_feed ∷ [] = sym q ∙ p in absurd (cc)
ended_prop more (inr p) (inr q) = λ i. inr (equal_prop more (line_feed ∷ []) p q i)

pub SinkStands_prop : (now : SinkView) (state : State) → IsProp (SinkStands now state)
SinkStands_prop now state = hlevel (props, Tallies_prop, ended_prop)
