-- What contracts see of a source and a sink that have held back answers in common.
use Rattle.std.specs.Prelude.{◌≡◌, ℕ, List, [], Option, Some, None, IfSome}
use Rattle.std.specs.Io.KnownBytes.{Keeps}
use Rattle.wtf_dev.specs.Streams.{SourceView, SinkView}

-- the bytes that are held back, and all bytes, the written ones and behind them those held back, where they are told
pub record AnswersView : Type 0 where
  pub held : Option (List ℕ)
  pub all : Option (List ℕ)

-- all that was held back was written, and nothing else
abbrev pub IsWritten : AnswersView → AnswersView → Type 0
IsWritten old new = IfSome old.held (λ (held : List ℕ). new.held ≡ Some []) × Keeps old.all new.all

pub record SinkState : Type 0 where
  pub faults : ℕ
  pub answers : AnswersView

pub record SourceState : Type 0 where
  pub faults : ℕ
  pub given : ℕ
  pub rest : Option (List ℕ)
  pub answers : AnswersView

abbrev pub sink_view : SinkState → SinkView
sink_view s = record { faults = s.faults; taken = None }

abbrev pub source_view : SourceState → SourceView
source_view s = record { faults = s.faults; given = s.given; rest = s.rest }
