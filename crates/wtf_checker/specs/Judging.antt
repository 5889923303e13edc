-- What the machine says of the answer to a line, and of the answers to a script.
use Rattle.std.specs.Prelude.{◌≡◌, ◌≤◌, ◌+◌, ℕ, List, [], ◌∷◌, length, map, Option, Some, None, Result, Ok, Err}
use Rattle.wtf_dev.specs.Streams.{SourceView}
use Rattle.wtf_model.specs.declared.answer.Answer.{Answer}
use Rattle.wtf_base.specs.declared.settings.Settings.{Settings}
use Rattle.wtf_script.specs.Reading.{Held}
use Rattle.wtf_model.specs.Machines.{Machine}
use Rattle.wtf_model.specs.Lines.{Line, MayLine, after_line, machine_after}
use Rattle.wtf_model.specs.Same.{AreSame}
use Rattle.wtf_print.specs.Texts.{text_of}
use Rattle.wtf_print.specs.Forms.{IsWritable}
use Rattle.wtf_checker.specs.declared.stop.Stop.{Stop}
use Rattle.wtf_checker.specs.declared.verdict.Verdict.{Verdict}
use Rattle.wtf_checker.specs.declared.verdict.Verdict.TheVariants as verdict
use Rattle.wtf_checker.specs.Lawful.{BeginsWith, IsTold, IsVerdict, AreLawful, first, first_text, line_of}
use Rattle.wtf_checker.specs.Reading.{IsReading}

-- the first line of the bytes tells an answer that the machine may give to the line, and it is the machine behind it
pub record IsAnswered (m : Machine) (line : Line) (bytes rest : List ℕ) (next : Machine) : Type 0 where
  pub answer : Answer
  pub told : IsTold answer
  pub begins : BeginsWith (text_of answer) rest bytes
  pub may : MayLine m line answer
  pub next_is : next ≡ after_line m line answer

-- what the machine counts is at most this
pub record IsWithin (most : ℕ) (m : Machine) : Type 0 where
  pub number : m.number ≤ most
  pub stamps : m.next_stamp ≤ most
  pub scans : m.scans ≤ most

-- a verdict on an output by the script that the source tells
abbrev pub Judges : SourceView → List ℕ → Result Verdict Stop → Type 0
Judges start output (Ok v) = (script : List ℕ) → start.rest ≡ Some script → IsVerdict script output v
Judges start output (Err why) = Unit {0}

-- the answer that a line tells; where there is none, no answer in form has this text
abbrev pub IsAnswerOf : List ℕ → Option Answer → Type 0
IsAnswerOf text (Some b) = IsWritable b × (text_of b ≡ text) × ((a : Answer) → IsWritable a → text_of a ≡ text → AreSame a b)
IsAnswerOf text None = (a : Answer) → IsWritable a → text_of a ≡ text → ⊥

-- the verdict behind the last of so many lines
abbrev pub end_of : ℕ → List ℕ → Verdict
end_of lines [] = verdict.Lawful lines
end_of lines (b ∷ bs) = verdict.Refused (lines + 1)

-- where the reading of a script stands: what is seen of the source now, and what the reader holds of it
pub record Place : Type 0 where
  pub source : SourceView
  pub held : Held

abbrev pub place : SourceView → Held → Place
place source held = record { source = source; held = held }

-- so many lines of the script were read, and answered lawfully; the machine is `m` now, and `left` stands behind their answers
pub record IsLawfulSoFar (start : SourceView) (now : Place) (settings : Settings) (output left : List ℕ) (n : ℕ) (m : Machine) : Type 0 where
  pub lines : List (List ℕ)
  pub reading : IsReading start now.source now.held lines
  pub count : n ≡ length lines
  pub behind : List ℕ
  pub begins : BeginsWith (first_text settings) behind output
  pub given : List Answer
  pub are : AreLawful settings (map line_of lines) given left behind
  pub machine_is : m ≡ machine_after (first settings) (map line_of lines) given
