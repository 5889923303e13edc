-- When the output of a run is lawful, and which line is the first that is not.
use Rattle.std.specs.Prelude.{◌≡◌, ◌≢◌, ◌⊎◌, ℕ, ◌+◌, List, [], ◌∷◌, ◌++◌, length, map, decimal, codes, Result, Ok, Err, All}
use Rattle.wtf_base.specs.declared.settings.Settings.{Settings}
use Rattle.wtf_model.specs.declared.event.Event.{Event}
use Rattle.wtf_model.specs.declared.answer.Kind.{Kind}
use Rattle.wtf_model.specs.declared.answer.Answer.{Answer}
use Rattle.wtf_model.specs.declared.answer.Answer.TheVariants as answer
use Rattle.wtf_model.specs.Tree.{root_alone}
use Rattle.wtf_model.specs.Machines.{Machine, start}
use Rattle.wtf_model.specs.Steps.{Accepts}
use Rattle.wtf_model.specs.Lines.{Line, MayLine, Along, machine_after, events_of, answers_to}
use Rattle.wtf_script.specs.ScriptLines.{line_feed, lines_of, fed, HasNoFeed}
use Rattle.wtf_script.specs.Grammar.{event_of}
use Rattle.wtf_print.specs.Texts.{text_of, settings_text}
use Rattle.wtf_print.specs.Forms.{IsWritable}
use Rattle.wtf_checker.specs.declared.verdict.Verdict.{Verdict}
use Rattle.wtf_checker.specs.declared.verdict.Verdict.TheVariants as verdict

-- an event, or the answer to a line that asks nothing: what is wrong with it
abbrev pub event_or_bad : Result Event Kind → Line
event_or_bad (Ok e) = Ok e
event_or_bad (Err k) = Err (answer.Bad k)

-- what a line asks
abbrev pub line_of : List ℕ → Line
line_of bytes = event_or_bad (event_of bytes)

-- what the lines of a script ask, one after another
abbrev pub asked_in : List ℕ → List Line
asked_in script = map line_of (lines_of script)

-- bytes begin with this line, which a line feed ends, and `rest` stands behind it
pub record BeginsWith (line rest bytes : List ℕ) : Type 0 where
  pub plain : HasNoFeed line
  pub bytes_are : bytes ≡ line ++ line_feed ∷ rest

-- the first line of an output: the settings, and that nothing was installed before
abbrev pub first_text : Settings → List ℕ
first_text s = settings_text s 0

-- an answer that a line can tell
pub record IsTold (a : Answer) : Type 0 where
  pub form : IsWritable a
  pub plain : HasNoFeed (text_of a)

-- the machine before the first line
abbrev pub first : Settings → Machine
first s = start s 0 root_alone

-- Bytes begin with a line for each of these answers, and `rest` stands behind them. The machine may give them to the lines of
-- the script, one after another.
pub record AreLawful (settings : Settings) (lines : List Line) (given : List Answer) (rest bytes : List ℕ) : Type 0 where
  pub told : All IsTold given
  pub bytes_are : bytes ≡ fed (map text_of given) ++ rest
  pub lawful : Along MayLine (first settings) lines given

-- The output of a run: the line of settings, and behind it an answer to each line of the script and nothing else.
pub record IsLawful (script output : List ℕ) : Type 0 where
  pub settings : Settings
  pub behind : List ℕ
  pub begins : BeginsWith (first_text settings) behind output
  pub given : List Answer
  pub are : AreLawful settings (asked_in script) given [] behind
  -- the machine accepts the lines' events with their answers
  pub accepts : Accepts (first settings) (events_of (asked_in script)) (answers_to (asked_in script) given)

-- bytes begin with no line that tells an answer which the machine may give
abbrev pub RefusesAnswer : Machine → Line → List ℕ → Type 0
RefusesAnswer m line bytes = (a : Answer) (rest : List ℕ) → IsTold a → BeginsWith (text_of a) rest bytes → MayLine m line a → ⊥

-- the next line is not answered lawfully; behind the last line something is left
abbrev pub IsStuck : Machine → List Line → List ℕ → Type 0
IsStuck m [] bytes = bytes ≢ []
IsStuck m (line ∷ lines) bytes = RefusesAnswer m line bytes

-- No settings begin the output
abbrev pub HasNoSettings : List ℕ → Type 0
HasNoSettings output = (s : Settings) (behind : List ℕ) → BeginsWith (first_text s) behind output → ⊥

-- k lines of the script are answered lawfully, and the next one is not
pub record IsLawfulFor (script output : List ℕ) (k : ℕ) : Type 0 where
  pub settings : Settings
  pub behind : List ℕ
  pub begins : BeginsWith (first_text settings) behind output
  pub front : List Line
  pub next : List Line
  pub lines_are : asked_in script ≡ front ++ next
  pub count : length front ≡ k
  pub given : List Answer
  pub rest : List ℕ
  pub are : AreLawful settings front given rest behind
  pub stuck : IsStuck (machine_after (first settings) front given) next rest

-- the first refused line: 0 is that of the settings, and one more than there are lines is what is left over
abbrev pub IsFirstRefused : List ℕ → List ℕ → ℕ → Type 0
IsFirstRefused script output k = ((k ≡ 0) × HasNoSettings output) ⊎ ((n : ℕ) × (k ≡ n + 1) × IsLawfulFor script output n)

abbrev pub IsVerdict : List ℕ → List ℕ → Verdict → Type 0
IsVerdict script output (verdict.Lawful n) = IsLawful script output × (n ≡ length (lines_of script))
IsVerdict script output (verdict.Refused k) = IsFirstRefused script output k

-- the line of a verdict
abbrev pub verdict_line : Verdict → List ℕ
verdict_line (verdict.Lawful n) = codes "yes " ++ decimal n ++ line_feed ∷ []
verdict_line (verdict.Refused k) = codes "no " ++ decimal k ++ line_feed ∷ []

-- The verdict of lawful or not is one: not both, and one line alone is the first refused
pub record IsOneVerdict (script output : List ℕ) : Type 0 where
  pub apart : IsLawful script output → (k : ℕ) → IsFirstRefused script output k → ⊥
  pub one : (k n : ℕ) → IsFirstRefused script output k → IsFirstRefused script output n → k ≡ n
