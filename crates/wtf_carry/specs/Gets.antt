-- The answers to the lines that read a file, and the bytes in them.
use Rattle.std.specs.Prelude.{
  ◌≡◌,
  ◌≢◌,
  ℕ,
  ◌+◌,
  ◌<◌,
  ◌≤◌,
  Bool,
  true,
  List,
  [],
  ◌∷◌,
  ◌++◌,
  length,
  take,
  codes,
  bytes_eq,
  map,
  Option,
  Some,
  None,
  Result,
  Ok,
  Err,
}
use Rattle.std.specs.List.{flat_map, All}
use Rattle.wtf_model.specs.declared.answer.Answer.{Answer}
use Rattle.wtf_model.specs.declared.answer.Answer.TheVariants as answer
use Rattle.wtf_carry.specs.declared.stop.Stop.{Stop}
use Rattle.wtf_carry.specs.declared.stop.Stop.TheVariants as stop
use Rattle.wtf_script.specs.declared.limits.TheConstants.{LINE_BYTES, SCRIPT_BYTES}
use Rattle.wtf_script.specs.ScriptLines.{lines_of}
use Rattle.wtf_script.specs.Reading.{Held}
use Rattle.wtf_print.specs.Texts.{text_of}
use Rattle.wtf_print.specs.Forms.{IsWritable}

-- the bytes that an answer shows
abbrev pub bytes_shown : Answer → List ℕ
bytes_shown (answer.Shown bytes) = bytes
bytes_shown a = []

abbrev pub all_shown : List Answer → List ℕ
all_shown answers = flat_map bytes_shown answers

-- the answers that the lines which read a file have where nothing is wrong: `begun`, `ok` and `data`
abbrev pub IsGood : Answer → Type 0
IsGood (answer.Begun n) = Unit {0}
IsGood answer.Okay = Unit {0}
IsGood (answer.Shown bytes) = Unit {0}
IsGood a = ⊥

-- the line that answers begin with
abbrev pub is_first : List ℕ → Bool
is_first line = bytes_eq (take 12 line) (codes "wtf servers ")

abbrev pub IsSettingsLine : List ℕ → Type 0
IsSettingsLine line = is_first line ≡ true

-- Lines, but for the first one, are the texts of answers in form
pub record AreAnswers (lines : List (List ℕ)) (answers : List Answer) : Type 0 where
  pub first : List ℕ
  pub begins : IsSettingsLine first
  pub lines_are : lines ≡ first ∷ map text_of answers
  pub writable : All IsWritable answers

-- The bytes of a file of this length were taken out of the answers
pub record Gets (len : ℕ) (lines : List (List ℕ)) (old : List ℕ) (new : Option (List ℕ)) : Type 0 where
  pub answers : List Answer
  pub are : AreAnswers lines answers
  pub good : All IsGood answers
  pub size : length (all_shown answers) ≡ len
  pub new_is : new ≡ Some (old ++ all_shown answers)

-- a line that can be read
abbrev pub IsShortLine : List ℕ → Type 0
IsShortLine line = length line ≤ LINE_BYTES

-- Lines that can be read are not the answers to the reads of a file of this length
abbrev pub NoneGets : ℕ → List (List ℕ) → Type 0
NoneGets len lines = (answers : List Answer) → AreAnswers lines answers → All IsGood answers → All IsShortLine lines → length (all_shown answers) ≢ len

-- where a sink tells what it has, these bytes were added
abbrev pub Adds : List ℕ → Option (List ℕ) → Option (List ℕ) → Type 0
Adds bytes before now = (old : List ℕ) → before ≡ Some old → now ≡ Some (old ++ bytes)

-- a line was taken, and the bytes that it shows written
pub record Takes (line : List ℕ) (n : ℕ) (before now : Option (List ℕ)) : Type 0 where
  pub answer : Answer
  pub is : text_of answer ≡ line
  pub writable : IsWritable answer
  pub good : IsGood answer
  pub size : n ≡ length (bytes_shown answer)
  pub adds : Adds (bytes_shown answer) before now

-- A line is that of no such answer, or it shows more than is left
abbrev pub NoneTakes : List ℕ → ℕ → Type 0
NoneTakes line left = (a : Answer) → text_of a ≡ line → IsWritable a → IsGood a → left < length (bytes_shown a)

-- once the end was seen nothing is left
abbrev pub NoneBehindEnd : Held → List ℕ → Type 0
NoneBehindEnd held rest = held.ended ≡ true → held.bytes ++ rest ≡ []

-- a line was read of what was held and left
pub record ComesLine (line : List ℕ) (old : Held) (rest : List ℕ) (new : Held) (left : Option (List ℕ)) : Type 0 where
  pub then : List ℕ
  pub left_is : left ≡ Some then
  pub lines_are : lines_of (old.bytes ++ rest) ≡ line ∷ lines_of (new.bytes ++ then)
  pub over : NoneBehindEnd new then
  pub count : length then + new.count ≡ length rest + old.count

-- what came of asking for a line
abbrev pub Comes : Held → List ℕ → Held → Option (List ℕ) → Result (Option (List ℕ)) Stop → Type 0
Comes old rest new left (Ok (Some line)) = ComesLine line old rest new left
Comes old rest new left (Ok None) = lines_of (old.bytes ++ rest) ≡ []
Comes old rest new left (Err stop.Wrong) = (line : List ℕ) × (LINE_BYTES < length line) × ComesLine line old rest new left
Comes old rest new left (Err stop.TooLong) = SCRIPT_BYTES < length rest + old.count
Comes old rest new left (Err why) = Unit {0}

-- so far these answers were taken
pub record GetSofar (len left : ℕ) (script : List ℕ) (held : Held) (from before now : Option (List ℕ)) : Type 0 where
  pub first : List ℕ
  pub answers : List Answer
  pub rest : List ℕ
  pub begins : IsSettingsLine first
  pub from_is : from ≡ Some rest
  pub lines_are : lines_of script ≡ first ∷ (map text_of answers ++ lines_of (held.bytes ++ rest))
  pub over : NoneBehindEnd held rest
  pub count : length rest + held.count ≡ length script
  pub writable : All IsWritable answers
  pub good : All IsGood answers
  pub size : length (all_shown answers) + left ≡ len
  pub adds : Adds (all_shown answers) before now
