-- What reading the next line of a script gives, where the source tells its bytes.
use Rattle.std.specs.Prelude.{◌≡◌, ◌⊎◌, ◌↔◌, ◌<◌, ◌≤◌, ◌+◌, ◌-◌, ◌^◌, ℕ, min, Bool, true, false, cond, nat_lt, List, [], ◌∷◌, ◌++◌, length, take, Option, Some, None, Result, Ok, Err}
use Rattle.std.specs.Bool.{MatchBool}
use Rattle.wtf_base.specs.declared.memory.OutOfMemory.{OutOfMemory}
use Rattle.wtf_dev.specs.Counts.{Rose}
use Rattle.wtf_dev.specs.Streams.{SourceView}
use Rattle.wtf_script.specs.declared.limits.TheConstants.{SCRIPT_BYTES, LINE_BYTES, CHUNK_BYTES}
use Rattle.wtf_script.specs.declared.lines.Line.{Line}
use Rattle.wtf_script.specs.declared.lines.Line.TheVariants as line
use Rattle.wtf_script.specs.declared.error.ReadError.{ReadError}
use Rattle.wtf_script.specs.declared.error.ReadError.TheVariants as read_error
use Rattle.wtf_script.specs.ScriptLines.{line_feed, HasNoFeed}

-- What a reader has: bytes that were read and are of no line yet, how many bytes it has read in all, and whether the
-- source's end was seen
pub record Held : Type 0 where
  pub bytes : List ℕ
  pub count : ℕ
  pub ended : Bool

-- The first line of the bytes that were left, and those that are left then: a line feed ends it, or the source's end
pub record IsFirstLine (line before after : List ℕ) (ended : Bool) : Type 0 where
  pub plain : HasNoFeed line
  pub left : ((before ≡ line ++ line_feed ∷ after) × (ended ≡ false)) ⊎ ((before ≡ line) × (0 < length line) × (after ≡ []) × (ended ≡ true))

-- A line was read; the reader held `old` and now holds `new`, and the source had `rest` and has `left`
abbrev pub ReadsLine : List ℕ → Held → List ℕ → Held → Option (List ℕ) → Type 0
ReadsLine line old rest new left =
    (then : List ℕ) × (left ≡ Some then) × IsFirstLine line (old.bytes ++ rest) (new.bytes ++ then) new.ended

-- The end: it was seen before, or nothing is left
abbrev pub ReadsEnd : Held → List ℕ → Held → Option (List ℕ) → Type 0
ReadsEnd old rest new left =
    (new.ended ≡ true) × (new.bytes ≡ []) × MatchBool old.ended (left ≡ Some rest) ((old.bytes ++ rest ≡ []) × (left ≡ Some []))

-- Some bytes came, and among those and the ones held there is no line feed; then the source failed
abbrev pub ReadsFault : Held → List ℕ → Option (List ℕ) → Type 0
ReadsFault old rest left =
    (came : List ℕ) × (then : List ℕ) × (rest ≡ came ++ then) × (left ≡ Some then) × HasNoFeed (old.bytes ++ came)

-- Some bytes came up to the limit, without a line feed among those and the ones held, and one byte more; nothing more
-- is read where that many came before
abbrev pub ReadsTooMuch : Held → List ℕ → Option (List ℕ) → Type 0
ReadsTooMuch old rest left = MatchBool (nat_lt SCRIPT_BYTES old.count) (left ≡ Some rest)
    ((came : List ℕ) × (b : ℕ) × (then : List ℕ) × (rest ≡ came ++ b ∷ then) × (left ≡ Some then) × HasNoFeed (old.bytes ++ came))

-- Memory ran out while a line was put together: some bytes came, and of those and the ones held the first are gone, without a line feed
-- among them
abbrev pub ReadsShort : Held → List ℕ → Held → Option (List ℕ) → Type 0
ReadsShort old rest new left =
    (came : List ℕ) × (then : List ℕ) × (gone : List ℕ) × (rest ≡ came ++ then) × (left ≡ Some then) × (old.bytes ++ came ≡ gone ++ new.bytes) × HasNoFeed gone

abbrev pub Reads : Held → List ℕ → Held → Option (List ℕ) → Result (Option Line) ReadError → Type 0
Reads old rest new left (Ok (Some (line.Whole bytes))) = (length bytes ≤ LINE_BYTES) × ReadsLine bytes old rest new left
Reads old rest new left (Ok (Some line.Long)) = (bytes : List ℕ) × (LINE_BYTES < length bytes) × ReadsLine bytes old rest new left
Reads old rest new left (Ok None) = ReadsEnd old rest new left
Reads old rest new left (Err read_error.Failed) = ReadsFault old rest left
Reads old rest new left (Err read_error.TooMuch) = ReadsTooMuch old rest left
Reads old rest new left (Err read_error.Memory) = ReadsShort old rest new left

-- the result is a line, given or too long
abbrev pub IsLine : Result (Option Line) ReadError → Type 0
IsLine (Ok (Some l)) = Unit {0}
IsLine (Ok None) = ⊥
IsLine (Err e) = ⊥

-- how much there may still be to read, to give and to see: each line lowers it
abbrev pub work : Held → ℕ
work held = (SCRIPT_BYTES - held.count) + length held.bytes + cond held.ended 0 1

-- what a source that tells its bytes lost was read
abbrev pub Counts : Held → Held → SourceView → SourceView → Type 0
Counts old new before after = (rest left : List ℕ) → before.rest ≡ Some rest → after.rest ≡ Some left →
    length rest + old.count ≡ length left + new.count

-- what a source gave was read; its count stands still at the greatest 64-bit number
abbrev pub Draws : Held → Held → SourceView → SourceView → Type 0
Draws old new before after = before.given ≤ 2 ^ 64 - 1 →
    after.given ≡ min (before.given + (new.count - old.count)) (2 ^ 64 - 1)

-- One read, of a source that had `rest`, by a reader that held nothing and holds `held` now
abbrev pub Refills : List ℕ → List ℕ → Option (List ℕ) → Result Bool ReadError → Type 0
Refills rest held left (Ok true) = (then : List ℕ) × (rest ≡ held ++ then) × (left ≡ Some then)
Refills rest held left (Ok false) = (rest ≡ []) × (left ≡ Some [])
Refills rest held left (Err read_error.Failed) = left ≡ Some rest
Refills rest held left (Err read_error.TooMuch) = (b : ℕ) × (then : List ℕ) × (rest ≡ b ∷ then) × (left ≡ Some then)
Refills rest held left (Err read_error.Memory) = ⊥

-- What one read leaves, and counts, by its result; the reader held nothing before it
pub record IsRefilled (old new : Held) (before after : SourceView) (result : Result Bool ReadError) : Type 0 where
  pub counted : Counts old new before after
  pub given : Draws old new before after
  pub held : new.count ≡ old.count + length new.bytes
  pub limit : new.count ≤ SCRIPT_BYTES + 1
  pub few : length new.bytes ≤ CHUNK_BYTES
  pub some : result ≡ Ok true → (0 < length new.bytes) × (new.count ≤ SCRIPT_BYTES) × (new.ended ≡ false)
  pub none : result ≡ Ok false → (new.bytes ≡ []) × (new.ended ≡ true)
  pub over : result ≡ Err read_error.TooMuch ↔ (new.count ≡ SCRIPT_BYTES + 1)
  pub fault : result ≡ Err read_error.Failed → new.bytes ≡ []
  pub faults : before.faults ≤ after.faults
  pub cause : result ≡ Err read_error.Failed → Rose before.faults after.faults

-- Bytes held go onto a line, of which one byte more than it may have is kept: up to a line feed, or all of them; without memory none goes
abbrev pub Parts : List ℕ → List ℕ → List ℕ → List ℕ → Result Bool OutOfMemory → Type 0
Parts old line left now (Ok true) =
    (bytes : List ℕ) × (old ≡ bytes ++ line_feed ∷ left) × (now ≡ take (LINE_BYTES + 1) (line ++ bytes)) × HasNoFeed bytes
Parts old line left now (Ok false) = (left ≡ []) × (now ≡ take (LINE_BYTES + 1) (line ++ old)) × HasNoFeed old
Parts old line left now (Err e) = left ≡ old
