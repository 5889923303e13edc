-- What a run read of its script, and what it wrote, where source and sink tell it.
use Rattle.std.specs.Prelude.{◌≡◌, ◌≢◌, ◌⊎◌, ◌≤◌, ◌+◌, ℕ, Bool, true, false, List, [], ◌∷◌, ◌++◌, length, take, Option, Some}
use Rattle.wtf_model.specs.declared.answer.Answer.{Answer}
use Rattle.wtf_script.specs.declared.limits.TheConstants.{CHUNK_BYTES, SCRIPT_BYTES}
use Rattle.wtf_script.specs.ScriptLines.{lines_of, ended_of, fed}
use Rattle.wtf_serve.specs.Openings.{Opening}
use Rattle.wtf_serve.specs.Logs.{first_line, output}
use Rattle.wtf_serve.specs.Scripts.{IsWholeStatus, line_text}
use Rattle.wtf_serve.specs.Turns.{WroteFront}

-- so much of the script came as these lines with their line feeds, and one chunk at most
abbrev pub CameNoMore : List ℕ → Option (List ℕ) → List (List ℕ) → Type 0
CameNoMore script left lines =
    (came : List ℕ) × (rest : List ℕ) × (script ≡ came ++ rest) × (left ≡ Some rest) × (length came ≤ length (fed lines) + CHUNK_BYTES)

-- the lines that were answered, with the script's next one, if it has one
abbrev pub with_next : List ℕ → List (List ℕ) → List (List ℕ)
with_next script lines = take (length lines + 1) (lines_of script)

-- What was read of the script, where the source tells it, by the status that the run ended with
pub record HasRead (script : List ℕ) (left : Option (List ℕ)) (status : ℕ) (lines : List (List ℕ)) : Type 0 where
  -- the lines that were answered are the first ones
  pub front : (more : List (List ℕ)) × (lines_of script ≡ lines ++ more)
  -- 0, 1 and 5: all of them, and the script was read to its end
  pub whole : IsWholeStatus status → (lines ≡ lines_of script) × (left ≡ Some [])
  -- 3: each line that a line feed ended before the fault
  pub fault : status ≡ 3 → (came : List ℕ) × (rest : List ℕ) × (script ≡ came ++ rest) × (left ≡ Some rest) × (lines ≡ ended_of came)
  -- 4: with the lines that were answered, their line feeds and at most one chunk more
  pub unwritten : status ≡ 4 → CameNoMore script left lines
  -- 7: with those and the next line, their line feeds and at most one chunk more
  pub short : status ≡ 7 → CameNoMore script left (with_next script lines)
  -- 9: each line that a line feed ended within the limit
  pub too_much : status ≡ 9 → (came : List ℕ) × (b : ℕ) × (rest : List ℕ) × (script ≡ came ++ b ∷ rest) × (left ≡ Some rest) × (length came ≡ SCRIPT_BYTES)
      × (lines ≡ ended_of came)

-- a part of the text of the last answer was written, after all that comes before it
pub record IsCut (opening : Opening) (answers : List Answer) (old : List ℕ) (new : Option (List ℕ)) : Type 0 where
  pub earlier : List Answer
  pub last : Answer
  pub front : List ℕ
  pub back : List ℕ
  pub all : answers ≡ earlier ++ last ∷ []
  pub text : line_text last ≡ front ++ back
  pub new_is : new ≡ Some (old ++ (output opening earlier ++ front))

-- What was written, where the sink tells it: where the first line was written, all of the output, but with status 4 the
-- last line is cut, or all of it was taken and could not be brought out; else, with status 4, a part of the first line
pub record HasWritten (opening : Opening) (started : Bool) (status : ℕ) (answers : List Answer) (old : List ℕ) (new : Option (List ℕ)) : Type 0 where
  pub whole : started ≡ true → status ≢ 4 → new ≡ Some (old ++ output opening answers)
  pub cut : started ≡ true → status ≡ 4 → IsCut opening answers old new ⊎ (new ≡ Some (old ++ output opening answers))
  pub cut_first : started ≡ false → status ≡ 4 → WroteFront old (first_line opening) new
  pub nothing : started ≡ false → status ≢ 4 → new ≡ Some old
