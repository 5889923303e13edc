-- What the definitions say of lines that run alone and where nothing fails: what each is answered, and what stands then.
use Rattle.std.specs.Prelude.{◌≡◌, ◌≢◌, ◌⊎◌, ℕ, ◌^◌, ◌<◌, ◌≤◌, List, [], ◌∷◌, ◌++◌, length, map, All, Option, Some, None}
use Rattle.std.specs.FinMap.{get}
use Rattle.hex.specs.Hex.{IsBytes}
use Rattle.wtf_model.specs.declared.event.Verb.TheVariants as verb
use Rattle.wtf_model.specs.declared.event.Event.{Event}
use Rattle.wtf_model.specs.declared.event.Event.TheVariants as event
use Rattle.wtf_model.specs.declared.answer.Answer.{Answer}
use Rattle.wtf_model.specs.declared.answer.Answer.TheVariants as answer
use Rattle.wtf_model.specs.Tree.{PathSet, only_path, Tree, Dir, File, root}
use Rattle.wtf_model.specs.Session.{Session, fresh}
use Rattle.wtf_model.specs.Call.{call}
use Rattle.wtf_path.specs.Grammar.{IsPath}
use Rattle.wtf_print.specs.Texts.{text_of}
use Rattle.wtf_carry.specs.Asked.{Asked}
use Rattle.wtf_carry.specs.Puts.{Puts, put_lines}
use Rattle.wtf_carry.specs.Reads.{ReadsWholeFile, read_lines}
use Rattle.wtf_carry.specs.Gets.{IsSettingsLine, IsShortLine, Gets, NoneGets}

-- the tree, and what the open transaction sees
pub record Stand : Type 0 where
  pub now : Tree
  pub seen : Session

-- what stands after a line: `begin` and `abort` see the tree, `try` stores what was seen
abbrev pub after_line : ℕ → Stand → Event → Stand
after_line cap w (event.Client c verb.Begin) = record w { seen = fresh w.now }
after_line cap w (event.Client c verb.Abort) = record w { seen = fresh w.now }
after_line cap w (event.Client c verb.Try) = record { now = w.seen.tree; seen = fresh w.seen.tree }
after_line cap w (event.Client c (verb.Call o)) = record w { seen = (call cap w.seen o).session }
after_line cap w e = w

abbrev pub after_lines : ℕ → Stand → List Asked → Stand
after_lines cap w [] = w
after_lines cap w (line ∷ lines) = after_lines cap (after_line cap w line.event) lines

-- what a line is answered: a call what the definitions say
abbrev pub IsAnswer : ℕ → Stand → Event → Answer → Type 0
IsAnswer cap w (event.Client c verb.Begin) a = (n : ℕ) × (n < 2 ^ 64) × (a ≡ answer.Begun n)
IsAnswer cap w (event.Client c verb.Try) a = (n : ℕ) × (n < 2 ^ 64) × (a ≡ answer.Committed n)
IsAnswer cap w (event.Client c (verb.Call o)) a = a ≡ (call cap w.seen o).answer
IsAnswer cap w e a = a ≡ answer.Okay

abbrev pub AreAnswersTo : ℕ → Stand → List Asked → List Answer → Type 0
AreAnswersTo cap w [] [] = Unit {0}
AreAnswersTo cap w (line ∷ lines) (a ∷ answers) = IsAnswer cap w line.event a × AreAnswersTo cap (after_line cap w line.event) lines answers
AreAnswersTo cap w lines answers = ⊥

-- what `get` says of these lines: it gives these bytes, and does not refuse them
pub record IsGot (file : List ℕ) (lines : List (List ℕ)) : Type 0 where
  pub bytes : (old : List ℕ) (new : Option (List ℕ)) → Gets (length file) lines old new → new ≡ Some (old ++ file)
  pub right : NoneGets (length file) lines → ⊥

-- a file of these bytes stands at a path
abbrev pub HasFile : Tree → List ℕ → List ℕ → Type 0
HasFile t path file = (paths : PathSet) × (get t path ≡ Some (File paths file))

-- The lines that `reads` writes for a file of this length are answered so that `get` gives its bytes
abbrev pub ReadIsGot : Type 0
ReadIsGot =
    (cap : ℕ) (w : Stand) (path file old first : List ℕ) (new : Option (List ℕ)) (r : ReadsWholeFile path (length file) old new) (answers : List Answer)
    → HasFile w.now path file → IsBytes file → length file ≤ cap → IsSettingsLine first → IsShortLine first
    → AreAnswersTo cap w (read_lines path r.sizes) answers → IsGot file (first ∷ map text_of answers)

-- a file stands at a path, which is its only one, and all else as it was but for the directories that it stands in
pub record IsFilePut (path file : List ℕ) (up : List (List ℕ)) (old new : Tree) : Type 0 where
  pub file_is : get new path ≡ Some (File (only_path path) file)
  pub others : (q : List ℕ) → q ≢ path → All (λ d. q ≢ d) up → get new q ≡ get old q

-- nothing stands there, or a directory
abbrev pub IsWay : Tree → List ℕ → Type 0
IsWay t d = (get t d ≡ None) ⊎ (get t d ≡ Some Dir)

-- The lines that `put` writes store the file, where no file stands at the path or on the way to it
abbrev pub PutIsStored : Type 0
PutIsStored =
    (cap : ℕ) (w : Stand) (path file old : List ℕ) (new : Option (List ℕ)) (p : Puts path file old new)
    → IsPath path → get w.now root ≡ Some Dir → get w.now path ≡ None → All (IsWay w.now) p.up → length file ≤ cap
    → IsFilePut path file p.up w.now (after_lines cap w (put_lines path p.up p.pieces)).now

-- What the lines of `put` stored, the lines of `reads` and `get` give again
abbrev pub PutIsGot : Type 0
PutIsGot =
    (cap : ℕ) (w : Stand) (path file old before first : List ℕ) (new now : Option (List ℕ)) (p : Puts path file old new)
    (r : ReadsWholeFile path (length file) before now) (answers : List Answer)
    → IsPath path → get w.now root ≡ Some Dir → get w.now path ≡ None → All (IsWay w.now) p.up → length file ≤ cap → IsBytes file → IsSettingsLine first
    → IsShortLine first
    → AreAnswersTo cap (after_lines cap w (put_lines path p.up p.pieces)) (read_lines path r.sizes) answers → IsGot file (first ∷ map text_of answers)
