-- A quiet ending, line by line: how far one has come is how far the state has, and what it has collected stays so.
use Rattle.std.proofs.Common.{◌≡◌, ℕ, List, [], ◌∷◌, ◌++◌, length, Option, None, Some, Ok, refl, sym, ◌∙◌, ap, subst}
use Rattle.std.proofs.lemmas.List.{append_assoc}
use Rattle.wtf_model.specs.declared.answer.Answer.{Answer}
use Rattle.wtf_model.specs.declared.answer.Answer.TheVariants as answer
use Rattle.wtf_model.specs.declared.event.Event.TheVariants as event
use Rattle.wtf_model.specs.Lines.{Line, machine_after}
use Rattle.wtf_model.specs.Machines.{Machine}
use Rattle.wtf_model.specs.Tree.{Tree}
use Rattle.wtf_core.specs.Quiet.{IsIdle, Stage, Saved, ScannedTwice}
use Rattle.wtf_serve.specs.Engines.{Engine, Step, IsLineLawful, IsToldAnswer}
use Rattle.wtf_serve.specs.Logs.{Log, asked, last}
use Rattle.wtf_serve.specs.Openings.{Opening, first}
use Rattle.wtf_serve.specs.Quiet.{HasQuietEnding, line_stage, lines_stage}

-- a log ends with a save, behind lines after which nothing of the machine is open, and with lines that bring a quiet ending so far
pub record EndsAt (opening : Opening) (t : Tree) (log : Log) (s : Stage) : Type 0 where
  pub front : List Line
  pub scans : List Line
  pub answers : List Answer
  pub scanned : List Answer
  pub saved : ℕ
  pub asked_are : asked log ≡ front ++ Ok event.Save ∷ scans
  pub answers_are : log.answers ≡ answers ++ answer.Saved saved ∷ scanned
  pub each : length answers ≡ length front
  pub idle : IsIdle (machine_after (first opening t) front answers)
  pub comes : lines_stage (Some Saved) scans scanned ≡ Some s

-- what the state knows of it
abbrev pub QuietSoFar : {S State : Type 0} → Engine S State → Opening → Tree → Log → List S → State → Type 0
QuietSoFar engine opening t log shelf state = (s : Stage) → EndsAt opening t log s → engine.quiet s shelf state

-- a log of no line ends with none
none_ends : {A : Type 0} (front more : List A) (x : A) → [] ≡ front ++ x ∷ more → ⊥
none_ends [] more x e = cc
none_ends (z ∷ front) more x e = cc

pub quiet_none : {S State : Type 0} (engine : Engine S State) (opening : Opening) (t : Tree) (shelf : List S) (state : State)
    → QuietSoFar engine opening t (record { lines = []; answers = [] }) shelf state
quiet_none engine opening t shelf state s h = absurd (none_ends h.front h.scans (Ok event.Save) h.asked_are)

pub collected_none : {S State : Type 0} (engine : Engine S State) (opening : Opening) (t : Tree) (shelf : List S) (state : State) (k : ℕ)
    → HasQuietEnding opening t (record { lines = []; answers = [] }) k → engine.collected k shelf state
collected_none engine opening t shelf state k h = absurd (none_ends h.front (h.scans ++ Ok (event.Collect k) ∷ h.rest) (Ok event.Save) h.asked_are)

-- lists with one element more are the same where the lists and the elements are
push_same : {A : Type 0} (xs ys : List A) (x y : A) → xs ++ x ∷ [] ≡ ys ++ y ∷ [] → (xs ≡ ys) × (x ≡ y)
push_same [] [] x y e = (refl, cc)
push_same [] (z ∷ []) x y e = absurd (cc)
push_same [] (z ∷ w ∷ ys) x y e = absurd (cc)
push_same (z ∷ []) [] x y e = absurd (cc)
push_same (z ∷ w ∷ xs) [] x y e = absurd (cc)
push_same (z ∷ xs) (w ∷ ys) x y e = let both = push_same xs ys x y (cc) in (cc, both.1)

-- the last of lines that bring a quiet ending from one stage to another, with its answer
record LastLine (from s : Stage) (lines : List Line) (answers : List Answer) : Type 0 where
  front : List Line
  line : Line
  back : List Answer
  answer : Answer
  before : Stage
  lines_are : lines ≡ front ++ line ∷ []
  answers_are : answers ≡ back ++ answer ∷ []
  comes : lines_stage (Some from) front back ≡ Some before
  on : line_stage before line answer ≡ Some s

last_of : (from s : Stage) (line : Line) (lines : List Line) (answers : List Answer) → lines_stage (Some from) (line ∷ lines) answers ≡ Some s
    → LastLine from s (line ∷ lines) answers
last_of from s line lines [] is = absurd (cc)
last_of from s line [] (a ∷ []) is = by (line_stage from line a) refl is
  where
    by : (o : Option Stage) → line_stage from line a ≡ o → lines_stage o [] [] ≡ Some s → LastLine from s (line ∷ []) (a ∷ [])
    by None e is = absurd (cc)
    by (Some x) e is = record {
      front = [];
      line = line;
      back = [];
      answer = a;
      before = from;
      lines_are = refl;
      answers_are = refl;
      comes = refl;
      on = e ∙ is;
    }
last_of from s line [] (a ∷ b ∷ answers) is = absurd (by (line_stage from line a) is)
  where
    by : (o : Option Stage) → lines_stage o [] (b ∷ answers) ≡ Some s → ⊥
    by None is = cc
    by (Some x) is = cc
last_of from s line (next ∷ lines) (a ∷ answers) is = by (line_stage from line a) refl is (λ x on. last_of x s next lines answers on)
  where
    by : (o : Option Stage) → line_stage from line a ≡ o → lines_stage o (next ∷ lines) answers ≡ Some s
        → ((x : Stage) → lines_stage (Some x) (next ∷ lines) answers ≡ Some s → LastLine x s (next ∷ lines) answers)
        → LastLine from s (line ∷ next ∷ lines) (a ∷ answers)
    by None e is later = absurd (cc)
    by (Some x) e is later =
        let more = later x is in
        record {
          front = line ∷ more.front;
          line = more.line;
          back = a ∷ more.back;
          answer = more.answer;
          before = more.before;
          lines_are = ap (λ (ls : List Line). line ∷ ls) more.lines_are;
          answers_are = ap (λ (xs : List Answer). a ∷ xs) more.answers_are;
          comes = ap (λ (o : Option Stage). lines_stage o more.front more.back) e ∙ more.comes;
          on = more.on;
        }

-- where there is no line there is no answer, and the stage stays
no_line : (from s : Stage) (answers : List Answer) → lines_stage (Some from) [] answers ≡ Some s → (answers ≡ []) × (from ≡ s)
no_line from s [] is = (refl, cc)
no_line from s (a ∷ answers) is = absurd (cc)

-- what lists with one element more begin with
two_last : {A : Type 0} (xs : List A) (x : A) (front more : List A) (last : A) → xs ++ x ∷ [] ≡ front ++ (more ++ last ∷ []) → (xs ≡ front ++ more) × (x ≡ last)
two_last xs x front more last e = push_same xs (front ++ more) x last (e ∙ sym (append_assoc front more (last ∷ [])))

three_last : {A : Type 0} (xs : List A) (x : A) (front mid more : List A) (last : A) → xs ++ x ∷ [] ≡ front ++ (mid ++ (more ++ last ∷ []))
    → (xs ≡ front ++ (mid ++ more)) × (x ≡ last)
three_last xs x front mid more last e =
    two_last xs x front (mid ++ more) last (e ∙ ap (λ ys. front ++ ys) (sym (append_assoc mid more (last ∷ []))))

module _ {S State : Type 0} (engine : Engine S State) (opening : Opening) (t : Tree) (log more : Log) (step : Step S State) (line : Line) (a : Answer)
    (lines : asked more ≡ asked log ++ line ∷ []) (answers_more : more.answers ≡ log.answers ++ a ∷ [])
    (lawful : IsLineLawful engine step (last opening t log) line a) (told : IsToldAnswer engine step line a)
    (so_far : QuietSoFar engine opening t log step.before.shelf step.old) where
  -- the line brings it on
  abbrev Brings : Stage → Stage → Type 0
  Brings s next = line_stage s line a ≡ Some next

  brings : (s next : Stage) (l : Line) (b : Answer) → line ≡ l → a ≡ b → line_stage s l b ≡ Some next → Brings s next
  brings s next l b is said on =
      subst (λ (x : Line). line_stage s x a ≡ Some next) (sym is) (subst (λ (y : Answer). line_stage s l y ≡ Some next) (sym said) on)

  pub quiet_more : QuietSoFar engine opening t more step.after.shelf step.new
  quiet_more s h = by h.scans h.scanned (sym lines ∙ h.asked_are) (sym answers_more ∙ h.answers_are) h.comes
    where
      -- a save of a machine of which nothing is open begins it, and each other line brings it one further
      by : (scans : List Line) (scanned : List Answer) → asked log ++ line ∷ [] ≡ h.front ++ Ok event.Save ∷ scans
          → log.answers ++ a ∷ [] ≡ h.answers ++ answer.Saved h.saved ∷ scanned → lines_stage (Some Saved) scans scanned ≡ Some s
          → engine.quiet s step.after.shelf step.new
      by [] scanned asks says comes =
          let none = no_line Saved s scanned comes in
          let by_line = push_same (asked log) h.front line (Ok event.Save) asks in
          let by_answer = push_same log.answers h.answers a (answer.Saved h.saved)
          (says ∙ ap (λ (xs : List Answer). h.answers ++ answer.Saved h.saved ∷ xs) none.0) in
          let idle : IsIdle (last opening t log) =
          subst (λ (m : Machine). IsIdle m) (ap (λ (ls : List Line). machine_after (first opening t) ls h.answers) (sym by_line.0)
          ∙ ap (λ (given : List Answer). machine_after (first opening t) (asked log) given) (sym by_answer.0)) h.idle in
          subst (λ (x : Stage). engine.quiet x step.after.shelf step.new) none.1 (lawful.rests idle h.saved by_line.1 by_answer.1)
      by (l ∷ ls) scanned asks says comes =
          let c = last_of Saved s l ls scanned comes in
          let by_line = two_last (asked log) line h.front (Ok event.Save ∷ c.front) c.line
          (asks ∙ ap (λ (xs : List Line). h.front ++ Ok event.Save ∷ xs) c.lines_are) in
          let by_answer = two_last log.answers a h.answers (answer.Saved h.saved ∷ c.back) c.answer
          (says ∙ ap (λ (xs : List Answer). h.answers ++ answer.Saved h.saved ∷ xs) c.answers_are) in
          told.quiet c.before s (brings c.before s c.line c.answer by_line.1 by_answer.1 c.on) (so_far c.before (record {
            front = h.front;
            scans = c.front;
            answers = h.answers;
            scanned = c.back;
            saved = h.saved;
            asked_are = by_line.0;
            answers_are = by_answer.0;
            each = h.each;
            idle = h.idle;
            comes = c.comes;
          }))

  -- a quiet ending that has done two scans collects, and goes on
  pub collected_more : ((k : ℕ) → HasQuietEnding opening t log k → engine.collected k step.before.shelf step.old) → (k : ℕ) → HasQuietEnding opening t more k
      → engine.collected k step.after.shelf step.new
  collected_more had k h = by h.rest h.others (sym lines ∙ h.asked_are) (sym answers_more ∙ h.answers_are) h.goes_on
    where
      by : (rest : List Line) (others : List Answer) → asked log ++ line ∷ [] ≡ h.front ++ ((Ok event.Save ∷ h.scans) ++ Ok (event.Collect k) ∷ rest)
          → log.answers ++ a ∷ [] ≡ h.answers ++ ((answer.Saved h.saved ∷ h.scanned) ++ answer.Collected h.freed ∷ others)
          → lines_stage (Some ScannedTwice) rest others ≡ Some h.last → engine.collected k step.after.shelf step.new
      by [] others asks says comes =
          let none = no_line ScannedTwice h.last others comes in
          let by_line = two_last (asked log) line h.front (Ok event.Save ∷ h.scans) (Ok (event.Collect k)) asks in
          let by_answer = two_last log.answers a h.answers (answer.Saved h.saved ∷ h.scanned) (answer.Collected h.freed)
          (says ∙ ap (λ (xs : List Answer). h.answers ++ ((answer.Saved h.saved ∷ h.scanned) ++ answer.Collected h.freed ∷ xs)) none.0) in
          told.collected k h.freed by_line.1 by_answer.1 (so_far ScannedTwice (record {
            front = h.front;
            scans = h.scans;
            answers = h.answers;
            scanned = h.scanned;
            saved = h.saved;
            asked_are = by_line.0;
            answers_are = by_answer.0;
            each = h.each;
            idle = h.idle;
            comes = h.twice;
          }))
      by (l ∷ ls) others asks says comes =
          let c = last_of ScannedTwice h.last l ls others comes in
          let by_line = three_last (asked log) line h.front (Ok event.Save ∷ h.scans) (Ok (event.Collect k) ∷ c.front) c.line
          (asks ∙ ap (λ (xs : List Line). h.front ++ ((Ok event.Save ∷ h.scans) ++ Ok (event.Collect k) ∷ xs)) c.lines_are) in
          let by_answer = three_last log.answers a h.answers (answer.Saved h.saved ∷ h.scanned) (answer.Collected h.freed ∷ c.back) c.answer
          (says ∙ ap (λ (xs : List Answer). h.answers ++ ((answer.Saved h.saved ∷ h.scanned) ++ answer.Collected h.freed ∷ xs)) c.answers_are) in
          told.stays k c.before h.last (brings c.before h.last c.line c.answer by_line.1 by_answer.1 c.on) (had k (record {
            front = h.front;
            scans = h.scans;
            rest = c.front;
            answers = h.answers;
            scanned = h.scanned;
            others = c.back;
            saved = h.saved;
            freed = h.freed;
            last = c.before;
            asked_are = by_line.0;
            answers_are = by_answer.0;
            each = h.each;
            idle = h.idle;
            twice = h.twice;
            goes_on = c.comes;
          }))
