-- Answers are lawful so far, and a verdict.
use Rattle.std.proofs.Common.{
  ◌≡◌,
  ◌+◌,
  ℕ,
  List,
  [],
  ◌∷◌,
  ◌++◌,
  length,
  map,
  Result,
  Ok,
  refl,
  sym,
  ◌∙◌,
  ap,
  subst,
  arith,
  append_assoc,
  inl,
  inr,
  length-append,
}
use Rattle.std.proofs.lemmas.List.{append-nil, map-append, length-map}
use Rattle.std.proofs.lemmas.List.Elements.{All-append, All-nil, All-cons}
use Rattle.wtf_base.specs.declared.settings.Settings.{Settings}
use Rattle.wtf_dev.specs.Streams.{SourceView}
use Rattle.wtf_model.specs.declared.event.Event.{Event}
use Rattle.wtf_model.specs.declared.answer.Kind.{Kind}
use Rattle.wtf_model.specs.declared.answer.Answer.{Answer}
use Rattle.wtf_model.specs.Machines.{Machine}
use Rattle.wtf_model.specs.Lines.{Line, AlongBy, state_after, MayLine, after_line, machine_after}
use Rattle.wtf_model.proofs.LineLaws.{state_after-push, AlongBy-push, AlongBy-lengths, Accepts-from_lines}
use Rattle.wtf_script.specs.Grammar.{event_of}
use Rattle.wtf_script.specs.Reading.{Held}
use Rattle.wtf_script.specs.ScriptLines.{lines_of, fed, HasNoFeed}
use Rattle.wtf_script.proofs.LinesOf.{fed-push}
use Rattle.wtf_print.specs.Texts.{text_of}
use Rattle.wtf_checker.specs.declared.verdict.Verdict.TheVariants as verdict
use Rattle.wtf_checker.specs.Lawful.{event_or_bad, line_of, asked_in, BeginsWith, first, first_text, IsTold, AreLawful, RefusesAnswer, HasNoSettings}
use Rattle.wtf_checker.specs.Reading.{IsReading, IsRead, HasNext}
use Rattle.wtf_checker.specs.Judging.{IsAnswered, IsWithin, IsLawfulSoFar, place, Judges, end_of}
use Rattle.wtf_checker.proofs.Scripted.{told_front}
use Rattle.wtf_checker.proofs.Cuts.{no_line, one_line}

none_lawful : (settings : Settings) (bytes : List ℕ) → AreLawful settings [] [] bytes bytes
unfolding AlongBy
none_lawful settings bytes = record { told = All-nil IsTold; bytes_are = refl; lawful = tt }

no_line_after : (m : Machine) → machine_after m [] [] ≡ m
unfolding state_after
no_line_after m = refl

pub sofar_first : (start now : SourceView) (held : Held) (settings : Settings) (output answers : List ℕ) (m : Machine) → IsReading start now held []
    → m ≡ first settings
    → BeginsWith (first_text settings) answers output → IsLawfulSoFar start (place now held) settings output answers 0 m
sofar_first start now held settings output answers m reading is begins = record {
  lines = [];
  reading = reading;
  count = refl;
  behind = answers;
  begins = begins;
  given = [];
  are = none_lawful settings answers;
  machine_is = is ∙ sym (no_line_after (first settings));
}

-- what one line more asks
asked_push : (lines : List (List ℕ)) (line : List ℕ) (asked : Result Event Kind) → event_of line ≡ asked
    → map line_of (lines ++ line ∷ []) ≡ map line_of lines ++ event_or_bad asked ∷ []
asked_push lines line asked asks = map-append line_of lines (line ∷ []) ∙ ap (λ (x : Result Event Kind). map line_of lines ++ event_or_bad x ∷ []) asks

-- the line of one answer more
text_push : (given : List Answer) (a : Answer) (left rest behind : List ℕ) → behind ≡ fed (map text_of given) ++ left → left ≡ text_of a ++ 10 ∷ rest
    → behind ≡ fed (map text_of (given ++ a ∷ [])) ++ rest
text_push given a left rest behind is line =
    let texts = map text_of given in
    let one : fed texts ++ (text_of a ++ 10 ∷ []) ≡ fed (map text_of (given ++ a ∷ [])) =
    sym (append_assoc (fed texts) (text_of a) (10 ∷ [])) ∙ sym (fed-push texts (text_of a)) ∙ ap fed (sym (map-append text_of given (a ∷ []))) in
    is ∙ ap (λ (l : List ℕ). fed texts ++ l) (line ∙ sym (append_assoc (text_of a) (10 ∷ []) rest))
    ∙ sym (append_assoc (fed texts) (text_of a ++ 10 ∷ []) rest) ∙ ap (λ (l : List ℕ). l ++ rest) one

lawful_push : (settings : Settings) (lines : List Line) (given : List Answer) (left rest behind : List ℕ) (m next : Machine) (line : Line)
    → AreLawful settings lines given left behind
    → m ≡ machine_after (first settings) lines given → (a : IsAnswered m line left rest next)
    → AreLawful settings (lines ++ line ∷ []) (given ++ a.answer ∷ []) rest behind
lawful_push settings lines given left rest behind m next line are is a = record {
  told = All-append IsTold given (a.answer ∷ []) are.told (All-cons IsTold a.answer [] a.told (All-nil IsTold));
  bytes_are = text_push given a.answer left rest behind are.bytes_are a.begins.bytes_are;
  lawful = AlongBy-push after_line MayLine (first settings) lines given line a.answer are.lawful
      (subst (λ (x : Machine). MayLine x line a.answer) is a.may);
}

machine_push : (settings : Settings) (lines : List Line) (given : List Answer) (left rest behind : List ℕ) (m next : Machine) (line : Line)
    → AreLawful settings lines given left behind
    → m ≡ machine_after (first settings) lines given → (a : IsAnswered m line left rest next)
    → next ≡ machine_after (first settings) (lines ++ line ∷ []) (given ++ a.answer ∷ [])
machine_push settings lines given left rest behind m next line are is a =
    a.next_is ∙ ap (λ (x : Machine). after_line x line a.answer) is
    ∙ sym (state_after-push after_line (first settings) lines given line a.answer
    (AlongBy-lengths after_line MayLine (first settings) lines given are.lawful))

pub sofar_more : (start now next : SourceView) (held held' : Held) (settings : Settings) (output left rest : List ℕ) (n : ℕ) (m m' : Machine)
    (asked : Result Event Kind)
    → (s : IsLawfulSoFar start (place now held) settings output left n m) → HasNext start next held' s.lines asked
    → IsAnswered m (event_or_bad asked) left rest m'
    → IsLawfulSoFar start (place next held') settings output rest (n + 1) m'
sofar_more start now next held held' settings output left rest n m m' asked s h a =
    let push = sym (asked_push s.lines h.line asked h.asks) in
    record {
      lines = s.lines ++ h.line ∷ [];
      reading = h.reading;
      count = omega (arith, s.count, length-append s.lines (h.line ∷ []));
      behind = s.behind;
      begins = s.begins;
      given = s.given ++ a.answer ∷ [];
      are = subst (λ (ls : List Line). AreLawful settings ls (s.given ++ a.answer ∷ []) rest s.behind) push
          (lawful_push settings (map line_of s.lines) s.given left rest s.behind m m' (event_or_bad asked) s.are s.machine_is a);
      machine_is = subst (λ (ls : List Line). m' ≡ machine_after (first settings) ls (s.given ++ a.answer ∷ [])) push
          (machine_push settings (map line_of s.lines) s.given left rest s.behind m m' (event_or_bad asked) s.are s.machine_is a);
    }

-- the next line is refused
pub judged_refused : (start now next : SourceView) (held held' : Held) (settings : Settings) (output left : List ℕ) (n : ℕ) (m : Machine)
    (asked : Result Event Kind)
    → (s : IsLawfulSoFar start (place now held) settings output left n m) → HasNext start next held' s.lines asked → RefusesAnswer m (event_or_bad asked) left
    → Judges start output (Ok (verdict.Refused (n + 1)))
judged_refused start now next held held' settings output left n m asked s h refused = λ script is.
    let f = told_front script next.rest held' (s.lines ++ h.line ∷ []) (h.reading.told script is) in
    inr (
      n,
      refl,
      record {
        settings = settings;
        behind = s.behind;
        begins = s.begins;
        front = map line_of s.lines;
        next = event_or_bad asked ∷ map line_of f.0;
        lines_are = ap (λ (ls : List (List ℕ)). map line_of ls) f.1 ∙ map-append line_of (s.lines ++ h.line ∷ []) f.0
            ∙ ap (λ (ls : List Line). ls ++ map line_of f.0) (asked_push s.lines h.line asked h.asks)
            ∙ append_assoc (map line_of s.lines) (event_or_bad asked ∷ []) (map line_of f.0);
        count = length-map s.lines line_of ∙ sym s.count;
        given = s.given;
        rest = left;
        are = s.are;
        stuck = subst (λ (x : Machine). RefusesAnswer x (event_or_bad asked) left) s.machine_is refused;
      },
    )

-- all lines are answered
judged_whole : (start next : SourceView) (held' : Held) (settings : Settings) (output left : List ℕ) (n : ℕ) (lines : List (List ℕ)) → n ≡ length lines
    → IsRead start next held' lines
    → (behind : List ℕ) → BeginsWith (first_text settings) behind output → (given : List Answer) → AreLawful settings (map line_of lines) given left behind
    → Judges start output (Ok (end_of n left))
judged_whole start next held' settings output [] n lines count read behind begins given are = λ script is.
    let whole : lines ≡ lines_of script = sym (read.whole script is).0 in
    let these = subst (λ (ls : List (List ℕ)). AreLawful settings (map line_of ls) given [] behind) whole are in (
      record {
        settings = settings;
        behind = behind;
        begins = begins;
        given = given;
        are = these;
        accepts = Accepts-from_lines (first settings) (asked_in script) given these.lawful;
      },
      count ∙ ap length whole,
    )
judged_whole start next held' settings output (b ∷ bs) n lines count read behind begins given are = λ script is.
    inr (
      n,
      refl,
      record {
        settings = settings;
        behind = behind;
        begins = begins;
        front = map line_of lines;
        next = [];
        lines_are = ap (λ (ls : List (List ℕ)). map line_of ls) (read.whole script is).0 ∙ sym (append-nil (map line_of lines));
        count = length-map lines line_of ∙ sym count;
        given = given;
        rest = b ∷ bs;
        are = are;
        stuck = λ e. absurd (cc);
      },
    )

pub judged_end : (start now next : SourceView) (held held' : Held) (settings : Settings) (output left : List ℕ) (n : ℕ) (m : Machine)
    → (s : IsLawfulSoFar start (place now held) settings output left n m) → IsRead start next held' s.lines → Judges start output (Ok (end_of n left))
judged_end start now next held held' settings output left n m s read = judged_whole start next held' settings output left n s.lines s.count read s.behind
    s.begins s.given s.are

-- the settings are refused
pub judged_none : (start : SourceView) (output : List ℕ) → HasNoSettings output → Judges start output (Ok (verdict.Refused 0))
judged_none start output none = λ script is. inl (refl, none)

pub no_settings_line : (text behind output : List ℕ) → BeginsWith text behind output → ((s : Settings) → first_text s ≡ text → ⊥) → HasNoSettings output
no_settings_line text behind output begins none = λ s rest there. none s (one_line (first_text s) text rest behind output there begins).0

pub no_settings : (output : List ℕ) → HasNoFeed output → HasNoSettings output
no_settings output none = λ s behind there. no_line (first_text s) behind output none there

-- the machine before the first line has counted nothing
pub within_none : (settings : Settings) (m : Machine) → m ≡ first settings → IsWithin 0 m
within_none settings m is = record {
  number = omega (arith, ap (λ (x : Machine). x.number) is);
  stamps = omega (arith, ap (λ (x : Machine). x.next_stamp) is);
  scans = omega (arith, ap (λ (x : Machine). x.scans) is);
}
