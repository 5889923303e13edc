-- How the answers to the lines that read a file come to be taken.
use Rattle.std.proofs.Common.{
  ◌≡◌,
  ℕ,
  ◌+◌,
  ◌-◌,
  ◌≤◌,
  true,
  false,
  List,
  [],
  ◌∷◌,
  ◌++◌,
  length,
  map,
  Option,
  Some,
  None,
  Result,
  Ok,
  Err,
  refl,
  sym,
  ap,
  ◌∙◌,
  arith,
  append_assoc,
  inl,
  inr,
  subst,
}
use Rattle.std.proofs.lemmas.Bool.{false≢true}
use Rattle.std.proofs.lemmas.List.{length-append, append-nil, map-append}
use Rattle.std.proofs.lemmas.List.Elements.{All-nil, All-cons, All-append}
use Rattle.std.proofs.lemmas.List.Concat.{flat_map-append}
use Rattle.wtf_model.specs.declared.answer.Answer.{Answer}
use Rattle.wtf_script.specs.ScriptLines.{lines_of}
use Rattle.wtf_script.specs.Reading.{Held, ReadsLine, Reads}
use Rattle.wtf_script.specs.declared.lines.Line.{Line}
use Rattle.wtf_script.specs.declared.lines.Line.TheVariants as whole
use Rattle.wtf_script.specs.declared.error.ReadError.{ReadError}
use Rattle.wtf_carry.specs.declared.stop.Stop.TheVariants as stop
use Rattle.wtf_script.proofs.LinesOf.{lines_of-line, lines_of-plain}
use Rattle.wtf_print.specs.Texts.{text_of}
use Rattle.wtf_print.specs.Forms.{IsWritable}
use Rattle.wtf_carry.specs.Gets.{bytes_shown, all_shown, IsGood, is_first, IsSettingsLine, Gets, Takes, NoneBehindEnd, ComesLine, Comes, GetSofar, Adds}

-- what a source that tells its bytes lost was counted
abbrev pub IsCounted : Held → Held → List ℕ → Option (List ℕ) → Type 0
IsCounted old new rest left = (then : List ℕ) → left ≡ Some then → length rest + old.count ≡ length then + new.count

pub comes-line : (line : List ℕ) (old new : Held) (rest : List ℕ) (left : Option (List ℕ)) → ReadsLine line old rest new left → IsCounted old new rest left
    → ComesLine line old rest new left
comes-line line old new rest left r counted =
    elim r.2.left as (λ _. ComesLine line old rest new left) [
      | inl fed ↦ record {
        then = r.0;
        left_is = r.1;
        lines_are = ap lines_of fed.0 ∙ lines_of-line line (new.bytes ++ r.0) r.2.plain;
        over = λ e. absurd (false≢true (sym fed.1 ∙ e));
        count = sym (counted r.0 r.1);
      }
      | inr last ↦ record {
        then = r.0;
        left_is = r.1;
        lines_are = ap lines_of last.0 ∙ lines_of-plain line r.2.plain last.1 ∙ ap (λ (l : List ℕ). line ∷ lines_of l) (sym last.2);
        over = λ e. last.2;
        count = sym (counted r.0 r.1);
      }
    ]

-- nothing was added where nothing was written
adds-none : (before : Option (List ℕ)) → Adds [] before before
adds-none before = λ old e. e ∙ ap Some (sym (append-nil old))

pub get_sofar-start : (len : ℕ) (script first : List ℕ) (begin held : Held) (from before : Option (List ℕ)) → begin.bytes ≡ [] → begin.count ≡ 0
    → IsSettingsLine first
    → ComesLine first begin script held from → GetSofar len len script held from before before
get_sofar-start len script first begin held from before none unread is c = record {
  first = first;
  answers = [];
  rest = c.then;
  begins = is;
  from_is = c.left_is;
  lines_are = ap (λ (l : List ℕ). lines_of (l ++ script)) (sym none) ∙ c.lines_are;
  over = c.over;
  count = omega (arith, c.count, unread);
  writable = All-nil IsWritable;
  good = All-nil IsGood;
  size = omega arith;
  adds = adds-none before;
}

all_shown-push : (answers : List Answer) (a : Answer) → all_shown (answers ++ a ∷ []) ≡ all_shown answers ++ bytes_shown a
all_shown-push answers a = flat_map-append bytes_shown answers (a ∷ []) ∙ ap (λ (l : List ℕ). all_shown answers ++ l) (append-nil (bytes_shown a))

pub get_sofar-more : (len left n : ℕ) (script line : List ℕ) (held held' : Held) (from from' before now now' : Option (List ℕ))
    (s : GetSofar len left script held from before now) → n ≤ left
    → ComesLine line held s.rest held' from' → Takes line n now now' → GetSofar len (left - n) script held' from' before now'
get_sofar-more len left n script line held held' from from' before now now' s fits c t = record {
  first = s.first;
  answers = s.answers ++ t.answer ∷ [];
  rest = c.then;
  begins = s.begins;
  from_is = c.left_is;
  lines_are = s.lines_are ∙ ap (λ (more : List (List ℕ)). s.first ∷ (map text_of s.answers ++ more))
      (c.lines_are ∙ ap (λ (l : List ℕ). l ∷ lines_of (held'.bytes ++ c.then)) (sym t.is))
      ∙ ap (λ (more : List (List ℕ)). s.first ∷ more) (sym (append_assoc (map text_of s.answers) (text_of t.answer ∷ []) (lines_of (held'.bytes ++ c.then)))
      ∙ ap (λ (more : List (List ℕ)). more ++ lines_of (held'.bytes ++ c.then)) (sym (map-append text_of s.answers (t.answer ∷ []))));
  over = c.over;
  count = c.count ∙ s.count;
  writable = All-append IsWritable s.answers (t.answer ∷ []) s.writable (All-cons IsWritable t.answer [] t.writable (All-nil IsWritable));
  good = All-append IsGood s.answers (t.answer ∷ []) s.good (All-cons IsGood t.answer [] t.good (All-nil IsGood));
  size = omega (arith, ap length (all_shown-push s.answers t.answer), length-append (all_shown s.answers) (bytes_shown t.answer), t.size, s.size);
  adds = λ old e. t.adds (old ++ all_shown s.answers) (s.adds old e)
      ∙ ap Some (append_assoc old (all_shown s.answers) (bytes_shown t.answer) ∙ ap (λ (l : List ℕ). old ++ l) (sym (all_shown-push s.answers t.answer)));
}

pub get_sofar-end : (len left : ℕ) (script old : List ℕ) (held : Held) (from before now : Option (List ℕ)) (s : GetSofar len left script held from before now)
    → left ≡ 0
    → lines_of (held.bytes ++ s.rest) ≡ [] → before ≡ Some old → Gets len (lines_of script) old now
get_sofar-end len left script old held from before now s all none to = record {
  answers = s.answers;
  are = record {
    first = s.first;
    begins = s.begins;
    lines_are = s.lines_are ∙ ap (λ (more : List (List ℕ)). s.first ∷ (map text_of s.answers ++ more)) none
        ∙ ap (λ (more : List (List ℕ)). s.first ∷ more) (append-nil (map text_of s.answers));
    writable = s.writable;
  };
  good = s.good;
  size = omega (arith, s.size, all);
  new_is = s.adds old to;
}

pub came-whole : (line : List ℕ) (old new : Held) (rest : List ℕ) (left : Option (List ℕ)) (result : Result (Option Line) ReadError)
    → result ≡ Ok (Some (whole.Whole line))
    → Reads old rest new left result → IsCounted old new rest left → ComesLine line old rest new left
came-whole line old new rest left result e r counted = let k = rw e at r in comes-line line old new rest left k.1 counted

pub came-long : (old new : Held) (rest : List ℕ) (left : Option (List ℕ)) (result : Result (Option Line) ReadError) → result ≡ Ok (Some whole.Long)
    → Reads old rest new left result → IsCounted old new rest left → Comes old rest new left (Err stop.Wrong)
came-long old new rest left result e r counted = let k = rw e at r in (k.0, k.1, comes-line k.0 old new rest left k.2 counted)

pub none_of : {A : Type 0} (o : Option A) → ((x : A) → o ≡ Some x → ⊥) → o ≡ None
none_of (Some x) f = absurd (f x refl)
none_of None f = refl

pub comes-some : (line : List ℕ) (old new : Held) (rest : List ℕ) (left : Option (List ℕ)) (came : Option (List ℕ)) → came ≡ Some line
    → Comes old rest new left (Ok came)
    → ComesLine line old rest new left
comes-some line old new rest left came e c = let P : Option (List ℕ) → Type 0 = λ o. Comes old rest new left (Ok o) in subst P e c

pub comes-none : (old new : Held) (rest : List ℕ) (left : Option (List ℕ)) (came : Option (List ℕ)) → came ≡ None → Comes old rest new left (Ok came)
    → lines_of (old.bytes ++ rest) ≡ []
comes-none old new rest left came e c = let P : Option (List ℕ) → Type 0 = λ o. Comes old rest new left (Ok o) in subst P e c

-- a reader that has read nothing
abbrev pub Fresh : Held → Type 0
Fresh begin = begin ≡ record { bytes = []; count = 0; ended = false }

pub fresh-over : (begin : Held) (script : List ℕ) → Fresh begin → NoneBehindEnd begin script
fresh-over begin script e = λ k. absurd (false≢true (sym (ap (λ (h : Held). h.ended) e) ∙ k))

pub get-begin : (len : ℕ) (script first : List ℕ) (begin held : Held) (from before : Option (List ℕ)) (came : Option (List ℕ))
    → Fresh begin → came ≡ Some first → is_first first ≡ true → (NoneBehindEnd begin script → Comes begin script held from (Ok came))
    → GetSofar len len script held from before before
get-begin len script first begin held from before came e some is f = get_sofar-start len script first begin held from before (ap (λ (h : Held). h.bytes) e)
    (ap (λ (h : Held). h.count) e) is
    (comes-some first begin held script from came some (f (fresh-over begin script e)))
