-- Where lines are not the answers to the reads of a file of a length.
use Rattle.std.proofs.Common.{
  ◌≡◌,
  ℕ,
  ◌+◌,
  ◌<◌,
  false,
  List,
  [],
  ◌∷◌,
  ◌++◌,
  length,
  map,
  take,
  drop,
  Option,
  Some,
  None,
  Result,
  Ok,
  Err,
  refl,
  sym,
  ap,
  ◌∙◌,
  arith,
  append_assoc,
  subst,
}
use Rattle.std.specs.Prelude.{All}
use Rattle.std.proofs.lemmas.Bool.{false≢true}
use Rattle.std.proofs.lemmas.List.{length-append, append-nil}
use Rattle.std.proofs.lemmas.List.Elements.{All-head, All-tail}
use Rattle.hex.specs.Hex.{IsBytes, encode_lower, decode_of}
use Rattle.hex.specs.declared.error.FromHexError.{FromHexError}
use Rattle.hex.proofs.HexLemmas.{decode_of-encode_lower}
use Rattle.wtf_model.specs.declared.answer.Answer.{Answer}
use Rattle.wtf_model.specs.declared.answer.Answer.TheVariants as answer
use Rattle.wtf_script.specs.ScriptLines.{lines_of}
use Rattle.wtf_script.specs.Reading.{Held}
use Rattle.wtf_script.specs.declared.limits.TheConstants.{LINE_BYTES, SCRIPT_BYTES}
use Rattle.wtf_print.specs.Texts.{text_of}
use Rattle.wtf_print.specs.Forms.{IsWritable}
use Rattle.wtf_carry.specs.declared.stop.Stop.{Stop}
use Rattle.wtf_carry.specs.declared.stop.Stop.TheVariants as stop
use Rattle.wtf_carry.specs.Gets.{bytes_shown, all_shown, IsGood, is_first, IsShortLine, AreAnswers, NoneGets, NoneTakes, NoneBehindEnd, ComesLine, Comes}
use Rattle.wtf_carry.specs.Gets.{GetSofar}
use Rattle.wtf_carry.proofs.GetLaws.{Fresh, fresh-over, comes-some, comes-none}

-- ---- one line

some-of : (r s : Result (List ℕ) FromHexError) (x y : List ℕ) → r ≡ Ok x → s ≡ Ok y → r ≡ s → x ≡ y
some-of r s x y p q e = cc

hex-one : (xs ys : List ℕ) → IsBytes xs → IsBytes ys → encode_lower xs ≡ encode_lower ys → xs ≡ ys
hex-one xs ys p q e = some-of (decode_of (encode_lower xs)) (decode_of (encode_lower ys)) xs ys (decode_of-encode_lower xs p) (decode_of-encode_lower ys q)
    (ap decode_of e)

apart : (x y : ℕ) → x ∷ [] ≡ y ∷ [] → (x ≡ y → ⊥) → ⊥
apart x y e f = f cc

-- two answers in form of one text show the same
pub shown-same : (a b : Answer) → IsWritable a → IsWritable b → IsGood a → IsGood b → text_of a ≡ text_of b → bytes_shown a ≡ bytes_shown b
unfolding text_of
shown-same (answer.Shown xs) (answer.Shown ys) p q g h e = hex-one xs ys p q (ap (λ (l : List ℕ). drop 7 l) e)
shown-same (answer.Shown xs) answer.Okay p q g h e = absurd (apart 100 111 (ap (λ (l : List ℕ). take 1 l) e) (λ k. omega (arith, k)))
shown-same (answer.Shown xs) (answer.Begun n) p q g h e = absurd (apart 100 98 (ap (λ (l : List ℕ). take 1 l) e) (λ k. omega (arith, k)))
shown-same answer.Okay (answer.Shown ys) p q g h e = absurd (apart 111 100 (ap (λ (l : List ℕ). take 1 l) e) (λ k. omega (arith, k)))
shown-same (answer.Begun n) (answer.Shown ys) p q g h e = absurd (apart 98 100 (ap (λ (l : List ℕ). take 1 l) e) (λ k. omega (arith, k)))
shown-same answer.Okay answer.Okay p q g h e = refl
shown-same answer.Okay (answer.Begun n) p q g h e = refl
shown-same (answer.Begun n) answer.Okay p q g h e = refl
shown-same (answer.Begun n) (answer.Begun m) p q g h e = refl
shown-same (answer.Shown xs) b p q g h e = absurd h
shown-same answer.Okay b p q g h e = absurd h
shown-same (answer.Begun n) b p q g h e = absurd h
shown-same a b p q g h e = absurd g

-- ---- all lines

-- the answers behind those that were taken
record Behind (xs ys : List Answer) (more : List (List ℕ)) : Type 0 where
  rest : List Answer
  rest_are : map text_of rest ≡ more
  shown_is : all_shown ys ≡ all_shown xs ++ all_shown rest
  writable : All IsWritable rest
  good : All IsGood rest

behind : (xs ys : List Answer) (more : List (List ℕ)) → All IsWritable xs → All IsGood xs → All IsWritable ys → All IsGood ys
    → map text_of ys ≡ map text_of xs ++ more
    → Behind xs ys more
behind [] ys more p g q h e = record { rest = ys; rest_are = e; shown_is = refl; writable = q; good = h }
behind (x ∷ xs) [] more p g q h e = absurd cc
behind (x ∷ xs) (y ∷ ys) more p g q h e =
    let head : text_of x ≡ text_of y = cc in
    let tail : map text_of ys ≡ map text_of xs ++ more = cc in
    let b = behind xs ys more (All-tail IsWritable x xs p) (All-tail IsGood x xs g) (All-tail IsWritable y ys q) (All-tail IsGood y ys h) tail in
    record {
      rest = b.rest;
      rest_are = b.rest_are;
      shown_is = ap (λ (l : List ℕ). l ++ all_shown ys)
          (sym (shown-same x y (All-head IsWritable x xs p) (All-head IsWritable y ys q) (All-head IsGood x xs g) (All-head IsGood y ys h) head))
          ∙ ap (λ (l : List ℕ). bytes_shown x ++ l) b.shown_is ∙ sym (append_assoc (bytes_shown x) (all_shown xs) (all_shown b.rest));
      writable = b.writable;
      good = b.good;
    }

tail_of : (a b : List ℕ) (xs ys : List (List ℕ)) → a ∷ xs ≡ b ∷ ys → xs ≡ ys
tail_of a b xs ys e = cc

-- the answers of these lines, behind those that were taken
behind-sofar : (len left : ℕ) (script : List ℕ) (held : Held) (from before now : Option (List ℕ)) (s : GetSofar len left script held from before now)
    (answers : List Answer)
    → AreAnswers (lines_of script) answers → All IsGood answers → Behind s.answers answers (lines_of (held.bytes ++ s.rest))
behind-sofar len left script held from before now s answers are good =
    behind s.answers answers (lines_of (held.bytes ++ s.rest)) s.writable s.good are.writable good
    (tail_of are.first s.first (map text_of answers) (map text_of s.answers ++ lines_of (held.bytes ++ s.rest)) (sym are.lines_are ∙ s.lines_are))

no_rest : (rest : List Answer) → map text_of rest ≡ [] → all_shown rest ≡ []
no_rest [] e = refl
no_rest (a ∷ rest) e = absurd cc

-- at the end some are left
pub none-end : (len left : ℕ) (script : List ℕ) (held : Held) (from before now : Option (List ℕ)) (s : GetSofar len left script held from before now) → 0 < left
    → lines_of (held.bytes ++ s.rest) ≡ [] → NoneGets len (lines_of script)
none-end len left script held from before now s some none = λ answers are good short size.
    let b = behind-sofar len left script held from before now s answers are good in
    let e = no_rest b.rest (b.rest_are ∙ none) in
    absurd (omega (arith, size, s.size, some, ap length b.shown_is, length-append (all_shown s.answers) (all_shown b.rest), ap length e))

-- what a line shows is not more than all show
more-shown : (rest : List Answer) (line : List ℕ) (more : List (List ℕ)) (left : ℕ) → NoneTakes line left → map text_of rest ≡ line ∷ more → All IsWritable rest
    → All IsGood rest
    → left < length (all_shown rest)
more-shown [] line more left none e p g = absurd cc
more-shown (a ∷ rest) line more left none e p g =
    let is : text_of a ≡ line = cc in
    omega (arith, length-append (bytes_shown a) (all_shown rest), none a is (All-head IsWritable a rest p) (All-head IsGood a rest g))

-- a line is none
pub none-line : (len left : ℕ) (script line : List ℕ) (held held' : Held) (from from' before now : Option (List ℕ))
    (s : GetSofar len left script held from before now)
    → ComesLine line held s.rest held' from' → NoneTakes line left → NoneGets len (lines_of script)
none-line len left script line held held' from from' before now s c none = λ answers are good short size.
    let b = behind-sofar len left script held from before now s answers are good in
    let more = more-shown b.rest line (lines_of (held'.bytes ++ c.then)) left none (b.rest_are ∙ c.lines_are) b.writable b.good in
    absurd (omega (arith, size, s.size, more, ap length b.shown_is, length-append (all_shown s.answers) (all_shown b.rest)))

-- a line that cannot be read
long-in : (before after : List (List ℕ)) (line : List ℕ) → LINE_BYTES < length line → All IsShortLine (before ++ line ∷ after) → ⊥
long-in [] after line long short = absurd (omega (arith, long, All-head IsShortLine line after short))
long-in (l ∷ before) after line long short = long-in before after line long (All-tail IsShortLine l (before ++ line ∷ after) short)

long-among : (lines before after : List (List ℕ)) (line : List ℕ) → lines ≡ before ++ line ∷ after → LINE_BYTES < length line → All IsShortLine lines → ⊥
long-among lines before after line e long short = long-in before after line long (let P : List (List ℕ) → Type 0 = λ l. All IsShortLine l in subst P e short)

wrong-of : (old new : Held) (rest : List ℕ) (left : Option (List ℕ)) (result : Result (Option (List ℕ)) Stop) → result ≡ Err stop.Wrong
    → Comes old rest new left result
    → (line : List ℕ) × (LINE_BYTES < length line) × ComesLine line old rest new left
wrong-of old new rest left result e c = let P : Result (Option (List ℕ)) Stop → Type 0 = λ r. Comes old rest new left r in subst P e c

too_long-of : (old new : Held) (rest : List ℕ) (left : Option (List ℕ)) (result : Result (Option (List ℕ)) Stop) → result ≡ Err stop.TooLong
    → Comes old rest new left result
    → SCRIPT_BYTES < length rest + old.count
too_long-of old new rest left result e c = let P : Result (Option (List ℕ)) Stop → Type 0 = λ r. Comes old rest new left r in subst P e c

pub none-long : (len left : ℕ) (script : List ℕ) (held held' : Held) (from from' before now : Option (List ℕ))
    (s : GetSofar len left script held from before now)
    (result : Result (Option (List ℕ)) Stop) → result ≡ Err stop.Wrong → Comes held s.rest held' from' result → NoneGets len (lines_of script)
none-long len left script held held' from from' before now s result e c = λ answers are good short size.
    let w = wrong-of held held' s.rest from' result e c
    in long-among (lines_of script) (s.first ∷ map text_of s.answers) (lines_of (held'.bytes ++ w.2.then)) w.0
    (s.lines_are ∙ ap (λ (more : List (List ℕ)). s.first ∷ (map text_of s.answers ++ more)) w.2.lines_are) w.1 short

pub too_long-line : (len left : ℕ) (script : List ℕ) (held held' : Held) (from from' before now : Option (List ℕ))
    (s : GetSofar len left script held from before now)
    (result : Result (Option (List ℕ)) Stop) → result ≡ Err stop.TooLong → Comes held s.rest held' from' result → SCRIPT_BYTES < length script
too_long-line len left script held held' from from' before now s result e c = omega (arith, too_long-of held held' s.rest from' result e c, s.count)

-- ---- the first line

same-lines : (begin : Held) (script : List ℕ) → Fresh begin → lines_of script ≡ lines_of (begin.bytes ++ script)
same-lines begin script e = ap (λ (h : Held). lines_of (h.bytes ++ script)) (sym e)

pub none-first : (len : ℕ) (script first : List ℕ) (begin held : Held) (from came : Option (List ℕ)) → Fresh begin → came ≡ Some first → is_first first ≡ false
    → (NoneBehindEnd begin script → Comes begin script held from (Ok came)) → NoneGets len (lines_of script)
none-first len script first begin held from came e some not f = λ answers are good short size.
    let c = comes-some first begin held script from came some (f (fresh-over begin script e)) in
    let k : are.first ∷ map text_of answers ≡ first ∷ lines_of (held.bytes ++ c.then) = sym are.lines_are ∙ same-lines begin script e ∙ c.lines_are in
    let head : first ≡ are.first = cc in
    false≢true (sym not ∙ ap is_first head ∙ are.begins)

pub none-long_first : (len : ℕ) (script : List ℕ) (begin held : Held) (from : Option (List ℕ)) (result : Result (Option (List ℕ)) Stop) → Fresh begin
    → result ≡ Err stop.Wrong
    → (NoneBehindEnd begin script → Comes begin script held from result) → NoneGets len (lines_of script)
none-long_first len script begin held from result e is f = λ answers are good short size.
    let w = wrong-of begin held script from result is (f (fresh-over begin script e)) in
    long-among (lines_of script) [] (lines_of (held.bytes ++ w.2.then)) w.0 (same-lines begin script e ∙ w.2.lines_are) w.1 short

pub too_long-first : (script : List ℕ) (begin held : Held) (from : Option (List ℕ)) (result : Result (Option (List ℕ)) Stop) → Fresh begin
    → result ≡ Err stop.TooLong
    → (NoneBehindEnd begin script → Comes begin script held from result) → SCRIPT_BYTES < length script
too_long-first script begin held from result e is f =
    let unread : begin.count ≡ 0 = ap (λ (h : Held). h.count) e in
    omega (arith, too_long-of begin held script from result is (f (fresh-over begin script e)), unread)

pub none-empty : (len : ℕ) (script : List ℕ) (begin held : Held) (from came : Option (List ℕ)) → Fresh begin → came ≡ None
    → (NoneBehindEnd begin script → Comes begin script held from (Ok came)) → NoneGets len (lines_of script)
none-empty len script begin held from came e none f = λ answers are good short size.
    let k : are.first ∷ map text_of answers ≡ [] =
    sym are.lines_are ∙ same-lines begin script e ∙ comes-none begin held script from came none (f (fresh-over begin script e)) in
    absurd cc

-- ---- the same lines

-- the answers of the same lines show the same
pub same-all : (lines : List (List ℕ)) (xs ys : List Answer) → AreAnswers lines xs → AreAnswers lines ys → All IsGood xs → All IsGood ys
    → all_shown xs ≡ all_shown ys
same-all lines xs ys p q g h =
    let e : map text_of ys ≡ map text_of xs = tail_of q.first p.first (map text_of ys) (map text_of xs) (sym q.lines_are ∙ p.lines_are) in
    let b = behind xs ys [] p.writable g q.writable h (e ∙ sym (append-nil (map text_of xs))) in
    sym (b.shown_is ∙ ap (λ (l : List ℕ). all_shown xs ++ l) (no_rest b.rest b.rest_are) ∙ append-nil (all_shown xs))
