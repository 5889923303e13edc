-- The answers to the lines that read a file show its bytes.
use Rattle.std.proofs.Common.{
  rules,
  ◌≡◌,
  ℕ,
  ◌+◌,
  ◌^◌,
  ◌<◌,
  ◌≤◌,
  Bool,
  true,
  false,
  cond,
  List,
  [],
  ◌∷◌,
  ◌++◌,
  length,
  take,
  drop,
  map,
  codes,
  decimal,
  Some,
  refl,
  sym,
  ap,
  ◌∙◌,
  arith,
  subst,
  inl,
  inr,
}
use Rattle.std.specs.Prelude.{All}
use Rattle.std.specs.FinMap.{get, insert, get-empty}
use Rattle.std.specs.Ordering.{nat_cmp}
use Rattle.std.proofs.lemmas.List.{length-append, take-append-drop, drop-drop, drop_all, length-take-le, length-drop, get_or_past}
use Rattle.std.proofs.lemmas.List.Elements.{All-nil, All-cons, All-head, All-tail}
use Rattle.std.proofs.lemmas.Bool.{cases_lt}
use Rattle.std.proofs.lemmas.Fmt.{length-decimal-le}
use Rattle.hex.specs.Hex.{IsBytes, encode_lower, lower_digits}
use Rattle.hex.proofs.HexLemmas.{length-encode_with}
use Rattle.wtf_model.specs.declared.limits.TheConstants.{MAX_SHOWN}
use Rattle.wtf_model.specs.declared.op.Op.TheVariants as op
use Rattle.wtf_model.specs.declared.answer.Answer.{Answer}
use Rattle.wtf_model.specs.declared.answer.Answer.TheVariants as answer
use Rattle.wtf_model.specs.Tree.{Tree}
use Rattle.wtf_model.specs.Session.{Handle, fresh}
use Rattle.wtf_model.specs.Done.{Done, bytes_at, bytes_or_none}
use Rattle.wtf_model.specs.Call.{call}
use Rattle.wtf_model.proofs.CallLaws.{source-file, call-open, call-read, call-seek}
use Rattle.wtf_model.proofs.Laws.{get-handle_same, get_or-part}
use Rattle.wtf_print.specs.Texts.{text_of}
use Rattle.wtf_print.specs.Forms.{IsWritable}
use Rattle.wtf_carry.specs.Asked.{Asked, total, carried, shows, begin_line, open_line, seek_line, read_line, abort_line}
use Rattle.wtf_carry.specs.Reads.{IsShare, read_lines}
use Rattle.wtf_carry.specs.Gets.{bytes_shown, all_shown, IsGood, IsShortLine, AreAnswers}
use Rattle.wtf_carry.specs.Runs.{Stand, after_line, IsAnswer, AreAnswersTo, HasFile, ReadIsGot}
use Rattle.wtf_carry.proofs.NoneLaws.{same-all}

-- ---- what answers show

-- an answer is good and in form, and shows these bytes
record IsOne (a : Answer) (bytes : List ℕ) : Type 0 where
  good : IsGood a
  form : IsWritable a
  short : IsShortLine (text_of a)
  shows : bytes_shown a ≡ bytes

record Shows (bytes : List ℕ) (answers : List Answer) : Type 0 where
  good : All IsGood answers
  form : All IsWritable answers
  short : All IsShortLine (map text_of answers)
  bytes_are : all_shown answers ≡ bytes

shows-cons : (a : Answer) (answers : List Answer) (bytes rest : List ℕ) → IsOne a bytes → Shows rest answers → Shows (bytes ++ rest) (a ∷ answers)
shows-cons a answers bytes rest one s = record {
  good = All-cons IsGood a answers one.good s.good;
  form = All-cons IsWritable a answers one.form s.form;
  short = All-cons IsShortLine (text_of a) (map text_of answers) one.short s.short;
  bytes_are = ap (λ (l : List ℕ). l ++ all_shown answers) one.shows ∙ ap (λ (l : List ℕ). bytes ++ l) s.bytes_are;
}

one-of : (a b : Answer) (bytes : List ℕ) → a ≡ b → IsOne b bytes → IsOne a bytes
one-of a b bytes e one = let P : Answer → Type 0 = λ x. IsOne x bytes in subst P (sym e) one

one-okay : IsOne answer.Okay []
unfolding text_of
one-okay = record { good = tt; form = tt; short = omega arith; shows = refl }

number-short : (n : ℕ) → n < 2 ^ 64 → length (decimal n) ≤ 20
number-short n h = search (rules, length-decimal-le 20)

one-begun : (n : ℕ) → n < 2 ^ 64 → IsOne (answer.Begun n) []
unfolding text_of
one-begun n h = record { good = tt; form = h; short = omega (arith, length-append (codes "begun ") (decimal n), number-short n h); shows = refl }

one-shown : (bytes : List ℕ) → IsBytes bytes → length bytes ≤ MAX_SHOWN → IsOne (answer.Shown bytes) bytes
unfolding text_of
one-shown bytes is few = record {
  good = tt;
  form = is;
  short = omega (arith, length-append (codes "data x:") (encode_lower bytes), length-encode_with lower_digits bytes, few);
  shows = refl;
}

-- whatever these lines are answered shows these bytes
abbrev Gives : ℕ → Stand → List Asked → List ℕ → Type 0
Gives cap w lines bytes = (answers : List Answer) → AreAnswersTo cap w lines answers → Shows bytes answers

gives-line : (cap : ℕ) (w : Stand) (line : Asked) (lines : List Asked) (bytes rest : List ℕ) → ((a : Answer) → IsAnswer cap w line.event a → IsOne a bytes)
    → Gives cap (after_line cap w line.event) lines rest → Gives cap w (line ∷ lines) (bytes ++ rest)
gives-line cap w line lines bytes rest one more [] h = absurd h
gives-line cap w line lines bytes rest one more (a ∷ answers) h = shows-cons a answers bytes rest (one a h.0) (more answers h.1)

gives-none : (cap : ℕ) (w : Stand) → Gives cap w [] []
gives-none cap w [] h = record { good = All-nil IsGood; form = All-nil IsWritable; short = All-nil IsShortLine; bytes_are = refl }
gives-none cap w (a ∷ answers) h = absurd h

-- ---- an open file

-- the file is stored, and open at this offset
pub record Ready (path file : List ℕ) (at : ℕ) (w : Stand) : Type 0 where
  pub stored : HasFile w.now path file
  pub same : w.seen.tree ≡ w.now
  pub handle : get w.seen.handles 0 ≡ Some (record { path = path; off = at })

ready-bytes : (path file : List ℕ) (at : ℕ) (w : Stand) → Ready path file at w → bytes_at w.seen.tree path ≡ file
ready-bytes path file at w r = ap (λ (t : Tree). bytes_at t path) r.same ∙ ap bytes_or_none (source-file w.now path r.stored.0 file r.stored.1)

opens : (cap : ℕ) (w : Stand) (path file : List ℕ) → HasFile w.now path file
    → call cap (fresh w.now) (op.Open 0 path)
    ≡ record { session = record (fresh w.now) { handles = insert (fresh w.now).handles 0 (record { path = path; off = 0 }) }; answer = answer.Okay }
opens cap w path file is = call-open cap (fresh w.now) 0 path file (get-empty nat_cmp 0) (source-file w.now path is.0 file is.1)

pub ready-start : (cap : ℕ) (w : Stand) (path file : List ℕ) → HasFile w.now path file
    → Ready path file 0 (after_line cap (after_line cap w begin_line.event) (open_line path).event)
ready-start cap w path file is = record {
  stored = is;
  same = ap (λ (d : Done). d.session.tree) (opens cap w path file is);
  handle = ap (λ (d : Done). get d.session.handles 0) (opens cap w path file is) ∙ get-handle_same (fresh w.now).handles 0 (record { path = path; off = 0 });
}

open-okay : (cap : ℕ) (w : Stand) (path file : List ℕ) → HasFile w.now path file
    → (a : Answer) → IsAnswer cap (after_line cap w begin_line.event) (open_line path).event a → IsOne a []
open-okay cap w path file is a h = one-of a answer.Okay [] (h ∙ ap (λ (d : Done). d.answer) (opens cap w path file is)) one-okay

pub ready-seek : (cap n at : ℕ) (w : Stand) (path file : List ℕ) → Ready path file at w → n ≤ cap → Ready path file n (after_line cap w (seek_line n).event)
ready-seek cap n at w path file r fits =
    let h : Handle = record { path = path; off = at } in
    let e = call-seek cap w.seen 0 n h r.handle fits in
    record {
      stored = r.stored;
      same = ap (λ (d : Done). d.session.tree) e ∙ r.same;
      handle = ap (λ (d : Done). get d.session.handles 0) e ∙ get-handle_same w.seen.handles 0 (record { path = path; off = n });
    }

seek-okay : (cap n at : ℕ) (w : Stand) (path file : List ℕ) → Ready path file at w → n ≤ cap → (a : Answer) → IsAnswer cap w (seek_line n).event a → IsOne a []
seek-okay cap n at w path file r fits a k =
    let h : Handle = record { path = path; off = at } in
    one-of a answer.Okay [] (k ∙ ap (λ (d : Done). d.answer) (call-seek cap w.seen 0 n h r.handle fits)) one-okay

-- what is read
part_of : (path file : List ℕ) (at n : ℕ) (w : Stand) → Ready path file at w → take n (drop at (bytes_at w.seen.tree path)) ≡ take n (drop at file)
part_of path file at n w r = ap (λ (l : List ℕ). take n (drop at l)) (ready-bytes path file at w r)

part-size : (file : List ℕ) (at n : ℕ) → at + n ≤ length file → length (take n (drop at file)) ≡ n
part-size file at n fits = length-take-le n (drop at file) (omega (arith, length-drop at file, fits))

bytes-part : (file : List ℕ) (at n : ℕ) → IsBytes file → at + n ≤ length file → IsBytes (take n (drop at file))
bytes-part file at n is fits = λ i. elim (cases_lt i n) [
  | inl below ↦ let P : ℕ → Type 0 = λ b. b < 256 in subst P (sym (get_or-part n at file i 0 below)) (is (at + i))
  | inr past ↦ let P : ℕ → Type 0 = λ b. b < 256 in subst P (sym (get_or_past (take n (drop at file)) i 0 (omega (arith, part-size file at n fits, past))))
      (omega arith)
]

ready-read : (cap n at : ℕ) (w : Stand) (path file : List ℕ) → Ready path file at w → at + n ≤ length file
    → Ready path file (at + n) (after_line cap w (read_line n).event)
ready-read cap n at w path file r fits =
    let h : Handle = record { path = path; off = at } in
    let e = call-read cap w.seen 0 n h r.handle in
    let size : at + length (take n (drop at (bytes_at w.seen.tree path))) ≡ at + n =
    ap (λ (l : List ℕ). at + length l) (part_of path file at n w r) ∙ ap (λ (k : ℕ). at + k) (part-size file at n fits) in
    record {
      stored = r.stored;
      same = ap (λ (d : Done). d.session.tree) e ∙ r.same;
      handle = ap (λ (d : Done). get d.session.handles 0) e
          ∙ get-handle_same w.seen.handles 0 (record { path = path; off = at + length (take n (drop at (bytes_at w.seen.tree path))) })
          ∙ ap (λ (k : ℕ). Some (record { path = path; off = k })) size;
    }

read-shows : (cap n at : ℕ) (w : Stand) (path file : List ℕ) → Ready path file at w → IsBytes file → at + n ≤ length file → n ≤ MAX_SHOWN
    → (a : Answer) → IsAnswer cap w (read_line n).event a → IsOne a (take n (drop at file))
read-shows cap n at w path file r is fits few a k =
    let h : Handle = record { path = path; off = at } in
    let e = k ∙ ap (λ (d : Done). d.answer) (call-read cap w.seen 0 n h r.handle) ∙ ap (λ (l : List ℕ). answer.Shown l) (part_of path file at n w r) in
    one-of a (answer.Shown (take n (drop at file))) (take n (drop at file)) e
    (one-shown (take n (drop at file)) (bytes-part file at n is fits) (omega (arith, part-size file at n fits, few)))

-- ---- all lines

begin-okay : (cap : ℕ) (w : Stand) (a : Answer) → IsAnswer cap w begin_line.event a → IsOne a []
begin-okay cap w a h = one-of a (answer.Begun h.0) [] h.2 (one-begun h.0 h.1)

abort-okay : (cap : ℕ) (w : Stand) (a : Answer) → IsAnswer cap w abort_line.event a → IsOne a []
abort-okay cap w a h = one-of a answer.Okay [] h one-okay

gives-opened : (cap : ℕ) (w : Stand) (path file bytes : List ℕ) (more : List Asked) → HasFile w.now path file
    → ((w' : Stand) → Ready path file 0 w' → Gives cap w' more bytes) → Gives cap w (begin_line ∷ open_line path ∷ more) bytes
gives-opened cap w path file bytes more is rest =
    let w1 = after_line cap w begin_line.event in
    gives-line cap w begin_line (open_line path ∷ more) [] bytes (begin-okay cap w)
    (gives-line cap w1 (open_line path) more [] bytes (open-okay cap w path file is)
    (rest (after_line cap w1 (open_line path).event) (ready-start cap w path file is)))

gives-turn : (t : Bool) (cap at : ℕ) (w : Stand) (path file bytes : List ℕ) (more last : List Asked) → Ready path file at w → at ≤ cap
    → ((w' : Stand) → Ready path file at w' → Gives cap w' (more ++ last) bytes)
    → Gives cap w ((cond t (abort_line ∷ begin_line ∷ open_line path ∷ seek_line at ∷ []) [] ++ more) ++ last) bytes
gives-turn false cap at w path file bytes more last r fits rest = rest w r
gives-turn true cap at w path file bytes more last r fits rest =
    let w1 = after_line cap w abort_line.event in
    gives-line cap w abort_line (begin_line ∷ open_line path ∷ seek_line at ∷ (more ++ last)) [] bytes (abort-okay cap w)
    (gives-opened cap w1 path file bytes (seek_line at ∷ (more ++ last)) r.stored
    (λ w' r'. gives-line cap w' (seek_line at) (more ++ last) [] bytes (seek-okay cap at 0 w' path file r' fits)
    (rest (after_line cap w' (seek_line at).event) (ready-seek cap at 0 w' path file r' fits))))

parts-joined : (file : List ℕ) (at n : ℕ) → take n (drop at file) ++ drop (at + n) file ≡ drop at file
parts-joined file at n = ap (λ (l : List ℕ). take n (drop at file) ++ l) (sym (drop-drop n at file)) ∙ take-append-drop n (drop at file)

gives-carried : (cap i at : ℕ) (sizes : List ℕ) (w : Stand) (path file : List ℕ) → Ready path file at w → at + total (λ n. n) sizes ≡ length file
    → length file ≤ cap
    → IsBytes file → All IsShare sizes → Gives cap w (carried shows path i at sizes ++ abort_line ∷ []) (drop at file)
gives-carried cap i at [] w path file r all fits is each =
    let P : List ℕ → Type 0 = λ l. Gives cap w (abort_line ∷ []) l in
    subst P (sym (drop_all at file (omega (arith, all))))
    (gives-line cap w abort_line [] [] [] (abort-okay cap w) (gives-none cap (after_line cap w abort_line.event)))
gives-carried cap i at (n ∷ sizes) w path file r all fits is each =
    let more = carried shows path (i + 1) (at + n) sizes in
    let share : IsShare n = All-head IsShare n sizes each in
    let within : at + n ≤ length file = omega (arith, all)
    in gives-turn _ cap at w path file (drop at file) (read_line n ∷ more) (abort_line ∷ []) r (omega (arith, within, fits))
    (λ w' r'.
    let P : List ℕ → Type 0 = λ l. Gives cap w' (read_line n ∷ (more ++ abort_line ∷ [])) l in
    subst P (parts-joined file at n)
    (gives-line cap w' (read_line n) (more ++ abort_line ∷ []) (take n (drop at file)) (drop (at + n) file)
    (read-shows cap n at w' path file r' is within share.1)
    (gives-carried cap (i + 1) (at + n) sizes (after_line cap w' (read_line n).event) path file (ready-read cap n at w' path file r' within)
    (omega (arith, all)) fits is (All-tail IsShare n sizes each))))

read-gives : (cap : ℕ) (w : Stand) (path file : List ℕ) (sizes : List ℕ) → HasFile w.now path file → IsBytes file → length file ≤ cap
    → total (λ n. n) sizes ≡ length file → All IsShare sizes → Gives cap w (read_lines path sizes) file
read-gives cap w path file sizes stored is fits all each =
    gives-opened cap w path file file (carried shows path 0 0 sizes ++ abort_line ∷ []) stored
    (λ w' r. gives-carried cap 0 0 sizes w' path file r (omega (arith, all)) fits is each)

pub read-is-got : ReadIsGot
read-is-got = λ cap w path file old first new r answers stored is fits begins short are.
    let s = read-gives cap w path file r.sizes stored is fits r.size r.each answers are in
    let ours : AreAnswers (first ∷ map text_of answers) answers = record { first = first; begins = begins; lines_are = refl; writable = s.form } in
    record {
      bytes = λ before after g. g.new_is
          ∙ ap (λ (l : List ℕ). Some (before ++ l)) (same-all (first ∷ map text_of answers) g.answers answers g.are ours g.good s.good ∙ s.bytes_are);
      right = λ none. none answers ours s.good (All-cons IsShortLine first (map text_of answers) short s.short) (ap length s.bytes_are);
    }
