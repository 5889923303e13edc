-- Laws of reading a line from chunks.
use Rattle.std.proofs.Common.{◌≡◌, ℕ, zero, suc, ◌+◌, ◌-◌, ◌^◌, ◌<◌, ◌≤◌, inl, inr, min, Bool, cond, nat_lt, false, true, List, [], ◌∷◌, ◌++◌, length, take, drop, get_or, refl, sym, ◌∙◌, ap, subst, arith, append_assoc, Option, Some, None, Ok, Err, length-take}
use Rattle.std.proofs.lemmas.Bool.{cases_lt}
use Rattle.std.proofs.lemmas.List.{append-nil, take-append-drop, take-append-le, take-take, take_all, take_min, drop_more, drop-drop, drop-take, nil_from_length}
use Rattle.std.proofs.lemmas.Slice.{between_from_start}
use Rattle.std.specs.List.{slice_range}
use Rattle.wtf_script.specs.ScriptLines.{line_feed, HasNoFeed}
use Rattle.wtf_script.specs.Reading.{Held, ReadsLine, Reads, Refills, Parts, work}
use Rattle.wtf_script.specs.declared.limits.TheConstants.{LINE_BYTES, SCRIPT_BYTES}
use Rattle.wtf_script.specs.declared.lines.Line.{Line}
use Rattle.wtf_script.specs.declared.lines.Line.TheVariants.{Whole, Long}
use Rattle.wtf_script.specs.declared.error.ReadError.{ReadError}
use Rattle.wtf_script.specs.declared.error.ReadError.TheVariants.{Failed, TooMuch, Memory}
use Rattle.wtf_script.proofs.LinesOf.{no_feed_append}

-- at most K bytes of a line are kept
pub take_onto : (K : ℕ) (line more : List ℕ) → length line ≤ K → take K (line ++ more) ≡ line ++ take (K - length line) more
take_onto K [] more h = ap (λ (n : ℕ). take n more) (omega arith)
take_onto zero (x ∷ xs) more h = absurd (omega arith)
take_onto (suc K) (x ∷ xs) more h =
    ap (λ (l : List ℕ). x ∷ l) (take_onto K xs more (omega arith))
    ∙ ap (λ (n : ℕ). x ∷ xs ++ take n more) (omega arith)

pub kept : (K : ℕ) (line more now : List ℕ) (n : ℕ) → length line ≤ K → n ≡ min (length more) (K - length line) → now ≡ line ++ slice_range more 0 n → now ≡ take K (line ++ more)
kept K line more now n h e is =
    is
    ∙ ap (λ (l : List ℕ). line ++ l) (between_from_start more n ∙ ap (λ (m : ℕ). take m more) (omega arith) ∙ take_min (K - length line) more)
    ∙ sym (take_onto K line more h)

pub take_twice : (K : ℕ) (xs ys : List ℕ) → take K (take K xs ++ ys) ≡ take K (xs ++ ys)
take_twice zero xs ys = refl
take_twice (suc K) [] ys = refl
take_twice (suc K) (x ∷ xs) ys = ap (λ (l : List ℕ). x ∷ l) (take_twice K xs ys)

-- the bytes held, cut at a line feed
pub cut : (buffer : List ℕ) (at filled n : ℕ) → n < length (slice_range buffer at filled) → get_or (slice_range buffer at filled) n 0 ≡ 10
    → slice_range buffer at filled ≡ take n (slice_range buffer at filled) ++ line_feed ∷ slice_range buffer (at + (n + 1)) filled
cut buffer at filled n h e =
    let within : n + 1 ≤ filled - at = omega (arith, h, length-take (filled - at) (drop at buffer)) in
    let behind : drop (n + 1) (take (filled - at) (drop at buffer)) ≡ take (filled - (at + (n + 1))) (drop (at + (n + 1)) buffer) =
    ap (λ (k : ℕ). drop (n + 1) (take k (drop at buffer))) (omega arith)
    ∙ drop-take (n + 1) (filled - (at + (n + 1))) (drop at buffer)
    ∙ ap (λ (l : List ℕ). take (filled - (at + (n + 1))) l) (drop-drop (n + 1) at buffer) in
    sym (take-append-drop n (slice_range buffer at filled))
    ∙ ap (λ (l : List ℕ). take n (slice_range buffer at filled) ++ l) (drop_more (slice_range buffer at filled) n 0 h)
    ∙ ap (λ (b : ℕ). take n (slice_range buffer at filled) ++ b ∷ drop (n + 1) (slice_range buffer at filled)) e
    ∙ ap (λ (l : List ℕ). take n (slice_range buffer at filled) ++ line_feed ∷ l) behind

empty_range : (xs : List ℕ) (i : ℕ) → slice_range xs i i ≡ []
empty_range xs i = let none : i - i ≡ 0 = omega arith in ap (λ (n : ℕ). take n (drop i xs)) none

pub whole_part : (read buffer bytes line now : List ℕ) (at filled n : ℕ) → read ≡ buffer → slice_range buffer at filled ≡ bytes
    → n < length (slice_range read at filled) → get_or (slice_range read at filled) n 0 ≡ line_feed → HasNoFeed (take n (slice_range read at filled))
    → now ≡ take (LINE_BYTES + 1) (line ++ take n (slice_range read at filled)) → Parts bytes line (slice_range buffer (at + (n + 1)) filled) now (Ok true)
whole_part read buffer bytes line now at filled n e held h feed plain is =
    subst (λ (b : List ℕ). Parts bytes line (slice_range b (at + (n + 1)) filled) now (Ok true)) e
    (take n (slice_range read at filled), sym held ∙ ap (λ (b : List ℕ). slice_range b at filled) (sym e) ∙ cut read at filled n h feed, is, plain)

pub front_part : (read buffer bytes line now : List ℕ) (at filled : ℕ) → read ≡ buffer → slice_range buffer at filled ≡ bytes
    → HasNoFeed (slice_range read at filled) → now ≡ take (LINE_BYTES + 1) (line ++ slice_range read at filled) → Parts bytes line (slice_range buffer filled filled) now (Ok false)
front_part read buffer bytes line now at filled e held plain is =
    let same : slice_range read at filled ≡ bytes = ap (λ (b : List ℕ). slice_range b at filled) e ∙ held in
    (empty_range buffer filled, is ∙ ap (λ (l : List ℕ). take (LINE_BYTES + 1) (line ++ l)) same, subst HasNoFeed same plain)

-- what a read put at the front of the buffer
pub chunk_is : (out back more rest : List ℕ) (n len : ℕ) → n ≤ length out → n ≤ len → take n out ≡ take n rest → slice_range (take len (out ++ back ++ more)) 0 n ≡ take n rest
chunk_is out back more rest n len h k e =
    between_from_start (take len (out ++ back ++ more)) n
    ∙ take-take n len (out ++ back ++ more) k
    ∙ ap (λ (l : List ℕ). take n l) (append_assoc out back more)
    ∙ take-append-le n out (back ++ more) h
    ∙ e

-- past the limit of a script, one byte came
pub one_more : (count room n : ℕ) → count ≤ SCRIPT_BYTES → (count < SCRIPT_BYTES → count + room ≤ SCRIPT_BYTES) → (count ≡ SCRIPT_BYTES → room ≡ 1) → n ≤ room → (n ≡ 0 → ⊥) → SCRIPT_BYTES < count + n → n ≡ 1
one_more count room n h below full within some past = elim (cases_lt count (SCRIPT_BYTES)) [
  | inl less ↦ absurd (omega (arith, below less))
  | inr more ↦ omega (arith, full (omega arith))
]

pub one_read : (n : ℕ) (rest : List ℕ) (left : Option (List ℕ)) → n ≡ 1 → n ≤ length rest → left ≡ Some (drop n rest) → (b : ℕ) × (then : List ℕ) × (rest ≡ b ∷ then) × (left ≡ Some then)
one_read n [] left e h is = absurd (omega arith)
one_read n (b ∷ bs) left e h is = (b, bs, refl, is ∙ ap (λ (k : ℕ). Some (drop k (b ∷ bs))) e)

pub none_read : (n room : ℕ) (rest : List ℕ) (left : Option (List ℕ)) → n ≡ 0 → 0 < room → left ≡ Some (drop n rest) → (n ≡ 0 → 0 < room → rest ≡ []) → (rest ≡ []) × (left ≡ Some [])
none_read n room rest left e h is end = (end e h, is ∙ ap (λ (k : ℕ). Some (drop k rest)) e ∙ ap (λ (l : List ℕ). Some l) (end e h))

-- A line is being read: the reader held `old` and holds `now`, the source had `rest` and has `left`. Of the bytes of the
-- line so far, `whole`, at most 65,537 are kept
pub record Sofar (old now : Held) (line rest : List ℕ) (left : Option (List ℕ)) : Type 0 where
  pub whole : List ℕ
  pub got : List ℕ
  pub then : List ℕ
  pub plain : HasNoFeed whole
  pub line_is : line ≡ take (LINE_BYTES + 1) whole
  pub split : rest ≡ got ++ then
  pub left_is : left ≡ Some then
  pub held : old.bytes ++ got ≡ whole ++ now.bytes
  pub counted : length rest + old.count ≡ length then + now.count

kept_on : (whole more line next : List ℕ) → line ≡ take (LINE_BYTES + 1) whole → next ≡ take (LINE_BYTES + 1) (line ++ more) → next ≡ take (LINE_BYTES + 1) (whole ++ more)
kept_on whole more line next e is = is ∙ ap (λ (l : List ℕ). take (LINE_BYTES + 1) (l ++ more)) e ∙ take_twice (LINE_BYTES + 1) whole more

pub sofar_more : (old now new : Held) (line next rest middle : List ℕ) (left then : Option (List ℕ)) (s : Sofar old now line rest left)
    → Parts now.bytes line middle next (Ok false) → Refills s.then new.bytes then (Ok true) → ((to : List ℕ) → then ≡ Some to → length s.then + now.count ≡ length to + new.count)
    → Sofar old new next rest then
sofar_more old now new line next rest middle left then s p r c = record {
  whole = s.whole ++ now.bytes;
  got = s.got ++ new.bytes;
  then = r.0;
  plain = no_feed_append s.whole now.bytes s.plain p.2;
  line_is = kept_on s.whole now.bytes line next s.line_is p.1;
  split = s.split ∙ ap (λ (l : List ℕ). s.got ++ l) r.1 ∙ sym (append_assoc s.got new.bytes r.0);
  left_is = r.2;
  held = sym (append_assoc old.bytes s.got new.bytes) ∙ ap (λ (l : List ℕ). l ++ new.bytes) s.held;
  counted = s.counted ∙ c r.0 r.2;
}

-- a line that is whole: at most 65,537 bytes of it are kept
reads_line : (old new : Held) (whole line rest : List ℕ) (left : Option (List ℕ)) (r : Line) → line ≡ take (LINE_BYTES + 1) whole → ReadsLine whole old rest new left
    → (length line ≤ LINE_BYTES → r ≡ Whole line) → (LINE_BYTES < length line → r ≡ Long) → Reads old rest new left (Ok (Some r))
reads_line old new whole line rest left r e reads short long = elim (cases_lt LINE_BYTES (length line)) [
  | inl far ↦
      let size : LINE_BYTES < length whole = omega (arith, ap length e, length-take (LINE_BYTES + 1) whole) in
      subst (λ (n : Line). Reads old rest new left (Ok (Some n))) (sym (long far)) (whole, size, reads)
  | inr near ↦
      let size : length whole ≤ (LINE_BYTES + 1) = omega (arith, ap length e, length-take (LINE_BYTES + 1) whole) in
      let same : line ≡ whole = e ∙ take_all (LINE_BYTES + 1) whole size in
      subst (λ (n : Line). Reads old rest new left (Ok (Some n))) (sym (short near)) (near, subst (λ (l : List ℕ). ReadsLine l old rest new left) (sym same) reads)
]

pub sofar_whole : (old now new : Held) (line next rest : List ℕ) (left : Option (List ℕ)) (r : Line) → Sofar old now line rest left
    → Parts now.bytes line new.bytes next (Ok true) → new.ended ≡ false → (length next ≤ LINE_BYTES → r ≡ Whole next) → (LINE_BYTES < length next → r ≡ Long) → Reads old rest new left (Ok (Some r))
sofar_whole old now new line next rest left r s p going short long =
    reads_line old new (s.whole ++ p.0) next rest left r (kept_on s.whole p.0 line next s.line_is p.2) (
      s.then,
      s.left_is,
      record {
        plain = no_feed_append s.whole p.0 s.plain p.3;
        left = inl (
          ap (λ (l : List ℕ). old.bytes ++ l) s.split
              ∙ sym (append_assoc old.bytes s.got s.then)
              ∙ ap (λ (l : List ℕ). l ++ s.then) (s.held ∙ ap (λ (l : List ℕ). s.whole ++ l) p.1 ∙ sym (append_assoc s.whole p.0 (line_feed ∷ new.bytes)))
              ∙ append_assoc (s.whole ++ p.0) (line_feed ∷ new.bytes) s.then,
          going,
        );
      },
    ) short long

-- all that is left is of the line
all_taken : (old now : Held) (line rest : List ℕ) (left : Option (List ℕ)) (s : Sofar old now line rest left) → s.then ≡ [] → old.bytes ++ rest ≡ s.whole ++ now.bytes
all_taken old now line rest left s e =
    ap (λ (l : List ℕ). old.bytes ++ l) (s.split ∙ ap (λ (l : List ℕ). s.got ++ l) e ∙ append-nil s.got) ∙ s.held

pub sofar_last : (old now new : Held) (line next rest middle : List ℕ) (left then : Option (List ℕ)) (r : Option Line) (s : Sofar old now line rest left)
    → Parts now.bytes line middle next (Ok false) → Refills s.then new.bytes then (Ok false) → new.bytes ≡ [] → new.ended ≡ true → old.ended ≡ false
    → (next ≡ [] → r ≡ None) → (0 < length next → length next ≤ LINE_BYTES → r ≡ Some (Whole next)) → (LINE_BYTES < length next → r ≡ Some Long) → Reads old rest new then (Ok r)
sofar_last old now new line next rest middle left then r s p f empty ended going none short long =
    let is : next ≡ take (LINE_BYTES + 1) (s.whole ++ now.bytes) = kept_on s.whole now.bytes line next s.line_is p.1 in
    let size : length next ≡ min (LINE_BYTES + 1) (length (s.whole ++ now.bytes)) = ap length is ∙ length-take (LINE_BYTES + 1) (s.whole ++ now.bytes) in
    let taken : old.bytes ++ rest ≡ s.whole ++ now.bytes = all_taken old now line rest left s f.0 in
    elim (cases_lt 0 (length next)) [
      | inl some ↦
          let reads : ReadsLine (s.whole ++ now.bytes) old rest new then = (
            [],
            f.1,
            record {
              plain = no_feed_append s.whole now.bytes s.plain p.2;
              left = inr (taken, omega arith, append-nil new.bytes ∙ empty, ended);
            },
          ) in
          elim (cases_lt LINE_BYTES (length next)) [
            | inl far ↦
                subst (λ (n : Option Line). Reads old rest new then (Ok n)) (sym (long far))
                (reads_line old new (s.whole ++ now.bytes) next rest then Long is reads (λ h. absurd (omega arith)) (λ h. refl))
            | inr near ↦
                subst (λ (n : Option Line). Reads old rest new then (Ok n)) (sym (short some near))
                (reads_line old new (s.whole ++ now.bytes) next rest then (Whole next) is reads (λ h. refl) (λ h. absurd (omega arith)))
          ]
      | inr none_is ↦
          let nothing : s.whole ++ now.bytes ≡ [] = nil_from_length (s.whole ++ now.bytes) (omega arith) in
          subst (λ (n : Option Line). Reads old rest new then (Ok n)) (sym (none (nil_from_length next (omega arith))))
          (ended, empty, rw going (taken ∙ nothing, f.1))
    ]

pub sofar_fault : (old now : Held) (line next rest middle held : List ℕ) (left then : Option (List ℕ)) (new : Held) (s : Sofar old now line rest left)
    → Parts now.bytes line middle next (Ok false) → Refills s.then held then (Err Failed) → Reads old rest new then (Err Failed)
sofar_fault old now line next rest middle held left then new s p f =
    (s.got, s.then, s.split, f, subst HasNoFeed (sym s.held) (no_feed_append s.whole now.bytes s.plain p.2))

pub sofar_much : (old now : Held) (line next rest middle held : List ℕ) (left then : Option (List ℕ)) (new : Held) (s : Sofar old now line rest left)
    → Parts now.bytes line middle next (Ok false) → Refills s.then held then (Err TooMuch) → nat_lt SCRIPT_BYTES old.count ≡ false → Reads old rest new then (Err TooMuch)
sofar_much old now line next rest middle held left then new s p f few =
    rw few (s.got, f.0, f.1, s.split ∙ ap (λ (l : List ℕ). s.got ++ l) f.2, f.3, subst HasNoFeed (sym s.held) (no_feed_append s.whole now.bytes s.plain p.2))

-- the reader had read no more than a script may have
pub sofar_err : (old now : Held) (line next rest middle held : List ℕ) (left then : Option (List ℕ)) (new : Held) (e : ReadError) (s : Sofar old now line rest left)
    → Parts now.bytes line middle next (Ok false) → Refills s.then held then (Err e) → nat_lt SCRIPT_BYTES old.count ≡ false → Reads old rest new then (Err e)
sofar_err old now line next rest middle held left then new Failed s p f few = sofar_fault old now line next rest middle held left then new s p f
sofar_err old now line next rest middle held left then new TooMuch s p f few = sofar_much old now line next rest middle held left then new s p f few
sofar_err old now line next rest middle held left then new Memory s p f few = absurd f

-- memory ran out while a line was put together
pub sofar_memory : (old now : Held) (line rest : List ℕ) (left : Option (List ℕ)) (new : Held) → Sofar old now line rest left → new.bytes ≡ now.bytes
    → Reads old rest new left (Err Memory)
sofar_memory old now line rest left new s same = (
  s.got,
  s.then,
  s.whole,
  s.split,
  s.left_is,
  s.held ∙ ap (λ (l : List ℕ). s.whole ++ l) (sym same),
  s.plain,
)

-- the source has `to` left, and so many bytes came
pub counted_here : (old now : Held) (line rest to : List ℕ) (left : Option (List ℕ)) (count : ℕ) → Sofar old now line rest left → left ≡ Some to → count ≡ now.count
    → length rest + old.count ≡ length to + count
counted_here old now line rest to left count s is e = let same : s.then ≡ to = cc (s.left_is, is) in omega (arith, s.counted, ap length same, e)

pub counted_there : (old now : Held) (line rest to : List ℕ) (left : Option (List ℕ)) (count next : ℕ) (s : Sofar old now line rest left)
    → count ≡ now.count → length s.then + count ≡ length to + next → length rest + old.count ≡ length to + next
counted_there old now line rest to left count next s e more = omega (arith, s.counted, e, more)

-- `bytes` more bytes were given, and counted
pub given_more : (old now new count middle next bytes : ℕ) → count ≤ middle → next ≡ middle + bytes → now ≡ min (old + (middle - count)) (2 ^ 64 - 1) → new ≡ min (now + bytes) (2 ^ 64 - 1)
    → new ≡ min (old + (next - count)) (2 ^ 64 - 1)
given_more old now new count middle next bytes h e is more = omega arith

work_going : (ended : Bool) → ended ≡ false → ◌≡◌ {A = ℕ} (cond ended 0 1) 1
work_going true e = cc
work_going false e = refl

-- what was still to read is held now
pub work_more : (old now new : Held) → work now ≤ work old → new.count ≡ now.count + length new.bytes → new.count ≤ SCRIPT_BYTES → now.ended ≡ false → new.ended ≡ false → work new ≤ work old
work_more old now new h e limit going still =
    let a : ◌≡◌ {A = ℕ} (cond now.ended 0 1) 1 = work_going now.ended going in
    let b : ◌≡◌ {A = ℕ} (cond new.ended 0 1) 1 = work_going new.ended still in
    omega (arith, h, a, b)
