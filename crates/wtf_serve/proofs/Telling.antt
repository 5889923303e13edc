-- What was read of a script so far, where the source tells it.
use Rattle.std.proofs.Common.{◌≡◌, ◌≢◌, ◌<◌, ◌≤◌, ◌+◌, ℕ, suc, Bool, true, false, List, [], ◌∷◌, ◌++◌, length, Option, Some, refl, sym, ◌∙◌, ap, subst, arith, take}
use Rattle.std.proofs.Common.{append_assoc, inl, inr, length-append}
use Rattle.std.specs.List.{All}
use Rattle.std.specs.Bool.{MatchBool}
use Rattle.std.proofs.lemmas.Bool.{le-ltb}
use Rattle.std.proofs.lemmas.List.{append-nil}
use Rattle.std.proofs.lemmas.List.Elements.{All-append, All-nil, All-cons}
use Rattle.wtf_script.specs.declared.limits.TheConstants.{CHUNK_BYTES, SCRIPT_BYTES}
use Rattle.wtf_script.specs.ScriptLines.{line_feed, lines_of, ended_of, fed, HasNoFeed}
use Rattle.wtf_script.specs.Reading.{Held, ReadsLine, ReadsEnd, ReadsFault, ReadsTooMuch, ReadsShort}
use Rattle.wtf_serve.specs.Passes.{Input, CameShort}
use Rattle.wtf_serve.specs.Scripts.{IsWholeStatus}
use Rattle.wtf_serve.specs.Traces.{CameNoMore, with_next, HasRead}
use Rattle.wtf_script.proofs.LinesOf.{lines_of-fed, ended_of-fed, fed-push, fed_both, next_len, lines_of-plain, ended_of-plain}

-- the lines came, and the reader holds the next bytes; when it has seen the end, these were all
pub record Told (script : List ℕ) (left : Option (List ℕ)) (held : Held) (lines : List (List ℕ)) : Type 0 where
  pub rest : List ℕ
  pub left_is : left ≡ Some rest
  pub going : held.ended ≡ false → (script ≡ fed lines ++ (held.bytes ++ rest)) × All HasNoFeed lines
  pub over : held.ended ≡ true → (lines_of script ≡ lines) × (held.bytes ++ rest ≡ [])
  pub most : length script ≤ length (fed lines) + length (held.bytes ++ rest)

pub some_same : (a b : List ℕ) → Some a ≡ Some b → a ≡ b
some_same a b e = cc

pub told_none : (script : List ℕ) (left : Option (List ℕ)) → left ≡ Some script → Told script left (record { bytes = []; count = 0; ended = false }) []
told_none script left is = record { rest = script; left_is = is; going = λ e. (refl, All-nil HasNoFeed); over = λ e. cc; most = omega arith }

-- the first lines of the script
front_at : (script : List ℕ) (left : Option (List ℕ)) (held : Held) (lines : List (List ℕ)) (b : Bool) → held.ended ≡ b → Told script left held lines
    → (more : List (List ℕ)) × (lines_of script ≡ lines ++ more)
front_at script left held lines true is told = ([], (told.over is).0 ∙ sym (append-nil lines))
front_at script left held lines false is told =
    (lines_of (held.bytes ++ told.rest), ap lines_of (told.going is).0 ∙ lines_of-fed lines (held.bytes ++ told.rest) (told.going is).1)

pub told_front : (script : List ℕ) (left : Option (List ℕ)) (held : Held) (lines : List (List ℕ)) → Told script left held lines → (more : List (List ℕ))
    × (lines_of script ≡ lines ++ more)
told_front script left held lines told = front_at script left held lines held.ended refl told

-- a further line came
long_enough : (xs ys : List ℕ) (b : ℕ) → xs ++ b ∷ ys ≡ [] → ⊥
long_enough [] ys b e = cc
long_enough (x ∷ xs) ys b e = cc

not_empty : (xs : List ℕ) → 0 < length xs → xs ≡ [] → ⊥
not_empty [] h e = absurd (omega (arith, h))
not_empty (x ∷ xs) h e = cc

fed_more : (lines : List (List ℕ)) (line : List ℕ) → length (fed (lines ++ line ∷ [])) ≡ length (fed lines) + (length line + 1)
fed_more lines line = omega (arith, ap length (fed-push lines line), length-append (fed lines ++ line) (line_feed ∷ []), length-append (fed lines) line)

more_at : (script : List ℕ) (left left' : Option (List ℕ)) (held held' : Held) (lines : List (List ℕ)) (line : List ℕ) (b : Bool) → held.ended ≡ b
    → (told : Told script left held lines) → ReadsLine line held told.rest held' left' → Told script left' held' (lines ++ line ∷ [])
more_at script left left' held held' lines line true is told (next, next_is, first) =
    absurd (elim first.left [
      | inl e ↦ long_enough line (held'.bytes ++ next) 10 (sym e.0 ∙ (told.over is).1)
      | inr e ↦ not_empty line e.1 (sym e.0 ∙ (told.over is).1)
    ])
more_at script left left' held held' lines line false is told (next, next_is, first) =
    let was = told.going is in
    elim first.left [
      | inl e ↦ record {
        rest = next;
        left_is = next_is;
        going = λ _. (
          was.0 ∙ ap (λ (x : List ℕ). fed lines ++ x) (e.0 ∙ sym (append_assoc line (10 ∷ []) (held'.bytes ++ next)))
              ∙ sym (append_assoc (fed lines) (line ++ 10 ∷ []) (held'.bytes ++ next))
              ∙ ap (λ (x : List ℕ). x ++ (held'.bytes ++ next)) (sym (append_assoc (fed lines) line (10 ∷ [])) ∙ sym (fed-push lines line)),
          All-append HasNoFeed lines (line ∷ []) was.1 (All-cons HasNoFeed line [] first.plain (All-nil HasNoFeed)),
        );
        over = λ o. absurd (cc);
        most = omega (
          arith,
          ap length was.0,
          ap length e.0,
          length-append (fed lines) (held.bytes ++ told.rest),
          length-append line
              (10 ∷ (held'.bytes ++ next)),
          fed_more lines line,
        );
      }
      | inr e ↦ record {
        rest = next;
        left_is = next_is;
        going = λ o. absurd (cc);
        over = λ _. (
          ap lines_of (was.0 ∙ ap (λ (x : List ℕ). fed lines ++ x) e.0) ∙ lines_of-fed lines line was.1
              ∙ ap (λ (x : List (List ℕ)). lines ++ x) (lines_of-plain line first.plain e.1),
          e.2,
        );
        most = omega (arith, ap length was.0, ap length e.0, length-append (fed lines) (held.bytes ++ told.rest), fed_more lines line);
      }
    ]

pub told_more : (script : List ℕ) (left left' : Option (List ℕ)) (held held' : Held) (lines : List (List ℕ)) (line : List ℕ) → Told script left held lines
    → ((rest : List ℕ) → left ≡ Some rest → ReadsLine line held rest held' left') → Told script left' held' (lines ++ line ∷ [])
told_more script left left' held held' lines line told came = more_at script left left' held held' lines line held.ended refl told (came told.rest told.left_is)

-- the end
nil_right : (xs ys : List ℕ) → xs ++ ys ≡ [] → ys ≡ []
nil_right [] ys e = e
nil_right (x ∷ xs) ys e = cc

end_at : (script : List ℕ) (left left' : Option (List ℕ)) (held held' : Held) (lines : List (List ℕ)) (b : Bool) → held.ended ≡ b
    → (told : Told script left held lines) → ReadsEnd held told.rest held' left' → (lines ≡ lines_of script) × (left' ≡ Some [])
end_at script left left' held held' lines true is told (ended, bytes, last) =
    let same : left' ≡ Some told.rest = subst (λ (b : Bool). MatchBool b (left' ≡ Some told.rest)
    ((held.bytes ++ told.rest ≡ []) × (left' ≡ Some []))) is last in
    (sym (told.over is).0, same ∙ ap (λ (x : List ℕ). Some x) (nil_right held.bytes told.rest (told.over is).1))
end_at script left left' held held' lines false is told (ended, bytes, last) =
    let none : (held.bytes ++ told.rest ≡ []) × (left' ≡ Some []) = subst
    (λ (b : Bool). MatchBool b (left' ≡ Some told.rest) ((held.bytes ++ told.rest ≡ []) × (left' ≡ Some []))) is last in
    let was = told.going is in
    (sym (ap lines_of (was.0 ∙ ap (λ (x : List ℕ). fed lines ++ x) none.0) ∙ lines_of-fed lines [] was.1 ∙ append-nil lines), none.1)

pub told_end : (script : List ℕ) (left left' : Option (List ℕ)) (held held' : Held) (lines : List (List ℕ)) → Told script left held lines
    → ((rest : List ℕ) → left ≡ Some rest → ReadsEnd held rest held' left') → (status : ℕ) → IsWholeStatus status → HasRead script left' status lines
told_end script left left' held held' lines told came status ends = record {
  front = told_front script left held lines told;
  whole = λ _. end_at script left left' held held' lines held.ended refl told (came told.rest told.left_is);
  fault = λ e. absurd (omega (arith, e, ends));
  unwritten = λ e. absurd (omega (arith, e, ends));
  short = λ e. absurd (omega (arith, e, ends));
  too_much = λ e. absurd (omega (arith, e, ends));
}

-- no more came than the lines and their line feeds
whole_at : (script : List ℕ) (left left' : Option (List ℕ)) (held held' : Held) (lines : List (List ℕ)) (b : Bool) → held.ended ≡ b
    → (told : Told script left held lines) → ReadsEnd held told.rest held' left' → length script ≤ length (fed lines)
whole_at script left left' held held' lines true is told reads = omega (arith, told.most, ap length (told.over is).1)
whole_at script left left' held held' lines false is told (ended, bytes, last) =
    let none : (held.bytes ++ told.rest ≡ []) × (left' ≡ Some []) = subst
    (λ (b : Bool). MatchBool b (left' ≡ Some told.rest) ((held.bytes ++ told.rest ≡ []) × (left' ≡ Some []))) is last in
    omega (arith, told.most, ap length none.0)

-- the sink failed behind the last line
pub told_held : (script : List ℕ) (left left' : Option (List ℕ)) (held held' : Held) (lines : List (List ℕ)) → Told script left held lines
    → ((rest : List ℕ) → left ≡ Some rest → ReadsEnd held rest held' left') → HasRead script left' 4 lines
told_held script left left' held held' lines told came =
    let reads = came told.rest told.left_is in
    let none : left' ≡ Some [] = (end_at script left left' held held' lines held.ended refl told reads).1 in
    record {
      front = told_front script left held lines told;
      whole = λ e. absurd (omega (arith, e));
      fault = λ e. absurd (omega (arith, e));
      unwritten = λ _. (
        script,
        [],
        sym (append-nil script),
        none,
        omega (arith, whole_at script left left' held held' lines held.ended refl told reads),
      );
      short = λ e. absurd (omega (arith, e));
      too_much = λ e. absurd (omega (arith, e));
    }

goes_on : (b : Bool) → b ≢ true → b ≡ false
goes_on true h = absurd (h refl)
goes_on false h = refl

-- the bytes that came, up to those of a line that has not ended
came_of : (script : List ℕ) (lines : List (List ℕ)) (bytes rest came tail : List ℕ) → script ≡ fed lines ++ (bytes ++ rest) → rest ≡ came ++ tail
    → script ≡ (fed lines ++ (bytes ++ came)) ++ tail
came_of script lines bytes rest came tail is rest_is =
    is ∙ ap (λ (x : List ℕ). fed lines ++ (bytes ++ x)) rest_is ∙ ap (λ (x : List ℕ). fed lines ++ x) (sym (append_assoc bytes came tail))
    ∙ sym (append_assoc (fed lines) (bytes ++ came) tail)

ended_came : (lines : List (List ℕ)) (bytes : List ℕ) → All HasNoFeed lines → HasNoFeed bytes → lines ≡ ended_of (fed lines ++ bytes)
ended_came lines bytes plain tail = sym (ended_of-fed lines bytes plain ∙ ap (λ (x : List (List ℕ)). lines ++ x) (ended_of-plain bytes tail) ∙ append-nil lines)

-- the source failed
pub told_fault : (script : List ℕ) (left left' : Option (List ℕ)) (held held' : Held) (lines : List (List ℕ)) → held.ended ≢ true → Told script left held lines
    → ((rest : List ℕ) → left ≡ Some rest → ReadsFault held rest left') → HasRead script left' 3 lines
told_fault script left left' held held' lines unended told reads =
    let (came, tail, rest_is, left_is, plain) = reads told.rest told.left_is in
    let was = told.going (goes_on held.ended unended) in
    record {
      front = told_front script left held lines told;
      whole = λ e. absurd (omega (arith, e));
      fault = λ _. (
        fed lines ++ (held.bytes ++ came),
        tail,
        came_of script lines held.bytes told.rest came tail was.0 rest_is,
        left_is,
        ended_came lines
            (held.bytes ++ came) was.1 plain,
      );
      unwritten = λ e. absurd (omega (arith, e));
      short = λ e. absurd (omega (arith, e));
      too_much = λ e. absurd (omega (arith, e));
    }

shorter : (script came tail : List ℕ) (b n : ℕ) → script ≡ came ++ b ∷ tail → length script ≡ length tail + (n + 1) → length came ≡ n
shorter script came tail b n is counted = omega (arith, counted, ap length is ∙ length-append came (b ∷ tail))

-- more than a script may have came, where no more had come before
reads_more : (held : Held) (rest : List ℕ) (left : Option (List ℕ)) → held.count ≤ SCRIPT_BYTES → ReadsTooMuch held rest left
    → (came : List ℕ) × (b : ℕ) × (then : List ℕ) × (rest ≡ came ++ b ∷ then) × (left ≡ Some then) × HasNoFeed (held.bytes ++ came)
reads_more held rest left few reads =
    subst (λ (b : Bool). MatchBool b (left ≡ Some rest) ((came : List ℕ) × (b : ℕ) × (then : List ℕ) × (rest ≡ came ++ b ∷ then) × (left ≡ Some then)
    × HasNoFeed (held.bytes ++ came)))
    (le-ltb SCRIPT_BYTES held.count few) reads

-- too many bytes came
pub told_much : (script : List ℕ) (left left' : Option (List ℕ)) (held held' : Held) (lines : List (List ℕ)) → held.ended ≢ true → held.count ≤ SCRIPT_BYTES
    → Told script left held lines
    → ((rest : List ℕ) → left ≡ Some rest → ReadsTooMuch held rest left')
    → ((now : List ℕ) → left' ≡ Some now → length script ≡ length now + (SCRIPT_BYTES + 1)) → HasRead script left' 9 lines
told_much script left left' held held' lines unended few told reads counted =
    let (came, b, tail, rest_is, left_is, plain) = reads_more held told.rest left' few (reads told.rest told.left_is) in
    let was = told.going (goes_on held.ended unended) in
    let whole = came_of script lines held.bytes told.rest came (b ∷ tail) was.0 rest_is in
    record {
      front = told_front script left held lines told;
      whole = λ e. absurd (omega (arith, e));
      fault = λ e. absurd (omega (arith, e));
      unwritten = λ e. absurd (omega (arith, e));
      short = λ e. absurd (omega (arith, e));
      too_much = λ _. (
        fed lines ++ (held.bytes ++ came),
        b,
        tail,
        whole,
        left_is,
        shorter script (fed lines ++ (held.bytes ++ came)) tail b (SCRIPT_BYTES) whole (counted tail left_is),
        (ended_came lines (held.bytes ++ came) was.1 plain),
      );
    }

-- no more came than these lines, and what the reader holds
no_more_at : (script : List ℕ) (left : Option (List ℕ)) (held : Held) (lines : List (List ℕ)) (b : Bool) → held.ended ≡ b → length held.bytes ≤ CHUNK_BYTES
    → Told script left held lines → CameNoMore script left lines
no_more_at script left held lines true is few told =
    let none : held.bytes ++ told.rest ≡ [] = (told.over is).1 in
    let rest : told.rest ≡ [] = nil_right held.bytes told.rest none in
    (script, [], sym (append-nil script), told.left_is ∙ ap (λ (x : List ℕ). Some x) rest, omega (arith, told.most, ap length none))
no_more_at script left held lines false is few told = (
  fed lines ++ held.bytes,
  told.rest,
  (told.going is).0 ∙ sym (append_assoc (fed lines) held.bytes told.rest),
  told.left_is,
  omega (arith, few, length-append (fed lines) held.bytes),
)

-- the lines that were answered, with the script's next one
next_of : (lines more : List (List ℕ)) → take (length lines + 1) (lines ++ more) ≡ lines ++ take 1 more
next_of [] more = let one : length {A = List ℕ} [] + 1 ≡ 1 = omega arith in ap (λ (n : ℕ). take n more) one
next_of (line ∷ lines) more =
    let longer : length (line ∷ lines) + 1 ≡ suc (length lines + 1) = omega arith in
    ap (λ (n : ℕ). take n (line ∷ (lines ++ more))) longer ∙ ap (λ (ls : List (List ℕ)). line ∷ ls) (next_of lines more)

with_next_is : (script : List ℕ) (lines more : List (List ℕ)) → lines_of script ≡ lines ++ more → with_next script lines ≡ lines ++ take 1 more
with_next_is script lines more is = ap (λ (ls : List (List ℕ)). take (length lines + 1) ls) is ∙ next_of lines more

next_fed : (script : List ℕ) (lines more : List (List ℕ)) → lines_of script ≡ lines ++ more
    → length (fed (with_next script lines)) ≡ length (fed lines) + length (fed (take 1 more))
next_fed script lines more is = ap (λ (ls : List (List ℕ)). length (fed ls)) (with_next_is script lines more is) ∙ fed_both lines (take 1 more)

-- no memory was found at the end
pub short_end : (script : List ℕ) (left left' : Option (List ℕ)) (held held' : Held) (lines : List (List ℕ)) → Told script left held lines
    → ((rest : List ℕ) → left ≡ Some rest → ReadsEnd held rest held' left') → CameNoMore script left' (with_next script lines)
short_end script left left' held held' lines told came =
    let reads = came told.rest told.left_is in
    let (more, is) = told_front script left held lines told in (
      script,
      [],
      sym (append-nil script),
      (end_at script left left' held held' lines held.ended refl told reads).1,
      omega (arith, whole_at script left left' held held' lines held.ended refl told reads, next_fed script lines more is),
    )

-- while a line was read
part_at : (script : List ℕ) (left left' : Option (List ℕ)) (held held' : Held) (lines : List (List ℕ)) (b : Bool) → held.ended ≡ b
    → length held'.bytes ≤ CHUNK_BYTES → (told : Told script left held lines) → ReadsShort held told.rest held' left'
    → CameNoMore script left' (with_next script lines)
part_at script left left' held held' lines true is few told (came, tail, gone, rest_is, left_is, held_is, plain) =
    let (more, front) = told_front script left held lines told in
    let none : held.bytes ++ told.rest ≡ [] = (told.over is).1 in
    let last : tail ≡ [] = nil_right came tail (sym rest_is ∙ nil_right held.bytes told.rest none) in (
      script,
      [],
      sym (append-nil script),
      left_is ∙ ap (λ (x : List ℕ). Some x) last,
      omega (arith, told.most, ap length none, next_fed script lines more front),
    )
part_at script left left' held held' lines false is few told (came, tail, gone, rest_is, left_is, held_is, plain) =
    let was = told.going is in
    let behind : held.bytes ++ told.rest ≡ gone ++ (held'.bytes ++ tail)
    = ap (λ (x : List ℕ). held.bytes ++ x) rest_is ∙ sym (append_assoc held.bytes came tail) ∙ ap (λ (x : List ℕ). x ++ tail) held_is
    ∙ append_assoc gone held'.bytes tail in
    let front : lines_of script ≡ lines ++ lines_of (gone ++ (held'.bytes ++ tail))
    = ap lines_of was.0 ∙ lines_of-fed lines (held.bytes ++ told.rest) was.1
    ∙ ap (λ (x : List ℕ). lines ++ lines_of x) behind in (
      fed lines ++ (held.bytes ++ came),
      tail,
      came_of script lines held.bytes told.rest came tail was.0 rest_is,
      left_is,
      omega (
        arith,
        few,
        length-append (fed lines) (held.bytes ++ came),
        ap length held_is,
        length-append gone held'.bytes,
        next_len gone (held'.bytes ++ tail) plain,
        next_fed script lines (lines_of (gone ++ (held'.bytes ++ tail))) front,
      ),
    )

-- or behind a line that was
line_at : (script : List ℕ) (left' : Option (List ℕ)) (held' : Held) (lines : List (List ℕ)) (line : List ℕ) → length held'.bytes ≤ CHUNK_BYTES
    → Told script left' held' (lines ++ line ∷ []) → CameNoMore script left' (with_next script lines)
line_at script left' held' lines line few told =
    let (more, front) = told_front script left' held' (lines ++ line ∷ []) told in
    let is : with_next script lines ≡ lines ++ line ∷ []
    = with_next_is script lines (line ∷ more) (front ∙ append_assoc lines (line ∷ []) more) in
    subst (λ (ls : List (List ℕ)). CameNoMore script left' ls) (sym is) (no_more_at script left' held' (lines ++ line ∷ []) held'.ended refl few told)

pub told_short : (i i' : Input) (script : List ℕ) (lines : List (List ℕ)) → length i'.held.bytes ≤ CHUNK_BYTES → Told script i.source.rest i.held lines
    → CameShort i i' → CameNoMore script i'.source.rest (with_next script lines)
told_short i i' script lines few told (inl part) =
    part_at script i.source.rest i'.source.rest i.held i'.held lines i.held.ended refl few told (part told.rest told.left_is)
told_short i i' script lines few told (inr (line, came)) =
    line_at script i'.source.rest i'.held lines line few (told_more script i.source.rest i'.source.rest i.held i'.held lines line told came)

-- the run ends after these lines for another reason
pub told_other : (script : List ℕ) (left left' : Option (List ℕ)) (held : Held) (lines : List (List ℕ)) (status : ℕ) → (IsWholeStatus status → ⊥) → status ≢ 3
    → status ≢ 9
    → (status ≡ 4 → (left' ≡ left) × (length held.bytes ≤ CHUNK_BYTES)) → (status ≡ 7 → CameNoMore script left' (with_next script lines))
    → Told script left held lines → HasRead script left' status lines
told_other script left left' held lines status not_0 not_3 not_9 few short told = record {
  front = told_front script left held lines told;
  whole = λ e. absurd (not_0 e);
  fault = λ e. absurd (not_3 e);
  unwritten = λ e. let (same, least) = few e in subst (λ (x : Option (List ℕ)). CameNoMore script x lines) (sym same)
      (no_more_at script left held lines held.ended refl least told);
  short = short;
  too_much = λ e. absurd (not_9 e);
}
