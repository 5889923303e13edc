-- What was read of a script so far, where the source tells it.
use Rattle.std.proofs.Common.{
  ◌≡◌,
  ◌⊎◌,
  ◌↔◌,
  ◌<◌,
  ◌≤◌,
  ◌+◌,
  ◌-◌,
  ◌^◌,
  ℕ,
  min,
  Bool,
  true,
  false,
  List,
  [],
  ◌∷◌,
  ◌++◌,
  length,
  Option,
  Some,
  None,
  Result,
  Ok,
  Err,
  refl,
  sym,
  ◌∙◌,
  ap,
  subst,
  arith,
  append_assoc,
  inl,
  inr,
}
use Rattle.std.specs.Prelude.{replicate}
use Rattle.std.specs.Bool.{MatchBool}
use Rattle.std.proofs.lemmas.Bool.{lt-leb}
use Rattle.std.proofs.lemmas.List.{append-nil, length-replicate}
use Rattle.std.proofs.lemmas.List.Elements.{All-append, All-nil, All-cons}
use Rattle.wtf_dev.specs.Counts.{Rose}
use Rattle.wtf_dev.specs.Streams.{SourceView}
use Rattle.wtf_model.specs.declared.event.Event.{Event}
use Rattle.wtf_model.specs.declared.answer.Kind.{Kind}
use Rattle.wtf_model.specs.declared.answer.Kind.TheVariants as kind
use Rattle.wtf_script.specs.declared.limits.TheConstants.{SCRIPT_BYTES, LINE_BYTES}
use Rattle.wtf_script.specs.declared.lines.Line.{Line}
use Rattle.wtf_script.specs.declared.lines.Line.TheVariants as line
use Rattle.wtf_script.specs.declared.error.ReadError.{ReadError}
use Rattle.wtf_script.specs.declared.error.ReadError.TheVariants as read_error
use Rattle.wtf_script.specs.ScriptLines.{lines_of, fed, HasNoFeed}
use Rattle.wtf_script.specs.Reading.{Held, Reads, ReadsLine, ReadsEnd, IsLine, Counts, Draws, work}
use Rattle.wtf_script.specs.Grammar.{event_of, spelled}
use Rattle.wtf_script.proofs.LinesOf.{lines_of-fed, fed-push, lines_of-plain}
use Rattle.wtf_checker.specs.declared.stop.Stop.{Stop}
use Rattle.wtf_checker.specs.declared.stop.Stop.TheVariants as stop
use Rattle.wtf_checker.specs.Sources.{Gave}
use Rattle.wtf_checker.specs.Reading.{Told, IsReading, IsRead, HasStopped, HasLess, Asks, IsMore, Next}

pub some_same : (a b : List ℕ) → Some a ≡ Some b → a ≡ b
some_same a b e = cc

told_none : (script : List ℕ) (left : Option (List ℕ)) → left ≡ Some script → Told script left (record { bytes = []; count = 0; ended = false }) []
told_none script left is = record { rest = script; left_is = is; going = λ e. (refl, All-nil HasNoFeed); over = λ e. cc }

-- the first lines of the script
front_at : (script : List ℕ) (left : Option (List ℕ)) (held : Held) (lines : List (List ℕ)) (b : Bool) → held.ended ≡ b → Told script left held lines
    → (more : List (List ℕ)) × (lines_of script ≡ lines ++ more)
front_at script left held lines true is told = ([], (told.over is).0 ∙ sym (append-nil lines))
front_at script left held lines false is told =
    (lines_of (held.bytes ++ told.rest), ap lines_of (told.going is).0 ∙ lines_of-fed lines (held.bytes ++ told.rest) (told.going is).1)

pub told_front : (script : List ℕ) (left : Option (List ℕ)) (held : Held) (lines : List (List ℕ)) → Told script left held lines
    → (more : List (List ℕ)) × (lines_of script ≡ lines ++ more)
told_front script left held lines told = front_at script left held lines held.ended refl told

-- a further line came
long_enough : (xs ys : List ℕ) (b : ℕ) → xs ++ b ∷ ys ≡ [] → ⊥
long_enough [] ys b e = cc
long_enough (x ∷ xs) ys b e = cc

not_empty : (xs : List ℕ) → 0 < length xs → xs ≡ [] → ⊥
not_empty [] h e = absurd (omega (arith, h))
not_empty (x ∷ xs) h e = cc

more_at : (script : List ℕ) (left left' : Option (List ℕ)) (held held' : Held) (lines : List (List ℕ)) (line : List ℕ) (b : Bool) → held.ended ≡ b
    → (told : Told script left held lines) → ReadsLine line held told.rest held' left' → Told script left' held' (lines ++ line ∷ [])
more_at script left left' held held' lines line true is told (next, next_is, first) =
    absurd (elim first.left [
      | inl e ↦ long_enough line (held'.bytes ++ next) 10 (sym e.0 ∙ (told.over is).1)
      | inr e ↦ not_empty line e.1 (sym e.0 ∙ (told.over is).1)
    ])
more_at script left left' held held' lines line false is told (next, next_is, first) =
    let was = told.going is in
    elim first.left [
      | inl e ↦ record {
        rest = next;
        left_is = next_is;
        going = λ _. (
          was.0 ∙ ap (λ (x : List ℕ). fed lines ++ x) (e.0 ∙ sym (append_assoc line (10 ∷ []) (held'.bytes ++ next)))
              ∙ sym (append_assoc (fed lines) (line ++ 10 ∷ []) (held'.bytes ++ next))
              ∙ ap (λ (x : List ℕ). x ++ (held'.bytes ++ next)) (sym (append_assoc (fed lines) line (10 ∷ [])) ∙ sym (fed-push lines line)),
          All-append HasNoFeed lines (line ∷ []) was.1 (All-cons HasNoFeed line [] first.plain (All-nil HasNoFeed)),
        );
        over = λ o. absurd (cc);
      }
      | inr e ↦ record {
        rest = next;
        left_is = next_is;
        going = λ o. absurd (cc);
        over = λ _. (
          ap lines_of (was.0 ∙ ap (λ (x : List ℕ). fed lines ++ x) e.0) ∙ lines_of-fed lines line was.1
              ∙ ap (λ (x : List (List ℕ)). lines ++ x) (lines_of-plain line first.plain e.1),
          e.2,
        );
      }
    ]

pub told_more : (script : List ℕ) (left left' : Option (List ℕ)) (held held' : Held) (lines : List (List ℕ)) (line : List ℕ) → Told script left held lines
    → ((rest : List ℕ) → left ≡ Some rest → ReadsLine line held rest held' left') → Told script left' held' (lines ++ line ∷ [])
told_more script left left' held held' lines line told came = more_at script left left' held held' lines line held.ended refl told (came told.rest told.left_is)

-- the end
nil_right : (xs ys : List ℕ) → xs ++ ys ≡ [] → ys ≡ []
nil_right [] ys e = e
nil_right (x ∷ xs) ys e = cc

end_at : (script : List ℕ) (left left' : Option (List ℕ)) (held held' : Held) (lines : List (List ℕ)) (b : Bool) → held.ended ≡ b
    → (told : Told script left held lines) → ReadsEnd held told.rest held' left' → (lines ≡ lines_of script) × (left' ≡ Some [])
end_at script left left' held held' lines true is told (ended, bytes, last) =
    let same : left' ≡ Some told.rest = subst (λ (b : Bool). MatchBool b (left' ≡ Some told.rest) ((held.bytes ++ told.rest ≡ []) × (left' ≡ Some [])))
    is last in
    (sym (told.over is).0, same ∙ ap (λ (x : List ℕ). Some x) (nil_right held.bytes told.rest (told.over is).1))
end_at script left left' held held' lines false is told (ended, bytes, last) =
    let none : (held.bytes ++ told.rest ≡ [])
    × (left' ≡ Some []) = subst (λ (b : Bool). MatchBool b (left' ≡ Some told.rest) ((held.bytes ++ told.rest ≡ []) × (left' ≡ Some []))) is last in
    let was = told.going is in
    (sym (ap lines_of (was.0 ∙ ap (λ (x : List ℕ). fed lines ++ x) none.0) ∙ lines_of-fed lines [] was.1 ∙ append-nil lines), none.1)

-- ---- what the source gave

pub gave_none : (start : SourceView) → Gave start start 0
gave_none start = record {
  given = λ h. omega (arith, h);
  counted = λ all left h k. let same : length all ≡ length left = ap length (some_same all left (sym h ∙ k)) in omega (arith, same);
  faults = omega arith;
}

pub reading_first : (start : SourceView) → IsReading start start (record { bytes = []; count = 0; ended = false }) []
reading_first start = record {
  gave = gave_none start;
  told = λ script is. told_none script start.rest is;
  limit = omega arith;
}

-- what a call that reads a line promises
pub record Got (old new : SourceView) (held held' : Held) (r : Result (Option Line) ReadError) : Type 0 where
  pub told : (rest : List ℕ) → old.rest ≡ Some rest → Reads held rest held' new.rest r
  pub counts : Counts held held' old new
  pub draws : Draws held held' old new
  pub grows : held.count ≤ held'.count
  pub much : (r ≡ Err read_error.TooMuch) ↔ (SCRIPT_BYTES < held'.count)
  pub progress : IsLine r → work held' < work held
  pub faults : old.faults ≤ new.faults
  pub cause : r ≡ Err read_error.Failed → Rose old.faults new.faults

given_on : (a b c n n' : ℕ) → n ≤ n' → b ≡ min (a + n) (2 ^ 64 - 1) → c ≡ min (b + (n' - n)) (2 ^ 64 - 1) → c ≡ min (a + n') (2 ^ 64 - 1)
given_on a b c n n' h e f = omega (arith, h, e, f)

low : (a b n : ℕ) → b ≡ min (a + n) (2 ^ 64 - 1) → b ≤ 2 ^ 64 - 1
low a b n e = omega (arith, e)

gave_on : (start old new : SourceView) (held held' : Held) (lines : List (List ℕ)) (r : Result (Option Line) ReadError) → IsReading start old held lines
    → Got old new held held' r → Gave start new held'.count
gave_on start old new held held' lines r was got = record {
  given = λ h.
      let e : old.given ≡ min (start.given + held.count) (2 ^ 64 - 1) = was.gave.given h in
      given_on start.given old.given new.given held.count held'.count got.grows e (got.draws (low start.given old.given held.count e));
  counted = λ all left h k.
      let t = was.told all h in
      let a : length all ≡ length t.rest + held.count = was.gave.counted all t.rest h t.left_is in
      let b : length t.rest + held.count ≡ length left + held'.count = got.counts t.rest left t.left_is k in
      a ∙ b;
  faults = omega (arith, was.gave.faults, got.faults);
}

few : (r : Result (Option Line) ReadError) (n : ℕ) → (r ≡ Err read_error.TooMuch) ↔ (SCRIPT_BYTES < n) → (r ≡ Err read_error.TooMuch → ⊥) → n ≤ SCRIPT_BYTES
few r n much not = omega (arith, λ (h : SCRIPT_BYTES < n). not (much.1 h))

reading_more : (start old new : SourceView) (held held' : Held) (lines : List (List ℕ)) (r : Result (Option Line) ReadError) (line : List ℕ)
    → IsReading start old held lines → Got old new held held' r
    → ((rest : List ℕ) → old.rest ≡ Some rest → ReadsLine line held rest held' new.rest) → held'.count ≤ SCRIPT_BYTES
    → IsReading start new held' (lines ++ line ∷ [])
reading_more start old new held held' lines r line was got came limit = record {
  gave = gave_on start old new held held' lines r was got;
  told = λ script is. told_more script old.rest new.rest held held' lines line (was.told script is) came;
  limit = limit;
}

-- a line of too many bytes: one of those that the source tells, and else any
event_of-long : (line : List ℕ) → LINE_BYTES < length line → event_of line ≡ Err kind.Long
unfolding event_of spelled
event_of-long line h = rw (lt-leb (length line) LINE_BYTES h) refl

pub record IsLongLine (old new : SourceView) (held held' : Held) : Type 0 where
  pub line : List ℕ
  pub came : (rest : List ℕ) → old.rest ≡ Some rest → ReadsLine line held rest held' new.rest
  pub long : LINE_BYTES < length line

long_of : (old new : SourceView) (held held' : Held) (o : Option (List ℕ)) → old.rest ≡ o
    → ((rest : List ℕ) → old.rest ≡ Some rest → (bytes : List ℕ) × (LINE_BYTES < length bytes) × ReadsLine bytes held rest held' new.rest)
    → IsLongLine old new held held'
long_of old new held held' None is told = record {
  line = replicate (LINE_BYTES + 1) 0;
  came = λ rest e. absurd (cc);
  long = omega (arith, length-replicate {A = ℕ} (LINE_BYTES + 1) 0);
}
long_of old new held held' (Some r) is told =
    let (bytes, long, reads) = told r is in
    record {
      line = bytes;
      came = λ rest e. subst (λ x. ReadsLine bytes held x held' new.rest) (some_same r rest (sym is ∙ e)) reads;
      long = long;
    }

-- ---- what came of reading a line

stopped : (start old new : SourceView) (held held' : Held) (lines : List (List ℕ)) (r : Result (Option Line) ReadError) (why : Stop)
    → IsReading start old held lines → Got old new held held' r
    → (why ≡ stop.Unread) ⊎ (why ≡ stop.TooMuch) ⊎ (why ≡ stop.Memory) → (why ≡ stop.Unread → r ≡ Err read_error.Failed)
    → (why ≡ stop.TooMuch) ↔ (r ≡ Err read_error.TooMuch) → HasStopped start new held' why
stopped start old new held held' lines r why was got is failed much = record {
  gave = gave_on start old new held held' lines r was got;
  is = is;
  cause = λ e h. let rose : old.faults < new.faults = got.cause (failed e) h in omega (arith, rose, was.gave.faults);
  limit = (λ e. got.much.0 (much.0 e), λ h. much.1 (got.much.1 h));
}

ended : (start old new : SourceView) (held held' : Held) (lines : List (List ℕ)) → IsReading start old held lines → Got old new held held' (Ok None)
    → IsRead start new held' lines
ended start old new held held' lines was got = record {
  reading = record {
    gave = gave_on start old new held held' lines (Ok None) was got;
    told = λ script is.
        let t = was.told script is in
        let r = got.told t.rest t.left_is in
        let e = end_at script old.rest new.rest held held' lines held.ended refl t r in
        record { rest = []; left_is = e.1; going = λ o. absurd (cc); over = λ o. (sym e.0, append-nil held'.bytes ∙ r.1) };
    limit = few (Ok None) held'.count got.much (λ e. absurd (cc));
  };
  whole = λ script is.
      let t = was.told script is in
      let e = end_at script old.rest new.rest held held' lines held.ended refl t (got.told t.rest t.left_is) in
      (sym e.0, e.1);
}

pub next_is : (start old new : SourceView) (held held' : Held) (lines : List (List ℕ)) → IsReading start old held lines
    → (r : Result (Option Line) ReadError) → Got old new held held' r → (result : Result (Option (Result Event Kind)) Stop) → Asks r result
    → Next start new held' lines result
next_is start old new held held' lines was (Ok (Some (line.Whole bytes))) got (Ok (Some asked)) asks = record {
  line = bytes;
  asks = asks;
  reading = reading_more start old new held held' lines (Ok (Some (line.Whole bytes))) bytes was got (λ rest e. (got.told rest e).1)
      (few (Ok (Some (line.Whole bytes))) held'.count got.much (λ e. absurd (cc)));
}
next_is start old new held held' lines was (Ok (Some (line.Whole bytes))) got (Ok None) asks = absurd asks
next_is start old new held held' lines was (Ok (Some (line.Whole bytes))) got (Err why) asks =
    stopped start old new held held' lines (Ok (Some (line.Whole bytes))) why was got (inr (inr asks)) (λ e. absurd (cc)) (λ e. absurd (cc), λ e. absurd (cc))
next_is start old new held held' lines was (Ok (Some line.Long)) got (Ok (Some asked)) asks =
    let l = long_of old new held held' old.rest refl got.told in
    record {
      line = l.line;
      asks = event_of-long l.line l.long ∙ sym asks;
      reading = reading_more start old new held held' lines (Ok (Some line.Long)) l.line was got l.came
          (few (Ok (Some line.Long)) held'.count got.much (λ e. absurd (cc)));
    }
next_is start old new held held' lines was (Ok (Some line.Long)) got (Ok None) asks = absurd asks
next_is start old new held held' lines was (Ok (Some line.Long)) got (Err why) asks = absurd asks
next_is start old new held held' lines was (Ok None) got (Ok None) asks = ended start old new held held' lines was got
next_is start old new held held' lines was (Ok None) got (Ok (Some asked)) asks = absurd asks
next_is start old new held held' lines was (Ok None) got (Err why) asks = absurd asks
next_is start old new held held' lines was (Err read_error.Failed) got (Err stop.Unread) asks =
    stopped start old new held held' lines (Err read_error.Failed) stop.Unread was got (inl refl) (λ e. refl) (λ e. absurd (cc), λ e. absurd (cc))
next_is start old new held held' lines was (Err read_error.Failed) got r asks = absurd asks
next_is start old new held held' lines was (Err read_error.TooMuch) got (Err stop.TooMuch) asks =
    stopped start old new held held' lines (Err read_error.TooMuch) stop.TooMuch was got (inr (inl refl)) (λ e. absurd (cc)) (λ e. refl, λ e. refl)
next_is start old new held held' lines was (Err read_error.TooMuch) got r asks = absurd asks
next_is start old new held held' lines was (Err read_error.Memory) got (Err stop.Memory) asks =
    stopped start old new held held' lines (Err read_error.Memory) stop.Memory was got (inr (inr refl)) (λ e. absurd (cc)) (λ e. absurd (cc), λ e. absurd (cc))
next_is start old new held held' lines was (Err read_error.Memory) got r asks = absurd asks

pub less_is : (held held' : Held) (r : Result (Option Line) ReadError) → (IsLine r → work held' < work held)
    → (result : Result (Option (Result Event Kind)) Stop) → Asks r result → HasLess held held' result
less_is held held' (Ok (Some l)) progress (Ok (Some asked)) asks = progress tt
less_is held held' (Ok None) progress (Ok (Some asked)) asks = absurd asks
less_is held held' (Err read_error.Failed) progress (Ok (Some asked)) asks = absurd asks
less_is held held' (Err read_error.TooMuch) progress (Ok (Some asked)) asks = absurd asks
less_is held held' (Err read_error.Memory) progress (Ok (Some asked)) asks = absurd asks
less_is held held' r progress (Ok None) asks = tt
less_is held held' r progress (Err why) asks = tt

-- ---- reading on

pub went_on : (start now : SourceView) (held : Held) (lines : List (List ℕ)) (asked : Result (Option (Result Event Kind)) Stop)
    → Next start now held lines asked → IsMore asked (Ok true) → (more : List (List ℕ)) × IsReading start now held more
went_on start now held lines (Ok (Some x)) next is = (lines ++ next.line ∷ [], next.reading)
went_on start now held lines (Ok None) next is = absurd cc
went_on start now held lines (Err why) next is = absurd cc

pub went_out : (start now : SourceView) (held : Held) (lines : List (List ℕ)) (asked : Result (Option (Result Event Kind)) Stop)
    → Next start now held lines asked → IsMore asked (Ok false) → IsRead start now held lines
went_out start now held lines (Ok (Some x)) next is = absurd cc
went_out start now held lines (Ok None) next is = next
went_out start now held lines (Err why) next is = absurd cc

pub went_wrong : (start now : SourceView) (held : Held) (lines : List (List ℕ)) (asked : Result (Option (Result Event Kind)) Stop) (why : Stop)
    → Next start now held lines asked → IsMore asked (Err why) → HasStopped start now held why
went_wrong start now held lines (Ok (Some x)) why next is = absurd cc
went_wrong start now held lines (Ok None) why next is = absurd cc
went_wrong start now held lines (Err e) why next is = let same : e ≡ why = cc in subst (λ x. HasStopped start now held x) same next

-- memory is wanting behind the lines that were read
pub reading_stopped : (start now : SourceView) (held : Held) (lines : List (List ℕ)) → IsReading start now held lines → HasStopped start now held stop.Memory
reading_stopped start now held lines was = record {
  gave = was.gave;
  is = inr (inr refl);
  cause = λ e. absurd (cc);
  limit = (λ e. absurd (cc), λ h. absurd (omega (arith, h, was.limit)));
}

-- nothing was read yet
pub reading_at : (start : SourceView) (held : Held) → held ≡ record { bytes = []; count = 0; ended = false } → IsReading start start held []
reading_at start held is = subst (λ (h : Held). IsReading start start h []) (sym is) (reading_first start)

pub work_first : (held : Held) → held ≡ record { bytes = []; count = 0; ended = false } → work held ≤ SCRIPT_BYTES + 1
work_first held is = subst (λ (h : Held). work h ≤ SCRIPT_BYTES + 1) (sym is) (omega arith)
