-- What the other sink shows once a run is over.
use Rattle.std.proofs.Common.{◌≡◌, ◌⊎◌, ℕ, ◌+◌, ◌<◌, List, [], ◌∷◌, ◌++◌, length, take, drop, get_or, Some, inl, inr, refl, sym, ◌∙◌, ap, arith, append_assoc}
use Rattle.std.specs.Prelude.{Result, Ok, Err, true}
use Rattle.std.specs.Result.{is_err}
use Rattle.std.proofs.lemmas.List.{append-nil, take-append-drop, take_more}
use Rattle.wtf_dev.specs.Streams.{SinkView}
use Rattle.wtf_summary.specs.Summaries.{shown_text}
use Rattle.wtf_summary.specs.Traces.{mark, numbers_of}
use Rattle.wtf_summary.specs.States.{SinkStands, told}
use Rattle.wtf_summary.specs.Fronts.{ShowsFront}
use Rattle.wtf_summary.specs.Steps.{TookByte}
use Rattle.wtf_summary.specs.declared.state.State.{State}
use Rattle.wtf_summary.proofs.Sound.{clean}
use Rattle.wtf_summary.proofs.Texts.{shown-front}

same_parts : (xs ys s t : List ℕ) → length xs ≡ length ys → xs ++ s ≡ ys ++ t → (xs ≡ ys) × (s ≡ t)
same_parts [] [] s t h e = (refl, e)
same_parts [] (y ∷ ys) s t h e = absurd (omega (arith, h))
same_parts (x ∷ xs) [] s t h e = absurd (omega (arith, h))
same_parts (x ∷ xs) (y ∷ ys) s t h e =
    let first : x ≡ y = ap (λ (l : List ℕ). get_or l 0 0) e in
    let rest = same_parts xs ys s t (omega (arith, h)) (ap (drop 1) e) in
    (ap (λ (a : ℕ). a ∷ xs) first ∙ ap (λ (l : List ℕ). y ∷ l) rest.0, rest.1)

-- A run that began with this mark goes on with the same sink below, the same number of lines and the same begin, and
-- what it took since is what its view tells behind the mark.
pub record GoesOn (n l : ℕ) (f t : List ℕ) (name' : ℕ) (state : State) : Type 0 where
  pub name : name' ≡ n
  pub lines : state.lines ≡ l
  pub first : state.trace.first.numbers ≡ f
  pub text : state.trace.text.numbers ≡ t

pub goes_on : (name lines : ℕ) (first text : List ℕ) (name' : ℕ) (state : State) → told name' state ≡ mark name lines first ++ text
    → GoesOn name lines first text name' state
goes_on name lines first text name' state e =
    let parts = same_parts state.trace.first.numbers first state.trace.text.numbers text (ap (λ (l : List ℕ). get_or l 2 0) e) (ap (drop 3) e) in
    record {
      name = ap (λ (l : List ℕ). get_or l 0 0) e;
      lines = ap (λ (l : List ℕ). get_or l 1 0) e;
      first = parts.0;
      text = parts.1;
    }

-- where nothing failed, all is shown
pub shows_all : (old now : SinkView) (state : State) (lines : ℕ) (text before : List ℕ) → SinkStands now state → state.lines ≡ lines
    → state.trace.first.numbers ≡ numbers_of old → state.trace.text.numbers ≡ text → state.faults ≡ 0 → old.taken ≡ Some before
    → now.taken ≡ Some (before ++ shown_text lines text)
shows_all old now state lines text before s l f t z h =
    s.added old before f h ∙ ap Some (ap (λ (x : List ℕ). before ++ x) (clean now state s z ∙ ap (λ (n : ℕ). shown_text n state.trace.text.numbers) l ∙ ap (shown_text lines) t))

-- else a front of it is
pub shows_front : (old now : SinkView) (state : State) (lines : ℕ) (whole rest before : List ℕ) → SinkStands now state → state.lines ≡ lines
    → state.trace.first.numbers ≡ numbers_of old → (state.trace.text.numbers ++ state.trace.more.numbers) ++ rest ≡ whole → old.taken ≡ Some before
    → ShowsFront lines whole before now.taken
shows_front old now state lines whole rest before s l f w h =
    let so_far = state.trace.text.numbers ++ state.trace.more.numbers in
    let on = shown-front state.lines so_far rest s.some in
    record {
      front = state.trace.seen.numbers;
      back = state.trace.rest.numbers ++ on.0;
      shows = sym (append_assoc state.trace.seen.numbers state.trace.rest.numbers on.0)
          ∙ ap (λ (x : List ℕ). x ++ on.0) s.shows ∙ sym on.1
          ∙ ap (λ (n : ℕ). shown_text n (so_far ++ rest)) l ∙ ap (shown_text lines) w;
      taken_is = s.added old before f h;
    }

-- A byte of a text came behind the first ones: what is missing is that byte, or nothing, and the rest of the text.
pub text_is : (text : List ℕ) (at : ℕ) (b : ℕ) (took more : List ℕ) → at < length text → get_or text at 0 ≡ b → took ≡ take at text
    → (more ≡ []) ⊎ (more ≡ b ∷ []) → (rest : List ℕ) × ((took ++ more) ++ rest ≡ text)
text_is text at b took more low is front missing = elim missing [
  | inl none ↦ (
    drop at text,
    ap (λ (x : List ℕ). x ++ drop at text) (ap (λ (m : List ℕ). took ++ m) none ∙ append-nil took ∙ front) ∙ take-append-drop at text,
  )
  | inr one ↦ (
    drop (at + 1) text,
    ap (λ (x : List ℕ). x ++ drop (at + 1) text)
        (ap (λ (m : List ℕ). took ++ m) (one ∙ ap (λ (c : ℕ). c ∷ []) (sym is)) ∙ ap (λ (t : List ℕ). t ++ get_or text at 0 ∷ []) front
        ∙ sym (take_more text at 0 low))
        ∙ take-append-drop (at + 1) text,
  )
]

-- a byte that was not taken
pub kept_text : {E : Type 0} (old new : State) (b : ℕ) (result : Result (Unit {0}) E) → TookByte old new b result → is_err result ≡ true
    → new.trace.text.numbers ≡ old.trace.text.numbers
kept_text old new b (Ok u) took failed = absurd (cc)
kept_text old new b (Err e) took failed = took.0
