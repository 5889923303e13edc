-- What was taken of a source that is read whole.
use Rattle.std.proofs.Common.{
  ◌≡◌,
  ◌+◌,
  ◌-◌,
  ◌^◌,
  ◌<◌,
  ◌≤◌,
  ℕ,
  min,
  List,
  [],
  ◌++◌,
  length,
  take,
  drop,
  Some,
  Ok,
  Err,
  refl,
  sym,
  ◌∙◌,
  ap,
  subst,
  arith,
  append_assoc,
  inl,
  inr,
  length-append,
  length-take,
}
use Rattle.std.proofs.lemmas.List.{append-nil, take-append-drop, take-take, take-append-le}
use Rattle.wtf_dev.specs.Counts.{Rose}
use Rattle.wtf_dev.specs.Streams.{SourceView, Gives}
use Rattle.wtf_script.specs.declared.limits.TheConstants.{SCRIPT_BYTES}
use Rattle.wtf_checker.specs.declared.stop.Stop.{Stop}
use Rattle.wtf_checker.specs.declared.stop.Stop.TheVariants as stop
use Rattle.wtf_checker.specs.Sources.{Gave, HasTaken}

-- these bytes came, where the source tells them
pub record Came (start now : SourceView) (taken : List ℕ) : Type 0 where
  pub given : start.given ≤ 2 ^ 64 - 1 → now.given ≡ min (start.given + length taken) (2 ^ 64 - 1)
  pub faults : start.faults ≤ now.faults
  pub told : (bytes : List ℕ) → start.rest ≡ Some bytes → (left : List ℕ) × (now.rest ≡ Some left) × (bytes ≡ taken ++ left)

pub came_none : (start : SourceView) → Came start start []
came_none start = record { given = λ h. omega (arith, h); faults = omega arith; told = λ bytes is. (bytes, is, refl) }

same_some : (a b : List ℕ) → Some a ≡ Some b → a ≡ b
same_some a b e = cc

pub gave_came : (start now : SourceView) (taken : List ℕ) → Came start now taken → Gave start now (length taken)
gave_came start now taken came = record {
  given = came.given;
  counted = λ all left is now_is.
      let t = came.told all is in
      let same : length t.0 ≡ length left = ap (λ (l : List ℕ). length l) (same_some t.0 left (sym t.1 ∙ now_is)) in
      omega (arith, ap (λ (l : List ℕ). length l) t.2, length-append taken t.0, same);
  faults = came.faults;
}

given_on : (a b c n m : ℕ) → b ≡ min (a + n) (2 ^ 64 - 1) → c ≡ min (b + m) (2 ^ 64 - 1) → c ≡ min (a + (n + m)) (2 ^ 64 - 1)
given_on a b c n m e f = omega (arith, e, f)

-- n bytes more came, into `out`
pub came_more : (start old new : SourceView) (taken out : List ℕ) (n room : ℕ) → Came start old taken → n ≤ length out
    → ((all : List ℕ) → old.rest ≡ Some all → Gives {E = Stop} (Ok n) room out all new.rest) → new.given ≡ min (old.given + n) (2 ^ 64 - 1)
    → old.faults ≤ new.faults
    → Came start new (taken ++ take n out)
came_more start old new taken out n room came fits gives given faults = record {
  given = λ h.
      let size : length (taken ++ take n out) ≡ length taken + n = omega (arith, length-append taken (take n out), length-take n out, fits) in
      given_on start.given old.given new.given (length taken) n (came.given h) given ∙ ap (λ (k : ℕ). min (start.given + k) (2 ^ 64 - 1)) (sym size);
  faults = omega (arith, came.faults, faults);
  told = λ bytes is.
      let t = came.told bytes is in
      let g = gives t.0 t.1 in (
        drop n t.0,
        g.2,
        t.2 ∙ ap (λ (l : List ℕ). taken ++ l) (sym (take-append-drop n t.0)) ∙ sym (append_assoc taken (take n t.0) (drop n t.0))
            ∙ ap (λ (l : List ℕ). taken ++ l ++ drop n t.0) (sym g.1),
      );
}

pub came_failed : (start old new : SourceView) (taken : List ℕ) → Came start old taken → ((all : List ℕ) → old.rest ≡ Some all → new.rest ≡ Some all)
    → new.given ≡ old.given → old.faults ≤ new.faults → Came start new taken
came_failed start old new taken came same given faults = record {
  given = λ h. given ∙ came.given h;
  faults = omega (arith, came.faults, faults);
  told = λ bytes is. let t = came.told bytes is in (t.0, same t.0 t.1, t.2);
}

pub size_more : (taken out : List ℕ) (n : ℕ) → n ≤ length out → length (taken ++ take n out) ≡ length taken + n
size_more taken out n fits = omega (arith, length-append taken (take n out), length-take n out, fits)

of_chunk : (out kept : List ℕ) (n room : ℕ) → n ≤ length out → room ≡ length out → take n (take room (out ++ kept)) ≡ take n out
of_chunk out kept n room few fits = take-take n room (out ++ kept) (omega (arith, few, fits)) ∙ take-append-le n out kept few

-- what was pushed is the front of what was read into the chunk
pub pushed_chunk : (new taken chunk out kept : List ℕ) (n room : ℕ) → new ≡ taken ++ take n chunk → chunk ≡ take room (out ++ kept) → n ≤ length out
    → room ≡ length out → new ≡ taken ++ take n out
pushed_chunk new taken chunk out kept n room pushed holds few fits =
    pushed ∙ ap (λ (l : List ℕ). taken ++ l) (ap (λ (l : List ℕ). take n l) holds ∙ of_chunk out kept n room few fits)

pub taken_ok : {A : Type 0} (start now : SourceView) (taken : List ℕ) (x : A) → Came start now taken → length taken ≤ SCRIPT_BYTES → HasTaken start now (Ok x)
taken_ok start now taken x came few = record {
  taken = length taken;
  gave = gave_came start now taken came;
  limit = (λ e. absurd (cc), λ h. absurd (omega (arith, h, few)));
  cause = λ e. absurd (cc);
  is = λ why e. absurd (cc);
}

pub taken_failed : {A : Type 0} (start old now : SourceView) (taken : List ℕ) → Came start old taken → Came start now taken → length taken ≤ SCRIPT_BYTES
    → Rose old.faults now.faults → HasTaken {A = A} start now (Err stop.Unanswered)
taken_failed start old now taken was came few rose = record {
  taken = length taken;
  gave = gave_came start now taken came;
  limit = (λ e. absurd (cc), λ h. absurd (omega (arith, h, few)));
  cause = λ e h. let r : old.faults < now.faults = rose h in omega (arith, r, was.faults);
  is = λ why e. inl (cc);
}

pub taken_much : {A : Type 0} (start now : SourceView) (taken : List ℕ) → Came start now taken → SCRIPT_BYTES < length taken
    → HasTaken {A = A} start now (Err stop.TooMuch)
taken_much start now taken came much = record {
  taken = length taken;
  gave = gave_came start now taken came;
  limit = (λ e. much, λ h. refl);
  cause = λ e. absurd (cc);
  is = λ why e. inr (inl (cc));
}

pub taken_short : {A : Type 0} (start now : SourceView) (taken : List ℕ) → Came start now taken → length taken ≤ SCRIPT_BYTES
    → HasTaken {A = A} start now (Err stop.Memory)
taken_short start now taken came few = record {
  taken = length taken;
  gave = gave_came start now taken came;
  limit = (λ e. absurd (cc), λ h. absurd (omega (arith, h, few)));
  cause = λ e. absurd (cc);
  is = λ why e. inr (inr (cc));
}

-- no byte more came
none_more : (taken out : List ℕ) (n : ℕ) → n ≡ 0 → taken ++ take n out ≡ taken
none_more taken out n e = ap (λ (k : ℕ). taken ++ take k out) e ∙ append-nil taken

pub nothing_more : (start old new : SourceView) (taken out : List ℕ) (n room : ℕ) → Came start old taken → n ≤ length out
    → ((all : List ℕ) → old.rest ≡ Some all → Gives {E = Stop} (Ok n) room out all new.rest) → new.given ≡ min (old.given + n) (2 ^ 64 - 1)
    → old.faults ≤ new.faults → n ≡ 0 → Came start new taken
nothing_more start old new taken out n room came fits gives given faults e =
    subst (λ (l : List ℕ). Came start new l) (none_more taken out n e) (came_more start old new taken out n room came fits gives given faults)

pub ended_so : (start old new : SourceView) (taken out : List ℕ) (n room : ℕ) → Came start old taken
    → ((all : List ℕ) → old.rest ≡ Some all → Gives {E = Stop} (Ok n) room out all new.rest) → n ≡ 0 → 0 < room
    → (bytes : List ℕ) → start.rest ≡ Some bytes → (taken ≡ bytes) × (new.rest ≡ Some [])
ended_so start old new taken out n room came gives e some bytes is =
    let t = came.told bytes is in
    let g = gives t.0 t.1 in
    let none : t.0 ≡ [] = g.3 e some in (
      sym (t.2 ∙ ap (λ (l : List ℕ). taken ++ l) none ∙ append-nil taken),
      g.2 ∙ ap (λ (l : List ℕ). Some (drop n l)) none ∙ ap (λ (k : ℕ). Some (drop k [])) e,
    )
