-- What lines punch, over a run.
use Rattle.std.proofs.Common.{◌≡◌, ℕ, ◌+◌, Bool, true, false, List, [], ◌∷◌, ◌++◌, Ok, refl, sym, ◌∙◌, ap, subst, true≢false, arith}
use Rattle.std.specs.Prelude.{◌||◌}
use Rattle.std.proofs.lemmas.List.{append-nil}
use Rattle.wtf_base.specs.Places.{Place}
use Rattle.wtf_dev.specs.Store.{Range}
use Rattle.wtf_model.specs.declared.answer.Answer.{Answer}
use Rattle.wtf_model.specs.declared.answer.Answer.TheVariants as answer
use Rattle.wtf_model.specs.declared.event.Event.TheVariants as event
use Rattle.wtf_model.specs.Lines.{Line}
use Rattle.wtf_region.specs.Apart.{lies_in}
use Rattle.wtf_gc.specs.Frees.{AreApart, ranges_len, lie_in}
use Rattle.wtf_serve.specs.Punched.{AreFresh, ArePunchedIn, CountsIn, is_punch_fault, punch_fault_count, collected_by, collected_bytes}
use Rattle.wtf_serve.proofs.Rising.{one}

or_joined : (b x y z : Bool) → x ≡ (y || z) → (b || x) ≡ ((b || y) || z)
or_joined true x y z h = refl
or_joined false x y z h = h

-- a byte lies in ranges of two lists where it lies in one of the lists
lie_joined : (rs qs : List (ℕ × Range)) (p : Place) → lie_in (rs ++ qs) p ≡ (lie_in rs p || lie_in qs p)
lie_joined [] qs p = refl
lie_joined (r ∷ rs) qs p = or_joined (lies_in p r) (lie_in (rs ++ qs) p) (lie_in rs p) (lie_in qs p) (lie_joined rs qs p)

neither : (a b : Bool) → a ≡ false → b ≡ false → (a || b) ≡ false
neither true b first none = absurd (true≢false first)
neither false b first none = none

right_of : (a b : Bool) → b ≡ true → (a || b) ≡ true
right_of true b is = refl
right_of false b is = is

left_of : (a b : Bool) → a ≡ true → (a || b) ≡ true
left_of true b is = refl
left_of false b is = absurd (true≢false (sym is))

no_truth : (b : Bool) → (b ≡ true → ⊥) → b ≡ false
no_truth true h = absurd (h refl)
no_truth false h = refl

-- two lists of ranges that share no byte
pub apart_joined : (rs qs : List (ℕ × Range)) → AreApart rs → AreApart qs → ((p : Place) → lie_in rs p ≡ true → lie_in qs p ≡ true → ⊥) → AreApart (rs ++ qs)
apart_joined [] qs one two none = two
apart_joined (r ∷ rs) qs one two none = (
  one.0,
  λ p here. lie_joined rs qs p ∙ neither (lie_in rs p) (lie_in qs p) (one.1 p here)
      (no_truth (lie_in qs p) (λ there. none p (left_of (lies_in p r) (lie_in rs p) here) there)),
  apart_joined rs qs one.2 two (λ p here there. none p (right_of (lies_in p r) (lie_in rs p) here) there),
)

pub bytes_joined : (rs qs : List (ℕ × Range)) → ranges_len (rs ++ qs) ≡ ranges_len rs + ranges_len qs
bytes_joined [] qs = omega arith
bytes_joined (r ∷ rs) qs = let rest = bytes_joined rs qs in omega (arith, rest)

pub punch_fault_push : (answers : List Answer) (a : Answer)
    → punch_fault_count (answers ++ a ∷ []) ≡ punch_fault_count answers + one (is_punch_fault a)
punch_fault_push [] a = omega arith
punch_fault_push (b ∷ answers) a = let rest = punch_fault_push answers a in omega (arith, rest)

pub collected_push : (answers : List Answer) (a : Answer) → collected_bytes (answers ++ a ∷ []) ≡ collected_bytes answers + collected_by a
collected_push [] a = omega arith
collected_push (b ∷ answers) a = let rest = collected_push answers a in omega (arith, rest)

fresh_all : (freed : Place → Bool) (k : ℕ) (ranges : List (ℕ × Range)) → AreFresh freed k ranges → (p : Place) → lie_in ranges p ≡ true → freed p ≡ false
fresh_all freed k ranges h p here = (h.fresh p here).1

none_at_all : (freed : Place → Bool) (a : Answer) (ranges : List (ℕ × Range)) → (ranges ≡ []) × (collected_by a ≡ 0)
    → AreApart ranges × ((p : Place) → lie_in ranges p ≡ true → freed p ≡ false) × (one (is_punch_fault a) ≡ 0 → ranges_len ranges ≡ collected_by a)
none_at_all freed a ranges (none, zero) = (
  subst AreApart (sym none) tt,
  λ p here. absurd (true≢false (sym here ∙ ap (λ (rs : List (ℕ × Range)). lie_in rs p) none)),
  λ sure. ap ranges_len none ∙ sym zero,
)

-- What one line punched: ranges that share no byte, none of which was freed before, of as many bytes as it answers where it does not fail.
pub punched_now : (freed : Place → Bool) (line : Line) (a : Answer) (ranges : List (ℕ × Range)) → ArePunchedIn freed line a ranges
    → AreApart ranges × ((p : Place) → lie_in ranges p ≡ true → freed p ≡ false)
    × (one (is_punch_fault a) ≡ 0 → ranges_len ranges ≡ collected_by a)
punched_now freed (Ok (event.Collect k)) (answer.Collected n) ranges h = (h.0.apart, fresh_all freed k ranges h.0, λ sure. sym h.1)
punched_now freed (Ok (event.Collect k)) (answer.FaultPunch j) ranges h = (h.apart, fresh_all freed k ranges h, λ sure. absurd (omega (arith, sure)))
punched_now freed line a ranges h = none_at_all freed a ranges h

either_on : (a b c : Bool) → (a ≡ true → c ≡ true) → (a || b) ≡ true → (c || b) ≡ true
either_on true b c on is = left_of c b (on refl)
either_on false b c on is = right_of c b is

either_more : (a b c : Bool) → (b ≡ true → c ≡ true) → (a || b) ≡ true → (a || c) ≡ true
either_more true b c on is = refl
either_more false b c on is = on is

front_in : (front last ranges : List (ℕ × Range)) → ranges ≡ front ++ last → (p : Place) → lie_in front p ≡ true → lie_in ranges p ≡ true
front_in front last ranges all p here =
    ap (λ (rs : List (ℕ × Range)). lie_in rs p) all ∙ lie_joined front last p ∙ left_of (lie_in front p) (lie_in last p) here

-- what counts as freed lies in what was punched
pub only_on : (old new : Place → Bool) (a : Answer) (rs qs : List (ℕ × Range)) → CountsIn old new a qs
    → ((p : Place) → old p ≡ true → lie_in rs p ≡ true) → (p : Place) → new p ≡ true → lie_in (rs ++ qs) p ≡ true
only_on old new (answer.FaultPunch k) rs qs (front, last, all, one, counts) only p here =
    lie_joined rs qs p ∙ either_on (old p) (lie_in qs p) (lie_in rs p) (only p)
    (either_more (old p) (lie_in front p) (lie_in qs p) (front_in front last qs all p) (sym (counts p) ∙ here))
only_on old new a rs qs counts only p here =
    lie_joined rs qs p ∙ either_on (old p) (lie_in qs p) (lie_in rs p) (only p) (sym (counts p) ∙ here)

-- also behind a line that punches nothing
pub only_still : (old new : Place → Bool) (a : Answer) (rs qs : List (ℕ × Range)) → CountsIn old new a qs → qs ≡ []
    → ((p : Place) → old p ≡ true → lie_in rs p ≡ true) → (p : Place) → new p ≡ true → lie_in rs p ≡ true
only_still old new a rs qs counts none only p here =
    subst (λ (all : List (ℕ × Range)). lie_in all p ≡ true) (ap (λ (more : List (ℕ × Range)). rs ++ more) none ∙ append-nil rs)
    (only_on old new a rs qs counts only p here)

-- and all of that counts, where no collection failed
pub all_on : (old new : Place → Bool) (a : Answer) (rs qs : List (ℕ × Range)) → one (is_punch_fault a) ≡ 0 → CountsIn old new a qs
    → ((p : Place) → lie_in rs p ≡ true → old p ≡ true) → (p : Place) → lie_in (rs ++ qs) p ≡ true → new p ≡ true
all_on old new (answer.FaultPunch k) rs qs sure counts all p here = absurd (omega (arith, sure))
all_on old new a rs qs sure counts all p here =
    counts p ∙ either_on (lie_in rs p) (lie_in qs p) (old p) (all p) (sym (lie_joined rs qs p) ∙ here)
