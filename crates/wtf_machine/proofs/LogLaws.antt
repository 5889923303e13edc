-- Laws of logged calls: how they are run anew, one after another, and where they deviate from what was shown.
use Rattle.std.proofs.Common.{
  ◌≡◌,
  ◌≢◌,
  ◌↔◌,
  zero,
  suc,
  ◌+◌,
  ◌-◌,
  ◌<◌,
  ◌≤◌,
  ℕ,
  Bool,
  false,
  IsTrue,
  List,
  [],
  ◌∷◌,
  ◌++◌,
  length,
  take,
  drop,
  get_or,
  slice_get,
  Some,
  refl,
  sym,
  ap,
  ◌∙◌,
  subst,
  inl,
  inr,
  arith,
  add-one,
  drop-cons,
  append_assoc,
  append-nil,
}
use Rattle.std.proofs.Math.Seq.{take-append_seam, take-length, drop-length}
use Rattle.std.proofs.lemmas.List.{length-take-le, length-map, take-map, map_more}
use Rattle.std.proofs.lemmas.Option.{slice_get-map, slice_get-get_or}
use Rattle.std.proofs.lemmas.Bool.{cases_lt}
use Rattle.std.specs.Option.{option_map}
use Rattle.wtf_machine.specs.declared.log.Logged.{Logged}
use Rattle.wtf_machine.specs.Logs.{ops_of, shown_of}
use Rattle.wtf_model.specs.declared.answer.Answer.{Answer}
use Rattle.wtf_model.specs.declared.op.Op.{Op}
use Rattle.wtf_model.specs.Tree.{Tree}
use Rattle.wtf_model.specs.Session.{Session}
use Rattle.wtf_model.specs.Done.{Done}
use Rattle.wtf_model.specs.Call.{call}
use Rattle.wtf_model.specs.Transaction.{session_from, answers_from, session_after, answers_of}
use Rattle.wtf_model.specs.Lawful.{Deviates}
use Rattle.wtf_model.specs.Steps.{IsLogged}
use Rattle.wtf_model.proofs.StepLaws.{IsLogged-call}

-- a call from a session on, and those after it

none_leave : (cap : ℕ) (s : Session) → session_from cap s [] ≡ s
unfolding session_from
none_leave cap s = refl

none_answer : (cap : ℕ) (s : Session) → answers_from cap s [] ≡ []
unfolding answers_from
none_answer cap s = refl

first_leaves : (cap : ℕ) (s new : Session) (o : Op (List ℕ)) (ops : List (Op (List ℕ))) (a : Answer)
    → call cap s o ≡ record { session = new; answer = a } → session_from cap s (o ∷ ops) ≡ session_from cap new ops
unfolding session_from
first_leaves cap s new o ops a is = ap (λ (d : Done). session_from cap d.session ops) is

first_answers : (cap : ℕ) (s new : Session) (o : Op (List ℕ)) (ops : List (Op (List ℕ))) (a : Answer)
    → call cap s o ≡ record { session = new; answer = a } → answers_from cap s (o ∷ ops) ≡ a ∷ answers_from cap new ops
unfolding answers_from
first_answers cap s new o ops a is = ap (λ (d : Done). d.answer ∷ answers_from cap d.session ops) is

-- the calls from one on
pub ops_left : (calls : List Logged) (i : ℕ) (x : Logged) → i < length calls → x ≡ get_or calls i x → ops_of (drop i calls) ≡ x.op ∷ ops_of (drop (i + 1) calls)
ops_left calls i x below is = ap ops_of (drop-cons calls i x below) ∙ ap (λ (y : Logged). y.op ∷ ops_of (drop (suc i) calls)) (sym is)
    ∙ ap (λ n. x.op ∷ ops_of (drop n calls)) (sym (add-one i))

pub session-left : (cap : ℕ) (s new : Session) (calls : List Logged) (i : ℕ) (x : Logged) (a : Answer)
    → i < length calls → x ≡ get_or calls i x → call cap s x.op ≡ record { session = new; answer = a }
    → session_from cap s (ops_of (drop i calls)) ≡ session_from cap new (ops_of (drop (i + 1) calls))
session-left cap s new calls i x a below at is = ap (session_from cap s) (ops_left calls i x below at) ∙ first_leaves cap s new x.op _ a is

answers-left : (cap : ℕ) (s new : Session) (calls : List Logged) (i : ℕ) (x : Logged) (a : Answer)
    → i < length calls → x ≡ get_or calls i x → call cap s x.op ≡ record { session = new; answer = a }
    → answers_from cap s (ops_of (drop i calls)) ≡ a ∷ answers_from cap new (ops_of (drop (i + 1) calls))
answers-left cap s new calls i x a below at is = ap (answers_from cap s) (ops_left calls i x below at) ∙ first_answers cap s new x.op _ a is

-- where all were run, their session is there
pub session-end : (cap : ℕ) (s : Session) (calls : List Logged) (i : ℕ) → i ≡ length calls → session_from cap s (ops_of (drop i calls)) ≡ s
session-end cap s calls i all =
    ap (λ n. session_from cap s (ops_of (drop n calls))) all ∙ ap (λ l. session_from cap s (ops_of l)) (drop-length calls) ∙ none_leave cap s

answers-end : (cap : ℕ) (s : Session) (calls : List Logged) (i : ℕ) → i ≡ length calls → answers_from cap s (ops_of (drop i calls)) ≡ []
answers-end cap s calls i all =
    ap (λ n. answers_from cap s (ops_of (drop n calls))) all ∙ ap (λ l. answers_from cap s (ops_of l)) (drop-length calls) ∙ none_answer cap s

-- what was shown of a call
shown_at : (calls : List Logged) (i : ℕ) (x : Logged) → i < length calls → x ≡ get_or calls i x → slice_get (shown_of calls) i ≡ Some x.shown
shown_at calls i x below at = slice_get-map (λ (l : Logged). l.shown) calls i
    ∙ ap (option_map (λ (l : Logged). l.shown)) (slice_get-get_or calls i x below ∙ ap Some (sym at))

pub op_at : (calls : List Logged) (i : ℕ) (x : Logged) → i < length calls → x ≡ get_or calls i x → slice_get (ops_of calls) i ≡ Some x.op
op_at calls i x below at = slice_get-map (λ (l : Logged). l.op) calls i
    ∙ ap (option_map (λ (l : Logged). l.op)) (slice_get-get_or calls i x below ∙ ap Some (sym at))

-- what is not so
pub not_so : IsTrue false → ⊥
not_so h = cc

pub told_is : (a b : Answer) → Some a ≡ Some b → a ≡ b
told_is a b e = cc

-- elements of lists
at_seam : {A : Type 0} (xs : List A) (y : A) (ys : List A) → slice_get (xs ++ y ∷ ys) (length xs) ≡ Some y
at_seam [] y ys = refl
at_seam (x ∷ xs) y ys = at_seam xs y ys

got-take : {A : Type 0} (xs : List A) (n k : ℕ) → k < n → slice_get (take n xs) k ≡ slice_get xs k
got-take xs zero k below = absurd (omega arith)
got-take [] (suc n) k below = refl
got-take (x ∷ xs) (suc n) zero below = refl
got-take (x ∷ xs) (suc n) (suc k) below = got-take xs n k (omega arith)

-- the first i calls have left s, and answered as was shown
pub record Agree (cap : ℕ) (tree : Tree) (calls : List Logged) (i : ℕ) (s : Session) : Type 0 where
  pub session : session_from cap s (ops_of (drop i calls)) ≡ session_after cap tree (ops_of calls)
  pub answers : answers_of cap tree (ops_of calls) ≡ shown_of (take i calls) ++ answers_from cap s (ops_of (drop i calls))

module _ (cap : ℕ) (tree : Tree) (calls : List Logged) (i : ℕ) (s : Session) (so_far : Agree cap tree calls i s) where
  answers_now : (new : Session) (x : Logged) (a : Answer) → i < length calls → x ≡ get_or calls i x → call cap s x.op ≡ record { session = new; answer = a }
      → answers_of cap tree (ops_of calls) ≡ shown_of (take i calls) ++ a ∷ answers_from cap new (ops_of (drop (i + 1) calls))
  answers_now new x a below at is = so_far.answers ∙ ap (λ l. shown_of (take i calls) ++ l) (answers-left cap s new calls i x a below at is)

  shown_now : (x : Logged) → i < length calls → x ≡ get_or calls i x → shown_of (take (i + 1) calls) ≡ shown_of (take i calls) ++ x.shown ∷ []
  shown_now x below at = map_more (λ (l : Logged). l.shown) calls i x below ∙ ap (λ (y : Logged). shown_of (take i calls) ++ y.shown ∷ []) (sym at)

  pub Agree-more : (new : Session) (x : Logged) (a : Answer) → i < length calls → x ≡ get_or calls i x → call cap s x.op ≡ record { session = new; answer = a }
      → a ≡ x.shown → Agree cap tree calls (i + 1) new
  Agree-more new x a below at is same = record {
    session = sym (session-left cap s new calls i x a below at is) ∙ so_far.session;
    answers = answers_now new x a below at is
        ∙ ap (λ b. shown_of (take i calls) ++ b ∷ answers_from cap new (ops_of (drop (i + 1) calls))) same
        ∙ sym (append_assoc (shown_of (take i calls)) (x.shown ∷ []) (answers_from cap new (ops_of (drop (i + 1) calls))))
        ∙ ap (λ l. l ++ answers_from cap new (ops_of (drop (i + 1) calls))) (sym (shown_now x below at));
  }

  pub Agree-all : i ≡ length calls → (answers_of cap tree (ops_of calls) ≡ shown_of calls) × (s ≡ session_after cap tree (ops_of calls))
  Agree-all all = (
    so_far.answers ∙ ap (λ l. shown_of (take i calls) ++ l) (answers-end cap s calls i all) ∙ append-nil (shown_of (take i calls))
        ∙ ap (λ n. shown_of (take n calls)) all ∙ ap shown_of (take-length calls),
    sym (session-end cap s calls i all) ∙ so_far.session,
  )

  -- the next one answers otherwise
  pub Agree-not : (new : Session) (x : Logged) (a : Answer) → i < length calls → x ≡ get_or calls i x → call cap s x.op ≡ record { session = new; answer = a }
      → a ≢ x.shown → Deviates (answers_of cap tree (ops_of calls)) (shown_of calls) (i + 1) a
  Agree-not new x a below at is other =
      let down : i + 1 - 1 ≡ i = omega arith in
      let long : length (shown_of (take i calls)) ≡ i = length-map (take i calls) (λ l. l.shown) ∙ length-take-le i calls (omega arith) in
      let all = answers_now new x a below at is in
      let rest = answers_from cap new (ops_of (drop (i + 1) calls)) in
      record {
        counted = omega arith;
        agree = ap (λ n. take n (answers_of cap tree (ops_of calls))) down ∙ ap (take i) all ∙ ap (λ n. take n (shown_of (take i calls) ++ a ∷ rest)) (sym long)
            ∙ take-append_seam (shown_of (take i calls)) (a ∷ rest) ∙ sym (take-map (λ (l : Logged). l.shown) i calls)
            ∙ ap (λ n. take n (shown_of calls)) (sym down);
        answer_is = ap (slice_get (answers_of cap tree (ops_of calls))) down ∙ ap (λ l. slice_get l i) all
            ∙ ap (slice_get (shown_of (take i calls) ++ a ∷ rest)) (sym long)
            ∙ at_seam (shown_of (take i calls)) a rest;
        differs = λ e. other (sym (told_is x.shown a (sym (shown_at calls i x below at) ∙ ap (slice_get (shown_of calls)) (sym down) ∙ e)));
      }

-- the answer that a call gives is one that is logged, and so is each one of a run
pub IsLogged-called : (cap : ℕ) (s new : Session) (o : Op (List ℕ)) (a : Answer) → call cap s o ≡ record { session = new; answer = a } → IsLogged a
IsLogged-called cap s new o a is = subst (λ (d : Done). IsLogged d.answer) is (IsLogged-call cap s o)

pub IsLogged-at : (cap : ℕ) (s : Session) (ops : List (Op (List ℕ))) (k : ℕ) (a : Answer) → slice_get (answers_from cap s ops) k ≡ Some a → IsLogged a
unfolding answers_from
IsLogged-at cap s [] k a is = absurd (cc)
IsLogged-at cap s (o ∷ ops) zero a is = let same : (call cap s o).answer ≡ a = cc in subst IsLogged same (IsLogged-call cap s o)
IsLogged-at cap s (o ∷ ops) (suc k) a is = IsLogged-at cap (call cap s o).session ops k a is

-- only one deviation is the first

before : {A : Type 0} (xs ys : List A) (n k : ℕ) → take n xs ≡ take n ys → k < n → slice_get xs k ≡ slice_get ys k
before xs ys n k same below = sym (got-take xs n k below) ∙ ap (λ l. slice_get l k) same ∙ got-take ys n k below

before_it : (answers shown : List Answer) (i j : ℕ) (a b : Answer) → Deviates answers shown i a → Deviates answers shown j b → i - 1 < j - 1 → ⊥
before_it answers shown i j a b d e less = d.differs (sym (before answers shown (j - 1) (i - 1) e.agree less) ∙ d.answer_is)

pub Deviates-once : (answers shown : List Answer) (i j : ℕ) (a b : Answer) → Deviates answers shown i a → Deviates answers shown j b → (i ≡ j) × (a ≡ b)
Deviates-once answers shown i j a b d e =
    elim (cases_lt (i - 1) (j - 1)) [
      | inl less ↦ absurd (before_it answers shown i j a b d e less)
      | inr no_less ↦ elim (cases_lt (j - 1) (i - 1)) [
        | inl less ↦ absurd (before_it answers shown j i b a e d less)
        | inr no_more ↦
            let from : 1 ≤ i = d.counted in
            let same : i ≡ j = omega (arith, from, e.counted) in
            let here : slice_get answers (i - 1) ≡ Some b = ap (λ n. slice_get answers (n - 1)) same ∙ e.answer_is in
            (same, told_is a b (sym d.answer_is ∙ here))
      ]
    ]

-- the one that is known tells whether they deviate so
pub Deviates-told : (answers shown : List Answer) (i j : ℕ) (d a : Answer) (b : Bool) → Deviates answers shown i d
    → (IsTrue b → (i ≡ j) × (d ≡ a)) → (i ≡ j → d ≡ a → IsTrue b) → IsTrue b ↔ Deviates answers shown j a
Deviates-told answers shown i j d a b known there back = (
  λ h. subst (λ n. Deviates answers shown n a) (there h).0 (subst (Deviates answers shown i) (there h).1 known),
  λ e. let same = Deviates-once answers shown i j d a known e in back same.0 same.1,
)

-- each answer is that of its call after those before it, and so is what it leaves
pub answers_from-at : (cap : ℕ) (s : Session) (ops : List (Op (List ℕ))) (k : ℕ) (o : Op (List ℕ)) → slice_get ops k ≡ Some o
    → slice_get (answers_from cap s ops) k ≡ Some (call cap (session_from cap s (take k ops)) o).answer
unfolding answers_from session_from
answers_from-at cap s [] k o is = absurd (cc)
answers_from-at cap s (p ∷ ops) zero o is = let same : p ≡ o = cc in ap (λ x. Some (call cap s x).answer) same
answers_from-at cap s (p ∷ ops) (suc k) o is = answers_from-at cap (call cap s p).session ops k o is

session_from-next : (cap : ℕ) (s : Session) (ops : List (Op (List ℕ))) (k : ℕ) (o : Op (List ℕ)) → slice_get ops k ≡ Some o
    → session_from cap s (take (suc k) ops) ≡ (call cap (session_from cap s (take k ops)) o).session
unfolding session_from
session_from-next cap s [] k o is = absurd (cc)
session_from-next cap s (p ∷ ops) zero o is = let same : p ≡ o = cc in ap (λ x. (call cap s x).session) same
session_from-next cap s (p ∷ ops) (suc k) o is = session_from-next cap (call cap s p).session ops k o is

pub session_from-more : (cap : ℕ) (s : Session) (ops : List (Op (List ℕ))) (k : ℕ) (o : Op (List ℕ)) → slice_get ops k ≡ Some o
    → session_from cap s (take (k + 1) ops) ≡ (call cap (session_from cap s (take k ops)) o).session
session_from-more cap s ops k o is = ap (λ n. session_from cap s (take n ops)) (add-one k) ∙ session_from-next cap s ops k o is

-- the operations of the first calls
pub ops_of-first : (calls all : List Logged) (n : ℕ) → calls ≡ all → ops_of (take n calls) ≡ take n (ops_of all)
ops_of-first calls all n same = ap (λ l. ops_of (take n l)) same ∙ sym (take-map (λ (l : Logged). l.op) n all)
