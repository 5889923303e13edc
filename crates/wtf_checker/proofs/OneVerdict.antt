-- There is one verdict on a script and an output.
use Rattle.std.proofs.Common.{◌≡◌, ◌+◌, ◌≤◌, ℕ, List, [], ◌∷◌, ◌++◌, length, map, refl, sym, ◌∙◌, ap, subst, arith, append_assoc, inl, inr, length-append}
use Rattle.std.specs.Prelude.{All}
use Rattle.std.proofs.lemmas.List.{append-nil}
use Rattle.std.proofs.lemmas.List.Elements.{All-head, All-tail}
use Rattle.wtf_base.specs.declared.settings.Settings.{Settings}
use Rattle.wtf_model.specs.declared.answer.Answer.{Answer}
use Rattle.wtf_model.specs.Machines.{Machine}
use Rattle.wtf_model.specs.Lines.{Line, AlongBy, state_after, MayLine, Along, after_line, machine_after}
use Rattle.wtf_script.specs.ScriptLines.{line_feed, lines_of, fed}
use Rattle.wtf_script.specs.Grammar.{event_of}
use Rattle.wtf_print.specs.Texts.{text_of}
use Rattle.wtf_print.proofs.Backs.{text-one}
use Rattle.wtf_checker.specs.Lawful.{
  line_of,
  asked_in,
  BeginsWith,
  first,
  first_text,
  IsTold,
  AreLawful,
  IsLawful,
  IsStuck,
  IsLawfulFor,
  IsFirstRefused,
  IsOneVerdict,
}
use Rattle.wtf_checker.proofs.Cuts.{one_line}
use Rattle.wtf_checker.proofs.Tells.{after_same}
use Rattle.wtf_checker.proofs.SameSettings.{settings_one}

-- answers to the first lines, from a machine on
record Goes (m : Machine) (front : List Line) (given : List Answer) (rest bytes : List ℕ) : Type 0 where
  told : All IsTold given
  bytes_are : bytes ≡ fed (map text_of given) ++ rest
  lawful : Along MayLine m front given

-- the first of them
first_line : (a : Answer) (given : List Answer) (rest bytes : List ℕ) → All IsTold (a ∷ given) → bytes ≡ fed (map text_of (a ∷ given)) ++ rest
    → BeginsWith (text_of a) (fed (map text_of given) ++ rest) bytes
first_line a given rest bytes told is = record {
  plain = (All-head IsTold a given told).plain;
  bytes_are = is ∙ append_assoc (text_of a ++ line_feed ∷ []) (fed (map text_of given)) rest
      ∙ append_assoc (text_of a) (line_feed ∷ []) (fed (map text_of given) ++ rest);
}

may_first : (m : Machine) (l : Line) (front : List Line) (a : Answer) (given : List Answer) → Along MayLine m (l ∷ front) (a ∷ given)
    → MayLine m l a × Along MayLine (after_line m l a) front given
unfolding AlongBy
may_first m l front a given h = h

no_answer : (m : Machine) (l : Line) (front : List Line) → Along MayLine m (l ∷ front) [] → ⊥
unfolding AlongBy
no_answer m l front h = h

no_more : (m : Machine) (a : Answer) (given : List Answer) → Along MayLine m [] (a ∷ given) → ⊥
unfolding AlongBy
no_more m a given h = h

after_none : (m : Machine) → machine_after m [] [] ≡ m
unfolding state_after
after_none m = refl

after_more : (m : Machine) (l : Line) (front : List Line) (a : Answer) (given : List Answer)
    → machine_after m (l ∷ front) (a ∷ given) ≡ machine_after (after_line m l a) front given
unfolding state_after
after_more m l front a given = refl

goes_rest : (m : Machine) (l : Line) (front : List Line) (a : Answer) (given : List Answer) (rest bytes : List ℕ) → Goes m (l ∷ front) (a ∷ given) rest bytes
    → Goes (after_line m l a) front given rest (fed (map text_of given) ++ rest)
goes_rest m l front a given rest bytes g = record {
  told = All-tail IsTold a given g.told;
  bytes_are = refl;
  lawful = (may_first m l front a given g.lawful).1;
}

heads : (f l : Line) (fs ls : List Line) → (f ∷ fs) ≡ (l ∷ ls) → (f ≡ l) × (fs ≡ ls)
heads f l fs ls e = (cc, cc)

-- Lines that are answered do not go past one that is not, and up to it the same is left
reach : (ls : List (List ℕ)) (m : Machine) (front next front' next' : List Line) (given given' : List Answer) (rest rest' bytes : List ℕ)
    → map line_of ls ≡ front ++ next → map line_of ls ≡ front' ++ next' → Goes m front given rest bytes → Goes m front' given' rest' bytes
    → IsStuck (machine_after m front given) next rest
    → (length front' ≤ length front) × (length front' ≡ length front → rest ≡ rest')
reach ls m [] next [] next' [] [] rest rest' bytes e e' g g' stuck = (omega arith, λ _. sym g.bytes_are ∙ g'.bytes_are)
reach ls m [] next [] next' (a ∷ given) given' rest rest' bytes e e' g g' stuck = absurd (no_more m a given g.lawful)
reach ls m [] next [] next' [] (b ∷ given') rest rest' bytes e e' g g' stuck = absurd (no_more m b given' g'.lawful)
reach ls m [] next (f' ∷ front') next' (a ∷ given) given' rest rest' bytes e e' g g' stuck = absurd (no_more m a given g.lawful)
reach ls m [] next (f' ∷ front') next' [] [] rest rest' bytes e e' g g' stuck = absurd (no_answer m f' front' g'.lawful)
reach ls m [] next (f' ∷ front') next' [] (b ∷ given') rest rest' bytes e e' g g' stuck =
    let here : IsStuck m (f' ∷ (front' ++ next')) bytes =
    subst (λ (x : List ℕ). IsStuck m (f' ∷ (front' ++ next')) x) (sym g.bytes_are)
    (subst (λ (ns : List Line). IsStuck m ns rest) (sym e ∙ e') (subst (λ (x : Machine). IsStuck x next rest) (after_none m) stuck)) in
    absurd (here b (fed (map text_of given') ++ rest') (All-head IsTold b given' g'.told) (first_line b given' rest' bytes g'.told g'.bytes_are)
    (may_first m f' front' b given' g'.lawful).0)
reach ls m (f ∷ front) next [] next' [] given' rest rest' bytes e e' g g' stuck = absurd (no_answer m f front g.lawful)
reach ls m (f ∷ front) next [] next' (a ∷ given) given' rest rest' bytes e e' g g' stuck = (omega arith, λ h. absurd (omega (arith, h)))
reach ls m (f ∷ front) next (f' ∷ front') next' [] given' rest rest' bytes e e' g g' stuck = absurd (no_answer m f front g.lawful)
reach ls m (f ∷ front) next (f' ∷ front') next' (a ∷ given) [] rest rest' bytes e e' g g' stuck = absurd (no_answer m f' front' g'.lawful)
reach [] m (f ∷ front) next (f' ∷ front') next' (a ∷ given) (b ∷ given') rest rest' bytes e e' g g' stuck = absurd cc
reach (l ∷ ls) m (f ∷ front) next (f' ∷ front') next' (a ∷ given) (b ∷ given') rest rest' bytes e e' g g' stuck =
    let h = heads (line_of l) f (map line_of ls) (front ++ next) e in
    let h' = heads (line_of l) f' (map line_of ls) (front' ++ next') e' in
    let cut = one_line (text_of b) (text_of a) (fed (map text_of given') ++ rest') (fed (map text_of given)
    ++ rest) bytes (first_line b given' rest' bytes g'.told g'.bytes_are) (first_line a given rest bytes g.told g.bytes_are) in
    let form = (All-head IsTold a given g.told).form in
    let same : after_line m (line_of l) a ≡ after_line m (line_of l) b = after_same m (event_of l) a b form
    (text-one a b form (All-head IsTold b given' g'.told).form cut.0) in
    let on : after_line m f' b ≡ after_line m f a = ap (λ (x : Line). after_line m x b) (sym h'.0) ∙ sym same ∙ ap (λ (x : Line). after_line m x a) h.0 in
    let there : Goes (after_line m f a) front' given' rest' (fed (map text_of given) ++ rest) =
    subst (λ (x : List ℕ). Goes (after_line m f a) front' given' rest' x) cut.1
    (subst (λ (x : Machine). Goes x front' given' rest' (fed (map text_of given') ++ rest')) on (goes_rest m f' front' b given' rest' bytes g')) in
    let r = reach ls (after_line m f a) front next front' next' given given' rest rest' (fed (map text_of given)
    ++ rest) h.1 h'.1 (goes_rest m f front a given rest bytes g) there
    (subst (λ (x : Machine). IsStuck x next rest) (after_more m f front a given) stuck) in
    (omega (arith, r.0), λ k. r.1 (omega (arith, k)))

goes_of : (settings : Settings) (lines : List Line) (given : List Answer) (rest bytes : List ℕ) → AreLawful settings lines given rest bytes
    → Goes (first settings) lines given rest bytes
goes_of settings lines given rest bytes are = record { told = are.told; bytes_are = are.bytes_are; lawful = are.lawful }

-- the settings, and what stands behind their line
same_start : (s t : Settings) (behind left output : List ℕ) → BeginsWith (first_text s) behind output → BeginsWith (first_text t) left output
    → (s ≡ t) × (behind ≡ left)
same_start s t behind left output p q = let r = one_line (first_text s) (first_text t) behind left output p q in (settings_one s t r.0, r.1)

reach_of : (script output : List ℕ) (n : ℕ) (f : IsLawfulFor script output n) (s : Settings) (behind : List ℕ) → BeginsWith (first_text s) behind output
    → (front next : List Line) (given : List Answer) (rest : List ℕ)
    → asked_in script ≡ front ++ next → AreLawful s front given rest behind → (length front ≤ n) × (length front ≡ n → f.rest ≡ rest)
reach_of script output n f s behind begins front next given rest e are =
    let same = same_start s f.settings behind f.behind output begins f.begins in
    let g : Goes (first f.settings) front given rest f.behind =
    subst (λ (x : List ℕ). Goes (first f.settings) front given rest x) same.1
    (subst (λ (x : Settings). Goes (first x) front given rest behind) same.0 (goes_of s front given rest behind are)) in
    let r = reach (lines_of script) (first f.settings) f.front f.next front next f.given given f.rest rest f.behind f.lines_are e
    (goes_of f.settings f.front f.given f.rest f.behind f.are) g f.stuck in
    (omega (arith, r.0, f.count), λ h. r.1 (h ∙ sym f.count))

nil_of : (xs ys zs : List Line) → xs ≡ ys ++ zs → length xs ≡ length ys → zs ≡ []
nil_of xs ys [] e h = refl
nil_of xs ys (z ∷ zs) e h = absurd (omega (arith, ap (λ (l : List Line). length l) e, length-append ys (z ∷ zs), h))

lawful_apart : (script output : List ℕ) → IsLawful script output → (n : ℕ) → IsLawfulFor script output n → ⊥
lawful_apart script output l n f =
    let r = reach_of script output n f l.settings l.behind l.begins (asked_in script) [] l.given [] (sym (append-nil (asked_in script))) l.are in
    let size : length (asked_in script) ≡ length f.front + length f.next = ap (λ (x : List Line). length x) f.lines_are ∙ length-append f.front f.next in
    let all : length (asked_in script) ≡ n = omega (arith, r.0, size, f.count) in
    let none = nil_of (asked_in script) f.front f.next f.lines_are (all ∙ sym f.count) in
    let stuck : IsStuck (machine_after (first f.settings) f.front f.given) [] f.rest = subst
    (λ (x : List Line). IsStuck (machine_after (first f.settings) f.front f.given) x f.rest) none f.stuck in
    stuck (r.1 all)

pub one_verdict : (script output : List ℕ) → IsOneVerdict script output
one_verdict script output = record {
  apart = λ l k r. elim r [
    | inl none ↦ none.1 l.settings l.behind l.begins
    | inr some ↦ lawful_apart script output l some.0 some.2
  ];
  one = λ k n r s. both k n r s;
}
  where
    both : (k n : ℕ) → IsFirstRefused script output k → IsFirstRefused script output n → k ≡ n
    both k n (inl p) (inl q) = p.0 ∙ sym q.0
    both k n (inl p) (inr (i, e, f)) = absurd (p.1 f.settings f.behind f.begins)
    both k n (inr (i, e, f)) (inl q) = absurd (q.1 f.settings f.behind f.begins)
    both k n (inr (i, e, f)) (inr (j, d, h)) =
        let a = (reach_of script output i f h.settings h.behind h.begins h.front h.next h.given h.rest h.lines_are h.are).0 in
        let b = (reach_of script output j h f.settings f.behind f.begins f.front f.next f.given f.rest f.lines_are f.are).0 in
        omega (arith, e, d, a, b, f.count, h.count)
