-- Laws of what is shown of a text that grows.
use Rattle.std.proofs.Common.{◌≡◌, ℕ, zero, suc, ◌==◌, ◌<◌, ◌≤◌, Bool, true, false, cond, nat_le, List, [], ◌∷◌, ◌++◌, inl, inr, refl, sym, ◌∙◌, ap, arith, append_assoc}
use Rattle.std.specs.Prelude.{if◌then◌else◌}
use Rattle.std.proofs.lemmas.Bool.{cases_eq, cases_lt}
use Rattle.std.proofs.lemmas.List.{append-nil}
use Rattle.wtf_script.specs.ScriptLines.{line_feed}
use Rattle.wtf_summary.specs.Summaries.{first_line, behind_first, feeds, front_lines, summary, summed_up, shown_text}

le_true : (a b : ℕ) → a ≤ b → nat_le a b ≡ true
le_true a b h = grind (arith, h)

le_false : (a b : ℕ) → b < a → nat_le a b ≡ false
le_false a b h = grind (arith, h)

none : (t : Bool) (n : ℕ) → cond t (suc n) n ≡ 0 → (t ≡ false) × (n ≡ 0)
none true n h = absurd (omega (arith, h))
none false n h = (refl, h)

empty : (t : Bool) → cond {A = List ℕ} t [] [] ≡ []
empty true = refl
empty false = refl

-- while there is no line feed

pub first_line-byte : (text : List ℕ) (b : ℕ) → feeds text ≡ 0 → first_line (text ++ b ∷ []) ≡ text ++ b ∷ []
first_line-byte [] b h = ap (λ (l : List ℕ). b ∷ l) (empty (b == line_feed))
first_line-byte (c ∷ cs) b h =
    let n = none (c == line_feed) (feeds cs) h in
    ap (λ (t : Bool). c ∷ cond t [] (first_line (cs ++ b ∷ []))) n.0 ∙ ap (λ (l : List ℕ). c ∷ l) (first_line-byte cs b n.1)

pub behind_first-byte : (text : List ℕ) (b : ℕ) → feeds text ≡ 0 → behind_first (text ++ b ∷ []) ≡ []
behind_first-byte [] b h = empty (b == line_feed)
behind_first-byte (c ∷ cs) b h =
    let n = none (c == line_feed) (feeds cs) h in
    ap (λ (t : Bool). cond t (cs ++ b ∷ []) (behind_first (cs ++ b ∷ []))) n.0 ∙ behind_first-byte cs b n.1

pub first_line-none : (text : List ℕ) → feeds text ≡ 0 → first_line text ≡ text
first_line-none [] h = refl
first_line-none (c ∷ cs) h =
    let n = none (c == line_feed) (feeds cs) h in
    ap (λ (t : Bool). c ∷ cond t [] (first_line cs)) n.0 ∙ ap (λ (l : List ℕ). c ∷ l) (first_line-none cs n.1)

pub behind_first-none : (text : List ℕ) → feeds text ≡ 0 → behind_first text ≡ []
behind_first-none [] h = refl
behind_first-none (c ∷ cs) h =
    let n = none (c == line_feed) (feeds cs) h in
    ap (λ (t : Bool). cond t cs (behind_first cs)) n.0 ∙ behind_first-none cs n.1

-- behind the first line feed

first_more : (t : Bool) (n : ℕ) (x y : List ℕ) → 0 < cond t (suc n) n → (0 < n → x ≡ y) → cond t [] x ≡ cond t [] y
first_more true n x y h f = refl
first_more false n x y h f = f h

pub first_line-more : (text bs : List ℕ) → 0 < feeds text → first_line (text ++ bs) ≡ first_line text
first_line-more [] bs h = absurd (omega (arith, h))
first_line-more (c ∷ cs) bs h =
    ap (λ (l : List ℕ). c ∷ l) (first_more (c == line_feed) (feeds cs) (first_line (cs ++ bs)) (first_line cs) h (first_line-more cs bs))

behind_more : (t : Bool) (n : ℕ) (cs bs x y : List ℕ) → 0 < cond t (suc n) n → (0 < n → x ≡ y ++ bs) → cond t (cs ++ bs) x ≡ cond t cs y ++ bs
behind_more true n cs bs x y h f = refl
behind_more false n cs bs x y h f = f h

pub behind_first-more : (text bs : List ℕ) → 0 < feeds text → behind_first (text ++ bs) ≡ behind_first text ++ bs
behind_first-more [] bs h = absurd (omega (arith, h))
behind_first-more (c ∷ cs) bs h = behind_more (c == line_feed) (feeds cs) cs bs (behind_first (cs ++ bs)) (behind_first cs) h (behind_first-more cs bs)

-- the first lines

front-nil : (n : ℕ) → front_lines n [] ≡ []
front-nil zero = refl
front-nil (suc n) = refl

few : (t : Bool) (k n : ℕ) (x y z : List ℕ) → cond t (suc k) k < suc n → (k < n → x ≡ z) → (k < suc n → y ≡ z) → cond t x y ≡ z
few true k n x y z h f g = f (omega (arith, h))
few false k n x y z h f g = g h

-- fewer lines, and at most one more
pub front_lines-byte : (n : ℕ) (text : List ℕ) (b : ℕ) → feeds text < n → front_lines n (text ++ b ∷ []) ≡ text ++ b ∷ []
front_lines-byte zero text b h = absurd (omega (arith, h))
front_lines-byte (suc n) [] b h = ap (λ (l : List ℕ). b ∷ cond (b == line_feed) l []) (front-nil n) ∙ ap (λ (l : List ℕ). b ∷ l) (empty (b == line_feed))
front_lines-byte (suc n) (c ∷ cs) b h =
    ap (λ (l : List ℕ). c ∷ l)
    (few (c == line_feed) (feeds cs) n (front_lines n (cs ++ b ∷ [])) (front_lines (suc n) (cs ++ b ∷ [])) (cs ++ b ∷ []) h (front_lines-byte n cs b) (front_lines-byte (suc n) cs b))

pub front_lines-few : (n : ℕ) (text : List ℕ) → feeds text < n → front_lines n text ≡ text
front_lines-few zero text h = absurd (omega (arith, h))
front_lines-few (suc n) [] h = refl
front_lines-few (suc n) (c ∷ cs) h =
    ap (λ (l : List ℕ). c ∷ l)
    (few (c == line_feed) (feeds cs) n (front_lines n cs) (front_lines (suc n) cs) cs h (front_lines-few n cs) (front_lines-few (suc n) cs))

many : (t : Bool) (k n : ℕ) (x y x' y' : List ℕ) → suc n ≤ cond t (suc k) k → (n ≤ k → x ≡ x') → (suc n ≤ k → y ≡ y') → cond t x y ≡ cond t x' y'
many true k n x y x' y' h f g = f (omega (arith, h))
many false k n x y x' y' h f g = g h

-- as many lines already
pub front_lines-more : (n : ℕ) (text bs : List ℕ) → n ≤ feeds text → front_lines n (text ++ bs) ≡ front_lines n text
front_lines-more zero text bs h = refl
front_lines-more (suc n) [] bs h = absurd (omega (arith, h))
front_lines-more (suc n) (c ∷ cs) bs h =
    ap (λ (l : List ℕ). c ∷ l)
    (many (c == line_feed) (feeds cs) n (front_lines n (cs ++ bs)) (front_lines (suc n) (cs ++ bs)) (front_lines n cs) (front_lines (suc n) cs) h (front_lines-more n cs bs) (front_lines-more (suc n) cs bs))

counts : (t : Bool) (k n : ℕ) (x y : List ℕ) → suc n ≤ cond t (suc k) k → (n ≤ k → feeds x ≡ n) → (suc n ≤ k → feeds y ≡ suc n)
    → cond t (suc (feeds (cond t x y))) (feeds (cond t x y)) ≡ suc n
counts true k n x y h f g = ap suc (f (omega (arith, h)))
counts false k n x y h f g = g h

pub feeds-front_lines : (n : ℕ) (text : List ℕ) → n ≤ feeds text → feeds (front_lines n text) ≡ n
feeds-front_lines zero text h = refl
feeds-front_lines (suc n) [] h = absurd (omega (arith, h))
feeds-front_lines (suc n) (c ∷ cs) h =
    counts (c == line_feed) (feeds cs) n (front_lines n cs) (front_lines (suc n) cs) h (feeds-front_lines n cs) (feeds-front_lines (suc n) cs)

more : (t : Bool) (a b : ℕ) → a ≤ b → cond t (suc a) a ≤ cond t (suc b) b
more true a b h = omega (arith, h)
more false a b h = h

pub feeds-le : (text bs : List ℕ) → feeds text ≤ feeds (text ++ bs)
feeds-le [] bs = omega arith
feeds-le (c ∷ cs) bs = more (c == line_feed) (feeds cs) (feeds (cs ++ bs)) (feeds-le cs bs)

-- what is shown

pub summed_up-none : (lines : ℕ) (behind : List ℕ) → feeds behind < lines → summed_up lines behind ≡ []
summed_up-none lines behind h = ap (λ (t : Bool). if t then summary (front_lines lines behind) else []) (le_false lines (feeds behind) h)

pub summed_up-all : (lines : ℕ) (behind : List ℕ) → lines ≤ feeds behind → summed_up lines behind ≡ summary (front_lines lines behind)
summed_up-all lines behind h = ap (λ (t : Bool). if t then summary (front_lines lines behind) else []) (le_true lines (feeds behind) h)

pub shown-none : (lines : ℕ) (text : List ℕ) → 1 ≤ lines → feeds text ≡ 0 → shown_text lines text ≡ text
shown-none lines text l h =
    ap (λ (b : List ℕ). first_line text ++ summed_up lines b) (behind_first-none text h)
    ∙ ap (λ (s : List ℕ). first_line text ++ s) (summed_up-none lines [] l) ∙ append-nil (first_line text) ∙ first_line-none text h

pub shown-first : (lines : ℕ) (text : List ℕ) (b : ℕ) → 1 ≤ lines → feeds text ≡ 0 → shown_text lines (text ++ b ∷ []) ≡ text ++ b ∷ []
shown-first lines text b l h =
    ap (λ (s : List ℕ). first_line (text ++ b ∷ []) ++ summed_up lines s) (behind_first-byte text b h)
    ∙ ap (λ (s : List ℕ). first_line (text ++ b ∷ []) ++ s) (summed_up-none lines [] l) ∙ append-nil (first_line (text ++ b ∷ []))
    ∙ first_line-byte text b h

shown-behind : (lines : ℕ) (text bs : List ℕ) → 0 < feeds text → shown_text lines (text ++ bs) ≡ first_line text ++ summed_up lines (behind_first text ++ bs)
shown-behind lines text bs h =
    ap (λ (l : List ℕ). l ++ summed_up lines (behind_first (text ++ bs))) (first_line-more text bs h)
    ∙ ap (λ (l : List ℕ). first_line text ++ summed_up lines l) (behind_first-more text bs h)

-- a byte that completes no summary
pub shown-open : (lines : ℕ) (text : List ℕ) (b : ℕ) → 0 < feeds text → feeds (behind_first text ++ b ∷ []) < lines
    → shown_text lines (text ++ b ∷ []) ≡ shown_text lines text
shown-open lines text b h f =
    let behind = behind_first text in
    shown-behind lines text (b ∷ []) h
    ∙ ap (λ (s : List ℕ). first_line text ++ s) (summed_up-none lines (behind ++ b ∷ []) f ∙ sym (summed_up-none lines behind (omega (arith, f, feeds-le behind (b ∷ [])))))

-- a byte that completes it
pub shown-whole : (lines : ℕ) (text : List ℕ) (b : ℕ) → 0 < feeds text → feeds (behind_first text) < lines → lines ≤ feeds (behind_first text ++ b ∷ [])
    → shown_text lines (text ++ b ∷ []) ≡ shown_text lines text ++ summary (behind_first text ++ b ∷ [])
shown-whole lines text b h f e =
    let behind = behind_first text in
    shown-behind lines text (b ∷ []) h
    ∙ ap (λ (s : List ℕ). first_line text ++ s) (summed_up-all lines (behind ++ b ∷ []) e ∙ ap summary (front_lines-byte lines behind b f))
    ∙ ap (λ (l : List ℕ). l ++ summary (behind ++ b ∷ []))
    (sym (ap (λ (s : List ℕ). first_line text ++ s) (summed_up-none lines behind f) ∙ append-nil (first_line text)))

-- bytes behind it
pub shown-past : (lines : ℕ) (text bs : List ℕ) → 0 < feeds text → lines ≤ feeds (behind_first text) → shown_text lines (text ++ bs) ≡ shown_text lines text
shown-past lines text bs h f =
    let behind = behind_first text in shown-behind lines text bs h
    ∙ ap (λ (s : List ℕ). first_line text ++ s)
    (summed_up-all lines (behind ++ bs) (omega (arith, f, feeds-le behind bs)) ∙ ap summary (front_lines-more lines behind bs f) ∙ sym (summed_up-all lines behind f))

-- what is shown of a text is a front of what is shown of one that goes on

shown-byte : (lines : ℕ) (text : List ℕ) (b : ℕ) → 1 ≤ lines → (w : List ℕ) × (shown_text lines (text ++ b ∷ []) ≡ shown_text lines text ++ w)
shown-byte lines text b some = elim (cases_eq (feeds text) 0) [
  | inl z ↦ (b ∷ [], shown-first lines text b some z ∙ ap (λ (l : List ℕ). l ++ b ∷ []) (sym (shown-none lines text some z)))
  | inr n ↦
      let begun : 0 < feeds text = omega (arith, n) in
      let behind = behind_first text in
      elim (cases_lt (feeds behind) lines) [
        | inr past ↦ ([], shown-past lines text (b ∷ []) begun past ∙ sym (append-nil (shown_text lines text)))
        | inl few ↦ elim (cases_lt (feeds (behind ++ b ∷ [])) lines) [
          | inl yet ↦ ([], shown-open lines text b begun yet ∙ sym (append-nil (shown_text lines text)))
          | inr all ↦ (summary (behind ++ b ∷ []), shown-whole lines text b begun few all)
        ]
      ]
]

pub shown-front : (lines : ℕ) (text bs : List ℕ) → 1 ≤ lines → (w : List ℕ) × (shown_text lines (text ++ bs) ≡ shown_text lines text ++ w)
shown-front lines text [] some = ([], ap (shown_text lines) (append-nil text) ∙ sym (append-nil (shown_text lines text)))
shown-front lines text (b ∷ bs) some =
    let one = shown-byte lines text b some in
    let rest = shown-front lines (text ++ b ∷ []) bs some in (
      one.0 ++ rest.0,
      ap (shown_text lines) (sym (append_assoc text (b ∷ []) bs)) ∙ rest.1 ∙ ap (λ (l : List ℕ). l ++ rest.0) one.1
          ∙ append_assoc (shown_text lines text) one.0 rest.0,
    )
