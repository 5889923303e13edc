-- A text cut at its last colon, which has the code 58.
use Rattle.std.proofs.Common.{suc, ◌≡◌, ◌≢◌, ℕ, ◌+◌, ◌-◌, ◌<◌, ◌==◌, List, [], ◌∷◌, ◌++◌, length, get_or, take, drop, refl, sym, ap, ◌∙◌, arith, length-drop, add-one, drop-cons, Some, None}
use Rattle.std.specs.Prelude.{All}
use Rattle.std.proofs.lemmas.Bool.{false_from_ne_true, eqb-true}
use Rattle.std.proofs.lemmas.List.{take-append-drop, get_or-drop, take_all}
use Rattle.std.proofs.lemmas.List.Elements.{All-from_get_or, All-head, All-tail}
use Rattle.wtf_print.specs.Pieces.{cut_last}

abbrev pub HasNoColon : List ℕ → Type 0
HasNoColon text = All (λ b. b ≢ 58) text

-- a text without a colon is not cut
pub uncut : (text : List ℕ) → HasNoColon text → cut_last text ≡ None
uncut [] all = refl
uncut (b ∷ bs) all =
    rw (uncut bs (All-tail (λ b. b ≢ 58) b bs all), false_from_ne_true (b == 58) (λ e. All-head (λ b. b ≢ 58) b bs all (eqb-true b 58 e))) refl

-- a text is cut where no colon stands behind
pub cut-at : (before behind : List ℕ) → HasNoColon behind → cut_last (before ++ 58 ∷ behind) ≡ Some (before, behind)
cut-at [] behind none = rw (uncut behind none) refl
cut-at (b ∷ bs) behind none = rw (cut-at bs behind none) refl

-- the same by places
pub cut-from_last : (text : List ℕ) (at : ℕ) → at < length text → get_or text at 0 ≡ 58
    → ((k : ℕ) → at < k → k < length text → get_or text k 0 ≢ 58)
    → cut_last text ≡ Some (take at text, take (length text - (at + 1)) (drop (at + 1) text))
cut-from_last text at within colon last =
    let whole : take (length text - (at + 1)) (drop (at + 1) text) ≡ drop (at + 1) text = take_all (length text - (at + 1)) (drop (at + 1) text) (omega (arith, length-drop (at + 1) text)) in
    let cons : drop at text ≡ 58 ∷ drop (at + 1) text = rw (add-one at) (drop-cons text at 0 within ∙ ap (λ b. b ∷ drop (suc at) text) colon) in
    let none : HasNoColon (drop (at + 1) text) = All-from_get_or (λ b. b ≢ 58) (drop (at + 1) text) 0
    (λ k h. rw (get_or-drop (at + 1) text k 0) (last (at + 1 + k) (omega arith) (omega (arith, length-drop (at + 1) text)))) in
    rw whole (ap cut_last (sym (take-append-drop at text) ∙ ap (λ (l : List ℕ). take at text ++ l) cons) ∙ cut-at (take at text) (drop (at + 1) text) none)

pub uncut-from_all : (text : List ℕ) → ((k : ℕ) → k < length text → get_or text k 0 ≢ 58) → cut_last text ≡ None
uncut-from_all text none = uncut text (All-from_get_or (λ b. b ≢ 58) text 0 none)
