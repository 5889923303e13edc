-- Laws of the lines of pieces: one piece more, and that each asks for its event.
use Rattle.std.proofs.Common.{◌≡◌, ℕ, ◌+◌, ◌≤◌, Bool, true, false, cond, List, [], ◌∷◌, ◌++◌, length, refl, sym, ap, ◌∙◌, arith, append_assoc}
use Rattle.std.specs.Prelude.{All}
use Rattle.std.proofs.lemmas.List.{length-append, append-nil}
use Rattle.std.proofs.lemmas.List.Concat.{flat_map-append}
use Rattle.std.proofs.lemmas.List.Elements.{All-nil, All-cons, All-head, All-tail, All-append}
use Rattle.wtf_path.specs.Grammar.{IsPath}
use Rattle.wtf_model.specs.declared.limits.TheConstants.{MAX_NUMBER}
use Rattle.wtf_script.specs.ScriptLines.{line_feed}
use Rattle.wtf_carry.specs.Asked.{Asked, Asks, Way, asked_text, turn, total, carried, begin_line, open_line, seek_line, mkdir_line}
use Rattle.wtf_carry.specs.Ways.{IsWayUp, mkdirs}
use Rattle.wtf_carry.specs.Puts.{joined}
use Rattle.wtf_carry.proofs.Events.{begin-asks, open-asks, seek-asks, mkdir-asks}

-- ---- one more

pub text_of-append : (xs ys : List Asked) → asked_text (xs ++ ys) ≡ asked_text xs ++ asked_text ys
text_of-append xs ys = flat_map-append (λ a. a.line ++ line_feed ∷ []) xs ys

pub total-push : {A : Type 0} (size : A → ℕ) (xs : List A) (x : A) → total size (xs ++ x ∷ []) ≡ total size xs + size x
total-push size [] x = omega arith
total-push size (y ∷ ys) x = omega (arith, total-push size ys x)

pub carried-push : {A : Type 0} (w : Way A) (path : List ℕ) (i at : ℕ) (xs : List A) (x : A) (j to : ℕ) → j ≡ i + length xs → to ≡ at + total w.size xs
    → carried w path i at (xs ++ x ∷ []) ≡ carried w path i at xs ++ (turn w.last path j to ++ w.line x ∷ [])
carried-push w path i at [] x j to h k =
    let e : i ≡ j = omega arith in
    let f : at ≡ to = omega arith in
    ap (λ (n : ℕ). turn w.last path n at ++ w.line x ∷ []) e ∙ ap (λ (n : ℕ). turn w.last path j n ++ w.line x ∷ []) f
carried-push w path i at (y ∷ ys) x j to h k =
    ap (λ (more : List Asked). turn w.last path i at ++ w.line y ∷ more) (carried-push w path (i + 1) (at + w.size y) ys x j to (omega arith) (omega arith))
    ∙ sym (append_assoc (turn w.last path i at) (w.line y ∷ carried w path (i + 1) (at + w.size y) ys) (turn w.last path j to ++ w.line x ∷ []))

pub joined-push : (pieces : List (List ℕ)) (piece : List ℕ) → joined (pieces ++ piece ∷ []) ≡ joined pieces ++ piece
joined-push [] piece = flat_one piece
  where
    flat_one : (xs : List ℕ) → xs ++ [] ≡ xs
    flat_one [] = refl
    flat_one (x ∷ xs) = ap (λ (l : List ℕ). x ∷ l) (flat_one xs)
joined-push (first ∷ pieces) piece = ap (λ (l : List ℕ). first ++ l) (joined-push pieces piece) ∙ sym (append_assoc first (joined pieces) piece)

pub joined-size : (pieces : List (List ℕ)) → length (joined pieces) ≡ total (λ piece. length piece) pieces
joined-size [] = refl
joined-size (piece ∷ pieces) = omega (arith, length-append piece (joined pieces), joined-size pieces)

-- a text with more lines behind it
pub texts-more : (old before now : List ℕ) (xs ys : List Asked) → before ≡ old ++ asked_text xs → now ≡ before ++ asked_text ys
    → now ≡ old ++ asked_text (xs ++ ys)
texts-more old before now xs ys p q =
    q ∙ ap (λ (l : List ℕ). l ++ asked_text ys) p ∙ append_assoc old (asked_text xs) (asked_text ys) ∙ ap (λ (l : List ℕ). old ++ l)
    (sym (text_of-append xs ys))

pub text-more : (old before now : List ℕ) (xs : List Asked) (a : Asked) → before ≡ old ++ asked_text xs → now ≡ before ++ (a.line ++ line_feed ∷ [])
    → now ≡ old ++ asked_text (xs ++ a ∷ [])
text-more old before now xs a p q = texts-more old before now xs (a ∷ []) p (q ∙ ap (λ (l : List ℕ). before ++ l) (sym (append-nil (a.line ++ line_feed ∷ []))))

-- ---- what they ask

turn_of : (t : Bool) (last : Asked) (path : List ℕ) (at : ℕ) → Asks last → IsPath path → at ≤ MAX_NUMBER
    → All Asks (cond t (last ∷ begin_line ∷ open_line path ∷ seek_line at ∷ []) [])
turn_of false last path at ends is fits = All-nil Asks
turn_of true last path at ends is fits =
    All-cons Asks last (begin_line ∷ open_line path ∷ seek_line at ∷ []) ends
    (All-cons Asks begin_line (open_line path ∷ seek_line at ∷ []) begin-asks
    (All-cons Asks (open_line path) (seek_line at ∷ []) (open-asks path is)
    (All-cons Asks (seek_line at) [] (seek-asks at fits) (All-nil Asks))))

pub carried-asks : {A : Type 0} (w : Way A) (path : List ℕ) (i at : ℕ) (xs : List A) → Asks w.last → IsPath path → at + total w.size xs ≤ MAX_NUMBER
    → All (λ x. Asks (w.line x)) xs → All Asks (carried w path i at xs)
carried-asks w path i at [] ends is fits each = All-nil Asks
carried-asks {A} w path i at (x ∷ xs) ends is fits each =
    let P : A → Type 0 = λ x. Asks (w.line x) in
    All-append Asks (turn w.last path i at) (w.line x ∷ carried w path (i + 1) (at + w.size x) xs)
    (turn_of _ w.last path at ends is (omega arith))
    (All-cons Asks (w.line x) (carried w path (i + 1) (at + w.size x) xs) (All-head P x xs each)
    (carried-asks w path (i + 1) (at + w.size x) xs ends is (omega arith) (All-tail P x xs each)))

-- ---- directories

pub mkdirs-ask : (path : List ℕ) (up : List (List ℕ)) → IsWayUp path up → All Asks (mkdirs up)
mkdirs-ask path [] way = All-nil Asks
mkdirs-ask path (d ∷ ds) way =
    All-append Asks (mkdirs ds) (mkdir_line d ∷ []) (mkdirs-ask d ds way.3) (All-cons Asks (mkdir_line d) [] (mkdir-asks d way.2) (All-nil Asks))
