-- Laws of the lines of a script.
use Rattle.std.proofs.Common.{◌≡◌, ℕ, suc, ◌==◌, ◌+◌, ◌<◌, ◌≤◌, Bool, false, cond, List, [], ◌∷◌, ◌++◌, length, take, refl, sym, ◌∙◌, ap, arith, append_assoc, inl, inr}
use Rattle.std.proofs.Common.{length-append}
use Rattle.std.specs.List.{All}
use Rattle.std.proofs.lemmas.List.Elements.{Contains-append_cases}
use Rattle.std.proofs.lemmas.List.{append-nil}
use Rattle.wtf_script.specs.ScriptLines.{line_feed, before_first, lines_of, onto_first, ended_of, fed, HasNoFeed}

pub no_feed_append : (xs ys : List ℕ) → HasNoFeed xs → HasNoFeed ys → HasNoFeed (xs ++ ys)
no_feed_append xs ys p q = λ h. elim (Contains-append_cases xs ys 10 h) [ inl a ↦ p a | inr b ↦ q b ]

pub no_feed_head : (b : ℕ) (bs : List ℕ) → HasNoFeed (b ∷ bs) → b ≡ line_feed → ⊥
no_feed_head b bs p e = p (0, omega arith, e)

pub no_feed_rest : (b : ℕ) (bs : List ℕ) → HasNoFeed (b ∷ bs) → HasNoFeed bs
no_feed_rest b bs p = λ h. p (suc h.0, omega (arith, h.1), h.2)

other_byte : (b : ℕ) → (b ≡ line_feed → ⊥) → (b == line_feed) ≡ false
other_byte b f = grind arith

lines_step : (b : ℕ) (bs : List ℕ) → (b ≡ line_feed → ⊥) → lines_of (b ∷ bs) ≡ before_first b (lines_of bs)
lines_step b bs f = ap (λ (t : Bool). cond t ([] ∷ lines_of bs) (before_first b (lines_of bs))) (other_byte b f)

ended_step : (b : ℕ) (bs : List ℕ) → (b ≡ line_feed → ⊥) → ended_of (b ∷ bs) ≡ onto_first b (ended_of bs)
ended_step b bs f = ap (λ (t : Bool). cond t ([] ∷ ended_of bs) (onto_first b (ended_of bs))) (other_byte b f)

-- a line that a line feed ends
pub lines_of-line : (line xs : List ℕ) → HasNoFeed line → lines_of (line ++ line_feed ∷ xs) ≡ line ∷ lines_of xs
lines_of-line [] xs p = refl
lines_of-line (b ∷ bs) xs p = lines_step b (bs ++ line_feed ∷ xs) (no_feed_head b bs p) ∙ ap (before_first b) (lines_of-line bs xs (no_feed_rest b bs p))

pub ended_of-line : (line xs : List ℕ) → HasNoFeed line → ended_of (line ++ line_feed ∷ xs) ≡ line ∷ ended_of xs
ended_of-line [] xs p = refl
ended_of-line (b ∷ bs) xs p = ended_step b (bs ++ line_feed ∷ xs) (no_feed_head b bs p) ∙ ap (onto_first b) (ended_of-line bs xs (no_feed_rest b bs p))

-- bytes without a line feed
pub lines_of-plain : (xs : List ℕ) → HasNoFeed xs → 0 < length xs → lines_of xs ≡ xs ∷ []
lines_of-plain [] p h = absurd (omega arith)
lines_of-plain (b ∷ []) p h = lines_step b [] (no_feed_head b [] p)
lines_of-plain (b ∷ c ∷ cs) p h = lines_step b (c ∷ cs) (no_feed_head b (c ∷ cs) p) ∙ ap (before_first b) (lines_of-plain (c ∷ cs) (no_feed_rest b (c ∷ cs) p) (omega arith))

pub ended_of-plain : (xs : List ℕ) → HasNoFeed xs → ended_of xs ≡ []
ended_of-plain [] p = refl
ended_of-plain (b ∷ bs) p = ended_step b bs (no_feed_head b bs p) ∙ ap (onto_first b) (ended_of-plain bs (no_feed_rest b bs p))

-- lines as they stand in a script, and bytes after them
pub lines_of-fed : (lines : List (List ℕ)) (xs : List ℕ) → All HasNoFeed lines → lines_of (fed lines ++ xs) ≡ lines ++ lines_of xs
lines_of-fed [] xs p = refl
lines_of-fed (line ∷ lines) xs p =
    ap lines_of (append_assoc (line ++ line_feed ∷ []) (fed lines) xs ∙ append_assoc line (line_feed ∷ []) (fed lines ++ xs))
    ∙ lines_of-line line (fed lines ++ xs) (p 0 [] (omega arith))
    ∙ ap (λ (ls : List (List ℕ)). line ∷ ls) (lines_of-fed lines xs (λ k d h. p (suc k) d (omega (arith, h))))

pub ended_of-fed : (lines : List (List ℕ)) (xs : List ℕ) → All HasNoFeed lines → ended_of (fed lines ++ xs) ≡ lines ++ ended_of xs
ended_of-fed [] xs p = refl
ended_of-fed (line ∷ lines) xs p =
    ap ended_of (append_assoc (line ++ line_feed ∷ []) (fed lines) xs ∙ append_assoc line (line_feed ∷ []) (fed lines ++ xs))
    ∙ ended_of-line line (fed lines ++ xs) (p 0 [] (omega arith))
    ∙ ap (λ (ls : List (List ℕ)). line ∷ ls) (ended_of-fed lines xs (λ k d h. p (suc k) d (omega (arith, h))))

pub fed-push : (lines : List (List ℕ)) (line : List ℕ) → fed (lines ++ line ∷ []) ≡ fed lines ++ line ++ line_feed ∷ []
fed-push [] line = append-nil (line ++ line_feed ∷ [])
fed-push (first ∷ lines) line =
    ap (λ (bytes : List ℕ). (first ++ line_feed ∷ []) ++ bytes) (fed-push lines line)
    ∙ sym (append_assoc (first ++ line_feed ∷ []) (fed lines ++ line) (line_feed ∷ []))
    ∙ ap (λ (bytes : List ℕ). bytes ++ line_feed ∷ []) (sym (append_assoc (first ++ line_feed ∷ []) (fed lines) line))

-- a byte before the first line makes that line longer, or is one
first_longer : (b : ℕ) (lines : List (List ℕ)) → length (fed (take 1 lines)) + 1 ≤ length (fed (take 1 (before_first b lines)))
first_longer b [] = omega arith
first_longer b (line ∷ lines) = omega arith

-- a part without a line feed is no longer than the line that begins with it
pub next_len : (part tail : List ℕ) → HasNoFeed part → length part ≤ length (fed (take 1 (lines_of (part ++ tail))))
next_len [] tail plain = omega arith
next_len (b ∷ bs) tail plain =
    let rest = next_len bs tail (no_feed_rest b bs plain) in
    let longer = first_longer b (lines_of (bs ++ tail)) in
    omega (arith, rest, longer, ap (λ (ls : List (List ℕ)). length (fed (take 1 ls))) (lines_step b (bs ++ tail) (no_feed_head b bs plain)))

pub fed_both : (xs ys : List (List ℕ)) → length (fed (xs ++ ys)) ≡ length (fed xs) + length (fed ys)
fed_both [] ys = omega arith
fed_both (x ∷ xs) ys =
    omega (arith, fed_both xs ys, length-append (x ++ line_feed ∷ []) (fed (xs ++ ys)), length-append (x ++ line_feed ∷ []) (fed xs))
