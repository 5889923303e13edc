-- A line whose bytes are plain has no empty word.
use Rattle.std.proofs.Common.{◌≡◌, ℕ, suc, ◌+◌, ◌-◌, ◌%◌, ◌^◌, ◌<◌, ◌≤◌, max, Bool, true, false, not, ◌&&◌, ◌||◌, ltb, cond, List, [], ◌∷◌, length, get_or, map, replicate, refl, sym, ap, ◌∙◌, arith, add-one, eqb-true, w8, inl, inr}
use Rattle.std.specs.List.{list_all, list_any, onto_first}
use Rattle.std.specs.Simd.Lanes.{zip2, sel_l, mask_l, top, chunk}
use Rattle.std.proofs.lemmas.Bool.{cases_eq}
use Rattle.std.proofs.lemmas.Bool.Decides.{nat_tests}
use Rattle.std.proofs.lemmas.List.{length-map}
use Rattle.std.proofs.lemmas.List.Sums.{prefix_len_passes}
use Rattle.std.proofs.lemmas.Simd.{bitmask_splat, tops_compared, zip2_splat_left, mask_l-mod, leading_from_mask_l, length-chunk, get_or-chunk, length-zip2, get_or-zip2, get_or-sel_l}
use Rattle.wtf_lex.specs.Words.{words_of, is_space}
use Rattle.wtf_script.specs.Grammar.{is_printable, is_empty_word}
use Rattle.wtf_script.specs.Plain.{ArePlain}

-- each byte or the one behind it is no space; behind the last there is none
abbrev Apart : List ℕ → Type 0
Apart bytes = (k : ℕ) → k < length bytes → 33 ≤ max (get_or bytes k 0) (get_or bytes (suc k) 0)

apart_rest : (b : ℕ) (bs : List ℕ) → Apart (b ∷ bs) → Apart bs
apart_rest b bs p = λ k h. p (suc k) (omega (arith, h))

not_space : (b : ℕ) → 33 ≤ b → is_space b ≡ false
not_space b h = grind (arith, nat_tests)

full : (b : ℕ) (word : List ℕ) → is_empty_word (b ∷ word) ≡ false
full b word = grind (arith, nat_tests)

-- a word that has a byte, with one byte more
more_bytes : (a b : ℕ) (ws : List (List ℕ)) → list_any is_empty_word (onto_first a (onto_first b ws)) ≡ list_any is_empty_word (onto_first b ws)
more_bytes a b [] = refl
more_bytes a b (w ∷ ws) = ap (λ t. t || list_any is_empty_word ws) (full a (b ∷ w) ∙ sym (full b w))

front : (b : ℕ) (bs : List ℕ) → 33 ≤ b → list_any is_empty_word (onto_first b (words_of bs)) ≡ false → list_any is_empty_word (words_of (b ∷ bs)) ≡ false
front b bs h e = ap (λ t. list_any is_empty_word (cond t ([] ∷ words_of bs) (onto_first b (words_of bs)))) (not_space b h) ∙ e

step : (a b : ℕ) (ws : List (List ℕ)) (t : Bool) → (t ≡ true → list_any is_empty_word ws ≡ false) → list_any is_empty_word (onto_first b ws) ≡ false
    → list_any is_empty_word (onto_first a (cond t ([] ∷ ws) (onto_first b ws))) ≡ false
step a b ws true h e = h refl
step a b ws false h e = more_bytes a b ws ∙ e

filled : (a : ℕ) (bs : List ℕ) → Apart (a ∷ bs) → list_any is_empty_word (onto_first a (words_of bs)) ≡ false
filled a [] p = refl
filled a (b ∷ []) p =
    step a b (words_of []) (is_space b) (λ e. absurd (omega (arith, eqb-true b 32 e, p 1 (omega arith)))) (filled b [] (apart_rest a (b ∷ []) p))
filled a (b ∷ c ∷ cs) p =
    let rest = apart_rest a (b ∷ c ∷ cs) p in
    step a b (words_of (c ∷ cs)) (is_space b)
    (λ e. front c cs (omega (arith, eqb-true b 32 e, p 1 (omega arith))) (filled c cs (apart_rest b (c ∷ cs) rest))) (filled b (c ∷ cs) rest)

no_empty_word : (line : List ℕ) → 33 ≤ get_or line 0 0 → Apart line → list_any is_empty_word (words_of line) ≡ false
no_empty_word [] h p = absurd (omega arith)
no_empty_word (b ∷ bs) h p = front b bs h (filled b bs p)

fails : (test : Bool) → not test ≡ true → test ≡ false
fails true e = cc
fails false e = refl

-- where the mask of a test is empty no lane passes it
lanes_fail : (test : ℕ → Bool) (lanes : List ℕ) (k : ℕ) → mask_l (map test lanes) ≡ 0 → k < length lanes → test (get_or lanes k 0) ≡ false
lanes_fail test lanes k empty within =
    fails (test (get_or lanes k 0)) (prefix_len_passes (λ x. not (test x)) lanes k 0 (omega (arith, leading_from_mask_l test lanes empty)))

-- the mask of `simd_lt` with the same in each lane, and of `simd_gt`
pub none_less : (lanes : List ℕ) (least : ℕ) → length lanes ≡ 32
    → mask_l (map (top 7) (zip2 (λ a b. cond (ltb a b) 255 0) lanes (replicate 32 least))) % 2 ^ 64 ≡ 0 → (k : ℕ) → k < 32 → least ≤ get_or lanes k 0
none_less lanes least long empty = λ k h.
    let f = lanes_fail (λ x. ltb x least) lanes k (sym (bitmask_splat w8 ltb lanes 32 least long (omega arith)) ∙ empty) (omega (arith, long)) in
    grind (arith, nat_tests)

pub none_more : (lanes : List ℕ) (most : ℕ) → length lanes ≡ 32
    → mask_l (map (top 7) (zip2 (λ a b. cond (ltb a b) 255 0) (replicate 32 most) lanes)) % 2 ^ 64 ≡ 0 → (k : ℕ) → k < 32 → get_or lanes k 0 ≤ most
none_more lanes most long empty = λ k h.
    let read : mask_l (map (top 7) (zip2 (λ a b. cond (ltb a b) 255 0) (replicate 32 most) lanes)) % 2 ^ 64 ≡ mask_l (map (ltb most) lanes) =
    ap (λ ms. mask_l ms % 2 ^ 64) (tops_compared w8 ltb (replicate 32 most) lanes ∙ zip2_splat_left ltb most 32 lanes long)
    ∙ mask_l-mod (map (ltb most) lanes) 64 (omega (arith, length-map lanes (ltb most))) in
    let f = lanes_fail (ltb most) lanes k (sym read ∙ empty) (omega (arith, long)) in
    grind (arith, nat_tests)

pub both : (a b : Bool) → a && b ≡ true → (a ≡ true) × (b ≡ true)
both true true e = (refl, refl)
both true false e = cc
both false b e = cc

-- what `simd_max` gives
abbrev larger_of : List ℕ → List ℕ → List ℕ
larger_of v w = sel_l (map (top 7) (zip2 (λ a b. cond (ltb a b) 255 0) v w)) w v

larger : (a b : ℕ) → cond (ltb a b) b a ≡ max a b
larger a b = grind (arith, nat_tests)

larger_at : (v w : List ℕ) (k : ℕ) → length v ≡ 32 → length w ≡ 32 → k < 32 → get_or (larger_of v w) k 0 ≡ max (get_or v k 0) (get_or w k 0)
larger_at v w k p q h =
    ap (λ ms. get_or (sel_l ms w v) k 0) (tops_compared w8 ltb v w)
    ∙ get_or-sel_l (zip2 ltb v w) w v k 0 (omega (arith, length-zip2 ltb v w (p ∙ sym q))) (omega arith) (omega arith)
    ∙ ap (λ t. cond t (get_or w k 0) (get_or v k 0)) (get_or-zip2 ltb v w k 0 0 false (omega arith) (omega arith))
    ∙ larger (get_or v k 0) (get_or w k 0)

-- what two loads, one a byte behind the other, say of the bytes
pub plain_run : (line : List ℕ) (at : ℕ) → at + 33 ≤ length line → ((k : ℕ) → k < 32 → 32 ≤ get_or (chunk at 32 line) k 0)
    → ((k : ℕ) → k < 32 → get_or (chunk at 32 line) k 0 ≤ 126) → ((k : ℕ) → k < 32 → 33 ≤ get_or (larger_of (chunk at 32 line) (chunk (at + 1) 32 line)) k 0)
    → ArePlain line at (at + 32)
plain_run line at room low high apart = λ k from to.
    let here : get_or (chunk at 32 line) (k - at) 0 ≡ get_or line k 0 =
    get_or-chunk at 32 line (k - at) 0 (omega arith) ∙ ap (λ i. get_or line i 0) (omega arith) in
    let next : get_or (chunk (at + 1) 32 line) (k - at) 0 ≡ get_or line (k + 1) 0 =
    get_or-chunk (at + 1) 32 line (k - at) 0 (omega arith) ∙ ap (λ i. get_or line i 0) (omega arith) in
    let two = larger_at (chunk at 32 line) (chunk (at + 1) 32 line) (k - at) (length-chunk at 32 line (omega arith))
    (length-chunk (at + 1) 32 line (omega arith)) (omega arith) in
    record {
      low = omega (arith, here, low (k - at) (omega arith));
      high = omega (arith, here, high (k - at) (omega arith));
      apart = omega (arith, here, next, two, apart (k - at) (omega arith));
    }

shown_by_one : (line : List ℕ) → ((k : ℕ) → k < length line → (32 ≤ get_or line k 0) × (get_or line k 0 ≤ 126)) → list_all is_printable line ≡ true
shown_by_one [] h = refl
shown_by_one (b ∷ bs) h =
    let first = h 0 (omega arith) in
    let rest = shown_by_one bs (λ k l. h (suc k) (omega (arith, l))) in
    grind (arith, nat_tests)

-- the bytes before the last are plain, and the first and the last are no spaces
module _ (line : List ℕ) (some : 0 < length line) (plain : ArePlain line 0 (length line - 1)) (low : 33 ≤ get_or line (length line - 1) 0) where
  pub plain_shown : get_or line (length line - 1) 0 ≤ 126 → list_all is_printable line ≡ true
  plain_shown high = shown_by_one line (λ k h. elim (cases_eq k (length line - 1)) [
    | inl is ↦ (omega (arith, ap (λ i. get_or line i 0) is), omega (arith, ap (λ i. get_or line i 0) is))
    | inr other ↦ ((plain k (omega arith) (omega arith)).low, (plain k (omega arith) (omega arith)).high)
  ])

  pub plain_words : 33 ≤ get_or line 0 0 → list_any is_empty_word (words_of line) ≡ false
  plain_words first = no_empty_word line first (λ k h. elim (cases_eq k (length line - 1)) [
    | inl is ↦ omega (arith, ap (λ i. get_or line i 0) is)
    | inr other ↦ omega (arith, (plain k (omega arith) (omega arith)).apart, ap (λ i. get_or line i 0) (add-one k))
  ])
