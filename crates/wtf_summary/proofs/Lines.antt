-- Laws of a text that grows by a byte.
use Rattle.std.proofs.Common.{◌≡◌, ℕ, zero, suc, ◌+◌, ◌==◌, ◌<◌, ◌≤◌, Bool, true, false, cond, List, [], ◌∷◌, ◌++◌, length, take, refl, ◌∙◌, ap, arith}
use Rattle.wtf_script.specs.ScriptLines.{line_feed, onto_first, ended_of}
use Rattle.wtf_summary.specs.Summaries.{feeds}
use Rattle.wtf_summary.specs.Tallies.{open_after, open_line}

pub other_byte : (b : ℕ) → (b ≡ line_feed → ⊥) → (b == line_feed) ≡ false
other_byte b f = grind arith

-- a byte that ends no line
pub ended_of-byte : (text : List ℕ) (b : ℕ) → (b == line_feed) ≡ false → ended_of (text ++ b ∷ []) ≡ ended_of text
ended_of-byte [] b h = ap (λ (t : Bool). cond t ([] ∷ []) []) h
ended_of-byte (c ∷ cs) b h = ap (λ (ls : List (List ℕ)). cond (c == line_feed) ([] ∷ ls) (onto_first c ls)) (ended_of-byte cs b h)

ended_step : (t : Bool) (c : ℕ) (lines : List (List ℕ)) (line : List ℕ)
    → cond t ([] ∷ (lines ++ line ∷ [])) (onto_first c (lines ++ line ∷ [])) ≡ cond t ([] ∷ lines) (onto_first c lines) ++ cond t line (open_after c lines line) ∷ []
ended_step true c lines line = refl
ended_step false c [] line = refl
ended_step false c (l ∷ ls) line = refl

-- a line feed ends the line that was open
pub ended_of-feed : (text : List ℕ) → ended_of (text ++ line_feed ∷ []) ≡ ended_of text ++ open_line text ∷ []
ended_of-feed [] = refl
ended_of-feed (c ∷ cs) =
    ap (λ (ls : List (List ℕ)). cond (c == line_feed) ([] ∷ ls) (onto_first c ls)) (ended_of-feed cs)
    ∙ ended_step (c == line_feed) c (ended_of cs) (open_line cs)

open_step : (t : Bool) (c b : ℕ) (lines : List (List ℕ)) (line : List ℕ)
    → cond t (line ++ b ∷ []) (open_after c lines (line ++ b ∷ [])) ≡ cond t line (open_after c lines line) ++ b ∷ []
open_step true c b lines line = refl
open_step false c b [] line = refl
open_step false c b (l ∷ ls) line = refl

pub open_line-byte : (text : List ℕ) (b : ℕ) → (b == line_feed) ≡ false → open_line (text ++ b ∷ []) ≡ open_line text ++ b ∷ []
open_line-byte [] b h = ap (λ (t : Bool). cond t [] (b ∷ [])) h
open_line-byte (c ∷ cs) b h =
    ap (λ (ls : List (List ℕ)). cond (c == line_feed) (open_line (cs ++ b ∷ [])) (open_after c ls (open_line (cs ++ b ∷ [])))) (ended_of-byte cs b h)
    ∙ ap (λ (line : List ℕ). cond (c == line_feed) line (open_after c (ended_of cs) line)) (open_line-byte cs b h)
    ∙ open_step (c == line_feed) c b (ended_of cs) (open_line cs)

none_step : (t : Bool) (c : ℕ) (lines : List (List ℕ)) (line : List ℕ) → cond t [] (open_after c (lines ++ line ∷ []) []) ≡ []
none_step true c lines line = refl
none_step false c [] line = refl
none_step false c (l ∷ ls) line = refl

pub open_line-feed : (text : List ℕ) → open_line (text ++ line_feed ∷ []) ≡ []
open_line-feed [] = refl
open_line-feed (c ∷ cs) =
    ap (λ (ls : List (List ℕ)). cond (c == line_feed) (open_line (cs ++ line_feed ∷ [])) (open_after c ls (open_line (cs ++ line_feed ∷ [])))) (ended_of-feed cs)
    ∙ ap (λ (line : List ℕ). cond (c == line_feed) line (open_after c (ended_of cs ++ open_line cs ∷ []) line)) (open_line-feed cs)
    ∙ none_step (c == line_feed) c (ended_of cs) (open_line cs)

onto_length : (t : Bool) (c : ℕ) (lines : List (List ℕ)) → length (cond t ([] ∷ lines) (onto_first c lines)) ≡ cond t (suc (length lines)) (length lines)
onto_length true c lines = refl
onto_length false c [] = refl
onto_length false c (l ∷ ls) = refl

-- as many lines end as there are line feeds
pub length-ended_of : (text : List ℕ) → length (ended_of text) ≡ feeds text
length-ended_of [] = refl
length-ended_of (c ∷ cs) = onto_length (c == line_feed) c (ended_of cs) ∙ ap (λ (n : ℕ). cond (c == line_feed) (suc n) n) (length-ended_of cs)

pub feeds-byte : (text : List ℕ) (b : ℕ) → (b == line_feed) ≡ false → feeds (text ++ b ∷ []) ≡ feeds text
feeds-byte [] b h = ap (λ (t : Bool). cond t 1 0) h
feeds-byte (c ∷ cs) b h = ap (λ (n : ℕ). cond (c == line_feed) (suc n) n) (feeds-byte cs b h)

feeds_step : (t : Bool) (n : ℕ) → cond t (suc (n + 1)) (n + 1) ≡ cond t (suc n) n + 1
feeds_step true n = omega arith
feeds_step false n = refl

pub feeds-feed : (text : List ℕ) → feeds (text ++ line_feed ∷ []) ≡ feeds text + 1
feeds-feed [] = refl
feeds-feed (c ∷ cs) = ap (λ (n : ℕ). cond (c == line_feed) (suc n) n) (feeds-feed cs) ∙ feeds_step (c == line_feed) (feeds cs)

-- the front of a line that grows
pub take_push-room : (n : ℕ) (line : List ℕ) (b : ℕ) → length (take n line) < n → take n (line ++ b ∷ []) ≡ take n line ++ b ∷ []
take_push-room zero line b h = absurd (omega (arith, h))
take_push-room (suc zero) [] b h = refl
take_push-room (suc (suc n)) [] b h = refl
take_push-room (suc n) (x ∷ xs) b h = ap (λ (l : List ℕ). x ∷ l) (take_push-room n xs b (omega (arith, h)))

pub take_push-full : (n : ℕ) (line : List ℕ) (b : ℕ) → n ≤ length (take n line) → take n (line ++ b ∷ []) ≡ take n line
take_push-full zero line b h = refl
take_push-full (suc n) [] b h = absurd (omega (arith, h))
take_push-full (suc n) (x ∷ xs) b h = ap (λ (l : List ℕ). x ∷ l) (take_push-full n xs b (omega (arith, h)))

push_step : (t : Bool) (n m : ℕ) → cond t (suc (n + m)) (n + m) ≡ cond t (suc n) n + m
push_step true n m = omega arith
push_step false n m = refl

pub feeds-push : (text : List ℕ) (b : ℕ) → feeds (text ++ b ∷ []) ≡ feeds text + cond (b == line_feed) 1 0
feeds-push [] b = omega arith
feeds-push (c ∷ cs) b =
    ap (λ (n : ℕ). cond (c == line_feed) (suc n) n) (feeds-push cs b) ∙ push_step (c == line_feed) (feeds cs) (cond (b == line_feed) 1 0)
