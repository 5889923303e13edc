-- Laws of the counts of lines by their first words.
use Rattle.std.proofs.Common.{◌≡◌, ℕ, zero, suc, ◌+◌, ◌==◌, ◌&&◌, ◌<◌, ◌≤◌, Bool, true, false, cond, List, [], ◌∷◌, ◌++◌, length, take, refl, sym, ◌∙◌, ap, arith}
use Rattle.std.specs.Prelude.{codes, count_by}
use Rattle.std.proofs.lemmas.List.Sums.{sum_by_push, sum_by-cons}
use Rattle.wtf_script.specs.ScriptLines.{line_feed, ended_of}
use Rattle.wtf_summary.specs.Summaries.{feeds, has_word, is_other}
use Rattle.wtf_summary.specs.Counted.{AreBelow, counted, counts_of}
use Rattle.wtf_summary.specs.Tallies.{open_line}
use Rattle.wtf_summary.proofs.Lines.{ended_of-feed, ended_of-byte, feeds-feed, feeds-byte, length-ended_of}

-- more bytes than the word has tell whether a line begins with it
has_word-take : (word line : List ℕ) (n : ℕ) → length word < n → has_word word (take n line) ≡ has_word word line
has_word-take [] line zero h = absurd (omega (arith, h))
has_word-take (w ∷ ws) line zero h = absurd (omega (arith, h))
has_word-take [] [] (suc n) h = refl
has_word-take [] (b ∷ bs) (suc n) h = refl
has_word-take (w ∷ ws) [] (suc n) h = refl
has_word-take (w ∷ ws) (b ∷ bs) (suc n) h = ap (λ (t : Bool). (w == b) && t) (has_word-take ws bs n (omega (arith, h)))

is_other-take : (line : List ℕ) → is_other (take 10 line) ≡ is_other line
is_other-take line =
    rw (has_word-take (codes "committed") line 10 (omega arith), has_word-take (codes "retry") line 10 (omega arith), has_word-take (codes "aborted") line 10 (omega arith), has_word-take (codes "installed") line 10 (omega arith), has_word-take (codes "refused") line 10 (omega arith)) refl

-- a line more
count-feed : (p : List ℕ → Bool) (text : List ℕ) → p (take 10 (open_line text)) ≡ p (open_line text)
    → count_by p (ended_of (text ++ line_feed ∷ [])) ≡ count_by p (ended_of text) + cond (p (take 10 (open_line text))) 1 0
count-feed p text h =
    ap (count_by p) (ended_of-feed text) ∙ sum_by_push (λ line. cond (p line) 1 0) (ended_of text) (open_line text)
    ∙ ap (λ (t : Bool). count_by p (ended_of text) + cond t 1 0) (sym h)

pub counts_of-feed : (text : List ℕ) → counted (counts_of text) (take 10 (open_line text)) ≡ counts_of (text ++ line_feed ∷ [])
counts_of-feed text =
    let line = open_line text in
    rw (
      feeds-feed text,
      count-feed (has_word (codes "committed")) text (has_word-take (codes "committed") line 10 (omega arith)),
      count-feed (has_word (codes "retry")) text (has_word-take (codes "retry") line 10 (omega arith)),
      count-feed (has_word (codes "aborted")) text (has_word-take (codes "aborted") line 10 (omega arith)),
      count-feed (has_word (codes "installed")) text (has_word-take (codes "installed") line 10 (omega arith)),
      count-feed (has_word (codes "refused")) text (has_word-take (codes "refused") line 10 (omega arith)),
      count-feed is_other text (is_other-take line),
    ) refl

pub counts_of-byte : (text : List ℕ) (b : ℕ) → (b == line_feed) ≡ false → counts_of (text ++ b ∷ []) ≡ counts_of text
counts_of-byte text b h = rw (feeds-byte text b h, ended_of-byte text b h) refl

count-le : (p : List ℕ → Bool) (lines : List (List ℕ)) → count_by p lines ≤ length lines
count-le p [] = omega arith
count-le p (line ∷ lines) = rw (sum_by-cons (λ l. cond (p l) 1 0) line lines) (one (p line) (count_by p lines) (length lines) (count-le p lines))
  where
    one : (t : Bool) (n m : ℕ) → n ≤ m → cond t 1 0 + n ≤ suc m
    one true n m h = omega (arith, h)
    one false n m h = omega (arith, h)

-- no count is above the number of lines
pub counts_of-below : (n : ℕ) (text : List ℕ) → feeds text < n → AreBelow n (counts_of text)
counts_of-below n text h =
    let e = length-ended_of text in let ls = ended_of text in
    record {
      lines = h;
      committed = omega (arith, h, e, count-le (has_word (codes "committed")) ls);
      retry = omega (arith, h, e, count-le (has_word (codes "retry")) ls);
      aborted = omega (arith, h, e, count-le (has_word (codes "aborted")) ls);
      installed = omega (arith, h, e, count-le (has_word (codes "installed")) ls);
      refused = omega (arith, h, e, count-le (has_word (codes "refused")) ls);
      other = omega (arith, h, e, count-le is_other ls);
    }
