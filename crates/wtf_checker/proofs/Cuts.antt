-- How bytes are cut into lines.
use Rattle.std.proofs.Common.{◌≡◌, ℕ, suc, ◌+◌, List, [], ◌∷◌, ◌++◌, drop, get_or, refl, sym, ◌∙◌, ap, subst, arith}
use Rattle.std.specs.List.{Contains}
use Rattle.wtf_script.specs.ScriptLines.{line_feed, HasNoFeed}
use Rattle.wtf_script.proofs.LinesOf.{no_feed_head, no_feed_rest}
use Rattle.wtf_checker.specs.Lawful.{BeginsWith}

-- bytes without a line feed begin with no line
feed_in : (line rest : List ℕ) → Contains (line ++ line_feed ∷ rest) line_feed
feed_in [] rest = (0, omega arith, refl)
feed_in (b ∷ bs) rest = let p = feed_in bs rest in (suc p.0, omega (arith, p.1), p.2)

pub no_line : (line rest bytes : List ℕ) → HasNoFeed bytes → BeginsWith line rest bytes → ⊥
no_line line rest bytes none begins = none (subst (λ l. Contains l line_feed) (sym begins.bytes_are) (feed_in line rest))

heads : (a b : ℕ) (xs ys : List ℕ) → (a ∷ xs) ≡ (b ∷ ys) → (a ≡ b) × (xs ≡ ys)
heads a b xs ys e = (ap (λ (l : List ℕ). get_or l 0 0) e, ap (λ (l : List ℕ). drop 1 l) e)

-- and other bytes with one
one_cut : (line other rest left : List ℕ) → HasNoFeed line → HasNoFeed other → line ++ line_feed ∷ rest ≡ other ++ line_feed ∷ left
    → (line ≡ other) × (rest ≡ left)
one_cut [] [] rest left p q e = (refl, (heads 10 10 rest left e).1)
one_cut [] (b ∷ bs) rest left p q e = absurd (no_feed_head b bs q (sym (heads 10 b rest (bs ++ line_feed ∷ left) e).0))
one_cut (b ∷ bs) [] rest left p q e = absurd (no_feed_head b bs p (heads b 10 (bs ++ line_feed ∷ rest) left e).0)
one_cut (b ∷ bs) (c ∷ cs) rest left p q e =
    let h = heads b c (bs ++ line_feed ∷ rest) (cs ++ line_feed ∷ left) e in
    let r = one_cut bs cs rest left (no_feed_rest b bs p) (no_feed_rest c cs q) h.1 in
    (ap (λ (x : ℕ). x ∷ bs) h.0 ∙ ap (λ (l : List ℕ). c ∷ l) r.0, r.1)

pub one_line : (line other rest left bytes : List ℕ) → BeginsWith line rest bytes → BeginsWith other left bytes → (line ≡ other) × (rest ≡ left)
one_line line other rest left bytes p q = one_cut line other rest left p.plain q.plain (sym p.bytes_are ∙ q.bytes_are)
