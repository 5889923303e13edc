-- What one run laid over another shows: where an entry of the newer one is next, and where one ends before the
-- other begins.
use Rattle.std.proofs.Common.{◌≡◌, ℕ, ◌+◌, ◌-◌, ◌<◌, ◌≤◌, ◌++◌, List, [], ◌∷◌, refl, ap, sym, ◌∙◌, arith, inl, inr}
use Rattle.std.proofs.lemmas.Bool.{cases_lt}
use Rattle.wtf_overlay.specs.declared.part.Entry.{Entry}
use Rattle.wtf_overlay.specs.Origin.{Place, part_origin, over, origin_from}
use Rattle.wtf_overlay.specs.Runs.{IsRunIn, laid_over, Shows, Built, SameFrom, Tells}
use Rattle.wtf_overlay.proofs.Origins.{origin_from-append, over_after}
use Rattle.wtf_overlay.proofs.Building.{IsRunIn-append, IsRunIn-back, IsRunIn-last, run_before, run_after, run_first}

-- before its start the older one shows
pub both_before : (hi x : ℕ) (newer older rest after : List Entry) (e : Entry)
    → IsRunIn x hi (e ∷ after) → SameFrom x newer (e ∷ after) → SameFrom x older rest → Tells x e.off (laid_over newer older) rest
both_before hi x newer older rest after e run same_over same_rest = λ b y l k.
    let self : e.off ≤ e.off = omega arith in
    same_over (origin_from b older y) y l ∙ run_before e.off hi (e ∷ after) (origin_from b older y) y (self, run.1) k ∙ same_rest b y l

-- then it hides that
pub both_within : (hi x : ℕ) (newer older after : List Entry) (e : Entry)
    → IsRunIn x hi (e ∷ after) → SameFrom x newer (e ∷ after)
    → (b : List Place) (y : ℕ) → e.off ≤ y → y < e.off + e.len → laid_over newer older b y ≡ part_origin e.part (y - e.off)
both_within hi x newer older after e run same_over = λ b y l k.
    let later : x ≤ y = omega (arith, run.0) in
    same_over (origin_from b older y) y later ∙ run_first x hi e after (origin_from b older y) y run l k

-- and where no entry is left the older one shows
pub both_past : (x z : ℕ) (newer older rest : List Entry) → SameFrom x newer [] → SameFrom x older rest → Tells x z (laid_over newer older) rest
both_past x z newer older rest same_over same_rest = λ b y l k. same_over (origin_from b older y) y l ∙ same_rest b y l

pub both_shown : (hi : ℕ) (newer older out : List Entry) → IsRunIn 0 hi newer → IsRunIn 0 hi older → Built out hi (laid_over newer older) → Shows out (laid_over newer older)
both_shown hi newer older out new old built = λ b y. elim (cases_lt y hi) [
  | inl l ↦ built.shows b y l
  | inr g ↦ run_after 0 hi out b y built.run g
      ∙ sym (run_after 0 hi newer (origin_from b older y) y new g ∙ run_after 0 hi older b y old g)
]

-- two runs of which one ends before the other begins
pub run_joined : (hi : ℕ) (first second before after : List Entry) (last next : Entry) → first ≡ before ++ last ∷ [] → second ≡ next ∷ after
    → IsRunIn 0 hi first → IsRunIn 0 hi second → last.off + last.len ≤ next.off → IsRunIn 0 hi (first ++ second)
run_joined hi first second before after last next ends begins one two apart =
    let front = IsRunIn-last 0 hi before last (rw ends at one) in
    let back = rw begins at two in
    rw (ends, begins) (IsRunIn-append 0 (last.off + last.len) hi (before ++ last ∷ []) (next ∷ after) front (apart, back.1))

-- an entry that ends before a run begins may be laid before it or after it
over_apart : (hi : ℕ) (e : Entry) (es : List Entry) (b : List Place) (y : ℕ) → IsRunIn (e.off + e.len) hi es
    → origin_from (over e y b) es y ≡ over e y (origin_from b es y)
over_apart hi e es b y run = elim (cases_lt y (e.off + e.len)) [
  | inl l ↦ run_before (e.off + e.len) hi es (over e y b) y run l ∙ sym (ap (over e y) (run_before (e.off + e.len) hi es b y run l))
  | inr g ↦ ap (λ c. origin_from c es y) (over_after e y b g) ∙ sym (over_after e y (origin_from b es y) g)
]

-- the first entries of a run may be laid before the others or after them
pub either_first : (lo hi : ℕ) (first second : List Entry) (b : List Place) (y : ℕ) → IsRunIn lo hi (first ++ second)
    → origin_from (origin_from b first y) second y ≡ origin_from (origin_from b second y) first y
either_first lo hi [] second b y run = refl
either_first lo hi (e ∷ first) second b y run =
    either_first (e.off + e.len) hi first second (over e y b) y run.1
    ∙ ap (λ c. origin_from c first y) (over_apart hi e second b y (IsRunIn-back (e.off + e.len) hi first second run.1))

-- the older run with the newer one after it shows the newer one over it
pub older_first : (newer older all : List Entry) → all ≡ older ++ newer → Shows all (laid_over newer older)
older_first newer older all is = λ b y. ap (λ es. origin_from b es y) is ∙ origin_from-append b older newer y

-- and so does the newer one with the older one after it, where they are a run
pub newer_first : (hi : ℕ) (newer older all : List Entry) → all ≡ newer ++ older → IsRunIn 0 hi (newer ++ older) → Shows all (laid_over newer older)
newer_first hi newer older all is run = λ b y.
    ap (λ es. origin_from b es y) is ∙ origin_from-append b newer older y ∙ either_first 0 hi newer older b y run
