-- Entries of a tail that are laid into one run, the newest first.
use Rattle.std.proofs.Common.{◌≡◌, ℕ, ◌<◌, ◌≤◌, ◌++◌, Bool, List, [], ◌∷◌, ◌∙◌, ap, arith, inl, inr}
use Rattle.wtf_overlay.specs.declared.part.Entry.{Entry}
use Rattle.wtf_overlay.specs.Origin.{Place, over, origin_from}
use Rattle.wtf_overlay.specs.Runs.{Misses}
use Rattle.wtf_overlay.specs.Edges.{EdgesIn}
use Rattle.wtf_overlay.proofs.Origins.{origin_from-push, over_before, over_after}

-- the last entry lies over those before it, and under the run
pub tail_next : (rest before run : List Entry) (e : Entry) (b : List Place) (y : ℕ) → rest ≡ before ++ e ∷ []
    → origin_from (origin_from b rest y) run y ≡ origin_from (over e y (origin_from b before y)) run y
tail_next rest before run e b y is =
    ap (λ es. origin_from (origin_from b es y) run y) is ∙ ap (λ below. origin_from below run y) (origin_from-push b before e y)

-- an entry that misses the range leaves what is below
pub over_missed : (from to : ℕ) (e : Entry) (y : ℕ) (below : List Place) → Misses from to e → from ≤ y → y < to → over e y below ≡ below
over_missed from to e y below misses l k = elim misses [
  | inl a ↦ over_before e y below (omega arith)
  | inr g ↦ over_after e y below (omega arith)
]

pub EdgesIn-split : (p : ℕ → Bool) (es fs : List Entry) → EdgesIn p (es ++ fs) → EdgesIn p es × EdgesIn p fs
EdgesIn-split p [] fs edges = (tt, edges)
EdgesIn-split p (e ∷ es) fs edges = let k = EdgesIn-split p es fs edges.2 in ((edges.0, edges.1, k.0), k.1)
