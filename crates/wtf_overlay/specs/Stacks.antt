-- Runs that lie over one another, the lowest first, and the list that they stand for.
use Rattle.std.specs.Prelude.{◌≡◌, ⊤, ℕ, Bool, List, [], ◌∷◌}
use Rattle.std.specs.Rc.{rc_slice_items}
use Rattle.std.proofs.Common.{Global}
use Rattle.std.specs.declared.rc.RcSlice.{RcSlice}
use Rattle.wtf_overlay.specs.declared.part.Entry.{Entry}
use Rattle.wtf_overlay.specs.Origin.{Place, origin_from}
use Rattle.wtf_overlay.specs.Runs.{IsRun}
use Rattle.wtf_overlay.specs.Edges.{EdgesIn, is_edge}

-- a run that holders share
abbrev pub Shared : Type 0
Shared = RcSlice Entry Global

-- what the runs show over b at y
abbrev pub stack : List Shared → List Place → ℕ → List Place
stack [] b y = b
stack (r ∷ rs) b y = stack rs (origin_from b (rc_slice_items r) y) y

abbrev pub AreRuns : List Shared → Type 0
AreRuns [] = ⊤
AreRuns (r ∷ rs) = IsRun (rc_slice_items r) × AreRuns rs

-- each start and end of the runs passes the test
abbrev pub EdgesOf : (ℕ → Bool) → List Shared → Type 0
EdgesOf p [] = ⊤
EdgesOf p (r ∷ rs) = EdgesIn p (rc_slice_items r) × EdgesOf p rs

-- the runs with the tail over them show what the list shows, and begin and end where its entries do
pub record StandFor (es : List Entry) (rs : List Shared) (tail : List Entry) : Type 0 where
  pub runs : AreRuns rs
  pub shows : (b : List Place) (y : ℕ) → origin_from (stack rs b y) tail y ≡ origin_from b es y
  pub edges : EdgesOf (is_edge es) rs
  pub tail_edges : EdgesIn (is_edge es) tail
