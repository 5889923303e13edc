-- Runs over one another.
use Rattle.std.proofs.Common.{◌≡◌, ℕ, Bool, true, ◌<◌, ◌≤◌, List, [], ◌∷◌, ◌∙◌, zero, suc, arith, ◌++◌, ◌+◌, ◌-◌, refl, sym, ap, subst, take, drop, get_or, length}
use Rattle.std.specs.Rc.{rc_slice_items}
use Rattle.std.specs.List.{AllZip}
use Rattle.wtf_overlay.specs.declared.part.Entry.{Entry}
use Rattle.wtf_overlay.specs.Origin.{Place, origin_from}
use Rattle.wtf_overlay.specs.Runs.{IsRun}
use Rattle.wtf_overlay.specs.Edges.{EdgesIn, is_edge}
use Rattle.wtf_overlay.specs.Stacks.{Shared, stack, AreRuns, EdgesOf, StandFor}

-- the runs from n on are the one at n with those after it over it
pub stack_next : (rs : List Shared) (n : ℕ) (d : Shared) (b : List Place) (y : ℕ) → n < length rs
    → stack (drop n rs) b y ≡ stack (drop (n + 1) rs) (origin_from b (rc_slice_items (get_or rs n d)) y) y
stack_next [] n d b y below = absurd (omega arith)
stack_next (r ∷ rs) zero d b y below = refl
stack_next (r ∷ rs) (suc n) d b y below =
    stack_next rs n d b y (omega arith)
    ∙ ap (λ k. stack (drop k (r ∷ rs)) (origin_from b (rc_slice_items (get_or rs n d)) y) y) (let e : suc (n + 1) ≡ suc n + 1 = omega arith in e)

pub stack-append : (rs qs : List Shared) (b : List Place) (y : ℕ) → stack (rs ++ qs) b y ≡ stack qs (stack rs b y) y
stack-append [] qs b y = refl
stack-append (r ∷ rs) qs b y = stack-append rs qs (origin_from b (rc_slice_items r) y) y

pub stack_split : (rs : List Shared) (n : ℕ) (b : List Place) (y : ℕ) → stack (drop n rs) (stack (take n rs) b y) y ≡ stack rs b y
stack_split rs zero b y = refl
stack_split [] (suc n) b y = refl
stack_split (r ∷ rs) (suc n) b y = stack_split rs n (origin_from b (rc_slice_items r) y) y

pub AreRuns-at : (rs : List Shared) (n : ℕ) (d : Shared) → n < length rs → AreRuns rs → IsRun (rc_slice_items (get_or rs n d))
AreRuns-at [] n d below all = absurd (omega arith)
AreRuns-at (r ∷ rs) zero d below all = all.0
AreRuns-at (r ∷ rs) (suc n) d below all = AreRuns-at rs n d (omega arith) all.1

pub AreRuns-take : (rs : List Shared) (n : ℕ) → AreRuns rs → AreRuns (take n rs)
AreRuns-take rs zero all = tt
AreRuns-take [] (suc n) all = tt
AreRuns-take (r ∷ rs) (suc n) all = (all.0, AreRuns-take rs n all.1)

pub AreRuns-push : (rs : List Shared) (r : Shared) → AreRuns rs → IsRun (rc_slice_items r) → AreRuns (rs ++ r ∷ [])
AreRuns-push [] r all run = (run, tt)
AreRuns-push (q ∷ rs) r all run = (all.0, AreRuns-push rs r all.1 run)

pub EdgesOf-at : (p : ℕ → Bool) (rs : List Shared) (n : ℕ) (d : Shared) → n < length rs → EdgesOf p rs → EdgesIn p (rc_slice_items (get_or rs n d))
EdgesOf-at p [] n d below all = absurd (omega arith)
EdgesOf-at p (r ∷ rs) zero d below all = all.0
EdgesOf-at p (r ∷ rs) (suc n) d below all = EdgesOf-at p rs n d (omega arith) all.1

pub EdgesOf-take : (p : ℕ → Bool) (rs : List Shared) (n : ℕ) → EdgesOf p rs → EdgesOf p (take n rs)
EdgesOf-take p rs zero all = tt
EdgesOf-take p [] (suc n) all = tt
EdgesOf-take p (r ∷ rs) (suc n) all = (all.0, EdgesOf-take p rs n all.1)

pub EdgesOf-push : (p : ℕ → Bool) (rs : List Shared) (r : Shared) → EdgesOf p rs → EdgesIn p (rc_slice_items r) → EdgesOf p (rs ++ r ∷ [])
EdgesOf-push p [] r all run = (run, tt)
EdgesOf-push p (q ∷ rs) r all run = (all.0, EdgesOf-push p rs r all.1 run)

pub EdgesIn-weaker : (p q : ℕ → Bool) (es : List Entry) → ((y : ℕ) → p y ≡ true → q y ≡ true) → EdgesIn p es → EdgesIn q es
EdgesIn-weaker p q [] more edges = edges
EdgesIn-weaker p q (e ∷ es) more edges = (more e.off edges.0, more _ edges.1, EdgesIn-weaker p q es more edges.2)

pub EdgesOf-weaker : (p q : ℕ → Bool) (rs : List Shared) → ((y : ℕ) → p y ≡ true → q y ≡ true) → EdgesOf p rs → EdgesOf q rs
EdgesOf-weaker p q [] more edges = edges
EdgesOf-weaker p q (r ∷ rs) more edges = (EdgesIn-weaker p q (rc_slice_items r) more edges.0, EdgesOf-weaker p q rs more edges.1)

-- handles of equal runs
abbrev Alike : List Shared → List Shared → Type 0
Alike rs qs = AllZip (λ r q. rc_slice_items q ≡ rc_slice_items r) rs qs

stack-alike : (rs qs : List Shared) (b : List Place) (y : ℕ) → Alike rs qs → stack qs b y ≡ stack rs b y
stack-alike [] [] b y alike = refl
stack-alike [] (q ∷ qs) b y alike = absurd alike
stack-alike (r ∷ rs) [] b y alike = absurd alike
stack-alike (r ∷ rs) (q ∷ qs) b y alike =
    ap (λ es. stack qs (origin_from b es y) y) alike.0 ∙ stack-alike rs qs (origin_from b (rc_slice_items r) y) y alike.1

AreRuns-alike : (rs qs : List Shared) → Alike rs qs → AreRuns rs → AreRuns qs
AreRuns-alike [] [] alike all = tt
AreRuns-alike [] (q ∷ qs) alike all = absurd alike
AreRuns-alike (r ∷ rs) [] alike all = absurd alike
AreRuns-alike (r ∷ rs) (q ∷ qs) alike all = (subst (λ es. IsRun es) (sym alike.0) all.0, AreRuns-alike rs qs alike.1 all.1)

EdgesOf-alike : (p : ℕ → Bool) (rs qs : List Shared) → Alike rs qs → EdgesOf p rs → EdgesOf p qs
EdgesOf-alike p [] [] alike all = tt
EdgesOf-alike p [] (q ∷ qs) alike all = absurd alike
EdgesOf-alike p (r ∷ rs) [] alike all = absurd alike
EdgesOf-alike p (r ∷ rs) (q ∷ qs) alike all = (subst (λ es. EdgesIn p es) (sym alike.0) all.0, EdgesOf-alike p rs qs alike.1 all.1)

pub StandFor-alike : (es tail : List Entry) (rs qs : List Shared) → AllZip (λ r q. rc_slice_items q ≡ rc_slice_items r) rs qs
    → StandFor es rs tail → StandFor es qs tail
StandFor-alike es tail rs qs alike old = record {
  runs = AreRuns-alike rs qs alike old.runs;
  shows = λ b y. ap (λ below. origin_from below tail y) (stack-alike rs qs b y alike) ∙ old.shows b y;
  edges = EdgesOf-alike (is_edge es) rs qs alike old.edges;
  tail_edges = old.tail_edges;
}

-- the newest runs down to the one at n, which was read, where `all` shows those after it
pub shown_next : (rs : List Shared) (n : ℕ) (r : Shared) (es : List Entry) (b : List Place) (y : ℕ) → 0 < n → n ≤ length rs
    → r ≡ get_or rs (n - 1) r → origin_from b es y ≡ origin_from b (rc_slice_items r) y
    → stack (drop n rs) (origin_from b es y) y ≡ stack (drop (n - 1) rs) b y
shown_next rs n r es b y some within is same =
    ap (λ below. stack (drop n rs) below y) (same ∙ ap (λ q. origin_from b (rc_slice_items q) y) is)
    ∙ ap (λ k. stack (drop k rs) (origin_from b (rc_slice_items (get_or rs (n - 1) r)) y) y) (let e : n ≡ n - 1 + 1 = omega arith in e)
    ∙ sym (stack_next rs (n - 1) r b y (omega arith))

-- a run that was read
pub run_read : (rs : List Shared) (n : ℕ) (r : Shared) → n < length rs → AreRuns rs → r ≡ get_or rs n r → IsRun (rc_slice_items r)
run_read rs n r below all is = subst (λ q. IsRun (rc_slice_items q)) (sym is) (AreRuns-at rs n r below all)

pub edges_read : (p : ℕ → Bool) (rs : List Shared) (n : ℕ) (r : Shared) → n < length rs → EdgesOf p rs → r ≡ get_or rs n r → EdgesIn p (rc_slice_items r)
edges_read p rs n r below all is = subst (λ q. EdgesIn p (rc_slice_items q)) (sym is) (EdgesOf-at p rs n r below all)
