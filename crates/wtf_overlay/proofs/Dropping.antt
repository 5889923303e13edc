-- The entries of a run from a place on, and up to one.
use Rattle.std.proofs.Common.{◌≡◌, ℕ, Bool, zero, suc, ◌+◌, ◌<◌, ◌≤◌, List, [], ◌∷◌, ◌∙◌, subst, arith, length, take, drop, get_or}
use Rattle.wtf_overlay.specs.declared.part.Entry.{Entry}
use Rattle.wtf_overlay.specs.Origin.{over}
use Rattle.wtf_overlay.specs.Runs.{IsRunIn, SameFrom, SameUpTo}
use Rattle.wtf_overlay.specs.Edges.{EdgesIn}
use Rattle.wtf_overlay.proofs.Building.{run_rest, run_before, first_past, IsRunIn-order}

-- each entry begins where the run does or later
pub IsRunIn-at : (lo hi : ℕ) (es : List Entry) (i : ℕ) (d : Entry) → i < length es → IsRunIn lo hi es → lo ≤ (get_or es i d).off
IsRunIn-at lo hi [] i d below run = absurd (omega arith)
IsRunIn-at lo hi (e ∷ es) zero d below run = run.0
IsRunIn-at lo hi (e ∷ es) (suc i) d below run = omega (arith, run.0, IsRunIn-at (e.off + e.len) hi es i d (omega arith) run.1)

pub IsRunIn-drop : (lo hi : ℕ) (es : List Entry) (i : ℕ) → i ≤ length es → IsRunIn lo hi es → IsRunIn lo hi (drop i es)
IsRunIn-drop lo hi es zero within run = run
IsRunIn-drop lo hi [] (suc i) within run = absurd (omega arith)
IsRunIn-drop lo hi (e ∷ es) (suc i) within run = IsRunIn-drop lo hi es i (omega arith) (run_rest lo hi e es run)

-- where an entry ends at x or before, so do those in front of it
pub same_drop : (lo hi : ℕ) (es : List Entry) (i x : ℕ) (d : Entry) → i < length es → IsRunIn lo hi es
    → (get_or es i d).off + (get_or es i d).len ≤ x → SameFrom x es (drop (suc i) es)
same_drop lo hi [] i x d below run past = absurd (omega arith)
same_drop lo hi (e ∷ es) zero x d below run past = first_past e es x past
same_drop lo hi (e ∷ es) (suc i) x d below run past = λ b y k.
    first_past e es x (omega (arith, past, IsRunIn-at (e.off + e.len) hi es i d (omega arith) run.1)) b y k
    ∙ same_drop (e.off + e.len) hi es i x d (omega arith) run.1 past b y k

-- the same of an entry that was read
pub same_read : (hi : ℕ) (es : List Entry) (i x : ℕ) (e : Entry) → i < length es → IsRunIn 0 hi es → e ≡ get_or es i e
    → e.off + e.len ≤ x → SameFrom x es (drop (i + 1) es)
same_read hi es i x e below run is past =
    let past : (get_or es i e).off + (get_or es i e).len ≤ x = subst (λ f. f.off + f.len ≤ x) is past in
    rw (let j : i + 1 ≡ suc i = omega arith in j) (same_drop 0 hi es i x e below run past)

pub EdgesIn-drop : (p : ℕ → Bool) (es : List Entry) (i : ℕ) → i ≤ length es → EdgesIn p es → EdgesIn p (drop i es)
EdgesIn-drop p es zero within edges = edges
EdgesIn-drop p [] (suc i) within edges = absurd (omega arith)
EdgesIn-drop p (e ∷ es) (suc i) within edges = EdgesIn-drop p es i (omega arith) edges.2

pub IsRunIn-take : (lo hi : ℕ) (es : List Entry) (i : ℕ) → IsRunIn lo hi es → IsRunIn lo hi (take i es)
IsRunIn-take lo hi es zero run = IsRunIn-order lo hi es run
IsRunIn-take lo hi [] (suc i) run = run
IsRunIn-take lo hi (e ∷ es) (suc i) run = (run.0, IsRunIn-take (e.off + e.len) hi es i run.1)

pub EdgesIn-take : (p : ℕ → Bool) (es : List Entry) (i : ℕ) → EdgesIn p es → EdgesIn p (take i es)
EdgesIn-take p es zero edges = tt
EdgesIn-take p [] (suc i) edges = tt
EdgesIn-take p (e ∷ es) (suc i) edges = (edges.0, edges.1, EdgesIn-take p es i edges.2)

-- where an entry begins at x or later, neither it nor those after it show anything below x
pub same_take : (lo hi : ℕ) (es : List Entry) (i x : ℕ) (d : Entry) → i < length es → IsRunIn lo hi es
    → x ≤ (get_or es i d).off → SameUpTo x es (take i es)
same_take lo hi [] i x d below run past = absurd (omega arith)
same_take lo hi (e ∷ es) zero x d below run past = λ b y k.
    let self : e.off ≤ e.off = omega arith in
    run_before e.off hi (e ∷ es) b y (self, run.1) (omega arith)
same_take lo hi (e ∷ es) (suc i) x d below run past = λ b y k.
    same_take (e.off + e.len) hi es i x d (omega arith) run.1 past (over e y b) y k
