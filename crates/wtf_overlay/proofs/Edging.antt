-- The edges of runs that are built from left to right.
use Rattle.std.proofs.Common.{◌≡◌, ℕ, ◌+◌, ◌<◌, ◌++◌, ◌⊎◌, Bool, true, List, [], ◌∷◌, ap, ◌∙◌, arith, inl, inr, max, ◌||◌, nat_eq}
use Rattle.std.proofs.lemmas.Bool.{cases_lt, eqb-true, or_cases}
use Rattle.wtf_overlay.specs.Borders.{borders_above}
use Rattle.wtf_overlay.proofs.Borders.{one_test, one_more, borders_above-le}
use Rattle.wtf_overlay.specs.declared.part.Entry.{Entry}
use Rattle.wtf_overlay.specs.Edges.{EdgesIn, is_edge}

pub EdgesIn-push : (p : ℕ → Bool) (es : List Entry) (e : Entry) → EdgesIn p es → p e.off ≡ true → p (e.off + e.len) ≡ true → EdgesIn p (es ++ e ∷ [])
EdgesIn-push p [] e edges start stop = (start, stop, edges)
EdgesIn-push p (f ∷ es) e edges start stop = (edges.0, edges.1, EdgesIn-push p es e edges.2 start stop)

EdgesIn-append : (p : ℕ → Bool) (es fs : List Entry) → EdgesIn p es → EdgesIn p fs → EdgesIn p (es ++ fs)
EdgesIn-append p [] fs front back = back
EdgesIn-append p (e ∷ es) fs front back = (front.0, front.1, EdgesIn-append p es fs front.2 back)

-- a list that is one and then the other
pub EdgesIn-joined : (p : ℕ → Bool) (es fs all : List Entry) → all ≡ es ++ fs → EdgesIn p es → EdgesIn p fs → EdgesIn p all
EdgesIn-joined p es fs all is front back = rw is (EdgesIn-append p es fs front back)

-- a part of an entry from x on begins at an edge
start_edge : (p : ℕ → Bool) (e : Entry) (x s : ℕ) → p e.off ≡ true → (p x ≡ true) ⊎ (x ≡ 0) → s ≡ max x e.off → p s ≡ true
start_edge p e x s off at is = elim (cases_lt e.off x) [
  | inl l ↦ elim at [
    | inl h ↦ ap p (let j : s ≡ x = omega arith in j) ∙ h
    | inr none ↦ absurd (omega arith)
  ]
  | inr g ↦ ap p (let j : s ≡ e.off = omega arith in j) ∙ off
]

pub edge_piece : (p : ℕ → Bool) (out after : List Entry) (e q : Entry) (x z : ℕ) → EdgesIn p out → EdgesIn p (e ∷ after) → (p x ≡ true) ⊎ (x ≡ 0)
    → q.off ≡ max x e.off → q.off + q.len ≡ z → p z ≡ true → EdgesIn p (out ++ q ∷ [])
edge_piece p out after e q x z laid rest at start stop edge =
    EdgesIn-push p out q laid (start_edge p e x q.off rest.0 at start) (ap p stop ∙ edge)

-- above an edge there are fewer of them
pub edge_falls : (es : List Entry) (x y : ℕ) → x < y → is_edge es y ≡ true → borders_above es y < borders_above es x
edge_falls [] x y h edge = absurd (cc)
edge_falls (e ∷ es) x y h edge =
    let first = one_test x y e.off (omega arith) in
    let last = one_test x y (e.off + e.len) (omega arith) in
    let rest = borders_above-le es x y (omega arith) in
    elim (or_cases (nat_eq e.off y) (nat_eq (e.off + e.len) y || is_edge es y) edge) [
      | inl a ↦ omega (arith, one_more x y e.off (eqb-true e.off y a) h)
      | inr k ↦ elim (or_cases (nat_eq (e.off + e.len) y) (is_edge es y) k) [
        | inl b ↦ omega (arith, one_more x y (e.off + e.len) (eqb-true (e.off + e.len) y b) h)
        | inr r ↦ omega (arith, edge_falls es x y h r)
      ]
    ]
