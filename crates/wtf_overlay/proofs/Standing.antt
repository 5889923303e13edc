-- An entry more on a list and on its tail, and the tail merged into the runs.
use Rattle.std.proofs.Common.{◌≡◌, ℕ, ◌+◌, ◌^◌, ◌++◌, Bool, true, false, ◌||◌, List, [], ◌∷◌, ◌∙◌, ap, sym, subst, refl, take, drop, nat_eq, inl, inr}
use Rattle.std.specs.Rc.{rc_slice_items}
use Rattle.std.proofs.lemmas.List.{append-nil, append_assoc}
use Rattle.std.proofs.lemmas.Bool.{or_left, or_right, or_cases, eq-eqb}
use Rattle.wtf_overlay.specs.declared.part.Entry.{Entry}
use Rattle.wtf_overlay.specs.Origin.{over, origin_from}
use Rattle.wtf_overlay.specs.Runs.{IsRun, Shows, SameWithin}
use Rattle.wtf_overlay.specs.Edges.{EdgesIn, is_edge}
use Rattle.wtf_overlay.specs.Stacks.{Shared, stack, EdgesOf, StandFor}
use Rattle.wtf_overlay.proofs.Origins.{origin_from-push}
use Rattle.wtf_overlay.proofs.Stacking.{stack-append, stack_split, AreRuns-take, AreRuns-push, EdgesOf-take, EdgesOf-push, EdgesOf-weaker, EdgesIn-weaker}
use Rattle.wtf_overlay.proofs.Edging.{EdgesIn-push}
use Rattle.wtf_overlay.proofs.Wholes.{same_all}

or_more : (a b c d : Bool) → (c ≡ true → d ≡ true) → (a || (b || c)) ≡ true → (a || (b || d)) ≡ true
or_more a b c d more h = elim (or_cases a (b || c) h) [
  | inl x ↦ or_left a (b || d) x
  | inr k ↦ or_right a (b || d) (elim (or_cases b c k) [
    | inl x ↦ or_left b d x
    | inr r ↦ or_right b d (more r)
  ])
]

edge_more : (es : List Entry) (e : Entry) (y : ℕ) → is_edge es y ≡ true → is_edge (es ++ e ∷ []) y ≡ true
edge_more [] e y edge = absurd (cc)
edge_more (f ∷ es) e y edge = or_more (nat_eq f.off y) (nat_eq (f.off + f.len) y) (is_edge es y) (is_edge (es ++ e ∷ []) y) (edge_more es e y) edge

edge_last : (es : List Entry) (e : Entry) (y : ℕ) → is_edge (e ∷ []) y ≡ true → is_edge (es ++ e ∷ []) y ≡ true
edge_last [] e y edge = edge
edge_last (f ∷ es) e y edge =
    or_right (nat_eq f.off y) (nat_eq (f.off + f.len) y || is_edge (es ++ e ∷ []) y)
    (or_right (nat_eq (f.off + f.len) y) (is_edge (es ++ e ∷ []) y) (edge_last es e y edge))

starts : (e : Entry) → is_edge (e ∷ []) e.off ≡ true
starts e = or_left (nat_eq e.off e.off) (nat_eq (e.off + e.len) e.off || false) (eq-eqb e.off e.off refl)

ends : (e : Entry) → is_edge (e ∷ []) (e.off + e.len) ≡ true
ends e = let x = e.off + e.len in or_right (nat_eq e.off x) (nat_eq x x || false) (or_left (nat_eq x x) false (eq-eqb x x refl))

-- a list whose tail gets the entry too
pub StandFor-push : (es tail : List Entry) (e : Entry) (rs : List Shared) → StandFor es rs tail → StandFor (es ++ e ∷ []) rs (tail ++ e ∷ [])
StandFor-push es tail e rs old =
    let p = is_edge (es ++ e ∷ []) in
    record {
      runs = old.runs;
      shows = λ b y. origin_from-push (stack rs b y) tail e y ∙ ap (over e y) (old.shows b y) ∙ sym (origin_from-push b es e y);
      edges = EdgesOf-weaker (is_edge es) p rs (edge_more es e) old.edges;
      tail_edges = EdgesIn-push p tail e (EdgesIn-weaker (is_edge es) p tail (edge_more es e) old.tail_edges)
          (edge_last es e e.off (starts e)) (edge_last es e (e.off + e.len) (ends e));
    }

-- a list whose tail gets all of these entries too
pub StandFor-append : (es tail fs : List Entry) (rs : List Shared) → StandFor es rs tail → StandFor (es ++ fs) rs (tail ++ fs)
StandFor-append es tail [] rs old =
    subst (λ l. StandFor l rs (tail ++ [])) (sym (append-nil es)) (subst (λ l. StandFor es rs l) (sym (append-nil tail)) old)
StandFor-append es tail (f ∷ fs) rs old =
    let more = StandFor-append (es ++ f ∷ []) (tail ++ f ∷ []) fs rs (StandFor-push es tail f rs old) in
    subst (λ l. StandFor l rs (tail ++ f ∷ fs)) (append_assoc es (f ∷ []) fs)
    (subst (λ l. StandFor ((es ++ f ∷ []) ++ fs) rs l) (append_assoc tail (f ∷ []) fs) more)

-- the runs from n on and the tail replaced by one run that shows what they show
pub StandFor-fold : (es tail newest : List Entry) (rs : List Shared) (n : ℕ) (top : Shared) → StandFor es rs tail
    → SameWithin 0 (2 ^ 32) tail newest → ((p : ℕ → Bool) → EdgesIn p tail → EdgesIn p newest)
    → IsRun (rc_slice_items top) → Shows (rc_slice_items top) (λ b y. origin_from (stack (drop n rs) b y) newest y)
    → ((p : ℕ → Bool) → EdgesIn p newest → EdgesOf p rs → EdgesIn p (rc_slice_items top))
    → StandFor es (take n rs ++ top ∷ []) []
StandFor-fold es tail newest rs n top old same laid run shows edges =
    let p = is_edge es in
    record {
      runs = AreRuns-push (take n rs) top (AreRuns-take rs n old.runs) run;
      shows = λ b y. stack-append (take n rs) (top ∷ []) b y ∙ shows (stack (take n rs) b y) y
          ∙ ap (λ below. origin_from below newest y) (stack_split rs n b y) ∙ sym (same_all tail newest same (stack rs b y) y) ∙ old.shows b y;
      edges = EdgesOf-push p (take n rs) top (EdgesOf-take p rs n old.edges) (edges p (laid p old.tail_edges) old.edges);
      tail_edges = tt;
    }
