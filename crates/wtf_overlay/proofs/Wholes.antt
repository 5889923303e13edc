-- Single runs: how far they reach, how many entries they have, and that they stand for themselves.
use Rattle.std.proofs.Common.{◌≡◌, ℕ, ◌+◌, ◌*◌, ◌<◌, ◌≤◌, ◌^◌, ◌++◌, ◌||◌, List, [], ◌∷◌, refl, ap, sym, subst, ◌∙◌, arith, length, nat_eq, inl, inr}
use Rattle.std.specs.Rc.{rc_slice_items}
use Rattle.std.proofs.lemmas.Bool.{or_left, or_right, eq-eqb, cases_lt}
use Rattle.std.proofs.lemmas.List.Elements.{All-push, All-cons}
use Rattle.wtf_overlay.specs.declared.part.Entry.{Entry}
use Rattle.wtf_overlay.specs.Origin.{Place, origin_from}
use Rattle.wtf_overlay.specs.Clips.{Within}
use Rattle.wtf_overlay.specs.Borders.{borders_above}
use Rattle.wtf_overlay.specs.Runs.{IsRunIn, IsRun, SameWithin}
use Rattle.wtf_overlay.specs.Edges.{EdgesIn, is_edge}
use Rattle.wtf_overlay.specs.Stacks.{Shared, StandFor}
use Rattle.wtf_overlay.proofs.Origins.{over_after}
use Rattle.wtf_overlay.proofs.Clipping.{Within-nil, Within-weaker}
use Rattle.wtf_overlay.proofs.Borders.{borders_above-most}
use Rattle.wtf_overlay.proofs.Building.{IsRunIn-order}
use Rattle.wtf_overlay.proofs.Edging.{edge_falls}
use Rattle.wtf_overlay.proofs.Stacking.{EdgesIn-weaker}

run_within : (lo hi : ℕ) (es : List Entry) → IsRunIn lo hi es → Within hi es
run_within lo hi [] run = Within-nil hi
run_within lo hi (e ∷ es) run =
    All-cons (λ (e : Entry). e.off + e.len ≤ hi) e es (IsRunIn-order (e.off + e.len) hi es run.1) (run_within (e.off + e.len) hi es run.1)

last_from : (lo hi : ℕ) (es : List Entry) (e : Entry) → IsRunIn lo hi (es ++ e ∷ []) → IsRunIn lo e.off es
last_from lo hi [] e run = run.0
last_from lo hi (d ∷ es) e run = (run.0, last_from (d.off + d.len) hi es e run.1)

-- no entry of a run passes the end of the last one
pub within_last : (hi : ℕ) (es : List Entry) (e : Entry) → IsRunIn 0 hi (es ++ e ∷ []) → Within (e.off + e.len) (es ++ e ∷ [])
within_last hi es e run =
    let front = run_within 0 e.off es (last_from 0 hi es e run) in
    All-push (λ (d : Entry). d.off + d.len ≤ e.off + e.len) es e (Within-weaker e.off (e.off + e.len) es (omega arith) front) (omega arith)

-- no entry shows anything past the last place
pub fits_past : (b : List Place) (es : List Entry) (x : ℕ) → 2 ^ 32 ≤ x → origin_from b es x ≡ b
fits_past b [] x past = refl
fits_past b (e ∷ es) x past =
    let fits : e.off + e.len < 2 ^ 32 = e.fits in
    ap (λ w. origin_from w es x) (over_after e x b (omega arith)) ∙ fits_past b es x past

-- lists that show the same up to the last place show the same
pub same_all : (es rs : List Entry) → SameWithin 0 (2 ^ 32) es rs → (b : List Place) (y : ℕ) → origin_from b es y ≡ origin_from b rs y
same_all es rs same b y = elim (cases_lt y (2 ^ 32)) [
  | inl l ↦ same b y (omega arith) l
  | inr g ↦ fits_past b es y g ∙ sym (fits_past b rs y g)
]

-- a list begins and ends where its entries do
own_edges : (es : List Entry) → EdgesIn (is_edge es) es
own_edges [] = tt
own_edges (e ∷ es) =
    let p = is_edge (e ∷ es) in
    let z = e.off + e.len in (
      or_left (nat_eq e.off e.off) (nat_eq z e.off || is_edge es e.off) (eq-eqb e.off e.off refl),
      or_right (nat_eq e.off z) (nat_eq z z || is_edge es z) (or_left (nat_eq z z) (is_edge es z) (eq-eqb z z refl)),
      EdgesIn-weaker (is_edge es) p es
          (λ y edge. or_right (nat_eq e.off y) (nat_eq z y || is_edge es y) (or_right (nat_eq z y) (is_edge es y) edge)) (own_edges es),
    )

-- a run stands for itself
pub StandFor-one : (es : List Entry) (r : Shared) → rc_slice_items r ≡ es → IsRun es → StandFor es (r ∷ []) []
StandFor-one es r is run = record {
  runs = (subst (λ l. IsRun l) (sym is) run, tt);
  shows = λ b y. ap (λ l. origin_from b l y) is;
  edges = (subst (λ l. EdgesIn (is_edge es) l) (sym is) (own_edges es), tt);
  tail_edges = tt;
}

run_count : (es rs : List Entry) (lo hi : ℕ) → IsRunIn lo hi rs → EdgesIn (is_edge es) rs → length rs ≤ borders_above es lo
run_count es [] lo hi run edges = omega arith
run_count es (e ∷ rs) lo hi run edges =
    omega (arith, run.0, e.positive, run_count es rs (e.off + e.len) hi run.1 edges.2, edge_falls es lo (e.off + e.len) (omega (arith, run.0, e.positive)) edges.1)

-- a run that begins and ends where the entries of a list do has at most twice as many entries
pub run_most : (es rs : List Entry) → IsRun rs → EdgesIn (is_edge es) rs → length rs ≤ 2 * length es
run_most es rs run edges = omega (arith, run_count es rs 0 (2 ^ 32) run edges, borders_above-most es 0)
