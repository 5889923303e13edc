-- Lists that are made compact from left to right.
use Rattle.std.proofs.Common.{◌≡◌, ℕ, ◌+◌, ◌-◌, ◌≤◌, ◌^◌, ◌++◌, inl, inr, true, false, List, [], ◌∷◌, refl, ap, sym, subst, ◌∙◌, arith, length, length-append, append_assoc}
use Rattle.std.specs.List.{All}
use Rattle.std.proofs.lemmas.Bool.{cases_lt}
use Rattle.std.proofs.lemmas.List.{append-nil}
use Rattle.std.proofs.lemmas.List.Elements.{All-push, All-cons, All-nil, All-head, All-tail}
use Rattle.wtf_overlay.specs.declared.part.Part.{Part}
use Rattle.wtf_overlay.specs.declared.part.Part.TheVariants.{Zero, Held}
use Rattle.wtf_overlay.specs.declared.part.Entry.{Entry}
use Rattle.wtf_overlay.specs.Origin.{Place, part_origin, over, origin_from, origin}
use Rattle.wtf_overlay.specs.Compact.{Neighbours, IsCompact, could_be_one, is_held}
use Rattle.wtf_overlay.specs.Joins.{IsJoin, IsPut}
use Rattle.wtf_overlay.specs.Runs.{IsRunIn, IsRun}
use Rattle.wtf_overlay.proofs.Origins.{origin_from-append, over_before, over_after, over_within}
use Rattle.wtf_overlay.proofs.Building.{IsRunIn-lower, run_after}

abbrev Held_all : List Entry → Type 0
Held_all es = All (λ (e : Entry). is_held e.part ≡ true) es

abbrev Apart : List Entry → Type 0
Apart es = Neighbours (λ e f. could_be_one e f ≡ false) es

-- a run up to where the next entry begins
front_run : (lo hi : ℕ) (es fs : List Entry) (e : Entry) → IsRunIn lo hi (es ++ e ∷ fs) → IsRunIn lo e.off es
front_run lo hi [] fs e run = run.0
front_run lo hi (d ∷ es) fs e run = (run.0, front_run (d.off + d.len) hi es fs e run.1)

-- without one of its entries it is a run
run_without : (lo hi : ℕ) (es fs : List Entry) (e : Entry) → IsRunIn lo hi (es ++ e ∷ fs) → IsRunIn lo hi (es ++ fs)
run_without lo hi [] fs e run = IsRunIn-lower lo (e.off + e.len) hi fs (omega (arith, run.0)) run.1
run_without lo hi (d ∷ es) fs e run = (run.0, run_without (d.off + d.len) hi es fs e run.1)

-- and with two that touch as one
run_joined : (lo hi : ℕ) (es fs : List Entry) (e f both : Entry) → both.off ≡ e.off → both.off + both.len ≡ f.off + f.len
    → IsRunIn lo hi (es ++ e ∷ f ∷ fs) → IsRunIn lo hi (es ++ both ∷ fs)
run_joined lo hi [] fs e f both off end run =
    (omega (arith, run.0), subst (λ z. IsRunIn z hi fs) (sym end) run.1.1)
run_joined lo hi (d ∷ es) fs e f both off end run = (run.0, run_joined (d.off + d.len) hi es fs e f both off end run.1)

zero_origin : (p : Part) (i : ℕ) → is_held p ≡ false → part_origin p i ≡ []
zero_origin Zero i zeros = refl
zero_origin (Held s) i zeros = absurd (cc)

zeros_over : (hi : ℕ) (es fs : List Entry) (e : Entry) (y : ℕ) → IsRunIn 0 hi (es ++ e ∷ fs) → is_held e.part ≡ false
    → over e y (origin es y) ≡ origin es y
zeros_over hi es fs e y run zeros = elim (cases_lt y e.off) [
  | inl before ↦ over_before e y (origin es y) before
  | inr from ↦ elim (cases_lt y (e.off + e.len)) [
    | inl to ↦ over_within e y (origin es y) from to ∙ zero_origin e.part (y - e.off) zeros
        ∙ sym (run_after 0 e.off es [] y (front_run 0 hi es fs e run) from)
    | inr past ↦ over_after e y (origin es y) past
  ]
]

-- over nothing, zeros need not be kept
dropped_origin : (hi : ℕ) (es fs : List Entry) (e : Entry) (y : ℕ) → IsRunIn 0 hi (es ++ e ∷ fs) → is_held e.part ≡ false
    → origin (es ++ fs) y ≡ origin (es ++ e ∷ fs) y
dropped_origin hi es fs e y run zeros =
    origin_from-append [] es fs y ∙ ap (λ b. origin_from b fs y) (sym (zeros_over hi es fs e y run zeros))
    ∙ sym (origin_from-append [] es (e ∷ fs) y)

over_joined : (e f both : Entry) (y : ℕ) (b : List Place) → IsJoin e f both → over both y b ≡ over f y (over e y b)
over_joined e f both y b join =
    let off : both.off ≡ e.off = join.off in
    let end : both.off + both.len ≡ f.off + f.len = join.end in
    let met : e.off + e.len ≡ f.off = join.met in
    elim (cases_lt y e.off) [
      | inl before ↦ over_before both y b (omega arith)
          ∙ sym (over_before f y (over e y b) (omega (arith, e.positive)) ∙ over_before e y b before)
      | inr from ↦ elim (cases_lt y f.off) [
        | inl first ↦ over_within both y b (omega arith) (omega (arith, f.positive)) ∙ join.first (y - both.off)
            ∙ ap (λ k. part_origin e.part (y - k)) off
            ∙ sym (over_before f y (over e y b) first ∙ over_within e y b from (omega arith))
        | inr later ↦ elim (cases_lt y (f.off + f.len)) [
          | inl second ↦ over_within both y b (omega arith) (omega arith) ∙ join.second (y - both.off) (omega arith)
              ∙ ap (part_origin f.part) (let k : y - both.off - e.len ≡ y - f.off = omega arith in k)
              ∙ sym (over_within f y (over e y b) later second)
          | inr past ↦ over_after both y b (omega arith)
              ∙ sym (over_after f y (over e y b) past ∙ over_after e y b (omega (arith, f.positive)))
        ]
      ]
    ]

joined_origin : (es fs : List Entry) (e f both : Entry) (y : ℕ) → IsJoin e f both → origin (es ++ both ∷ fs) y ≡ origin (es ++ e ∷ f ∷ fs) y
joined_origin es fs e f both y join =
    origin_from-append [] es (both ∷ fs) y ∙ ap (λ b. origin_from b fs y) (over_joined e f both y (origin es y) join)
    ∙ sym (origin_from-append [] es (e ∷ f ∷ fs) y)

Apart-push : (es : List Entry) (e : Entry) → Apart es
    → ((front : List Entry) (last : Entry) → es ≡ front ++ last ∷ [] → could_be_one last e ≡ false) → Apart (es ++ e ∷ [])
Apart-push [] e apart last = tt
Apart-push (d ∷ []) e apart last = (last [] d refl, tt)
Apart-push (d ∷ f ∷ es) e apart last =
    (apart.0, Apart-push (f ∷ es) e apart.1 (λ front l is. last (d ∷ front) l (ap (λ k. d ∷ k) is)))

Apart-last : (es : List Entry) (e both : Entry) → ((x : Entry) → could_be_one x both ≡ could_be_one x e) → Apart (es ++ e ∷ []) → Apart (es ++ both ∷ [])
Apart-last [] e both same apart = tt
Apart-last (d ∷ []) e both same apart = (same d ∙ apart.0, tt)
Apart-last (d ∷ f ∷ es) e both same apart = (apart.0, Apart-last (f ∷ es) e both same apart.1)

Held-push : (es : List Entry) (e : Entry) → Held_all es → is_held e.part ≡ true → Held_all (es ++ e ∷ [])
Held-push es e all held = All-push (λ (e : Entry). is_held e.part ≡ true) es e all held

Held-front : (es : List Entry) (e : Entry) → Held_all (es ++ e ∷ []) → Held_all es
Held-front [] e all = All-nil (λ (e : Entry). is_held e.part ≡ true)
Held-front (d ∷ es) e all =
    let P = λ (e : Entry). is_held e.part ≡ true in
    All-cons P d es (All-head P d (es ++ e ∷ []) all) (Held-front es e (All-tail P d (es ++ e ∷ []) all))

-- how far a list was made compact: `es` is done, `fs` is left, and together they stand for `all`
pub record Compacting (es fs all : List Entry) : Type 0 where
  pub run : IsRun (es ++ fs)
  pub origins : (x : ℕ) → origin (es ++ fs) x ≡ origin all x
  pub count : length (es ++ fs) ≤ length all
  pub slices : All (λ (e : Entry). is_held e.part ≡ true) es
  pub joined : Neighbours (λ e f. could_be_one e f ≡ false) es

after_drop : (es fs all : List Entry) (e : Entry) → is_held e.part ≡ false → Compacting es (e ∷ fs) all → Compacting es fs all
after_drop es fs all e zeros old = record {
  run = run_without 0 (2 ^ 32) es fs e old.run;
  origins = λ x. dropped_origin (2 ^ 32) es fs e x old.run zeros ∙ old.origins x;
  count = omega (arith, old.count, length-append es fs, length-append es (e ∷ fs));
  slices = old.slices;
  joined = old.joined;
}

after_push : (es fs all : List Entry) (e : Entry) → is_held e.part ≡ true
    → ((front : List Entry) (last : Entry) → es ≡ front ++ last ∷ [] → could_be_one last e ≡ false)
    → Compacting es (e ∷ fs) all → Compacting (es ++ e ∷ []) fs all
after_push es fs all e held apart old =
    let same : (es ++ e ∷ []) ++ fs ≡ es ++ e ∷ fs = append_assoc es (e ∷ []) fs in
    record {
      run = subst (λ l. IsRun l) (sym same) old.run;
      origins = λ x. ap (λ l. origin l x) same ∙ old.origins x;
      count = omega (arith, ap length same, old.count);
      slices = Held-push es e old.slices held;
      joined = Apart-push es e old.joined apart;
    }

after_join : (front fs all : List Entry) (last e both : Entry) → IsJoin last e both
    → Compacting (front ++ last ∷ []) (e ∷ fs) all → Compacting (front ++ both ∷ []) fs all
after_join front fs all last e both join old =
    let was : (front ++ last ∷ []) ++ e ∷ fs ≡ front ++ last ∷ e ∷ fs = append_assoc front (last ∷ []) (e ∷ fs) in
    let is : (front ++ both ∷ []) ++ fs ≡ front ++ both ∷ fs = append_assoc front (both ∷ []) fs in
    record {
      run = subst (λ l. IsRun l) (sym is) (run_joined 0 (2 ^ 32) front fs last e both join.off join.end (subst (λ l. IsRun l) was old.run));
      origins = λ x. ap (λ l. origin l x) is ∙ joined_origin front fs last e both x join ∙ sym (ap (λ l. origin l x) was) ∙ old.origins x;
      count = omega (arith, ap length is, ap length was, old.count, length-append front (both ∷ fs), length-append front (last ∷ e ∷ fs));
      slices = Held-push front both (Held-front front last old.slices) join.held;
      joined = Apart-last front last both join.before old.joined;
    }

-- one entry more
pub after_put : (es new fs all : List Entry) (e : Entry) → IsPut e es new → Compacting es (e ∷ fs) all → Compacting new fs all
after_put es new fs all e (inl dropped) old =
    subst (λ l. Compacting l fs all) (sym dropped.same) (after_drop es fs all e dropped.zeros old)
after_put es new fs all e (inr (inl pushed)) old =
    subst (λ l. Compacting l fs all) (sym pushed.more) (after_push es fs all e pushed.held pushed.apart old)
after_put es new fs all e (inr (inr joined)) old =
    subst (λ l. Compacting l fs all) (sym joined.is)
    (after_join joined.front fs all joined.last e joined.both joined.join (subst (λ l. Compacting l (e ∷ fs) all) joined.was old))

run_neighbours : (lo hi : ℕ) (es : List Entry) → IsRunIn lo hi es → Neighbours (λ e f. e.off + e.len ≤ f.off) es
run_neighbours lo hi [] run = tt
run_neighbours lo hi (e ∷ []) run = tt
run_neighbours lo hi (e ∷ f ∷ es) run = (run.1.0, run_neighbours (e.off + e.len) hi (f ∷ es) run.1)

pub Compacting-done : (es all : List Entry) → Compacting es [] all → IsCompact es
Compacting-done es all done = record {
  slices = done.slices;
  disjoint = run_neighbours 0 (2 ^ 32) es (subst (λ l. IsRun l) (append-nil es) done.run);
  joined = done.joined;
}
