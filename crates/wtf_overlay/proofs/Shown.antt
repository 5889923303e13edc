-- Compact lists show each of their bytes: what they name was named, and where they end.
use Rattle.std.proofs.Common.{◌≡◌, ℕ, ◌+◌, ◌-◌, ◌<◌, ◌≤◌, ◌⊎◌, true, Bool, List, [], ◌∷◌, map, length, refl, sym, ap, ◌∙◌, subst, arith, inl, inr}
use Rattle.std.specs.List.{All}
use Rattle.std.proofs.lemmas.Bool.{cases_lt}
use Rattle.std.proofs.lemmas.List.Elements.{All-nil, All-cons, All-head, All-tail, All-weaker}
use Rattle.wtf_base.specs.declared.pointer.Pointer.{Pointer}
use Rattle.wtf_base.specs.declared.slice.Extents.{Extents}
use Rattle.wtf_base.specs.declared.slice.Extents.TheVariants.{One, Two, Three}
use Rattle.wtf_base.specs.Extents.{pointers_to}
use Rattle.wtf_overlay.specs.declared.part.Part.{Part}
use Rattle.wtf_overlay.specs.declared.part.Part.TheVariants.{Zero, Held}
use Rattle.wtf_overlay.specs.declared.part.Entry.{Entry}
use Rattle.wtf_overlay.specs.Origin.{Place, place_in, part_origin, over, origin_from, origin}
use Rattle.wtf_overlay.specs.Clips.{Within}
use Rattle.wtf_overlay.specs.Compact.{is_held, AreSlices, AreSorted, IsCompact}
use Rattle.wtf_overlay.specs.Named.{EachByte}
use Rattle.wtf_overlay.proofs.Origins.{over_before, over_after, over_within, within_past}

-- a slice has places
some_pointers : (f : Pointer → Place) (n : ℕ) (e : Extents) → map f (pointers_to n e) ≡ [] → ⊥
some_pointers f n (One a) h = cc
some_pointers f n (Two a b) h = cc
some_pointers f n (Three a b c) h = cc

some_places : (p : Part) (i : ℕ) → is_held p ≡ true → part_origin p i ≡ [] → ⊥
some_places Zero i held h = cc
some_places (Held s) i held h = some_pointers (place_in i) s.len s.extents h

-- sorted entries behind one show nothing before its end
none_before : (below : List Place) (e : Entry) (es : List Entry) (y : ℕ) → AreSorted (e ∷ es) → y < e.off + e.len → origin_from below es y ≡ below
none_before below e [] y sorted h = refl
none_before below e (f ∷ fs) y sorted h =
    ap (λ w. origin_from w fs y) (over_before f y below (omega (arith, sorted.0, h))) ∙ none_before below f fs y sorted.1 (omega (arith, sorted.0, h, f.positive))

tail_sorted : (e : Entry) (es : List Entry) → AreSorted (e ∷ es) → AreSorted es
tail_sorted e [] h = tt
tail_sorted e (f ∷ fs) h = h.1

module _ (Q : ℕ → List Place → Type 0) where
  first_shown : (e : Entry) (es : List Entry) (below : List Place) (i : ℕ) → AreSorted (e ∷ es) → i < e.len
      → origin_from (over e (e.off + i) below) es (e.off + i) ≡ part_origin e.part i
  first_shown e es below i sorted inside =
      let back : e.off + i - e.off ≡ i = omega arith in
      none_before (over e (e.off + i) below) e es (e.off + i) sorted (omega arith)
      ∙ over_within e (e.off + i) below (omega arith) (omega arith) ∙ ap (part_origin e.part) back

  head_each : (e : Entry) (below : ℕ → List Place) (es : List Entry) (i : ℕ) → is_held e.part ≡ true → AreSorted (e ∷ es) → i < e.len
      → (origin_from (over e (e.off + i) (below (e.off + i))) es (e.off + i) ≡ []) ⊎ Q (e.off + i) (origin_from (over e (e.off + i) (below (e.off + i))) es (e.off + i))
      → Q (e.off + i) (part_origin e.part i)
  head_each e below es i held sorted inside (inl none) =
      absurd (some_places e.part i held (sym (first_shown e es (below (e.off + i)) i sorted inside) ∙ none))
  head_each e below es i held sorted inside (inr q) = subst (Q (e.off + i)) (first_shown e es (below (e.off + i)) i sorted inside) q

  each_from : (es : List Entry) → AreSlices es → AreSorted es → (below : ℕ → List Place)
      → ((y : ℕ) → (origin_from (below y) es y ≡ []) ⊎ Q y (origin_from (below y) es y)) → All (λ (e : Entry). (i : ℕ) → i < e.len → Q (e.off + i) (part_origin e.part i)) es
  each_from [] held sorted below h = All-nil (λ (e : Entry). (i : ℕ) → i < e.len → Q (e.off + i) (part_origin e.part i))
  each_from (e ∷ es) held sorted below h =
      All-cons (λ (e : Entry). (i : ℕ) → i < e.len → Q (e.off + i) (part_origin e.part i)) e es
      (λ i inside. head_each e below es i (All-head (λ (e : Entry). is_held e.part ≡ true) e es held) sorted inside (h (e.off + i)))
      (each_from es (All-tail (λ (e : Entry). is_held e.part ≡ true) e es held) (tail_sorted e es sorted) (λ y. over e y (below y)) h)

  -- what holds of each byte that a compact list shows holds of each byte of its entries
  pub shown_each : (es : List Entry) → IsCompact es → ((y : ℕ) → (origin es y ≡ []) ⊎ Q y (origin es y))
      → All (λ (e : Entry). (i : ℕ) → i < e.len → Q (e.off + i) (part_origin e.part i)) es
  shown_each es c h = each_from es c.slices c.disjoint (λ y. []) h

below_or : (end : ℕ) (es : List Entry) → ((y : ℕ) → end ≤ y → origin es y ≡ []) → (y : ℕ) → (origin es y ≡ []) ⊎ (y < end)
below_or end es h y = elim (cases_lt y end) [
  | inl lt ↦ inr lt
  | inr le ↦ inl (h y le)
]

last_below : (end : ℕ) (e : Entry) → ((i : ℕ) → i < e.len → e.off + i < end) → e.off + e.len ≤ end
last_below end e h = let some : 0 < e.len = e.positive in omega (arith, h (e.len - 1) (omega arith))

-- a compact list that shows nothing from an end on has no entry past it
pub compact_within : (end : ℕ) (es : List Entry) → IsCompact es → ((y : ℕ) → end ≤ y → origin es y ≡ []) → Within end es
compact_within end es c h =
    All-weaker (λ (e : Entry). (i : ℕ) → i < e.len → e.off + i < end) (λ (e : Entry). e.off + e.len ≤ end) (λ e k. last_below end e k) es
    (shown_each (λ y w. y < end) es c (below_or end es h))

-- a compact list of the same bytes passes no end that the list keeps
pub same_within : (end : ℕ) (es list : List Entry) → IsCompact es → ((y : ℕ) → origin es y ≡ origin list y) → Within end list → Within end es
same_within end es list c same within = compact_within end es c (λ y past. same y ∙ within_past [] end list y within past)

module _ (P : List Place → Bool) where
  over_named : (e : Entry) (y : ℕ) (below : List Place) → ((i : ℕ) → i < e.len → P (part_origin e.part i) ≡ true) → (over e y below ≡ below) ⊎ (P (over e y below) ≡ true)
  over_named e y below named = elim (cases_lt y e.off) [
    | inl before ↦ inl (over_before e y below before)
    | inr from ↦ elim (cases_lt y (e.off + e.len)) [
      | inl to ↦ inr (ap P (over_within e y below from to) ∙ named (y - e.off) (omega arith))
      | inr past ↦ inl (over_after e y below past)
    ]
  ]

  from_named : (b below : List Place) → (b ≡ below) ⊎ (P b ≡ true) → P below ≡ true → P b ≡ true
  from_named b below (inl is) h = ap P is ∙ h
  from_named b below (inr is) h = is

  stays_named : (es : List Entry) (below : List Place) (y : ℕ) → EachByte P es → P below ≡ true → P (origin_from below es y) ≡ true
  stays_named [] below y named h = h
  stays_named (e ∷ es) below y named h =
      let N = λ (e : Entry). (i : ℕ) → i < e.len → P (part_origin e.part i) ≡ true in
      stays_named es (over e y below) y (All-tail N e es named)
      (from_named (over e y below) below (over_named e y below (All-head N e es named)) h)

  -- what a list shows is what lies below, or is named by it
  shown_named : (es : List Entry) (below : List Place) (y : ℕ) → EachByte P es → (origin_from below es y ≡ below) ⊎ (P (origin_from below es y) ≡ true)
  shown_named [] below y named = inl refl
  shown_named (e ∷ es) below y named =
      let N = λ (e : Entry). (i : ℕ) → i < e.len → P (part_origin e.part i) ≡ true in
      elim (over_named e y below (All-head N e es named)) [
        | inl same ↦ elim (shown_named es (over e y below) y (All-tail N e es named)) [
          | inl is ↦ inl (is ∙ same)
          | inr has ↦ inr has
        ]
        | inr has ↦ inr (stays_named es (over e y below) y (All-tail N e es named) has)
      ]

  same_shown : (a b : List Place) → a ≡ b → (b ≡ []) ⊎ (P b ≡ true) → (a ≡ []) ⊎ (P a ≡ true)
  same_shown a b is (inl none) = inl (is ∙ none)
  same_shown a b is (inr has) = inr (ap P is ∙ has)

  -- a compact list of the same bytes names no place that the list does not name
  pub same_places : (es list : List Entry) → IsCompact es → ((y : ℕ) → origin es y ≡ origin list y) → EachByte P list → EachByte P es
  same_places es list c same named =
      shown_each (λ y w. P w ≡ true) es c (λ y. same_shown (origin es y) (origin list y) (same y) (shown_named list [] y named))

count_from : (lo end : ℕ) (e : Entry) (es : List Entry) → lo ≤ e.off → AreSorted (e ∷ es) → Within end (e ∷ es) → lo + length (e ∷ es) ≤ end
count_from lo end e [] from sorted within =
    omega (arith, e.positive, All-head (λ (e : Entry). e.off + e.len ≤ end) e [] within)
count_from lo end e (f ∷ fs) from sorted within =
    omega (arith, e.positive, count_from (e.off + e.len) end f fs sorted.0 sorted.1 (All-tail (λ (e : Entry). e.off + e.len ≤ end) e (f ∷ fs) within))

-- a compact list has no more entries than there are bytes below its end
pub compact_count : (end : ℕ) (es : List Entry) → IsCompact es → Within end es → length es ≤ end
compact_count end [] c within = omega arith
compact_count end (e ∷ es) c within = omega (arith, count_from 0 end e es (omega arith) c.disjoint within)
