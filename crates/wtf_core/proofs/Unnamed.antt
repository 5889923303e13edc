-- A byte that a region of a map names is in no set of which the map names none.
use Rattle.wtf_core.proofs.Common.{All, Told, Map, off, ◌≡◌, ◌+◌, ◌-◌, ◌<◌, ℕ, Bool, true, not, ◌&&◌, List, [], ◌∷◌, map, None, Some, sym, ap, ◌∙◌}
use Rattle.wtf_core.proofs.Common.{list_any, and_parts, or_cases, not-true, eqb-true, leb-true, ltb-true, HasLength, PartBytes, BaseBytes, slice_has, under_has}
use Rattle.wtf_core.proofs.Common.{true≢false, pointers_of, pointers-len, RegionValue, EntryBytes, RegionBytes, ValueBytes, lists_have, pointer_has, region_has}
use Rattle.wtf_core.proofs.Common.{All-head, All-tail, Pointer, place_in, len_of, MapBytes, lists_in, or_none, has_list, part_has, list_has, base_has, MapNames}
use Rattle.wtf_core.proofs.Common.{Slice, Place, Entry, Part, Zero, Held, Region, Spill, own_has, false, nat_eq, nat_le, nat_lt, Option, subst, ⊎_elim, arith}

-- a byte that a pointer has is one that it points to
record PointsTo (q : Pointer) (p : Place) : Type 0 where
  index : ℕ
  below : index < q.len
  is : place_in index q ≡ p

points_to : (q : Pointer) (p : Place) → pointer_has q p ≡ true → PointsTo q p
points_to q p here =
    let server = and_parts (nat_eq p.server q.server.0) (nat_eq p.file q.file && (nat_le q.at p.at && nat_lt p.at (q.at + q.len))) here in
    let file = and_parts (nat_eq p.file q.file) (nat_le q.at p.at && nat_lt p.at (q.at + q.len)) server.1 in
    let at = and_parts (nat_le q.at p.at) (nat_lt p.at (q.at + q.len)) file.1 in
    let from = leb-true q.at p.at at.0 in
    let upto = ltb-true p.at (q.at + q.len) at.1 in
    let same_server : q.server.0 ≡ p.server = sym (eqb-true p.server q.server.0 server.0) in
    let same_file : q.file ≡ p.file = sym (eqb-true p.file q.file file.0) in
    let same_at : q.at + (p.at - q.at) ≡ p.at = omega (arith, from) in
    record { index = p.at - q.at; below = omega (arith, from, upto); is = λ i. record { server = same_server i; file = same_file i; at = same_at i } }

module _ (X : Place → Bool) where
  pointers_none : (n : ℕ) (qs : List Pointer) → All (λ (q : Pointer). q.len ≡ n) qs → ((i : ℕ) → i < n → off X (map (place_in i) qs) ≡ true) → (p : Place)
      → list_any (λ q. pointer_has q p) qs ≡ true → X p ≡ false
  pointers_none n [] lens none p here = absurd (true≢false (sym here))
  pointers_none n (q ∷ qs) lens none p here =
      let Len : Pointer → Type 0 = λ r. r.len ≡ n in
      let len : q.len ≡ n = All-head Len q qs lens in
      ⊎_elim
      (λ first.
      let to = points_to q p first in
      let below = to.below in
      ap X (sym to.is)
      ∙ not-true (X (place_in to.index q)) (and_parts (not (X (place_in to.index q))) (off X (map (place_in to.index) qs))
      (none to.index (omega (arith, below, len)))).0)
      (λ later. pointers_none n qs (All-tail Len q qs lens) (λ i below. (and_parts (not (X (place_in i q))) (off X (map (place_in i) qs)) (none i below)).1) p
      later) (or_cases (pointer_has q p) (list_any (λ r. pointer_has r p) qs) here)

  slice_none : (s : Slice) → PartBytes (off X) (len_of s) (Held s) → (p : Place) → slice_has s p ≡ true → X p ≡ false
  slice_none s bytes p here = pointers_none (len_of s) (pointers_of s) (pointers-len s) bytes p here

  part_none : (n : ℕ) (part : Part) → HasLength n part → PartBytes (off X) n part → (p : Place) → part_has part p ≡ true → X p ≡ false
  part_none n Zero len bytes p here = absurd (true≢false (sym here))
  part_none n (Held s) len bytes p here =
      let same : len_of s ≡ n = len in
      slice_none s (λ i below. bytes i (omega (arith, below, same))) p here

  list_none : (es : List Entry) → All (EntryBytes (off X)) es → (p : Place) → list_has es p ≡ true → X p ≡ false
  list_none [] bytes p here = absurd (true≢false (sym here))
  list_none (e ∷ es) bytes p here = ⊎_elim
      (λ first. part_none e.len e.part e.held (All-head (EntryBytes (off X)) e es bytes) p first)
      (λ later. list_none es (All-tail (EntryBytes (off X)) e es bytes) p later)
      (or_cases (part_has e.part p) (list_has es p) here)

  module _ (size : ℕ) (told : Told) where
    base_none : (base : Option Spill) → BaseBytes (off X) (lists_have size told (off X)) base → (p : Place) → base_has base p ≡ true → X p ≡ false
    base_none None bytes p here = absurd (true≢false (sym here))
    base_none (Some s) bytes p here = slice_none s.slice bytes.0 p here

    under_none : (base : Option Spill) → BaseBytes (off X) (lists_have size told (off X)) base → (p : Place)
        → under_has (lists_in size told) base p ≡ true → X p ≡ false
    under_none None bytes p here = absurd (true≢false (sym here))
    under_none (Some s) bytes p here =
        let was = has_list (off X) (lists_in size told s.slice) bytes.1 in
        list_none was.0 was.2 p (ap (λ (o : Option (List Entry)). list_has (or_none o) p) (sym was.1) ∙ here)

    region_none : (v : RegionValue) → RegionBytes (off X) (lists_have size told (off X)) v → (p : Place) → region_has (lists_in size told) v p ≡ true
        → X p ≡ false
    region_none v bytes p here = ⊎_elim
        (λ own. ⊎_elim
        (λ base. base_none v.base bytes.base p base)
        (λ entry. list_none v.list bytes.entries p entry)
        (or_cases (base_has v.base p) (list_has v.list p) own))
        (λ under. under_none v.base bytes.base p under)
        (or_cases (own_has v p) (under_has (lists_in size told) v.base p) here)

    pub map_none : (w : Map) → MapBytes (off X) (lists_have size told (off X)) w → (p : Place) → MapNames size told w p → X p ≡ false
    map_none w bytes p h =
        let P : List Place → Bool = off X in
        region_none h.row (subst (ValueBytes P (lists_have size told P)) h.there (bytes (Region h.inode h.region))) p h.names
