-- Bytes that lie inside the stores of the servers that are left lie inside the stores, where no copy is lost; and stores only grow.
use Rattle.std.proofs.Common.{◌≡◌, ℕ, ◌≤◌, ◌&&◌, ◌||◌, Bool, true, false, nat_lt, List, [], ◌∷◌, length, map, Option, None, Some, refl, sym, ap, ◌∙◌, arith}
use Rattle.std.proofs.Common.{inl, inr}
use Rattle.std.specs.List.{All, list_all}
use Rattle.std.specs.Option.{option_map, unwrap_or}
use Rattle.std.proofs.lemmas.Bool.{and_parts, and_from, or_parts, ltb-true, lt-ltb, cases_lt}
use Rattle.std.proofs.lemmas.List.Elements.{All-nil, All-cons, All-head, All-tail}
use Rattle.std.proofs.lemmas.Option.{slice_get_past}
use Rattle.wtf_base.specs.declared.pointer.Pointer.{Pointer}
use Rattle.wtf_base.specs.declared.settings.Settings.{Settings}
use Rattle.wtf_base.specs.Slices.{pointers_of, len_of}
use Rattle.wtf_base.specs.Places.{Place, place_in}
use Rattle.wtf_base.proofs.Elements.{element}
use Rattle.wtf_dev.specs.Store.{StoreKind, KindLaws}
use Rattle.wtf_dev.specs.Each.{EachFollows}
use Rattle.wtf_overlay.specs.declared.part.Part.{Part}
use Rattle.wtf_overlay.specs.declared.part.Part.TheVariants.{Zero, Held}
use Rattle.wtf_overlay.specs.declared.part.Entry.{Entry}
use Rattle.wtf_replica.specs.Inside.{size_in}
use Rattle.wtf_replica.proofs.InsideLaws.{size_in-at}
use Rattle.wtf_values.specs.declared.region.RegionValue.{RegionValue}
use Rattle.wtf_values.specs.declared.region.Spill.{Spill}
use Rattle.wtf_meta.specs.Bytes.{PartBytes, EntryBytes, BaseBytes, RegionBytes, any_slice}
use Rattle.wtf_healer.specs.Bases.{is_place_left}
use Rattle.wtf_healer.specs.Sparse.{has_lost, is_sparse_part, is_sparse_base, has_sparse}
use Rattle.wtf_image.proofs.Pointing.{is_place_in, are_in}
use Rattle.wtf_healer.proofs.Unlost.{are_filed}

-- no file of a store gets shorter
pub sizes_grow : {S : Type 0} {kind : StoreKind S} → KindLaws kind → {old new : List S} → EachFollows kind old new [] → (k f : ℕ)
    → size_in kind old k f ≤ size_in kind new k f
sizes_grow {S} {kind = kind} laws {old = old} {new = new} e k f = elim (cases_lt k (length old)) [
  | inl below ↦
      let d = element old k below in
      let was = size_in-at kind old k f d below in
      let is = size_in-at kind new k f d (omega (arith, below, e.same_length)) in
      let more = (laws.keeps _ _ _ (e.each k d below)).size f in
      omega (arith, was, is, more)
  | inr past ↦
      let none : size_in kind old k f ≡ 0 = ap (λ (o : Option S). unwrap_or (option_map (λ s. (kind.view s).size f) o) 0) (slice_get_past old k past) in
      omega (arith, none)
]

module _ {S : Type 0} (kind : StoreKind S) (shelf : List S) (settings : Settings) (lost : ℕ → Bool) where
  abbrev pub Left : List Place → Bool
  Left qs = list_all (is_place_left kind shelf settings lost) qs

  -- places that lie there lie in one of the eight files
  pub filed : (qs : List Place) → Left qs ≡ true → are_filed qs ≡ true
  filed [] h = refl
  filed (q ∷ qs) h =
      let size : ℕ = size_in kind shelf q.server q.file in
      let both = and_parts (is_place_left kind shelf settings lost q) (Left qs) h in
      let a = and_parts (nat_lt q.server settings.servers) (nat_lt q.file 8 && (lost q.server || nat_lt q.at size)) both.0 in
      let b = and_parts (nat_lt q.file 8) (lost q.server || nat_lt q.at size) a.1 in
      and_from (nat_lt q.file 8) (are_filed qs) b.0 (filed qs both.1)

  module _ (size : ℕ → ℕ → ℕ) (grows : (k f : ℕ) → size_in kind shelf k f ≤ size k f) (n : ℕ) where
    abbrev In : List Place → Bool
    In = are_in settings.servers size

    place_inward : (q : Place) → lost q.server ≡ false → is_place_left kind shelf settings lost q ≡ true → is_place_in settings.servers size q ≡ true
    place_inward q up h =
        let was : ℕ = size_in kind shelf q.server q.file in
        let a = and_parts (nat_lt q.server settings.servers) (nat_lt q.file 8 && (lost q.server || nat_lt q.at was)) h in
        let b = and_parts (nat_lt q.file 8) (lost q.server || nat_lt q.at was) a.1 in
        let lt = ltb-true q.at was (sym (ap (λ x. x || nat_lt q.at was) up) ∙ b.1) in
        let more = grows q.server q.file in
        and_from (nat_lt q.server settings.servers) (nat_lt q.file 8 && nat_lt q.at (size q.server q.file)) a.0
        (and_from (nat_lt q.file 8) (nat_lt q.at (size q.server q.file)) b.0 (lt-ltb q.at (size q.server q.file) (omega (arith, lt, more))))

    places_inward : (i : ℕ) (ps : List Pointer) → has_lost lost ps ≡ false → Left (map (place_in i) ps) ≡ true → In (map (place_in i) ps) ≡ true
    places_inward i [] up h = refl
    places_inward i (p ∷ ps) up h =
        let low = or_parts (lost p.server.0) (has_lost lost ps) up in
        let both = and_parts (is_place_left kind shelf settings lost (place_in i p)) (Left (map (place_in i) ps)) h in
        and_from (is_place_in settings.servers size (place_in i p)) (In (map (place_in i) ps)) (place_inward (place_in i p) low.0 both.0)
        (places_inward i ps low.1 both.1)

    part_inward : (m : ℕ) (p : Part) → is_sparse_part lost n p ≡ false → PartBytes Left m p → PartBytes In m p
    part_inward m Zero whole h = λ i below. refl
    part_inward m (Held s) whole h =
        λ i below. places_inward i (pointers_of s) (or_parts (nat_lt (length (pointers_of s)) n) (has_lost lost (pointers_of s)) whole).1 (h i below)

    pub list_inward : (es : List Entry) → has_sparse lost n es ≡ false → All (EntryBytes Left) es → All (EntryBytes In) es
    list_inward [] whole h = All-nil (EntryBytes In)
    list_inward (e ∷ es) whole h =
        let both = or_parts (is_sparse_part lost n e.part) (has_sparse lost n es) whole in
        All-cons (EntryBytes In) e es (part_inward e.len e.part both.0 (All-head (EntryBytes Left) e es h))
        (list_inward es both.1 (All-tail (EntryBytes Left) e es h))

    base_inward : (base : Option Spill) → is_sparse_base lost n base ≡ false → BaseBytes Left any_slice base → BaseBytes In any_slice base
    base_inward None whole h = tt
    base_inward (Some s) whole h = (part_inward (len_of s.slice) (Held s.slice) whole h.0, refl)

    pub region_inward : (v : RegionValue) → is_sparse_base lost n v.base ≡ false → has_sparse lost n v.list ≡ false → RegionBytes Left any_slice v
        → RegionBytes In any_slice v
    region_inward v base list h = record { base = base_inward v.base base h.base; entries = list_inward v.list list h.entries }
