-- A set of places has the bytes of a value exactly where it has every place that the value names.
use Rattle.std.proofs.Common.{◌≡◌, ℕ, Bool, true, List, Option, None, Some, refl, inl, inr}
use Rattle.std.specs.Prelude.{◌↔◌}
use Rattle.std.specs.List.{All, Contains}
use Rattle.std.proofs.lemmas.List.Elements.{All-contains, All-contains_itself, All-weaker}
use Rattle.std.proofs.lemmas.List.Sums.{AllPass-from_list_all, list_all-from_AllPass}
use Rattle.wtf_overlay.specs.Origin.{Place, part_origin}
use Rattle.wtf_overlay.specs.declared.part.Part.{Part}
use Rattle.wtf_overlay.specs.declared.part.Part.TheVariants.{Held}
use Rattle.wtf_overlay.specs.declared.part.Entry.{Entry}
use Rattle.wtf_base.specs.Slices.{len_of}
use Rattle.wtf_values.specs.declared.region.Spill.{Spill}
use Rattle.wtf_values.specs.declared.value.Value.{Value}
use Rattle.wtf_values.specs.declared.value.Value.TheVariants as value
use Rattle.wtf_meta.specs.Bytes.{PartBytes, EntryBytes, BaseBytes, ValueBytes, PartHas, ListHas, BaseHas, ValueHas, are_in, any_slice}

module _ (set : Place → Bool) where
  -- of a list of places
  in_from : (ps : List Place) (q : Place) → are_in set ps ≡ true → Contains ps q → set q ≡ true
  in_from ps q h there = All-contains (λ p. set p ≡ true) ps q (AllPass-from_list_all set ps h) there

  in_to : (ps : List Place) → ((q : Place) → Contains ps q → set q ≡ true) → are_in set ps ≡ true
  in_to ps h = list_all-from_AllPass set ps (All-weaker (Contains ps) (λ p. set p ≡ true) (λ q there. h q there) ps (All-contains_itself ps))

  -- of a part
  part_from : (n : ℕ) (p : Part) (q : Place) → PartBytes (are_in set) n p → PartHas n p q → set q ≡ true
  part_from n p q h has = in_from (part_origin p has.index) q (h has.index has.below) has.is

  part_to : (n : ℕ) (p : Part) → ((q : Place) → PartHas n p q → set q ≡ true) → PartBytes (are_in set) n p
  part_to n p h = λ i below. in_to (part_origin p i) (λ q there. h q (record { index = i; below = below; is = there }))

  -- of a list of entries
  list_from : (es : List Entry) (q : Place) → All (EntryBytes (are_in set)) es → ListHas es q → set q ≡ true
  list_from es q h has = part_from has.entry.len has.entry.part q (All-contains (EntryBytes (are_in set)) es has.entry h has.there) has.has

  list_to : (es : List Entry) → ((q : Place) → ListHas es q → set q ≡ true) → All (EntryBytes (are_in set)) es
  list_to es h = All-weaker (Contains es) (EntryBytes (are_in set))
      (λ (e : Entry) there. part_to e.len e.part (λ q has. h q (record { entry = e; there = there; has = has }))) es (All-contains_itself es)

  -- of a base
  base_from : (base : Option Spill) (q : Place) → BaseBytes (are_in set) any_slice base → BaseHas base q → set q ≡ true
  base_from None q h has = absurd has
  base_from (Some s) q h has = part_from (len_of s.slice) (Held s.slice) q h.0 has

  base_to : (base : Option Spill) → ((q : Place) → BaseHas base q → set q ≡ true) → BaseBytes (are_in set) any_slice base
  base_to None h = tt
  base_to (Some s) h = (part_to (len_of s.slice) (Held s.slice) h, refl)

  -- of a value
  pub set_from : (v : Option Value) (q : Place) → ValueBytes (are_in set) any_slice v → ValueHas v q → set q ≡ true
  set_from None q h has = absurd has
  set_from (Some (value.Node n)) q h has = absurd has
  set_from (Some (value.Names ns)) q h has = absurd has
  set_from (Some (value.Last r)) q h has = absurd has
  set_from (Some (value.Count n)) q h has = absurd has
  set_from (Some (value.Region v)) q h has = elim has [
    | inl base ↦ base_from v.base q h.base base
    | inr entry ↦ list_from v.list q h.entries entry
  ]

  pub set_to : (v : Option Value) → ((q : Place) → ValueHas v q → set q ≡ true) → ValueBytes (are_in set) any_slice v
  set_to None h = tt
  set_to (Some (value.Node n)) h = tt
  set_to (Some (value.Names ns)) h = tt
  set_to (Some (value.Last r)) h = tt
  set_to (Some (value.Count n)) h = tt
  set_to (Some (value.Region v)) h = record { base = base_to v.base (λ q has. h q (inl has)); entries = list_to v.list (λ q has. h q (inr has)) }

  pub set_has : (v : Option Value) → ValueBytes (are_in set) any_slice v ↔ ((q : Place) → ValueHas v q → set q ≡ true)
  set_has v = (λ h q has. set_from v q h has, λ h. set_to v h)
