-- Masks of lost servers, and images that are taken without some.
use Rattle.std.proofs.Common.{◌≡◌, ◌==◌, ℕ, ◌+◌, Bool, true, nat_lt, nat_le, ◌&&◌, ◌||◌, List, [], ◌∷◌, Option, None, Some, refl, ap}
use Rattle.std.specs.List.{list_all}
use Rattle.std.proofs.lemmas.Bool.{and_parts, and_from, or_right}
use Rattle.std.proofs.lemmas.Nat.Bits.{bit_at-zero}
use Rattle.wtf_base.specs.declared.pointer.Pointer.{Pointer}
use Rattle.wtf_imagefmt.specs.Rows.{BaseRow, EntryRow, RegionRow, FileRow, ImageRows}
use Rattle.wtf_image.specs.Rules.{is_lost, none_lost, lies_inside, is_part_inside, is_base_inside, is_region_inside, is_file_inside}
use Rattle.wtf_image.specs.Rules.{lies_inside_without, is_part_inside_without, is_base_inside_without, is_region_inside_without, is_file_inside_without}
use Rattle.wtf_image.specs.Loading.{IsTaken, IsTakenWithout}

-- a mask without a bit names no server
pub none_in_zero : is_lost 0 ≡ none_lost
none_in_zero = λ i k. ap (λ n. n == 1) (bit_at-zero k) i

weaker_passes : {A : Type 0} (p q : A → Bool) → ((x : A) → p x ≡ true → q x ≡ true) → (xs : List A) → list_all p xs ≡ true → list_all q xs ≡ true
weaker_passes p q more [] h = refl
weaker_passes p q more (x ∷ xs) h =
    let both = and_parts (p x) (list_all p xs) h in and_from (q x) (list_all q xs) (more x both.0) (weaker_passes p q more xs both.1)

module _ (lost : ℕ → Bool) (size : ℕ → ℕ → ℕ) (servers : ℕ) where
  extent : (p : Pointer) → lies_inside servers size p ≡ true → lies_inside_without lost servers size p ≡ true
  extent p h =
      let fits : Bool = nat_le (p.at + p.len) (size p.server.0 p.file) in
      let a = and_parts (nat_lt p.server.0 servers) (nat_lt p.file 8 && fits) h in
      let b = and_parts (nat_lt p.file 8) fits a.1 in
      and_from (nat_lt p.server.0 servers) (nat_lt p.file 8 && (lost p.server.0 || fits)) a.0
      (and_from (nat_lt p.file 8) (lost p.server.0 || fits) b.0 (or_right (lost p.server.0) fits b.1))

  extents : (ps : List Pointer) → list_all (lies_inside servers size) ps ≡ true → list_all (lies_inside_without lost servers size) ps ≡ true
  extents ps h = weaker_passes (lies_inside servers size) (lies_inside_without lost servers size) extent ps h

  part : (o : Option (List Pointer)) → is_part_inside servers size o ≡ true → is_part_inside_without lost servers size o ≡ true
  part None h = refl
  part (Some ps) h = extents ps h

  base : (o : Option BaseRow) → is_base_inside servers size o ≡ true → is_base_inside_without lost servers size o ≡ true
  base None h = refl
  base (Some b) h = extents b.pointers h

  region : (r : RegionRow) → is_region_inside servers size r ≡ true → is_region_inside_without lost servers size r ≡ true
  region r h =
      let both = and_parts (is_base_inside servers size r.base) (list_all (λ (e : EntryRow). is_part_inside servers size e.part) r.entries) h in
      and_from (is_base_inside_without lost servers size r.base) (list_all (λ (e : EntryRow). is_part_inside_without lost servers size e.part) r.entries)
      (base r.base both.0)
      (weaker_passes (λ (e : EntryRow). is_part_inside servers size e.part) (λ (e : EntryRow). is_part_inside_without lost servers size e.part)
      (λ e. part e.part) r.entries both.1)

  file : (f : FileRow) → is_file_inside servers size f ≡ true → is_file_inside_without lost servers size f ≡ true
  file f h = weaker_passes (is_region_inside servers size) (is_region_inside_without lost servers size) region f.regions h

-- what is taken with all servers is taken without some
pub taken_without : (lost : ℕ → Bool) (size : ℕ → ℕ → ℕ) (bytes : List ℕ) (x : ImageRows) → IsTaken size bytes x → IsTakenWithout lost size bytes x
taken_without lost size bytes x h = record {
  text = h.text;
  good = h.good;
  tree = h.tree;
  inside = weaker_passes (is_file_inside x.header.servers size) (is_file_inside_without lost x.header.servers size)
      (file lost size x.header.servers) x.files h.inside;
}
