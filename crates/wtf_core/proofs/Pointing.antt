-- Where each byte that metadata name lies inside the stores, so do all pointers of their image; and pointers that do go on to.
use Rattle.wtf_core.proofs.Common.{slice_get, list_all, option_map, unwrap_or, and_parts, and_from, leb-true, le-leb, cases_lt, slice_get_past, Pointer}
use Rattle.wtf_core.proofs.Common.{Settings, Place, element, EachFollows, Range, StoreKind, KindLaws, Region, Map, MapBytes, any_slice, BaseRow, EntryRow}
use Rattle.wtf_core.proofs.Common.{RegionRow, FileRow, ImageRows, IsTaken, plain, lies_inside, are_inside, is_file_inside, is_region_inside, is_base_inside}
use Rattle.wtf_core.proofs.Common.{is_part_inside, Says, IsImage, size_in-at, is_place_inside, is_inside, map_stays, ◌≡◌, ℕ, ◌+◌, ◌≤◌, Bool, true, nat_lt}
use Rattle.wtf_core.proofs.Common.{nat_le, ◌&&◌, List, [], ◌∷◌, length, Option, None, Some, refl, sym, ap, subst, arith, inl, inr}
use Rattle.wtf_image.specs.Rules as rules
use Rattle.wtf_image.proofs.Pointing.{is_place_in, rows_inside as rows_lie}
use Rattle.wtf_core.proofs.Fetched.{same_size}

all_more : {A : Type 0} (p q : A → Bool) → ((x : A) → p x ≡ true → q x ≡ true) → (xs : List A) → list_all p xs ≡ true → list_all q xs ≡ true
all_more p q more [] h = refl
all_more p q more (x ∷ xs) h =
    let both = and_parts (p x) (list_all p xs) h in and_from (q x) (list_all q xs) (more x both.0) (all_more p q more xs both.1)

-- ---- all pointers of the image of a map lie inside, where each byte of the map does
module _ {S : Type 0} (kind : StoreKind S) (shelf : List S) (settings : Settings) where
  abbrev Lies : Place → Bool
  Lies = is_place_in settings.servers (rules.size_in kind shelf)

  place_lies : (q : Place) → is_place_inside kind shelf settings q ≡ true → Lies q ≡ true
  place_lies q h =
      subst (λ n. nat_lt q.server settings.servers && (nat_lt q.file 8 && nat_lt q.at n) ≡ true)
      (sym (same_size kind shelf settings (slice_get shelf q.server) q.file)) h

  pub rows_inside : (w : Map) → MapBytes (is_inside kind shelf settings) any_slice w → (x : ImageRows) → IsImage x → Says (λ q. option_map plain (w q)) x
      → x.header.servers ≡ settings.servers → are_inside (rules.size_in kind shelf) x ≡ true
  rows_inside w inside = rows_lie settings.servers (rules.size_in kind shelf) w (λ i r. map_stays (is_inside kind shelf settings) (list_all Lies)
      (λ qs. all_more (is_place_inside kind shelf settings) Lies place_lies qs) any_slice any_slice (λ s is. is) w inside (Region i r))

-- ---- over stores that grow
module _ (size later : ℕ → ℕ → ℕ) (grows : (k f : ℕ) → size k f ≤ later k f) (servers : ℕ) where
  pointer_on : (p : Pointer) → lies_inside servers size p ≡ true → lies_inside servers later p ≡ true
  pointer_on p h =
      let a = and_parts (nat_lt p.server.0 servers) (nat_lt p.file 8 && nat_le (p.at + p.len) (size p.server.0 p.file)) h in
      let b = and_parts (nat_lt p.file 8) (nat_le (p.at + p.len) (size p.server.0 p.file)) a.1 in
      let was : p.at + p.len ≤ size p.server.0 p.file = leb-true _ _ b.1 in
      let more = grows p.server.0 p.file in
      and_from (nat_lt p.server.0 servers) (nat_lt p.file 8 && nat_le (p.at + p.len) (later p.server.0 p.file)) a.0
      (and_from (nat_lt p.file 8) (nat_le (p.at + p.len) (later p.server.0 p.file)) b.0 (le-leb _ _ (omega (arith, was, more))))

  part_on : (o : Option (List Pointer)) → is_part_inside servers size o ≡ true → is_part_inside servers later o ≡ true
  part_on None h = refl
  part_on (Some ps) h = all_more (lies_inside servers size) (lies_inside servers later) pointer_on ps h

  base_on : (o : Option BaseRow) → is_base_inside servers size o ≡ true → is_base_inside servers later o ≡ true
  base_on None h = refl
  base_on (Some b) h = all_more (lies_inside servers size) (lies_inside servers later) pointer_on b.pointers h

  entries_on : (es : List EntryRow) → list_all (λ e. is_part_inside servers size e.part) es ≡ true
      → list_all (λ e. is_part_inside servers later e.part) es ≡ true
  entries_on es h =
      all_more (λ (e : EntryRow). is_part_inside servers size e.part) (λ (e : EntryRow). is_part_inside servers later e.part) (λ e. part_on e.part) es h

  region_on : (r : RegionRow) → is_region_inside servers size r ≡ true → is_region_inside servers later r ≡ true
  region_on r h =
      let both = and_parts (is_base_inside servers size r.base) (list_all (λ (e : EntryRow). is_part_inside servers size e.part) r.entries) h in
      and_from (is_base_inside servers later r.base) (list_all (λ (e : EntryRow). is_part_inside servers later e.part) r.entries)
      (base_on r.base both.0) (entries_on r.entries both.1)

  files_on : (fs : List FileRow) → list_all (is_file_inside servers size) fs ≡ true → list_all (is_file_inside servers later) fs ≡ true
  files_on fs h = all_more (is_file_inside servers size) (is_file_inside servers later)
      (λ f. all_more (is_region_inside servers size) (is_region_inside servers later) region_on f.regions) fs h

-- an image that is taken goes on to be
pub taken_on : (size later : ℕ → ℕ → ℕ) → ((k f : ℕ) → size k f ≤ later k f) → (bytes : List ℕ) (x : ImageRows) → IsTaken size bytes x → IsTaken later bytes x
taken_on size later grows bytes x h =
    record { text = h.text; good = h.good; tree = h.tree; inside = files_on size later grows x.header.servers x.files h.inside }

-- no file of a store gets shorter
pub sizes_grow : {S : Type 0} {kind : StoreKind S} → KindLaws kind → {old new : List S} {punched : List (ℕ × Range)} → EachFollows kind old new punched
    → (k f : ℕ) → rules.size_in kind old k f ≤ rules.size_in kind new k f
sizes_grow {S} {kind = kind} laws {old = old} {new = new} e k f = elim (cases_lt k (length old)) [
  | inl below ↦ (
      let d = element old k below in
      let was = size_in-at kind old k f d below in
      let is = size_in-at kind new k f d (omega (arith, below, e.same_length)) in
      let more = (laws.keeps _ _ _ (e.each k d below)).size f in
      omega (arith, was, is, more))
  | inr past ↦ (
      let none : rules.size_in kind old k f ≡ 0 = ap (λ (o : Option S). unwrap_or (option_map (λ s. (kind.view s).size f) o) 0) (slice_get_past old k past) in
      omega (arith, none))
]
