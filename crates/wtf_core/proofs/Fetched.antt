-- The bytes that an image names, once it is loaded: where all its pointers lie inside the stores, so do they.
use Rattle.wtf_core.proofs.Common.{slice_get, All, AllByRecursion, list_all, flat_map, option_map, option_or, unwrap_or, find, eq_by_cmp, and_parts, and_from}
use Rattle.wtf_core.proofs.Common.{cases_Bool, leb-true, lt-ltb, All-nil, All-cons, InodeId, Pointer, Settings, Extents, One, Two, Three, pointers_to}
use Rattle.wtf_core.proofs.Common.{pointers_of, place_in, StoreKind, Entry, Part, Zero, Held, HasLength, Key, RegionValue, Spill, Value, Map, PartBytes}
use Rattle.wtf_core.proofs.Common.{EntryBytes, BaseBytes, RegionBytes, MapBytes, any_slice, EntryRow, RegionRow, FileRow, ImageRows, part_row, base_row}
use Rattle.wtf_core.proofs.Common.{entry_rows, plain, plain_region, place_cmp, region_entry, region_entries, region_at, row_at, are_inside, is_file_inside}
use Rattle.wtf_core.proofs.Common.{is_region_inside, is_base_inside, is_part_inside, find-both, is_place_inside, is_inside, ◌≡◌, ℕ, ◌+◌, ◌<◌, ◌≤◌, true, cond}
use Rattle.wtf_core.proofs.Common.{nat_lt, nat_le, ◌&&◌, List, [], ◌∷◌, map, Option, None, Some, refl, sym, ap, subst, ◌∙◌, arith, inl, inr}
use Rattle.wtf_image.proofs.MapSaid.{map_said}
use Rattle.wtf_image.specs.Rules as rules
use Rattle.wtf_region.specs.Inside.{size_in}

module _ {S : Type 0} (kind : StoreKind S) (shelf : List S) (settings : Settings) where
  abbrev sizes : ℕ → ℕ → ℕ
  sizes = rules.size_in kind shelf

  pub same_size : (o : Option S) (file : ℕ) → unwrap_or (option_map (λ s. (kind.view s).size file) o) 0 ≡ size_in kind o file
  same_size None file = refl
  same_size (Some s) file = refl

  -- ---- a slice

  pointer_in : (n i : ℕ) (p : Pointer) → p.len ≡ n → i < n → rules.lies_inside settings.servers sizes p ≡ true
      → is_place_inside kind shelf settings (place_in i p) ≡ true
  pointer_in n i p len lt h =
      let a = and_parts (nat_lt p.server.0 settings.servers) (nat_lt p.file 8 && nat_le (p.at + p.len) (sizes p.server.0 p.file)) h in
      let b = and_parts (nat_lt p.file 8) (nat_le (p.at + p.len) (sizes p.server.0 p.file)) a.1 in
      let le : p.at + p.len ≤ sizes p.server.0 p.file = leb-true _ _ b.1 in
      let same = same_size (slice_get shelf p.server.0) p.file in
      let at : p.at + i < size_in kind (slice_get shelf p.server.0) p.file = omega (arith, le, same, len, lt) in
      and_from (nat_lt p.server.0 settings.servers) (nat_lt p.file 8 && nat_lt (p.at + i) (size_in kind (slice_get shelf p.server.0) p.file)) a.0
      (and_from (nat_lt p.file 8) (nat_lt (p.at + i) (size_in kind (slice_get shelf p.server.0) p.file)) b.0 (lt-ltb _ _ at))

  pointers_in : (n i : ℕ) (ps : List Pointer) → AllByRecursion (λ p. p.len ≡ n) ps → i < n → list_all (rules.lies_inside settings.servers sizes) ps ≡ true
      → is_inside kind shelf settings (map (place_in i) ps) ≡ true
  pointers_in n i [] len lt h = refl
  pointers_in n i (p ∷ ps) len lt h =
      let both = and_parts (rules.lies_inside settings.servers sizes p) (list_all (rules.lies_inside settings.servers sizes) ps) h in
      and_from (is_place_inside kind shelf settings (place_in i p)) (is_inside kind shelf settings (map (place_in i) ps)) (pointer_in n i p len.0 lt both.0)
      (pointers_in n i ps len.1 lt both.1)

  pub lengths : (n : ℕ) (e : Extents) → AllByRecursion (λ (p : Pointer). p.len ≡ n) (pointers_to n e)
  lengths n (One a) = (refl, tt)
  lengths n (Two a b) = (refl, (refl, tt))
  lengths n (Three a b c) = (refl, (refl, (refl, tt)))

  -- ---- a region

  part_in : (n : ℕ) (p : Part) → HasLength n p → is_part_inside settings.servers sizes (part_row p) ≡ true → PartBytes (is_inside kind shelf settings) n p
  part_in n Zero len h = λ i lt. refl
  part_in n (Held s) len h = λ i lt. pointers_in s.len i (pointers_of s) (lengths s.len s.extents) (omega (arith, lt, len)) h

  entries_in : (es : List Entry) → list_all (λ e. is_part_inside settings.servers sizes e.part) (entry_rows es) ≡ true
      → All (EntryBytes (is_inside kind shelf settings)) es
  entries_in [] h = All-nil (EntryBytes (is_inside kind shelf settings))
  entries_in (e ∷ es) h =
      let both = and_parts (is_part_inside settings.servers sizes (part_row e.part))
      (list_all (λ (r : EntryRow). is_part_inside settings.servers sizes r.part) (entry_rows es)) h in
      All-cons (EntryBytes (is_inside kind shelf settings)) e es (part_in e.len e.part e.held both.0) (entries_in es both.1)

  -- the slice of a base; what the list in it names is not looked at
  base_in : (base : Option Spill) → is_base_inside settings.servers sizes (base_row base) ≡ true → BaseBytes (is_inside kind shelf settings) any_slice base
  base_in None h = tt
  base_in (Some s) h = (λ i lt. pointers_in s.slice.len i (pointers_of s.slice) (lengths s.slice.len s.slice.extents) lt h, refl)

  region_in : (v : RegionValue) (row : RegionRow) → plain (Value.Region v) ≡ plain_region row → is_region_inside settings.servers sizes row ≡ true
      → RegionBytes (is_inside kind shelf settings) any_slice v
  region_in v row e h =
      let base : row.base ≡ base_row v.base = cc in
      let entries : row.entries ≡ entry_rows v.list = cc in
      let both = and_parts (is_base_inside settings.servers sizes row.base)
      (list_all (λ (r : EntryRow). is_part_inside settings.servers sizes r.part) row.entries) h in
      record {
        base = base_in v.base (subst (λ b. is_base_inside settings.servers sizes b ≡ true) base both.0);
        entries = entries_in v.list (subst (λ es. list_all (λ (r : EntryRow). is_part_inside settings.servers sizes r.part) es ≡ true) entries both.1);
      }

  -- ---- the regions of an image

  among : (i : InodeId) (r : ℕ) (j : InodeId) (rs : List RegionRow) (row : RegionRow) → list_all (is_region_inside settings.servers sizes) rs ≡ true
      → find place_cmp (i, r) (map (region_entry j) rs) ≡ Some row → is_region_inside settings.servers sizes row ≡ true
  among i r j [] row all h = absurd (cc)
  among i r j (x ∷ xs) row all h =
      let both = and_parts (is_region_inside settings.servers sizes x) (list_all (is_region_inside settings.servers sizes) xs) all in
      elim (cases_Bool (eq_by_cmp place_cmp (i, r) (j, x.number))) [
        | inl tie ↦ (let is : Some x ≡ Some row = sym (ap (λ b. cond b (Some x) (find place_cmp (i, r) (map (region_entry j) xs))) tie)
            ∙ h in let it : x ≡ row = cc in subst (λ y. is_region_inside settings.servers sizes y ≡ true) it both.0)
        | inr off ↦ among i r j xs row both.1 (sym (ap (λ b. cond b (Some x) (find place_cmp (i, r) (map (region_entry j) xs))) off) ∙ h)
      ]

  in_either : (i : InodeId) (r : ℕ) (fs : List FileRow) (row : RegionRow) → list_all (is_file_inside settings.servers sizes) fs ≡ true
      → region_at fs i r ≡ Some row → is_region_inside settings.servers sizes row ≡ true
  in_either i r [] row all h = absurd (cc)
  in_either i r (f ∷ fs) row all h =
      let both = and_parts (is_file_inside settings.servers sizes f) (list_all (is_file_inside settings.servers sizes) fs) all in
      by (λ is. in_either i r fs row both.1 is) both.0 (find place_cmp (i, r) (region_entries f)) refl
      (sym (find-both place_cmp (i, r) (region_entries f) (flat_map region_entries fs)) ∙ h)
    where
      by : (region_at fs i r ≡ Some row → is_region_inside settings.servers sizes row ≡ true) → is_file_inside settings.servers sizes f ≡ true
          → (o : Option RegionRow) → find place_cmp (i, r) (region_entries f) ≡ o → option_or o (region_at fs i r) ≡ Some row
          → is_region_inside settings.servers sizes row ≡ true
      by later first None e is = later is
      by later first (Some x) e is = among i r f.inode f.regions row first (e ∙ is)

  -- each byte of a map that an image says lies inside, where its pointers do
  pub image_inside : (x : ImageRows) (w : Map) → x.header.servers ≡ settings.servers → are_inside sizes x ≡ true
      → ((q : Key) → option_map plain (w q) ≡ row_at x q) → MapBytes (is_inside kind shelf settings) any_slice w
  image_inside x w servers inside is =
      let all : list_all (is_file_inside settings.servers sizes) x.files ≡ true = subst (λ n. list_all (is_file_inside n sizes) x.files ≡ true) servers
      inside in
      map_said (is_inside kind shelf settings) any_slice x w is (λ i r v row at same. region_in v row same (in_either i r x.files row all at))
