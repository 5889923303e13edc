-- Where each byte that a map names lies inside the stores, so do all pointers of its image.
use Rattle.std.proofs.Common.{◌≡◌, ℕ, zero, suc, ◌+◌, ◌-◌, ◌<◌, ◌≤◌, Bool, true, nat_lt, nat_le, ◌&&◌, List, [], ◌∷◌, ◌++◌, map, Option, None, Some, refl, sym}
use Rattle.std.proofs.Common.{subst, ◌∙◌, arith}
use Rattle.std.specs.List.{All, AllByRecursion, list_all}
use Rattle.std.specs.Option.{option_map}
use Rattle.std.proofs.lemmas.Bool.{and_parts, and_from, ltb-true, le-leb}
use Rattle.std.proofs.lemmas.List.Elements.{All-head, All-tail}
use Rattle.wtf_base.specs.declared.ids.InodeId.{InodeId}
use Rattle.wtf_base.specs.declared.pointer.Pointer.{Pointer}
use Rattle.wtf_base.specs.declared.slice.Extents.{Extents}
use Rattle.wtf_base.specs.declared.slice.Extents.TheVariants.{One, Two, Three}
use Rattle.wtf_base.specs.Extents.{IsSound}
use Rattle.wtf_base.specs.Slices.{pointers_of, len_of}
use Rattle.wtf_base.specs.Places.{Place, place_in}
use Rattle.wtf_base.proofs.Pointers.{pointers-len}
use Rattle.wtf_overlay.specs.declared.part.Entry.{Entry}
use Rattle.wtf_overlay.specs.declared.part.Part.{Part}
use Rattle.wtf_overlay.specs.declared.part.Part.TheVariants.{Zero, Held}
use Rattle.wtf_overlay.specs.Lengths.{HasLength}
use Rattle.wtf_values.specs.declared.key.Key.TheVariants.{Inode, Region}
use Rattle.wtf_values.specs.declared.region.Spill.{Spill}
use Rattle.wtf_values.specs.declared.value.Value.{Value}
use Rattle.wtf_values.specs.declared.value.Value.TheVariants as value
use Rattle.wtf_meta.specs.Maps.{Map}
use Rattle.wtf_meta.specs.Bytes.{PartBytes, EntryBytes, BaseBytes, ValueBytes, any_slice}
use Rattle.wtf_image.specs.Rows.{EntryRow, RegionRow, FileRow, ImageRows, part_row, base_row, entry_rows}
use Rattle.wtf_image.specs.Lookups.{Plain, NodeIs, NamesAre, LastIs, RegionIs, CountIs, plain}
use Rattle.wtf_image.specs.Rules.{lies_inside, are_inside, is_file_inside, is_region_inside, is_base_inside, is_part_inside}
use Rattle.wtf_image.specs.Saving.{last_now, region_now, with_one, regions_below, region_in, file_with, file_at, Says}
use Rattle.wtf_image.specs.Shapes.{IsImage}
use Rattle.wtf_image.specs.Tables.{Shown}
use Rattle.wtf_image.proofs.SaveFiles.{each_file}
use Rattle.wtf_image.proofs.SaveTree.{all_from, all_weaker}

-- a place lies on one of so many servers, in one of its eight files, and before the end of that
abbrev pub is_place_in : ℕ → (ℕ → ℕ → ℕ) → Place → Bool
is_place_in servers size q = nat_lt q.server servers && (nat_lt q.file 8 && nat_lt q.at (size q.server q.file))

-- the places of a byte all do
abbrev pub are_in : ℕ → (ℕ → ℕ → ℕ) → List Place → Bool
are_in servers size qs = list_all (is_place_in servers size) qs

-- ---- what holds of each region that a map shows holds of each that its image has

below_each : (now : ℕ → Option RegionRow) (P : RegionRow → Type 0) (n : ℕ) → ((r : ℕ) (row : RegionRow) → now r ≡ Some row → P row)
    → AllByRecursion P (regions_below now n)
below_each now P zero each = tt
below_each now P (suc n) each = one (regions_below now n) (now n) refl (below_each now P n each)
  where
    join : (xs ys : List RegionRow) → AllByRecursion P xs → AllByRecursion P ys → AllByRecursion P (xs ++ ys)
    join [] ys h k = k
    join (x ∷ xs) ys h k = (h.0, join xs ys h.1 k)

    one : (xs : List RegionRow) (o : Option RegionRow) → now n ≡ o → AllByRecursion P xs → AllByRecursion P (with_one xs o)
    one xs None e h = h
    one xs (Some row) e h = join xs (row ∷ []) h (each n row e, tt)

-- a file that is shown has the regions that are
file_shown : (m : Shown) (f : FileRow) (o : Option Plain) → option_map (file_with m f.inode) (last_now o) ≡ Some f → (n : ℕ) × (file_with m f.inode n ≡ f)
file_shown m f None e = absurd (cc)
file_shown m f (Some (NodeIs n)) e = absurd (cc)
file_shown m f (Some (NamesAre names)) e = absurd (cc)
file_shown m f (Some (CountIs n)) e = absurd (cc)
file_shown m f (Some (LastIs n)) e = (n, cc)
file_shown m f (Some (RegionIs end base entries)) e = absurd (cc)

module _ (servers : ℕ) (size : ℕ → ℕ → ℕ) where
  abbrev Inside : List Place → Bool
  Inside = are_in servers size

  -- ---- a slice: the place of its last byte tells where it ends

  pointer_out : (n i : ℕ) (p : Pointer) → p.len ≡ n → i + 1 ≡ n → is_place_in servers size (place_in i p) ≡ true → lies_inside servers size p ≡ true
  pointer_out n i p len last h =
      let a = and_parts (nat_lt p.server.0 servers) (nat_lt p.file 8 && nat_lt (p.at + i) (size p.server.0 p.file)) h in
      let b = and_parts (nat_lt p.file 8) (nat_lt (p.at + i) (size p.server.0 p.file)) a.1 in
      let lt : p.at + i < size p.server.0 p.file = ltb-true _ _ b.1 in
      let le : p.at + p.len ≤ size p.server.0 p.file = omega (arith, lt, len, last) in
      and_from (nat_lt p.server.0 servers) (nat_lt p.file 8 && nat_le (p.at + p.len) (size p.server.0 p.file)) a.0
      (and_from (nat_lt p.file 8) (nat_le (p.at + p.len) (size p.server.0 p.file)) b.0 (le-leb _ _ le))

  pointers_out : (n i : ℕ) (ps : List Pointer) → All (λ (p : Pointer). p.len ≡ n) ps → i + 1 ≡ n → Inside (map (place_in i) ps) ≡ true
      → list_all (lies_inside servers size) ps ≡ true
  pointers_out n i [] len last h = refl
  pointers_out n i (p ∷ ps) len last h =
      let both = and_parts (is_place_in servers size (place_in i p)) (Inside (map (place_in i) ps)) h in
      and_from (lies_inside servers size p) (list_all (lies_inside servers size) ps)
      (pointer_out n i p (All-head (λ (q : Pointer). q.len ≡ n) p ps len) last both.0)
      (pointers_out n i ps (All-tail (λ (q : Pointer). q.len ≡ n) p ps len) last both.1)

  -- ---- a region

  part_out : (n : ℕ) (p : Part) → HasLength n p → 0 < n → PartBytes Inside n p → is_part_inside servers size (part_row p) ≡ true
  part_out n Zero len some h = refl
  part_out n (Held s) len some h =
      pointers_out s.len (n - 1) (pointers_of s) (pointers-len s) (omega (arith, len, some)) (h (n - 1) (omega (arith, some)))

  entries_out : (es : List Entry) → All (EntryBytes Inside) es → list_all (λ e. is_part_inside servers size e.part) (entry_rows es) ≡ true
  entries_out [] h = refl
  entries_out (e ∷ es) h =
      and_from (is_part_inside servers size (part_row e.part)) (list_all (λ (r : EntryRow). is_part_inside servers size r.part) (entry_rows es))
      (part_out e.len e.part e.held e.positive (All-head (EntryBytes Inside) e es h)) (entries_out es (All-tail (EntryBytes Inside) e es h))

  has_bytes : (n : ℕ) (e : Extents) → IsSound n e → 0 < n
  has_bytes n (One a) sound = sound.0
  has_bytes n (Two a b) sound = sound.0
  has_bytes n (Three a b c) sound = sound.0

  base_out : (base : Option Spill) → BaseBytes Inside any_slice base → is_base_inside servers size (base_row base) ≡ true
  base_out None h = refl
  base_out (Some s) h =
      let n = len_of s.slice in
      let some = has_bytes n s.slice.extents s.slice.sound in
      pointers_out n (n - 1) (pointers_of s.slice) (pointers-len s.slice) (omega (arith, some)) (h.0 (n - 1) (omega (arith, some)))

  region_out : (r : ℕ) (v : Option Value) (row : RegionRow) → ValueBytes Inside any_slice v → region_now r (option_map plain v) ≡ Some row
      → is_region_inside servers size row ≡ true
  region_out r None row h e = absurd (cc)
  region_out r (Some (value.Node n)) row h e = absurd (cc)
  region_out r (Some (value.Names ns)) row h e = absurd (cc)
  region_out r (Some (value.Count n)) row h e = absurd (cc)
  region_out r (Some (value.Last n)) row h e = absurd (cc)
  region_out r (Some (value.Region v)) row h e =
      let base : base_row v.base ≡ row.base = cc in
      let entries : entry_rows v.list ≡ row.entries = cc in
      and_from (is_base_inside servers size row.base) (list_all (λ (x : EntryRow). is_part_inside servers size x.part) row.entries)
      (subst (λ b. is_base_inside servers size b ≡ true) base (base_out v.base h.base))
      (subst (λ es. list_all (λ (x : EntryRow). is_part_inside servers size x.part) es ≡ true) entries (entries_out v.list h.entries))

  -- ---- a map

  module _ (w : Map) (inside : (i : InodeId) (r : ℕ) → ValueBytes Inside any_slice (w (Region i r))) where
    abbrev said : Shown
    said q = option_map plain (w q)

    file_out : (f : FileRow) (o : Option Plain) → option_map (file_with said f.inode) (last_now o) ≡ Some f → is_file_inside servers size f ≡ true
    file_out f o e =
        let (n, is) = file_shown said f o e in
        subst (λ (g : FileRow). is_file_inside servers size g ≡ true) is
        (all_from (is_region_inside servers size) (regions_below (region_in said f.inode) (n + 1))
        (below_each (region_in said f.inode) (λ row. is_region_inside servers size row ≡ true) (n + 1)
        (λ r row now. region_out r (w (Region f.inode r)) row (inside f.inode r) now)))

    pub rows_inside : (x : ImageRows) → IsImage x → Says said x → x.header.servers ≡ servers → are_inside size x ≡ true
    rows_inside x form says is =
        subst (λ n. list_all (is_file_inside n size) x.files ≡ true) (sym is)
        (all_from (is_file_inside servers size) x.files
        (all_weaker (λ f. file_at x.files f.inode ≡ Some f) (λ f. is_file_inside servers size f ≡ true)
        (λ f at. file_out f (said (Inode f.inode)) (sym (says.files f.inode) ∙ at)) x.files (each_file x.files form.files.ascend)))
