-- What an image names that was loaded without lost servers can be healed.
use Rattle.std.proofs.Common.{◌≡◌, ℕ, Bool, ◌+◌, ◌<◌, ◌≤◌, true, cond, nat_lt, nat_le, ◌&&◌, ◌||◌, List, [], ◌∷◌, map, Option, None, Some, refl, sym, ap, subst}
use Rattle.std.proofs.Common.{◌∙◌, arith, inl, inr}
use Rattle.std.specs.Prelude.{◌==◌}
use Rattle.std.specs.List.{All, AllByRecursion, list_all, list_any, flat_map}
use Rattle.std.specs.Option.{option_map, option_or}
use Rattle.std.specs.FinMap.Entries.{find}
use Rattle.std.specs.Ordering.{is_eq, eq_by_cmp, nat_cmp, ordering_then}
use Rattle.std.specs.declared.cmp.Ordering.{Ordering}
use Rattle.std.specs.declared.cmp.Ordering.TheVariants.{Less, Equal, Greater}
use Rattle.std.proofs.lemmas.Bool.{and_parts, and_from, cases_Bool, leb-true, le-leb, ltb-true, lt-ltb, or_left, or_right}
use Rattle.std.proofs.lemmas.List.Elements.{All-nil, All-cons}
use Rattle.wtf_base.specs.declared.ids.InodeId.{InodeId}
use Rattle.wtf_base.specs.declared.pointer.Pointer.{Pointer}
use Rattle.wtf_base.specs.declared.settings.Settings.{Settings}
use Rattle.wtf_base.specs.declared.slice.Extents.{Extents}
use Rattle.wtf_base.specs.declared.slice.Extents.TheVariants.{One, Two, Three}
use Rattle.wtf_base.specs.Extents.{pointers_to}
use Rattle.wtf_base.specs.Slices.{pointers_of}
use Rattle.wtf_base.specs.Places.{place_in}
use Rattle.wtf_dev.specs.Store.{StoreKind}
use Rattle.wtf_overlay.specs.declared.part.Entry.{Entry}
use Rattle.wtf_overlay.specs.declared.part.Part.{Part}
use Rattle.wtf_overlay.specs.declared.part.Part.TheVariants.{Zero, Held}
use Rattle.wtf_overlay.specs.Lengths.{HasLength}
use Rattle.wtf_overlay.specs.Origin.{Place}
use Rattle.wtf_values.specs.Keys.{inode_cmp}
use Rattle.wtf_values.specs.declared.region.RegionValue.{RegionValue}
use Rattle.wtf_values.specs.declared.region.Spill.{Spill}
use Rattle.wtf_values.specs.declared.key.Key.TheVariants.{Region}
use Rattle.wtf_values.specs.declared.value.Value.{Value}
use Rattle.wtf_values.specs.declared.value.Value.TheVariants as value
use Rattle.wtf_meta.specs.Maps.{metadata_at}
use Rattle.wtf_meta.specs.Bytes.{PartBytes, EntryBytes, BaseBytes, RegionBytes, any_slice}
use Rattle.wtf_image.specs.Rows.{EntryRow, RegionRow, FileRow, part_row, base_row, entry_rows}
use Rattle.wtf_image.specs.Lookups.{plain, plain_region, place_cmp, region_entry, region_entries, region_at}
use Rattle.wtf_image.specs.Rules.{is_good_file, is_good_region, is_last, size_in, is_file_inside_without, is_region_inside_without, is_base_inside_without}
use Rattle.wtf_image.specs.Rules.{is_part_inside_without, lies_inside_without}
use Rattle.wtf_image.specs.Rules as rules
use Rattle.wtf_image.specs.declared.loads.Loaded.{Loaded}
use Rattle.wtf_image.specs.Outcome.{IsLoadWithout}
use Rattle.wtf_replica.specs.declared.replicas.Replicas.{Replicas}
use Rattle.wtf_replica.specs.Downs.{is_down}
use Rattle.wtf_region.specs.Devs.{stores, is_down_in}
use Rattle.wtf_image.proofs.SeedLaws.{find-both}
use Rattle.wtf_image.proofs.SaveMap.{number_same}
use Rattle.wtf_image.proofs.MapSaid.{map_said}
use Rattle.wtf_healer.specs.Bases.{is_place_left, inside_left}
use Rattle.wtf_healer.specs.Steps.{CanHealOver}

-- ---- the regions of files

then_tie : (o p : Ordering) → is_eq (ordering_then o p) ≡ true → is_eq p ≡ true
then_tie Less p e = absurd (cc)
then_tie Equal p e = e
then_tie Greater p e = absurd (cc)

-- where each file of a list is such that its regions are
module _ (Q : RegionRow → Bool) (F : FileRow → Bool) (regions : (f : FileRow) → F f ≡ true → list_all Q f.regions ≡ true) where
  among : (i : InodeId) (r : ℕ) (j : InodeId) (rs : List RegionRow) (row : RegionRow) → list_all Q rs ≡ true
      → find place_cmp (i, r) (map (region_entry j) rs) ≡ Some row → (Q row ≡ true) × (r ≡ row.number)
  among i r j [] row all h = absurd (cc)
  among i r j (x ∷ xs) row all h =
      let both = and_parts (Q x) (list_all Q xs) all in
      elim (cases_Bool (eq_by_cmp place_cmp (i, r) (j, x.number))) [
        | inl tie ↦ (let is : Some x ≡ Some row = sym (ap (λ b. cond b (Some x) (find place_cmp (i, r) (map (region_entry j) xs))) tie) ∙ h in
            let it : x ≡ row = cc in
            subst (λ (y : RegionRow). (Q y ≡ true) × (r ≡ y.number)) it
            (both.0, number_same r x.number (then_tie (inode_cmp i j) (nat_cmp r x.number) tie)))
        | inr off ↦ among i r j xs row both.1 (sym (ap (λ b. cond b (Some x) (find place_cmp (i, r) (map (region_entry j) xs))) off) ∙ h)
      ]

  pub row_found : (i : InodeId) (r : ℕ) (fs : List FileRow) (row : RegionRow) → list_all F fs ≡ true
      → region_at fs i r ≡ Some row → (Q row ≡ true) × (r ≡ row.number)
  row_found i r [] row all h = absurd (cc)
  row_found i r (f ∷ fs) row all h =
      let both = and_parts (F f) (list_all F fs) all in
      by (λ is. row_found i r fs row both.1 is) both.0 (find place_cmp (i, r) (region_entries f)) refl
      (sym (find-both place_cmp (i, r) (region_entries f) (flat_map region_entries fs)) ∙ h)
    where
      by : (region_at fs i r ≡ Some row → (Q row ≡ true) × (r ≡ row.number)) → F f ≡ true
          → (o : Option RegionRow) → find place_cmp (i, r) (region_entries f) ≡ o → option_or o (region_at fs i r) ≡ Some row
          → (Q row ≡ true) × (r ≡ row.number)
      by later first None e is = later is
      by later first (Some x) e is = among i r f.inode f.regions row (regions f first) (e ∙ is)

-- ---- where bytes lie

lengths : (n : ℕ) (e : Extents) → AllByRecursion (λ (p : Pointer). p.len ≡ n) (pointers_to n e)
lengths n (One a) = (refl, tt)
lengths n (Two a b) = (refl, (refl, tt))
lengths n (Three a b c) = (refl, (refl, (refl, tt)))

module _ {S : Type 0} (kind : StoreKind S) (shelf : List S) (settings : Settings) (down lost : ℕ → Bool)
    (same : (k : ℕ) → k < settings.servers → down k ≡ lost k) where
  abbrev sizes : ℕ → ℕ → ℕ
  sizes = rules.size_in kind shelf

  abbrev left : List Place → Bool
  left places = list_all (is_place_left kind shelf settings down) places

  pointer_left : (n i : ℕ) (p : Pointer) → p.len ≡ n → i < n → lies_inside_without lost settings.servers sizes p ≡ true
      → is_place_left kind shelf settings down (place_in i p) ≡ true
  pointer_left n i p len lt h =
      let size = sizes p.server.0 p.file in
      let a = and_parts (nat_lt p.server.0 settings.servers) (nat_lt p.file 8 && (lost p.server.0 || nat_le (p.at + p.len) size)) h in
      let b = and_parts (nat_lt p.file 8) (lost p.server.0 || nat_le (p.at + p.len) size) a.1 in
      let known : p.server.0 < settings.servers = ltb-true _ _ a.0 in
      let last : (down p.server.0 || nat_lt (p.at + i) size) ≡ true = elim (cases_Bool (lost p.server.0)) [
        | inl out ↦ or_left (down p.server.0) (nat_lt (p.at + i) size) (same p.server.0 known ∙ out)
        | inr up ↦ (let at : nat_le (p.at + p.len) size ≡ true = sym (ap (λ x. x || nat_le (p.at + p.len) size) up) ∙ b.1 in
            let le : p.at + p.len ≤ size = leb-true _ _ at in
            or_right (down p.server.0) (nat_lt (p.at + i) size) (lt-ltb _ _ (omega (arith, le, len, lt))))
      ] in
      and_from (nat_lt p.server.0 settings.servers) (nat_lt p.file 8 && (down p.server.0 || nat_lt (p.at + i) size)) a.0
      (and_from (nat_lt p.file 8) (down p.server.0 || nat_lt (p.at + i) size) b.0 last)

  pointers_left : (n i : ℕ) (ps : List Pointer) → AllByRecursion (λ p. p.len ≡ n) ps → i < n
      → list_all (lies_inside_without lost settings.servers sizes) ps ≡ true → left (map (place_in i) ps) ≡ true
  pointers_left n i [] len lt h = refl
  pointers_left n i (p ∷ ps) len lt h =
      let both = and_parts (lies_inside_without lost settings.servers sizes p) (list_all (lies_inside_without lost settings.servers sizes) ps) h in
      and_from (is_place_left kind shelf settings down (place_in i p)) (left (map (place_in i) ps)) (pointer_left n i p len.0 lt both.0)
      (pointers_left n i ps len.1 lt both.1)

  part_left : (n : ℕ) (p : Part) → HasLength n p → is_part_inside_without lost settings.servers sizes (part_row p) ≡ true → PartBytes left n p
  part_left n Zero len h = λ i lt. refl
  part_left n (Held s) len h = λ i lt. pointers_left s.len i (pointers_of s) (lengths s.len s.extents) (omega (arith, lt, len)) h

  entries_left : (es : List Entry) → list_all (λ e. is_part_inside_without lost settings.servers sizes e.part) (entry_rows es) ≡ true
      → All (EntryBytes left) es
  entries_left [] h = All-nil (EntryBytes left)
  entries_left (e ∷ es) h =
      let both = and_parts (is_part_inside_without lost settings.servers sizes (part_row e.part))
      (list_all (λ (r : EntryRow). is_part_inside_without lost settings.servers sizes r.part) (entry_rows es)) h in
      All-cons (EntryBytes left) e es (part_left e.len e.part e.held both.0) (entries_left es both.1)

  base_left : (base : Option Spill) → is_base_inside_without lost settings.servers sizes (base_row base) ≡ true → BaseBytes left any_slice base
  base_left None h = tt
  base_left (Some s) h = (λ i lt. pointers_left s.slice.len i (pointers_of s.slice) (lengths s.slice.len s.slice.extents) lt h, refl)

  pub region_left : (v : RegionValue) (row : RegionRow) → plain (value.Region v) ≡ plain_region row
      → is_region_inside_without lost settings.servers sizes row ≡ true → RegionBytes left any_slice v
  region_left v row e h =
      let base : row.base ≡ base_row v.base = cc in
      let entries : row.entries ≡ entry_rows v.list = cc in
      let both = and_parts (is_base_inside_without lost settings.servers sizes row.base)
      (list_all (λ (r : EntryRow). is_part_inside_without lost settings.servers sizes r.part) row.entries) h in
      record {
        base = base_left v.base (subst (λ b. is_base_inside_without lost settings.servers sizes b ≡ true) base both.0);
        entries = entries_left v.list
            (subst (λ es. list_all (λ (r : EntryRow). is_part_inside_without lost settings.servers sizes r.part) es ≡ true) entries both.1);
      }

-- ---- what was loaded

-- a region of few enough, of at most b bytes
abbrev is_small : ℕ → RegionRow → Bool
is_small b r = nat_le r.number 4095 && nat_le r.end b

small_rows : (b last : ℕ) → last ≤ 4095 → (rs : List RegionRow) → list_all (is_good_region b last) rs ≡ true → list_all (is_small b) rs ≡ true
small_rows b last few [] h = refl
small_rows b last few (r ∷ rs) h =
    let both = and_parts (is_good_region b last r) (list_all (is_good_region b last) rs) h in
    let one = and_parts (nat_le r.number last) (nat_le r.end b) both.0 in
    let number : r.number ≤ last = leb-true _ _ one.0 in
    let least : r.number ≤ 4095 = omega (arith, number, few) in
    and_from (is_small b r) (list_all (is_small b) rs) (and_from (nat_le r.number 4095) (nat_le r.end b) (le-leb _ _ least) one.1)
    (small_rows b last few rs both.1)

small_file : (b : ℕ) (f : FileRow) → is_good_file b f ≡ true → list_all (is_small b) f.regions ≡ true
small_file b f h =
    let few = and_parts (nat_le f.last 4095) (list_all (is_good_region b f.last) f.regions && (f.last == 0 || list_any (is_last f.last) f.regions)) h in
    let rest = and_parts (list_all (is_good_region b f.last) f.regions) (f.last == 0 || list_any (is_last f.last) f.regions) few.1 in
    small_rows b f.last (leb-true _ _ few.0) f.regions rest.0

-- a region that an image says has its row
row_of : (o : Option Value) (v : RegionValue) (row : Option RegionRow) → o ≡ Some (value.Region v) → option_map plain o ≡ option_map plain_region row
    → (x : RegionRow) × (row ≡ Some x) × (plain (value.Region v) ≡ plain_region x)
row_of o v None there is = absurd (cc)
row_of o v (Some x) there is = (x, refl, cc)

-- what a load without lost servers gives can be healed while they are down
pub can_heal : {S : Type 0} (kind : StoreKind S) (shelf : List S) (replicas : Replicas) (lost : ℕ → Bool) (bytes : List ℕ) (l : Loaded)
    → ((k : ℕ) → k < l.settings.servers → is_down replicas k ≡ lost k) → IsLoadWithout lost (size_in kind shelf) bytes l
    → CanHealOver kind shelf replicas l.settings (metadata_at l.kv l.kv.number)
can_heal kind shelf replicas lost bytes l down load dev lent =
    let w = metadata_at l.kv l.kv.number in
    let x = load.rows in
    let servers : x.header.servers ≡ dev.settings.servers = sym load.settings.servers ∙ sym (ap (λ (s : Settings). s.servers) lent.settings_are) in
    let region : x.header.region ≡ dev.settings.region = sym load.settings.region ∙ sym (ap (λ (s : Settings). s.region) lent.settings_are) in
    let same : (k : ℕ) → k < dev.settings.servers → is_down_in dev k ≡ lost k = λ k lt.
    ap (λ (r : Replicas). is_down r k) lent.replicas_are ∙ down k (subst (λ (s : Settings). k < s.servers) lent.settings_are lt) in
    let inside : list_all (is_file_inside_without lost dev.settings.servers (size_in kind (stores dev))) x.files ≡ true =
    subst (λ sh. list_all (is_file_inside_without lost dev.settings.servers (size_in kind sh)) x.files ≡ true) (sym lent.stores_are)
    (subst (λ n. list_all (is_file_inside_without lost n (size_in kind shelf)) x.files ≡ true) servers load.taken.inside) in
    let small : (i : InodeId) (r : ℕ) (v : RegionValue) → w (Region i r) ≡ Some (value.Region v) → (r ≤ 4095) × (v.end ≤ x.header.region) = λ i r v there.
    let row = row_of (w (Region i r)) v (region_at x.files i r) there (load.store.map (Region i r)) in
    let found = row_found (is_small x.header.region) (is_good_file x.header.region) (small_file x.header.region) i r x.files row.0
    load.taken.tree.files row.1 in
    let two = and_parts (nat_le row.0.number 4095) (nat_le row.0.end x.header.region) found.0 in
    let end : v.end ≡ row.0.end = cc (row.2) in
    (subst (λ n. n ≤ 4095) (sym found.1) (leb-true _ _ two.0), subst (λ n. n ≤ x.header.region) (sym end) (leb-true _ _ two.1)) in
    record {
      inside = map_said (inside_left kind dev) any_slice x w load.store.map (λ i r v row at like.
          region_left kind (stores dev) dev.settings (is_down_in dev) lost same v row like
          (row_found (is_region_inside_without lost dev.settings.servers (size_in kind (stores dev)))
          (is_file_inside_without lost dev.settings.servers (size_in kind (stores dev))) (λ f h. h) i r x.files row inside at).0);
      few = λ i r v there. omega (arith, (small i r v there).0);
      ends = λ i r v there. subst (λ n. v.end ≤ n) region (small i r v there).1;
    }
