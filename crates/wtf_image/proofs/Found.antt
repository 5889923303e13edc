-- What the seeds of an image have at each key: what the image says of it.
use Rattle.std.proofs.Common.{◌≡◌, ◌≢◌, ℕ, Bool, true, false, cond, ◌&&◌, List, [], ◌∷◌, ◌++◌, map, Option, None, Some, refl, sym, ap, ◌∙◌, inl, inr}
use Rattle.std.specs.List.{flat_map}
use Rattle.std.specs.Option.{option_map, option_or}
use Rattle.std.specs.FinMap.Entries.{find}
use Rattle.std.specs.Ordering.{eq_by_cmp, nat_cmp}
use Rattle.std.specs.Cmp.Lexicographic.{slice_cmp}
use Rattle.std.specs.BTreeMap.{is_at}
use Rattle.std.proofs.lemmas.Bool.{cases_Bool}
use Rattle.wtf_base.specs.declared.ids.InodeId.{InodeId}
use Rattle.wtf_values.specs.Keys.{key_cmp, inode_cmp}
use Rattle.wtf_values.specs.declared.key.Key.{Key}
use Rattle.wtf_values.specs.declared.key.Key.TheVariants.{Path, Dir, Inode, Region}
use Rattle.wtf_values.specs.declared.value.Node.{Node}
use Rattle.wtf_values.specs.declared.value.Node.TheVariants.{Folder, File}
use Rattle.wtf_values.proofs.KeyLaws.{at_none, at_same}
use Rattle.wtf_imagefmt.specs.declared.records.PathRecord.{PathRecord}
use Rattle.wtf_imagefmt.specs.Rows.{RegionRow, FileRow}
use Rattle.wtf_imagefmt.specs.Shapes.{ascends, ascends_from, path_before}
use Rattle.wtf_imagefmt.specs.Lookups.{Plain, NodeIs, NamesAre, LastIs, plain_region, node_at, names_under, names_of_node, last_at, place_cmp, region_entry}
use Rattle.wtf_imagefmt.specs.Lookups.{region_entries, region_at}
use Rattle.wtf_image.specs.Seeds.{Seed, path_seed, dir_seed_by, dir_seed, region_seed, file_seeds}
use Rattle.wtf_image.proofs.SeedLaws.{find-both}
use Rattle.wtf_image.proofs.Apart.{path_trans, path_differs, file_missing, region_missing, no_region}

-- ---- paths

pub path_found : (p : List ℕ) (rs : List PathRecord) → find key_cmp (Path p) (flat_map path_seed rs) ≡ option_map NodeIs (node_at rs p)
path_found p [] = refl
path_found p (r ∷ rs) =
    elim (eq_by_cmp (slice_cmp nat_cmp) p r.path) as (λ b. cond b (Some (NodeIs r.node)) (find key_cmp (Path p) (flat_map path_seed rs)) ≡ option_map NodeIs
    (cond b (Some r.node) (node_at rs p))) [
      | true ↦ refl
      | false ↦ path_found p rs
    ]

pub no_path : (q : Key) → ((p : List ℕ) → q ≢ Path p) → (rs : List PathRecord) → find key_cmp q (flat_map path_seed rs) ≡ None
no_path q off [] = refl
no_path q off (r ∷ rs) = ap (λ b. cond b (Some (NodeIs r.node)) (find key_cmp q (flat_map path_seed rs)))
    (at_none q (Path r.path) (off r.path)) ∙ no_path q off rs

-- ---- directories

and_both : (p q : Bool) → (p && q) ≡ true → (p ≡ true) × (q ≡ true)
and_both true q h = (refl, h)
and_both false q h = absurd (cc)

-- no path after another is the same
later_missing : (p w : PathRecord) (rs : List PathRecord) → path_before p w ≡ true → ascends_from path_before w rs ≡ true → node_at rs p.path ≡ None
later_missing p w [] first h = refl
later_missing p w (y ∷ ys) first h =
    let both = and_both _ _ h in
    let before = path_trans p w y first both.0 in
    ap (λ b. cond b (Some y.node) (node_at ys p.path)) (path_differs p y before) ∙ later_missing p y ys before both.1

pub missing_after : (p : PathRecord) (rs : List PathRecord) → ascends_from path_before p rs ≡ true → node_at rs p.path ≡ None
missing_after p [] h = refl
missing_after p (y ∷ ys) h =
    let both = and_both _ _ h in
    ap (λ b. cond b (Some y.node) (node_at ys p.path)) (path_differs p y both.0) ∙ later_missing p y ys both.0 both.1

pub tail_ascends : (x : PathRecord) (ys : List PathRecord) → ascends_from path_before x ys ≡ true → ascends path_before ys ≡ true
tail_ascends x [] h = refl
tail_ascends x (y ∷ ys) h = (and_both _ _ h).1

same_dir : (p q : List ℕ) → Dir p ≡ Dir q → p ≡ q
same_dir p q same = cc

module _ (all : List PathRecord) (p : List ℕ) where
  abbrev rest : List PathRecord → Option Plain
  rest rs = find key_cmp (Dir p) (flat_map (dir_seed all) rs)

  dir_step : (r : PathRecord) (rs : List PathRecord) (n : Node) → node_at rs r.path ≡ None → rest rs ≡ names_of_node (names_under p all) (node_at rs p)
      → find key_cmp (Dir p) (dir_seed_by (names_under r.path all) r.path n ++ flat_map (dir_seed all) rs)
      ≡ names_of_node (names_under p all) (cond (eq_by_cmp (slice_cmp nat_cmp) p r.path) (Some n) (node_at rs p))
  dir_step r rs Folder none so_far = elim (cases_Bool (is_at (key_cmp (Dir p)) (Dir r.path))) [
    | inl tie ↦ ap (λ b. cond b (Some (NamesAre (names_under r.path all))) (rest rs)) tie
        ∙ ap (λ d. Some (NamesAre (names_under d all))) (sym (same_dir p r.path (at_same (Dir p) (Dir r.path) tie)))
        ∙ sym (ap (λ b. names_of_node (names_under p all) (cond b (Some Folder) (node_at rs p))) tie)
    | inr off ↦ ap (λ b. cond b (Some (NamesAre (names_under r.path all))) (rest rs)) off ∙ so_far
        ∙ sym (ap (λ b. names_of_node (names_under p all) (cond b (Some Folder) (node_at rs p))) off)
  ]
  dir_step r rs (File i) none so_far = elim (cases_Bool (is_at (key_cmp (Dir p)) (Dir r.path))) [
    | inl tie ↦ so_far ∙ ap (λ d. names_of_node (names_under p all) (node_at rs d)) (same_dir p r.path (at_same (Dir p) (Dir r.path) tie))
        ∙ ap (names_of_node (names_under p all)) none
        ∙ sym (ap (λ b. names_of_node (names_under p all) (cond b (Some (File i)) (node_at rs p))) tie)
    | inr off ↦ so_far ∙ sym (ap (λ b. names_of_node (names_under p all) (cond b (Some (File i)) (node_at rs p))) off)
  ]

  pub dir_found : (rs : List PathRecord) → ascends path_before rs ≡ true
      → find key_cmp (Dir p) (flat_map (dir_seed all) rs) ≡ names_of_node (names_under p all) (node_at rs p)
  dir_found [] h = refl
  dir_found (r ∷ rs) h = dir_step r rs r.node (missing_after r rs h) (dir_found rs (tail_ascends r rs h))

no_dir_by : (q : Key) → ((p : List ℕ) → q ≢ Dir p) → (all : List PathRecord) (r : PathRecord) (n : Node) (more : List Seed) → find key_cmp q more ≡ None
    → find key_cmp q (dir_seed_by (names_under r.path all) r.path n ++ more) ≡ None
no_dir_by q off all r Folder more none = ap (λ b. cond b (Some (NamesAre (names_under r.path all))) (find key_cmp q more))
    (at_none q (Dir r.path) (off r.path)) ∙ none
no_dir_by q off all r (File i) more none = none

pub no_dir : (q : Key) → ((p : List ℕ) → q ≢ Dir p) → (all rs : List PathRecord) → find key_cmp q (flat_map (dir_seed all) rs) ≡ None
no_dir q off all [] = refl
no_dir q off all (r ∷ rs) = no_dir_by q off all r r.node (flat_map (dir_seed all) rs) (no_dir q off all rs)

-- ---- files

pub no_file : (q : Key) → ((i : InodeId) → q ≢ Inode i) → ((i : InodeId) (n : ℕ) → q ≢ Region i n) → (fs : List FileRow)
    → find key_cmp q (flat_map file_seeds fs) ≡ None
no_file q off_inode off_region [] = refl
no_file q off_inode off_region (f ∷ fs) =
    find-both key_cmp q (file_seeds f) (flat_map file_seeds fs)
    ∙ ap (λ o. option_or o (find key_cmp q (flat_map file_seeds fs)))
    (file_missing f q (λ same. off_inode f.inode (sym same)) (λ n same. off_region f.inode n (sym same)))
    ∙ no_file q off_inode off_region fs

pub inode_found : (i : InodeId) (fs : List FileRow) → find key_cmp (Inode i) (flat_map file_seeds fs) ≡ option_map LastIs (last_at fs i)
inode_found i [] = refl
inode_found i (f ∷ fs) =
    find-both key_cmp (Inode i) (file_seeds f) (flat_map file_seeds fs)
    ∙ elim (eq_by_cmp inode_cmp i f.inode) as (λ b. option_or
    (cond b (Some (LastIs f.last)) (find key_cmp (Inode i) (flat_map (region_seed f.inode) f.regions))) (find key_cmp (Inode i) (flat_map file_seeds fs))
    ≡ option_map LastIs (cond b (Some f.last) (last_at fs i))) [
      | true ↦ refl
      | false ↦ ap (λ o. option_or o (find key_cmp (Inode i) (flat_map file_seeds fs)))
          (region_missing f.inode (Inode i) (λ n. no_region f.inode i n) f.regions) ∙ inode_found i fs
    ]

regions_found : (i j : InodeId) (r : ℕ) (rs : List RegionRow)
    → find key_cmp (Region i r) (flat_map (region_seed j) rs) ≡ option_map plain_region (find place_cmp (i, r) (map (region_entry j) rs))
regions_found i j r [] = refl
regions_found i j r (x ∷ xs) =
    elim (eq_by_cmp place_cmp (i, r) (j, x.number)) as
    (λ b. cond b (Some (plain_region x)) (find key_cmp (Region i r) (flat_map (region_seed j) xs)) ≡ option_map plain_region
    (cond b (Some x) (find place_cmp (i, r) (map (region_entry j) xs)))) [
      | true ↦ refl
      | false ↦ regions_found i j r xs
    ]

or_mapped : (a b : Option RegionRow) → option_or (option_map plain_region a) (option_map plain_region b) ≡ option_map plain_region (option_or a b)
or_mapped None b = refl
or_mapped (Some x) b = refl

pub region_found : (i : InodeId) (r : ℕ) (fs : List FileRow) → find key_cmp (Region i r) (flat_map file_seeds fs) ≡ option_map plain_region (region_at fs i r)
region_found i r [] = refl
region_found i r (f ∷ fs) =
    let first : find key_cmp (Region i r) (file_seeds f) ≡ option_map plain_region (find place_cmp (i, r) (region_entries f)) =
    ap (λ b. cond b (Some (LastIs f.last)) (find key_cmp (Region i r) (flat_map (region_seed f.inode) f.regions)))
    (at_none (Region i r) (Inode f.inode) (no_region i f.inode r))
    ∙ regions_found i f.inode r f.regions in
    find-both key_cmp (Region i r) (file_seeds f) (flat_map file_seeds fs)
    ∙ ap (λ o. option_or o (find key_cmp (Region i r) (flat_map file_seeds fs))) first
    ∙ ap (option_or (option_map plain_region (find place_cmp (i, r) (region_entries f)))) (region_found i r fs)
    ∙ or_mapped (find place_cmp (i, r) (region_entries f)) (region_at fs i r)
    ∙ ap (option_map plain_region) (sym (find-both place_cmp (i, r) (region_entries f) (flat_map region_entries fs)))
