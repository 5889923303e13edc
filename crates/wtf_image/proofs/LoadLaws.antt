-- A store that was given the seeds of an image is what the image says.
use Rattle.std.proofs.Common.{◌≡◌, ◌≢◌, ℕ, true, cond, List, [], ◌∷◌, Option, None, Some, Result, Ok, sym, ap, subst, ◌∙◌, arith}
use Rattle.std.specs.List.{flat_map, list_all}
use Rattle.std.specs.Option.{option_map}
use Rattle.std.specs.FinMap.Entries.{find}
use Rattle.std.proofs.lemmas.Bool.{le-leb}
use Rattle.wtf_base.specs.declared.ids.InodeId.{InodeId}
use Rattle.wtf_kv.specs.Seen.{last_seen, value_seen}
use Rattle.wtf_kv.specs.Stores.{Store, versions_of}
use Rattle.wtf_values.specs.Keys.{key_cmp}
use Rattle.wtf_values.specs.declared.key.Key.{Key}
use Rattle.wtf_values.specs.declared.key.Key.TheVariants.{Path, Dir, Inode, Region, Links}
use Rattle.wtf_values.specs.declared.value.Value.{Value}
use Rattle.wtf_imagefmt.specs.Rows.{ImageRows}
use Rattle.wtf_imagefmt.specs.Shapes.{ascends, path_before}
use Rattle.wtf_imagefmt.specs.Lookups.{Plain, plain, times_named, row_at}
use Rattle.wtf_image.specs.Seeds.{Seed, Adds, path_seed, dir_seed, file_seeds, count_seed}
use Rattle.wtf_image.specs.Rules.{is_recorded}
use Rattle.wtf_image.specs.Tables.{shown}
use Rattle.wtf_image.specs.Loading.{IsSeededBy, row_but_names, IsPartly, IsLoaded}
use Rattle.wtf_image.proofs.Counted.{no_count, count_said}
use Rattle.wtf_image.proofs.Found.{path_found, no_path, dir_found, no_dir, no_file, inode_found, region_found}

abbrev S : Type 0
S = Store Key Value

seeded_case : (a b : S) (s : List Seed) (q : Key) → Adds a b s → versions_of key_cmp a q ≡ [] → (o : Option Plain) → find key_cmp q s ≡ o
    → IsSeededBy a.number (versions_of key_cmp b q) o
seeded_case a b s q adds fresh None e = adds.others q e ∙ fresh
seeded_case a b s q adds fresh (Some x) e = adds.seeded q x e

-- a fresh key gets just its seed
seeded_by : (a b : S) (s : List Seed) (q : Key) (r : Option Plain) → Adds a b s → versions_of key_cmp a q ≡ [] → find key_cmp q s ≡ r
    → IsSeededBy b.number (versions_of key_cmp b q) r
seeded_by a b s q r adds fresh e = subst (λ n. IsSeededBy n (versions_of key_cmp b q) r) (sym adds.number) (seeded_case a b s q adds fresh r e)

-- another key stays
stays : (a b : S) (s : List Seed) (q : Key) (r : Option Plain) → Adds a b s → find key_cmp q s ≡ None → IsSeededBy a.number (versions_of key_cmp a q) r
    → IsSeededBy b.number (versions_of key_cmp b q) r
stays a b s q r adds none so =
    subst (λ n. IsSeededBy n (versions_of key_cmp b q) r) (sym adds.number) (subst (λ vs. IsSeededBy a.number vs r) (sym (adds.others q none)) so)

seen_once : (n : ℕ) (v : Value) → value_seen (last_seen n ((n, Some v) ∷ [])) ≡ Some v
seen_once n v = ap (λ b. value_seen (cond b (Some (n, Some v)) None)) (le-leb n n (omega arith))

-- what a store shows of a key
pub shown_is : (kv : S) (q : Key) (r : Option Plain) → IsSeededBy kv.number (versions_of key_cmp kv q) r → shown kv q ≡ r
shown_is kv q None none = ap (λ vs. option_map plain (value_seen (last_seen kv.number vs))) none
shown_is kv q (Some s) only =
    ap (λ vs. option_map plain (value_seen (last_seen kv.number vs))) only.version ∙ ap (option_map plain) (seen_once kv.number only.value)
    ∙ ap (λ x. Some x) only.is

-- a store that was started has no version
pub started : {E : Type 0} (kv : S) (n : ℕ) (r : Result S E) → r ≡ Ok kv → r ≡ Ok (record { number = n; pins = []; cells = [] }) → (kv.number ≡ n)
    × ((q : Key) → versions_of key_cmp kv q ≡ [])
started kv n r was made =
    let is : kv ≡ record { number = n; pins = []; cells = [] } = cc in
    (ap (λ (s : S). s.number) is, λ q. ap (λ (s : S). versions_of key_cmp s q) is)

path_inode : (p : List ℕ) (i : InodeId) → Path p ≢ Inode i
path_inode p i same = absurd (cc)

path_region : (p : List ℕ) (i : InodeId) (n : ℕ) → Path p ≢ Region i n
path_region p i n same = absurd (cc)

dir_inode : (p : List ℕ) (i : InodeId) → Dir p ≢ Inode i
dir_inode p i same = absurd (cc)

dir_region : (p : List ℕ) (i : InodeId) (n : ℕ) → Dir p ≢ Region i n
dir_region p i n same = absurd (cc)

dir_path : (p q : List ℕ) → Dir p ≢ Path q
dir_path p q same = absurd (cc)

inode_path : (i : InodeId) (q : List ℕ) → Inode i ≢ Path q
inode_path i q same = absurd (cc)

region_path : (i : InodeId) (n : ℕ) (q : List ℕ) → Region i n ≢ Path q
region_path i n q same = absurd (cc)

path_dir : (p q : List ℕ) → Path p ≢ Dir q
path_dir p q same = absurd (cc)

inode_dir : (i : InodeId) (q : List ℕ) → Inode i ≢ Dir q
inode_dir i q same = absurd (cc)

region_dir : (i : InodeId) (n : ℕ) (q : List ℕ) → Region i n ≢ Dir q
region_dir i n q same = absurd (cc)

links_path : (i : InodeId) (q : List ℕ) → Links i ≢ Path q
links_path i q same = absurd (cc)

links_dir : (i : InodeId) (q : List ℕ) → Links i ≢ Dir q
links_dir i q same = absurd (cc)

links_inode : (i j : InodeId) → Links i ≢ Inode j
links_inode i j same = absurd (cc)

links_region : (i j : InodeId) (n : ℕ) → Links i ≢ Region j n
links_region i j n same = absurd (cc)

path_links : (p : List ℕ) (i : InodeId) → Path p ≢ Links i
path_links p i same = absurd (cc)

dir_links : (p : List ℕ) (i : InodeId) → Dir p ≢ Links i
dir_links p i same = absurd (cc)

inode_links : (j i : InodeId) → Inode j ≢ Links i
inode_links j i same = absurd (cc)

region_links : (j : InodeId) (n : ℕ) (i : InodeId) → Region j n ≢ Links i
region_links j n i same = absurd (cc)

pub no_path_yet : (x : ImageRows) (a b : S) → ((q : Key) → versions_of key_cmp a q ≡ []) → Adds a b (flat_map file_seeds x.files) → (p : List ℕ)
    → versions_of key_cmp b (Path p) ≡ []
no_path_yet x a b fresh files p = files.others (Path p) (no_file (Path p) (path_inode p) (path_region p) x.files) ∙ fresh (Path p)

module _ (x : ImageRows) (a b c : S) (number : a.number ≡ x.header.installs) (fresh : (q : Key) → versions_of key_cmp a q ≡ [])
    (files : Adds a b (flat_map file_seeds x.files)) (paths : Adds b c (flat_map path_seed x.paths)) where
  no_dir_yet : (p : List ℕ) → versions_of key_cmp c (Dir p) ≡ []
  no_dir_yet p = paths.others (Dir p) (no_path (Dir p) (dir_path p) x.paths)
      ∙ files.others (Dir p) (no_file (Dir p) (dir_inode p) (dir_region p) x.files) ∙ fresh (Dir p)

  no_count_yet : (i : InodeId) → versions_of key_cmp c (Links i) ≡ []
  no_count_yet i = paths.others (Links i) (no_path (Links i) (links_path i) x.paths)
      ∙ files.others (Links i) (no_file (Links i) (links_inode i) (links_region i) x.files) ∙ fresh (Links i)

  each_but_names : (q : Key) → IsSeededBy c.number (versions_of key_cmp c q) (row_but_names x q)
  each_but_names (Path p) = seeded_by b c (flat_map path_seed x.paths) (Path p) (row_at x (Path p)) paths (no_path_yet x a b fresh files p)
      (path_found p x.paths)
  each_but_names (Dir p) = no_dir_yet p
  each_but_names (Inode i) =
      stays b c (flat_map path_seed x.paths) (Inode i) (row_at x (Inode i)) paths (no_path (Inode i) (inode_path i) x.paths)
      (seeded_by a b (flat_map file_seeds x.files) (Inode i) (row_at x (Inode i)) files (fresh (Inode i)) (inode_found i x.files))
  each_but_names (Region i r) =
      stays b c (flat_map path_seed x.paths) (Region i r) (row_at x (Region i r)) paths (no_path (Region i r) (region_path i r) x.paths)
      (seeded_by a b (flat_map file_seeds x.files) (Region i r) (row_at x (Region i r)) files (fresh (Region i r)) (region_found i r x.files))
  each_but_names (Links i) = no_count_yet i

  pub is_partly : IsPartly x c
  is_partly = record {
    number = paths.number ∙ files.number ∙ number;
    pins = paths.pins;
    rows = record {
      nodes = λ p. shown_is c (Path p) (row_at x (Path p)) (each_but_names (Path p));
      lasts = λ i. shown_is c (Inode i) (row_at x (Inode i)) (each_but_names (Inode i));
    };
    versions = each_but_names;
    no_dirs = no_dir_yet;
    no_counts = no_count_yet;
  }

module _ (x : ImageRows) {b c d : S} (partly : IsPartly x b) (ascend : ascends path_before x.paths ≡ true)
    (recorded : list_all (is_recorded x.files) x.paths ≡ true)
    (names : Adds b c (flat_map (dir_seed x.paths) x.paths)) (counts : Adds c d (flat_map (count_seed (times_named x.paths)) x.files)) where
  with_names : (q : Key) → ((p : List ℕ) → q ≢ Dir p) → IsSeededBy b.number (versions_of key_cmp b q) (row_at x q)
      → IsSeededBy c.number (versions_of key_cmp c q) (row_at x q)
  with_names q off so = stays b c (flat_map (dir_seed x.paths) x.paths) q (row_at x q) names (no_dir q off x.paths x.paths) so

  with_counts : (q : Key) → ((i : InodeId) → q ≢ Links i) → IsSeededBy c.number (versions_of key_cmp c q) (row_at x q)
      → IsSeededBy d.number (versions_of key_cmp d q) (row_at x q)
  with_counts q off so =
      stays c d (flat_map (count_seed (times_named x.paths)) x.files) q (row_at x q) counts (no_count q off (times_named x.paths) x.files) so

  each : (q : Key) → IsSeededBy d.number (versions_of key_cmp d q) (row_at x q)
  each (Path p) = with_counts (Path p) (path_links p) (with_names (Path p) (path_dir p) (partly.versions (Path p)))
  each (Dir p) = with_counts (Dir p) (dir_links p)
      (seeded_by b c (flat_map (dir_seed x.paths) x.paths) (Dir p) (row_at x (Dir p)) names (partly.no_dirs p) (dir_found x.paths p x.paths ascend))
  each (Inode i) = with_counts (Inode i) (inode_links i) (with_names (Inode i) (inode_dir i) (partly.versions (Inode i)))
  each (Region i r) = with_counts (Region i r) (region_links i r) (with_names (Region i r) (region_dir i r) (partly.versions (Region i r)))
  each (Links i) =
      seeded_by c d (flat_map (count_seed (times_named x.paths)) x.files) (Links i) (row_at x (Links i)) counts
      (names.others (Links i) (no_dir (Links i) (links_dir i) x.paths x.paths) ∙ partly.no_counts i) (count_said x i recorded)

  pub is_loaded : IsLoaded x d
  is_loaded = record {
    number = counts.number ∙ names.number ∙ partly.number;
    pins = counts.pins;
    versions = each;
    map = λ q. shown_is d q (row_at x q) (each q);
  }

-- the store has no number of paths yet when the directories have their names
pub counts_fresh : (x : ImageRows) (b c : S) → IsPartly x b → Adds b c (flat_map (dir_seed x.paths) x.paths) → (i : InodeId)
    → versions_of key_cmp c (Links i) ≡ []
counts_fresh x b c partly names i = names.others (Links i) (no_dir (Links i) (links_dir i) x.paths x.paths) ∙ partly.no_counts i
