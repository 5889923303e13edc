-- What was loaded of an image has this image again: each of its files has just the regions that are read up to its last one.
use Rattle.std.proofs.Common.{◌≡◌, ℕ, zero, suc, ◌+◌, ◌<◌, ◌≤◌, Bool, true, false, cond, ◌&&◌, ltb, List, [], ◌∷◌, map, Option, None, Some, refl, sym, ap}
use Rattle.std.proofs.Common.{subst, ◌∙◌, IsSome, arith, inl, inr}
use Rattle.std.specs.List.{list_all, AllByRecursion}
use Rattle.std.specs.Option.{option_map}
use Rattle.std.specs.FinMap.Entries.{find}
use Rattle.std.specs.Ordering.{is_eq, nat_cmp}
use Rattle.std.proofs.lemmas.Bool.{cases_Bool, cases_lt, ltb-true, leb-true, lt-ltb, le-ltb}
use Rattle.wtf_base.specs.declared.ids.InodeId.{InodeId}
use Rattle.wtf_values.specs.Keys.{inode_cmp}
use Rattle.wtf_values.specs.declared.key.Key.{Key}
use Rattle.wtf_values.specs.declared.key.Key.TheVariants.{Inode, Region}
use Rattle.wtf_values.specs.declared.value.Node.{Node}
use Rattle.wtf_values.specs.declared.value.Value.{Value}
use Rattle.wtf_meta.specs.Maps.{Map, metadata_at}
use Rattle.wtf_image.specs.declared.loads.Loaded.{Loaded}
use Rattle.wtf_imagefmt.specs.declared.records.Version.TheVariants.{Two}
use Rattle.wtf_imagefmt.specs.Rows.{RegionRow, FileRow, ImageRows}
use Rattle.wtf_imagefmt.specs.Texts.{image_text}
use Rattle.wtf_imagefmt.specs.Shapes.{ascends, ascends_from, region_before, IsFileRow, IsImage}
use Rattle.wtf_imagefmt.specs.Lookups.{NodeIs, LastIs, plain, plain_region, node_at, last_at, place_cmp, region_entry, region_at, row_at}
use Rattle.wtf_image.specs.Rules.{is_before, is_good_region, is_good_file, AreGoodSettings, IsGoodTree}
use Rattle.wtf_image.specs.Outcome.{IsLoadWithout}
use Rattle.wtf_imagefmt.specs.Saving.{node_now, last_now, region_now, with_one, regions_below, file_with, file_at, Says, as_second, IsSaveOf}
use Rattle.wtf_image.specs.Savable.{AreBefore}
use Rattle.wtf_image.specs.Tables.{shown}
use Rattle.wtf_image.proofs.Counted.{inode_same}
use Rattle.wtf_image.proofs.SaveTree.{last_is}
use Rattle.wtf_image.proofs.SaveMap.{in_file, place_is, number_tie, number_same, number_off}

and_both : (p q : Bool) → (p && q) ≡ true → (p ≡ true) × (q ≡ true)
and_both true q h = (refl, h)
and_both false q h = absurd (cc)

-- ---- the regions of a list that rises

-- the region of a number
abbrev numbered : List RegionRow → ℕ → Option RegionRow
numbered [] r = None
numbered (x ∷ xs) r = cond (is_eq (nat_cmp r x.number)) (Some x) (numbered xs r)

-- those of numbers below k
abbrev below : ℕ → List RegionRow → List RegionRow
below k [] = []
below k (x ∷ xs) = cond (ltb x.number k) (x ∷ below k xs) (below k xs)

none_below : (k : ℕ) (x : RegionRow) (xs : List RegionRow) → ascends_from region_before x xs ≡ true → k ≤ x.number + 1 → below k xs ≡ []
none_below k x [] h le = refl
none_below k x (y ∷ ys) h le =
    let both = and_both _ _ h in
    let less : x.number < y.number = ltb-true _ _ both.0 in
    ap (λ b. cond b (y ∷ below k ys) (below k ys)) (le-ltb y.number k (omega arith)) ∙ none_below k y ys both.1 (omega arith)

none_numbered : (k : ℕ) (x : RegionRow) (xs : List RegionRow) → ascends_from region_before x xs ≡ true → k ≤ x.number → numbered xs k ≡ None
none_numbered k x [] h le = refl
none_numbered k x (y ∷ ys) h le =
    let both = and_both _ _ h in
    let less : x.number < y.number = ltb-true _ _ both.0 in
    ap (λ b. cond b (Some y) (numbered ys k)) (number_off k y.number (λ same. absurd (omega arith))) ∙ none_numbered k y ys both.1 (omega arith)

tail_ascends : (x : RegionRow) (ys : List RegionRow) → ascends_from region_before x ys ≡ true → ascends region_before ys ≡ true
tail_ascends x [] h = refl
tail_ascends x (y ∷ ys) h = (and_both _ _ h).1

with_behind : (x : RegionRow) (xs : List RegionRow) (o : Option RegionRow) → with_one (x ∷ xs) o ≡ x ∷ with_one xs o
with_behind x xs None = refl
with_behind x xs (Some y) = refl

-- those below k, and then the one of k, are those below the next number
one_more : (k : ℕ) (rs : List RegionRow) → ascends region_before rs ≡ true → with_one (below k rs) (numbered rs k) ≡ below (suc k) rs
one_more k [] h = refl
one_more k (x ∷ xs) h = elim (cases_lt x.number k) [
  | inl lt ↦ (
      let here : below k (x ∷ xs) ≡ x ∷ below k xs = ap (λ b. cond b (x ∷ below k xs) (below k xs)) (lt-ltb x.number k lt) in
      let next : below (suc k) (x ∷ xs) ≡ x ∷ below (suc k) xs =
      ap (λ b. cond b (x ∷ below (suc k) xs) (below (suc k) xs)) (lt-ltb x.number (suc k) (omega arith)) in
      let its : numbered (x ∷ xs) k ≡ numbered xs k = ap (λ b. cond b (Some x) (numbered xs k)) (number_off k x.number (λ same. absurd (omega arith))) in
      ap (λ l. with_one l (numbered (x ∷ xs) k)) here ∙ ap (with_one (x ∷ below k xs)) its ∙ with_behind x (below k xs) (numbered xs k)
      ∙ ap (λ l. x ∷ l) (one_more k xs (tail_ascends x xs h)) ∙ sym next)
  | inr le ↦ (
      let here : below k (x ∷ xs) ≡ [] = ap (λ b. cond b (x ∷ below k xs) (below k xs)) (le-ltb x.number k le) ∙ none_below k x xs h (omega arith) in
      elim (cases_lt k x.number) [
        | inl less ↦ (
            let next : below (suc k) (x ∷ xs) ≡ [] = ap (λ b. cond b (x ∷ below (suc k) xs) (below (suc k) xs)) (le-ltb x.number (suc k) (omega arith))
            ∙ none_below (suc k) x xs h (omega arith) in
            let its : numbered (x ∷ xs) k ≡ None = ap (λ b. cond b (Some x) (numbered xs k)) (number_off k x.number (λ same. absurd (omega arith)))
            ∙ none_numbered k x xs h (omega arith) in
            ap (λ l. with_one l (numbered (x ∷ xs) k)) here ∙ ap (with_one []) its ∙ sym next)
        | inr other ↦ (
            let same : k ≡ x.number = omega arith in
            let next : below (suc k) (x ∷ xs) ≡ x ∷ [] = ap (λ b. cond b (x ∷ below (suc k) xs) (below (suc k) xs)) (lt-ltb x.number (suc k) (omega arith))
            ∙ ap (λ l. x ∷ l) (none_below (suc k) x xs h (omega arith)) in
            let its : numbered (x ∷ xs) k ≡ Some x = ap (λ b. cond b (Some x) (numbered xs k))
            (ap (λ n. is_eq (nat_cmp n x.number)) same ∙ number_tie x.number) in
            ap (λ l. with_one l (numbered (x ∷ xs) k)) here ∙ ap (with_one []) its ∙ sym next)
      ])
]

none_yet : (rs : List RegionRow) → below 0 rs ≡ []
none_yet [] = refl
none_yet (x ∷ xs) = ap (λ b. cond b (x ∷ below 0 xs) (below 0 xs)) (le-ltb x.number 0 (omega arith)) ∙ none_yet xs

gathered : (now : ℕ → Option RegionRow) (rs : List RegionRow) → ascends region_before rs ≡ true → ((r : ℕ) → now r ≡ numbered rs r) → (k : ℕ)
    → regions_below now k ≡ below k rs
gathered now rs h is zero = sym (none_yet rs)
gathered now rs h is (suc k) = ap (λ l. with_one l (now k)) (gathered now rs h is k) ∙ ap (with_one (below k rs)) (is k) ∙ one_more k rs h

-- and none is of another number
all_below : (b last : ℕ) (rs : List RegionRow) → list_all (is_good_region b last) rs ≡ true → below (last + 1) rs ≡ rs
all_below b last [] h = refl
all_below b last (x ∷ xs) h =
    let both = and_both _ _ h in
    let le : x.number ≤ last = leb-true _ _ (and_both _ _ both.0).0 in
    ap (λ c. cond c (x ∷ below (last + 1) xs) (below (last + 1) xs)) (lt-ltb x.number (last + 1) (omega arith)) ∙ ap (λ l. x ∷ l) (all_below b last xs both.1)

-- ---- what the image says of a region of a file

number_of : (rs : List RegionRow) (r : ℕ) (row : RegionRow) → numbered rs r ≡ Some row → row.number ≡ r
number_of [] r row h = absurd (cc)
number_of (x ∷ xs) r row h = elim (cases_Bool (is_eq (nat_cmp r x.number))) [
  | inl tie ↦ (let is : Some x ≡ Some row = sym (ap (λ b. cond b (Some x) (numbered xs r)) tie) ∙ h in let it : x ≡ row = cc in
      ap (λ (y : RegionRow). y.number) (sym it) ∙ sym (number_same r x.number tie))
  | inr off ↦ number_of xs r row (sym (ap (λ b. cond b (Some x) (numbered xs r)) off) ∙ h)
]

found_is : (i : InodeId) (rs : List RegionRow) (r : ℕ) → find place_cmp (i, r) (map (region_entry i) rs) ≡ numbered rs r
found_is i [] r = refl
found_is i (x ∷ xs) r = ap (λ b. cond b (Some x) (find place_cmp (i, r) (map (region_entry i) xs))) (place_is i r x.number)
    ∙ ap (cond (is_eq (nat_cmp r x.number)) (Some x)) (found_is i xs r)

row_again : (r : ℕ) (o : Option RegionRow) → ((row : RegionRow) → o ≡ Some row → row.number ≡ r) → region_now r (option_map plain_region o) ≡ o
row_again r None is = refl
row_again r (Some row) is = ap (λ n. Some (record { number = n; end = row.end; base = row.base; entries = row.entries })) (sym (is row refl))

-- ---- a file

file_inode : (i : InodeId) (fs : List FileRow) (f : FileRow) → file_at fs i ≡ Some f → f.inode ≡ i
file_inode i [] f h = absurd (cc)
file_inode i (g ∷ fs) f h = elim (cases_Bool (is_eq (inode_cmp i g.inode))) [
  | inl tie ↦ (let is : Some g ≡ Some f = sym (ap (λ b. cond b (Some g) (file_at fs i)) tie) ∙ h in let it : g ≡ f = cc in
      ap (λ (x : FileRow). x.inode) (sym it) ∙ sym (inode_same i g.inode tie))
  | inr off ↦ file_inode i fs f (sym (ap (λ b. cond b (Some g) (file_at fs i)) off) ∙ h)
]

-- what holds of each file holds of the one that is found
of_file : (P : FileRow → Type 0) (i : InodeId) (fs : List FileRow) (f : FileRow) → AllByRecursion P fs → file_at fs i ≡ Some f → P f
of_file P i [] f all h = absurd (cc)
of_file P i (g ∷ fs) f all h = elim (cases_Bool (is_eq (inode_cmp i g.inode))) [
  | inl tie ↦ (let is : Some g ≡ Some f = sym (ap (λ b. cond b (Some g) (file_at fs i)) tie) ∙ h in let it : g ≡ f = cc in subst P it all.0)
  | inr off ↦ of_file P i fs f all.1 (sym (ap (λ b. cond b (Some g) (file_at fs i)) off) ∙ h)
]

all_of : (p : FileRow → Bool) (fs : List FileRow) → list_all p fs ≡ true → AllByRecursion (λ f. p f ≡ true) fs
all_of p [] h = tt
all_of p (f ∷ fs) h = let both = and_both _ _ h in (both.0, all_of p fs both.1)

node_again : (o : Option Node) → o ≡ node_now (option_map NodeIs o)
node_again None = refl
node_again (Some n) = refl

last_again : (o : Option ℕ) → o ≡ last_now (option_map LastIs o)
last_again None = refl
last_again (Some n) = refl

module _ (x : ImageRows) (form : IsImage x) (good : IsGoodTree x) where
  region_again : (i : InodeId) (f : FileRow) → file_at x.files i ≡ Some f → (r : ℕ) → region_now r (row_at x (Region i r)) ≡ numbered f.regions r
  region_again i f h r =
      let at : region_at x.files i r ≡ numbered f.regions r = in_file i r x.files f form.files.ascend h
      ∙ ap (λ j. find place_cmp (i, r) (map (region_entry j) f.regions)) (file_inode i x.files f h) ∙ found_is i f.regions r in
      ap (λ o. region_now r (option_map plain_region o)) at ∙ row_again r (numbered f.regions r) (number_of f.regions r)

  file_again : (i : InodeId) (o : Option FileRow) → file_at x.files i ≡ o → o ≡ option_map (file_with (row_at x) i) (option_map (λ f. f.last) o)
  file_again i None h = refl
  file_again i (Some f) h =
      let ascend : ascends region_before f.regions ≡ true = (of_file IsFileRow i x.files f form.files.each h).ascend in
      let its : is_good_file x.header.region f ≡ true = of_file (λ g. is_good_file x.header.region g ≡ true) i x.files f
      (all_of (is_good_file x.header.region) x.files good.files) h in
      let regions : regions_below (λ r. region_now r (row_at x (Region i r))) (f.last + 1) ≡ f.regions =
      gathered (λ r. region_now r (row_at x (Region i r))) f.regions ascend (region_again i f h) (f.last + 1)
      ∙ all_below x.header.region f.last f.regions (and_both _ _ (and_both _ _ its).1).0 in
      let inode : f.inode ≡ i = file_inode i x.files f h in
      λ j. Some (record { inode = inode j; last = f.last; regions = sym regions j })

  -- the image is that of what it says
  pub says_itself : Says (row_at x) x
  says_itself = record {
    paths = λ p. node_again (node_at x.paths p);
    files = λ i. file_again i (file_at x.files i) refl ∙ ap (option_map (file_with (row_at x) i)) (sym (last_is x.files i) ∙ last_again (last_at x.files i));
  }

-- ---- inodes of transactions before

last_before : (n : ℕ) (fs : List FileRow) (i : InodeId) (l : ℕ) → list_all (λ f. is_before n f.inode) fs ≡ true → last_at fs i ≡ Some l → i.tx.0 < n
last_before n [] i l all h = absurd (cc)
last_before n (f ∷ fs) i l all h = elim (cases_Bool (is_eq (inode_cmp i f.inode))) [
  | inl tie ↦ subst (λ (j : InodeId). j.tx.0 < n) (sym (inode_same i f.inode tie)) (ltb-true _ _ (and_both _ _ all).0)
  | inr off ↦ last_before n fs i l (and_both _ _ all).1 (sym (ap (λ b. cond b (Some f.last) (last_at fs i)) off) ∙ h)
]

some_last : (v : Option Value) (o : Option ℕ) → option_map plain v ≡ option_map LastIs o → IsSome v → (k : ℕ) × (o ≡ Some k)
some_last None o e h = absurd (cc)
some_last (Some v) None e h = absurd (cc)
some_last (Some v) (Some k) e h = (k, refl)

pub before_of : (x : ImageRows) (w : Map) → AreGoodSettings x → ((q : Key) → option_map plain (w q) ≡ row_at x q) → AreBefore x.header.next_tx w
before_of x w good is = λ i some.
    let last = some_last (w (Inode i)) (last_at x.files i) (is (Inode i)) some in
    last_before x.header.next_tx x.files i last.0 good.files last.1

-- ---- what was loaded

-- the same rows are the image of the store, its settings and its next transaction, and each of its inodes is of one before
pub saves_again : (lost : ℕ → Bool) (size : ℕ → ℕ → ℕ) (bytes : List ℕ) (l : Loaded) (load : IsLoadWithout lost size bytes l)
    → IsSaveOf l.kv l.settings l.next_tx (image_text (as_second load.rows))
saves_again lost size bytes l load = record {
  rows = as_second load.rows;
  text = record {
    shape = record { header = load.taken.text.shape.header; paths = load.taken.text.shape.paths; files = load.taken.text.shape.files };
    text = refl;
  };
  version = refl;
  header = λ j. record {
    servers = sym load.settings.servers j;
    replicas = sym load.settings.replicas j;
    region = sym load.settings.region j;
    installs = sym load.store.number j;
    next_tx = sym load.next_tx j;
  };
  says = record { paths = said.paths; files = said.files };
}
  where
    said : Says (shown l.kv) load.rows
    said = subst (λ m. Says m load.rows) (λ j q. sym (load.store.map q) j) (says_itself load.rows load.taken.text.shape load.taken.tree)

as_it_is : (x : ImageRows) → x.version ≡ Two → as_second x ≡ x
as_it_is x two = λ i. record { version = sym two i; header = x.header; paths = x.paths; files = x.files }

-- these are the bytes, where they are an image of the second version
pub saves_the_same : (lost : ℕ → Bool) (size : ℕ → ℕ → ℕ) (bytes : List ℕ) (l : Loaded) (load : IsLoadWithout lost size bytes l) → load.rows.version ≡ Two
    → IsSaveOf l.kv l.settings l.next_tx bytes
saves_the_same lost size bytes l load two =
    subst (IsSaveOf l.kv l.settings l.next_tx) (ap image_text (as_it_is load.rows two) ∙ sym load.taken.text.text) (saves_again lost size bytes l load)

pub loaded_before : (lost : ℕ → Bool) (size : ℕ → ℕ → ℕ) (bytes : List ℕ) (l : Loaded) → IsLoadWithout lost size bytes l
    → AreBefore l.next_tx (metadata_at l.kv l.kv.number)
loaded_before lost size bytes l load =
    subst (λ n. AreBefore n (metadata_at l.kv l.kv.number)) (sym load.next_tx)
    (before_of load.rows (metadata_at l.kv l.kv.number) load.taken.good load.store.map)
