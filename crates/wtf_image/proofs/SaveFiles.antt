-- The files of metadata that can be saved: each is named by a path, and its regions are good.
use Rattle.std.proofs.Common.{◌≡◌, ℕ, zero, suc, ◌+◌, ◌<◌, Bool, true, false, cond, ◌&&◌, ◌||◌, eqb, ltb, leb, List, [], ◌∷◌, ◌++◌, Option, None, Some, refl}
use Rattle.std.proofs.Common.{sym, ap, subst, ◌∙◌, arith, inl, inr}
use Rattle.std.specs.List.{list_all, list_any, AllByRecursion}
use Rattle.std.specs.Option.{option_map}
use Rattle.std.specs.Ordering.{is_eq, is_lt}
use Rattle.std.specs.declared.cmp.Ordering.{Ordering}
use Rattle.std.specs.declared.cmp.Ordering.TheVariants.{Less, Equal, Greater}
use Rattle.std.proofs.lemmas.Bool.{cases_Bool, lt-ltb, le-leb, eqb-false}
use Rattle.wtf_base.specs.declared.ids.InodeId.{InodeId}
use Rattle.wtf_values.specs.Keys.{inode_cmp}
use Rattle.wtf_values.specs.declared.key.Key.TheVariants.{Inode, Region}
use Rattle.wtf_values.specs.declared.value.Node.TheVariants.{File}
use Rattle.wtf_values.proofs.KeyLaws.{at_itself}
use Rattle.wtf_spillfmt.proofs.Codecs.{some_is}
use Rattle.wtf_imagefmt.specs.declared.records.Version.TheVariants.{Two}
use Rattle.wtf_imagefmt.specs.Rows.{RegionRow, FileRow, ImageRows}
use Rattle.wtf_imagefmt.specs.Shapes.{ascends, ascends_from, file_before, IsImage}
use Rattle.wtf_imagefmt.specs.Lookups.{Plain, NodeIs, NamesAre, LastIs, RegionIs, CountIs, node_at, times_named}
use Rattle.wtf_image.specs.Rules.{is_named, is_before, is_good_region, is_last, is_good_file}
use Rattle.wtf_image.specs.Tables.{Shown}
use Rattle.wtf_imagefmt.specs.Saving.{node_now, last_now, region_now, with_one, regions_below, region_in, file_with, file_at, Says}
use Rattle.wtf_image.specs.Savable.{end_now, IsSavable}
use Rattle.wtf_image.proofs.Apart.{file_trans}
use Rattle.wtf_image.proofs.Counted.{inode_same, named_some}
use Rattle.wtf_imagefmt.proofs.Gathered.{region_numbered}
use Rattle.wtf_image.proofs.SaveTree.{all_from, all_weaker, some_value}

-- ---- files of a list that rises

and_both : (p q : Bool) → (p && q) ≡ true → (p ≡ true) × (q ≡ true)
and_both true q h = (refl, h)
and_both false q h = absurd (cc)

less_is : (o : Ordering) → is_lt o ≡ true → o ≡ Less
less_is Less e = refl
less_is Equal e = cc
less_is Greater e = cc

file_differs : (x y : FileRow) → file_before x y ≡ true → is_eq (inode_cmp x.inode y.inode) ≡ false
file_differs x y h = ap is_eq (less_is (inode_cmp x.inode y.inode) h)

file_later : (p w : FileRow) (fs : List FileRow) → file_before p w ≡ true → ascends_from file_before w fs ≡ true → file_at fs p.inode ≡ None
file_later p w [] first h = refl
file_later p w (y ∷ ys) first h =
    let both = and_both _ _ h in
    let before = file_trans p w y first both.0 in
    ap (λ b. cond b (Some y) (file_at ys p.inode)) (file_differs p y before) ∙ file_later p y ys before both.1

pub file_after : (p : FileRow) (fs : List FileRow) → ascends_from file_before p fs ≡ true → file_at fs p.inode ≡ None
file_after p [] h = refl
file_after p (y ∷ ys) h =
    let both = and_both _ _ h in
    ap (λ b. cond b (Some y) (file_at ys p.inode)) (file_differs p y both.0) ∙ file_later p y ys both.0 both.1

pub files_tail : (x : FileRow) (ys : List FileRow) → ascends_from file_before x ys ≡ true → ascends file_before ys ≡ true
files_tail x [] h = refl
files_tail x (y ∷ ys) h = (and_both _ _ h).1

pub inode_tie : (i : InodeId) → is_eq (inode_cmp i i) ≡ true
inode_tie i = at_itself (Inode i)

file_in : (r : FileRow) (fs : List FileRow) (i : InodeId) (f : FileRow) → ascends_from file_before r fs ≡ true → file_at fs i ≡ Some f
    → file_at (r ∷ fs) i ≡ Some f
file_in r fs i f h e = elim (cases_Bool (is_eq (inode_cmp i r.inode))) [
  | inl tie ↦ (let none : file_at fs i ≡ None = ap (file_at fs) (inode_same i r.inode tie) ∙ file_after r fs h in
      let bad : None ≡ Some f = sym none ∙ e in absurd (cc))
  | inr off ↦ ap (λ b. cond b (Some r) (file_at fs i)) off ∙ e
]

pub each_file : (fs : List FileRow) → ascends file_before fs ≡ true → AllByRecursion (λ f. file_at fs f.inode ≡ Some f) fs
each_file [] h = tt
each_file (r ∷ fs) h = (
  ap (λ b. cond b (Some r) (file_at fs r.inode)) (inode_tie r.inode),
  all_weaker (λ f. file_at fs f.inode ≡ Some f) (λ f. file_at (r ∷ fs) f.inode ≡ Some f) (λ f e. file_in r fs f.inode f h e) fs
      (each_file fs (files_tail r fs h)),
)

-- ---- regions

below_each : (now : ℕ → Option RegionRow) (P : RegionRow → Type 0) (n : ℕ) → ((r : ℕ) (row : RegionRow) → r < n → now r ≡ Some row → P row)
    → AllByRecursion P (regions_below now n)
below_each now P zero each = tt
below_each now P (suc n) each = one (regions_below now n) (now n) refl (below_each now P n (λ r row lt e. each r row (omega (arith, lt)) e))
  where
    join : (xs ys : List RegionRow) → AllByRecursion P xs → AllByRecursion P ys → AllByRecursion P (xs ++ ys)
    join [] ys h k = k
    join (x ∷ xs) ys h k = (h.0, join xs ys h.1 k)

    one : (xs : List RegionRow) (o : Option RegionRow) → now n ≡ o → AllByRecursion P xs → AllByRecursion P (with_one xs o)
    one xs None e h = h
    one xs (Some row) e h = join xs (row ∷ []) h (each n row (omega arith) e, tt)

region_end : (r : ℕ) (s : Option Plain) (row : RegionRow) → region_now r s ≡ Some row → row.end ≡ end_now s
region_end r None row e = absurd (cc)
region_end r (Some (NodeIs n)) row e = absurd (cc)
region_end r (Some (NamesAre names)) row e = absurd (cc)
region_end r (Some (CountIs n)) row e = absurd (cc)
region_end r (Some (LastIs n)) row e = absurd (cc)
region_end r (Some (RegionIs end base entries)) row e =
    let is : record { number = r; end = end; base = base; entries = entries } ≡ row =
    some_is (record { number = r; end = end; base = base; entries = entries }) row e in
    sym (ap (λ (x : RegionRow). x.end) is)

-- a region with bytes is there
there : (r : ℕ) (s : Option Plain) → 0 < end_now s → (row : RegionRow) × (region_now r s ≡ Some row)
there r None lt = absurd (omega (arith, lt))
there r (Some (NodeIs n)) lt = absurd (omega (arith, lt))
there r (Some (NamesAre names)) lt = absurd (omega (arith, lt))
there r (Some (CountIs n)) lt = absurd (omega (arith, lt))
there r (Some (LastIs n)) lt = absurd (omega (arith, lt))
there r (Some (RegionIs end base entries)) lt = (record { number = r; end = end; base = base; entries = entries }, refl)

any_last : (p : RegionRow → Bool) (xs : List RegionRow) (y : RegionRow) → p y ≡ true → list_any p (xs ++ y ∷ []) ≡ true
any_last p [] y h = ap (λ b. b || false) h
any_last p (x ∷ xs) y h = elim (p x) as (λ b. (b || list_any p (xs ++ y ∷ [])) ≡ true) [ true ↦ refl | false ↦ any_last p xs y h ]

or_right : (a b : Bool) → b ≡ true → (a || b) ≡ true
or_right true b h = refl
or_right false b h = h

eqb_is : (n : ℕ) → eqb n n ≡ true
eqb_is n = elim (cases_Bool (eqb n n)) [ inl h ↦ h | inr h ↦ absurd (omega (arith, eqb-false _ _ h)) ]

module _ (b next_tx : ℕ) (m : Shown) (savable : IsSavable b next_tx m) (x : ImageRows) (form : IsImage x) (says : Says m x) where
  from_last : (i : InodeId) (f : FileRow) (o : Option Plain) → option_map (file_with m i) (last_now o) ≡ Some f → (n : ℕ) × (o ≡ Some (LastIs n))
      × (file_with m i n ≡ f)
  from_last i f None e = absurd (cc)
  from_last i f (Some (NodeIs n)) e = absurd (cc)
  from_last i f (Some (NamesAre names)) e = absurd (cc)
  from_last i f (Some (CountIs n)) e = absurd (cc)
  from_last i f (Some (LastIs n)) e = (n, refl, some_is (file_with m i n) f e)
  from_last i f (Some (RegionIs end base entries)) e = absurd (cc)

  -- what each file's row is
  row_is : (f : FileRow) → file_at x.files f.inode ≡ Some f → (n : ℕ) × (m (Inode f.inode) ≡ Some (LastIs n)) × (file_with m f.inode n ≡ f)
  row_is f e = from_last f.inode f (m (Inode f.inode)) (sym (says.files f.inode) ∙ e)

  every_file : AllByRecursion (λ f. file_at x.files f.inode ≡ Some f) x.files
  every_file = each_file x.files form.files.ascend

  before_good : (f : FileRow) → file_at x.files f.inode ≡ Some f → is_before next_tx f.inode ≡ true
  before_good f e = let w = row_is f e in lt-ltb _ _ (savable.before f.inode (some_value (m (Inode f.inode)) (LastIs w.0) w.1))

  pub files_before_good : list_all (λ f. is_before next_tx f.inode) x.files ≡ true
  files_before_good = all_from (λ (f : FileRow). is_before next_tx f.inode) x.files
      (all_weaker (λ f. file_at x.files f.inode ≡ Some f) (λ f. is_before next_tx f.inode ≡ true) before_good x.files every_file)

  named_good : x.version ≡ Two → (f : FileRow) → file_at x.files f.inode ≡ Some f → is_named x.version x.paths f ≡ true
  named_good two f e =
      let w = row_is f e in
      let led = savable.led f.inode (some_value (m (Inode f.inode)) (LastIs w.0) w.1) in
      let here : node_at x.paths led.0 ≡ Some (File f.inode) = says.paths led.0 ∙ ap node_now led.1 in
      ap (λ v. is_named v x.paths f) two ∙ le-leb 1 (times_named x.paths f.inode) (named_some f.inode led.0 x.paths here)

  pub named_all : x.version ≡ Two → list_all (is_named x.version x.paths) x.files ≡ true
  named_all two =
      all_from (is_named x.version x.paths) x.files
      (all_weaker (λ f. file_at x.files f.inode ≡ Some f) (λ f. is_named x.version x.paths f ≡ true) (named_good two) x.files every_file)

  region_good : (i : InodeId) (n r : ℕ) (row : RegionRow) → r < n + 1 → region_in m i r ≡ Some row → is_good_region b n row ≡ true
  region_good i n r row lt e =
      let number = region_numbered r (m (Region i r)) row e in
      let end = region_end r (m (Region i r)) row e in
      ap (λ t. t && leb row.end b) (le-leb row.number n (omega (arith, lt, number))) ∙ le-leb row.end b (omega (arith, end, savable.ends i r))

  has_last : (i : InodeId) (n : ℕ) → 0 < end_now (m (Region i n)) → list_any (is_last n) (regions_below (region_in m i) (suc n)) ≡ true
  has_last i n lt =
      let row = there n (m (Region i n)) lt in
      let number = region_numbered n (m (Region i n)) row.0 row.1 in
      let end = region_end n (m (Region i n)) row.0 row.1 in
      let test : is_last n row.0 ≡ true = ap (λ k. eqb k n && ltb 0 row.0.end) number ∙ ap (λ t. t && ltb 0 row.0.end) (eqb_is n)
      ∙ lt-ltb 0 row.0.end (omega (arith, end, lt)) in
      ap (λ o. list_any (is_last n) (with_one (regions_below (region_in m i) n) o)) row.1 ∙ any_last (is_last n) (regions_below (region_in m i) n) row.0 test

  last_good : (i : InodeId) (n : ℕ) → (0 < n → 0 < end_now (m (Region i n))) → (eqb n 0 || list_any (is_last n) (regions_below (region_in m i) (n + 1))) ≡ true
  last_good i zero h = refl
  last_good i (suc k) h =
      let next : suc k + 1 ≡ suc (suc k) = omega arith in
      or_right (eqb (suc k) 0) (list_any (is_last (suc k)) (regions_below (region_in m i) (suc k + 1)))
      (ap (λ (c : ℕ). list_any (is_last (suc k)) (regions_below (region_in m i) c)) next ∙ has_last i (suc k) (h (omega arith)))

  file_with_good : (i : InodeId) (n : ℕ) → m (Inode i) ≡ Some (LastIs n) → is_good_file b (file_with m i n) ≡ true
  file_with_good i n e =
      let rs = regions_below (region_in m i) (n + 1) in
      let all : list_all (is_good_region b n) rs ≡ true =
      all_from (is_good_region b n) rs (below_each (region_in m i) (λ row. is_good_region b n row ≡ true) (n + 1) (region_good i n)) in
      ap (λ t. t && (list_all (is_good_region b n) rs && (eqb n 0 || list_any (is_last n) rs))) (le-leb n 4095 (omega (arith, savable.few i n e)))
      ∙ ap (λ t. t && (eqb n 0 || list_any (is_last n) rs)) all ∙ last_good i n (savable.bytes i n e)

  file_good : (f : FileRow) → file_at x.files f.inode ≡ Some f → is_good_file b f ≡ true
  file_good f e = let w = row_is f e in subst (λ g. is_good_file b g ≡ true) w.2 (file_with_good f.inode w.0 w.1)

  pub files_good : list_all (is_good_file b) x.files ≡ true
  files_good = all_from (is_good_file b) x.files (all_weaker (λ f. file_at x.files f.inode ≡ Some f)
      (λ f. is_good_file b f ≡ true) file_good x.files every_file)
