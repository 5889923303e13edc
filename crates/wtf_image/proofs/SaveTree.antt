-- The image of metadata that can be saved breaks no rule.
use Rattle.std.proofs.Common.{◌≡◌, ℕ, Bool, true, false, cond, ◌&&◌, List, [], ◌∷◌, Option, None, Some, is_some, IsSome, refl, sym, ap, subst, ◌∙◌, inl, inr}
use Rattle.std.specs.List.{list_all, AllByRecursion}
use Rattle.std.specs.Option.{option_map}
use Rattle.std.specs.Ordering.{is_eq, eq_by_cmp, nat_cmp}
use Rattle.std.specs.Cmp.Lexicographic.{slice_cmp}
use Rattle.std.proofs.lemmas.Bool.{cases_Bool, lt-ltb}
use Rattle.wtf_base.specs.declared.ids.InodeId.{InodeId}
use Rattle.wtf_model.specs.Tree.{root}
use Rattle.wtf_path.specs.Parts.{parent_of}
use Rattle.wtf_values.specs.Keys.{inode_cmp}
use Rattle.wtf_values.specs.declared.key.Key.TheVariants.{Path, Inode}
use Rattle.wtf_values.specs.declared.value.Node.{Node}
use Rattle.wtf_values.specs.declared.value.Node.TheVariants.{Folder, File}
use Rattle.wtf_values.proofs.KeyLaws.{at_itself, at_same}
use Rattle.wtf_imagefmt.specs.declared.records.PathRecord.{PathRecord}
use Rattle.wtf_imagefmt.specs.Rows.{FileRow, ImageRows}
use Rattle.wtf_imagefmt.specs.Shapes.{ascends, ascends_from, path_before, IsImage}
use Rattle.wtf_imagefmt.specs.Lookups.{Plain, NodeIs, NamesAre, LastIs, RegionIs, CountIs, node_at, last_at}
use Rattle.wtf_image.specs.Rules.{is_folder, is_in_folder, has_parent, is_recorded_node, is_recorded, is_node_before}
use Rattle.wtf_image.specs.Tables.{Shown}
use Rattle.wtf_imagefmt.specs.Saving.{node_now, last_now, file_with, file_at, Says}
use Rattle.wtf_image.specs.Savable.{IsNodeValue, IsLastValue, IsSavable}
use Rattle.wtf_image.proofs.Found.{missing_after, tail_ascends}

-- ---- each record of a list that rises is found under its own path

pub all_from : {A : Type 0} (p : A → Bool) (xs : List A) → AllByRecursion (λ x. p x ≡ true) xs → list_all p xs ≡ true
all_from p [] h = refl
all_from p (x ∷ xs) h = ap (λ b. b && list_all p xs) h.0 ∙ all_from p xs h.1

pub all_weaker : {A : Type 0} (F G : A → Type 0) → ((x : A) → F x → G x) → (xs : List A) → AllByRecursion F xs → AllByRecursion G xs
all_weaker F G w [] h = tt
all_weaker F G w (x ∷ xs) h = (w x h.0, all_weaker F G w xs h.1)

-- a path ties with itself
pub tie_itself : (p : List ℕ) → is_eq (slice_cmp nat_cmp p p) ≡ true
tie_itself p = at_itself (Path p)

pub tie_same : (p q : List ℕ) → is_eq (slice_cmp nat_cmp p q) ≡ true → p ≡ q
tie_same p q h = let same : Path p ≡ Path q = at_same (Path p) (Path q) h in cc

-- where the front does not have a path, what stands there is told by the rest
found_in : (r : PathRecord) (rs : List PathRecord) (p : List ℕ) (n : Node) → ascends_from path_before r rs ≡ true → node_at rs p ≡ Some n
    → node_at (r ∷ rs) p ≡ Some n
found_in r rs p n h e = elim (cases_Bool (is_eq (slice_cmp nat_cmp p r.path))) [
  | inl tie ↦ (let none : node_at rs p ≡ None = ap (node_at rs) (tie_same p r.path tie) ∙ missing_after r rs h in
      let bad : None ≡ Some n = sym none ∙ e in absurd (cc))
  | inr off ↦ ap (λ b. cond b (Some r.node) (node_at rs p)) off ∙ e
]

pub each_found : (rs : List PathRecord) → ascends path_before rs ≡ true → AllByRecursion (λ r. node_at rs r.path ≡ Some r.node) rs
each_found [] h = tt
each_found (r ∷ rs) h = (
  ap (λ b. cond b (Some r.node) (node_at rs r.path)) (tie_itself r.path),
  all_weaker (λ s. node_at rs s.path ≡ Some s.node) (λ s. node_at (r ∷ rs) s.path ≡ Some s.node) (λ s e. found_in r rs s.path s.node h e) rs
      (each_found rs (tail_ascends r rs h)),
)

-- ---- values of their kinds

node_kind : (o : Option Plain) → IsNodeValue o → option_map NodeIs (node_now o) ≡ o
node_kind None h = refl
node_kind (Some (NodeIs n)) h = refl
node_kind (Some (NamesAre names)) h = absurd h
node_kind (Some (CountIs n)) h = absurd h
node_kind (Some (LastIs n)) h = absurd h
node_kind (Some (RegionIs end base entries)) h = absurd h

last_kind : (o : Option Plain) → IsLastValue o → option_map LastIs (last_now o) ≡ o
last_kind None h = refl
last_kind (Some (NodeIs n)) h = absurd h
last_kind (Some (NamesAre names)) h = absurd h
last_kind (Some (CountIs n)) h = absurd h
last_kind (Some (LastIs n)) h = refl
last_kind (Some (RegionIs end base entries)) h = absurd h

-- ---- the rules of paths

pub some_value : {A : Type 0} (o : Option A) (x : A) → o ≡ Some x → IsSome o
some_value o x e = subst (λ o. IsSome o) (sym e) refl

-- the last of a file is told by its row
pub last_is : (fs : List FileRow) (i : InodeId) → last_at fs i ≡ option_map (λ f. f.last) (file_at fs i)
last_is [] i = refl
last_is (f ∷ fs) i = elim (eq_by_cmp inode_cmp i f.inode) as
    (λ b. cond b (Some f.last) (last_at fs i) ≡ option_map (λ (f : FileRow). f.last) (cond b (Some f) (file_at fs i))) [ true ↦ refl | false ↦ last_is fs i ]

last_of_file : (m : Shown) (i : InodeId) (o : Option ℕ) → option_map (λ (f : FileRow). f.last) (option_map (file_with m i) o) ≡ o
last_of_file m i None = refl
last_of_file m i (Some n) = refl

module _ (b next_tx : ℕ) (m : Shown) (savable : IsSavable b next_tx m) (x : ImageRows) (form : IsImage x) (says : Says m x) where
  -- what stands at a path, and a file's last region
  pub node_row : (p : List ℕ) → option_map NodeIs (node_at x.paths p) ≡ m (Path p)
  node_row p = ap (option_map NodeIs) (says.paths p) ∙ node_kind (m (Path p)) (savable.nodes p)

  last_row_is : (i : InodeId) → last_at x.files i ≡ last_now (m (Inode i))
  last_row_is i = last_is x.files i ∙ ap (option_map (λ (f : FileRow). f.last)) (says.files i) ∙ last_of_file m i (last_now (m (Inode i)))

  pub last_row : (i : InodeId) → option_map LastIs (last_at x.files i) ≡ m (Inode i)
  last_row i = ap (option_map LastIs) (last_row_is i) ∙ last_kind (m (Inode i)) (savable.lasts i)

  pub shown_node : (p : List ℕ) (n : Node) → node_at x.paths p ≡ Some n → m (Path p) ≡ Some (NodeIs n)
  shown_node p n e = sym (node_row p) ∙ ap (option_map NodeIs) e

  folder_at : (p : List ℕ) → m (Path p) ≡ Some (NodeIs Folder) → is_folder (node_at x.paths p) ≡ true
  folder_at p e = ap is_folder (says.paths p ∙ ap node_now e)

  in_folder : (p : List ℕ) → IsSome (m (Path p)) → (o : Option (List ℕ)) → parent_of p ≡ o → is_in_folder x.paths o ≡ true
  in_folder p there None e = refl
  in_folder p there (Some dir) e = folder_at dir (savable.parents p dir there e)

  parent_good : (r : PathRecord) → node_at x.paths r.path ≡ Some r.node → has_parent x.paths r ≡ true
  parent_good r e = in_folder r.path (some_value (m (Path r.path)) (NodeIs r.node) (shown_node r.path r.node e)) (parent_of r.path) refl

  pub all_found : AllByRecursion (λ r. node_at x.paths r.path ≡ Some r.node) x.paths
  all_found = each_found x.paths form.paths.ascend

  pub parents_good : list_all (has_parent x.paths) x.paths ≡ true
  parents_good = all_from (has_parent x.paths) x.paths
      (all_weaker (λ r. node_at x.paths r.path ≡ Some r.node) (λ r. has_parent x.paths r ≡ true) parent_good x.paths all_found)

  is_some-from : {A : Type 0} (o : Option A) → IsSome o → is_some o ≡ true
  is_some-from None h = absurd (cc)
  is_some-from (Some y) h = refl

  some_last : (i : InodeId) → is_some (last_at x.files i) ≡ is_some (m (Inode i))
  some_last i = mapped (last_at x.files i) ∙ ap is_some (last_row i)
    where
      mapped : (o : Option ℕ) → is_some o ≡ is_some (option_map LastIs o)
      mapped None = refl
      mapped (Some n) = refl

  node_recorded : (p : List ℕ) (n : Node) → m (Path p) ≡ Some (NodeIs n) → is_recorded_node x.files n ≡ true
  node_recorded p Folder e = refl
  node_recorded p (File i) e = some_last i ∙ is_some-from (m (Inode i)) (savable.recorded p i e)

  pub recorded_good : list_all (is_recorded x.files) x.paths ≡ true
  recorded_good = all_from (is_recorded x.files) x.paths
      (all_weaker (λ r. node_at x.paths r.path ≡ Some r.node) (λ r. is_recorded x.files r ≡ true)
      (λ r e. node_recorded r.path r.node (shown_node r.path r.node e)) x.paths all_found)

  pub top_good : is_folder (node_at x.paths root) ≡ true
  top_good = folder_at root savable.top

  node_good : (p : List ℕ) (n : Node) → m (Path p) ≡ Some (NodeIs n) → is_node_before next_tx n ≡ true
  node_good p Folder e = refl
  node_good p (File i) e = lt-ltb _ _ (savable.before i (savable.recorded p i e))

  pub paths_before_good : list_all (λ r. is_node_before next_tx r.node) x.paths ≡ true
  paths_before_good = all_from (λ (r : PathRecord). is_node_before next_tx r.node) x.paths
      (all_weaker (λ r. node_at x.paths r.path ≡ Some r.node) (λ r. is_node_before next_tx r.node ≡ true)
      (λ r e. node_good r.path r.node (shown_node r.path r.node e)) x.paths all_found)
