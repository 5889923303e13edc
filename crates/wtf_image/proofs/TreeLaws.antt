-- The rules of a tree, tried by what a store shows.
use Rattle.std.proofs.Common.{◌≡◌, ℕ, Bool, true, false, List, [], ◌∷◌, Option, None, Some, is_some, refl, sym, ap, ◌∙◌, ◌&&◌, MatchBool}
use Rattle.std.specs.List.{list_all}
use Rattle.std.specs.Option.{option_map}
use Rattle.std.proofs.lemmas.Bool.{both_ways}
use Rattle.wtf_base.specs.declared.ids.InodeId.{InodeId}
use Rattle.wtf_model.specs.Tree.{root}
use Rattle.wtf_path.specs.Parts.{parent_of}
use Rattle.wtf_values.specs.declared.key.Key.TheVariants as keys
use Rattle.wtf_values.specs.declared.value.Node.{Node}
use Rattle.wtf_values.specs.declared.value.Node.TheVariants.{Folder, File}
use Rattle.wtf_imagefmt.specs.declared.records.PathRecord.{PathRecord}
use Rattle.wtf_imagefmt.specs.Rows.{FileRow, ImageRows}
use Rattle.wtf_imagefmt.specs.Lookups.{NodeIs, LastIs, node_at, last_at}
use Rattle.wtf_image.specs.Rules.{is_folder, is_in_folder, has_parent, is_named_times, is_named, is_recorded_node, is_recorded, is_good_file, IsGoodTree}
use Rattle.wtf_image.specs.Tables.{AreCounts, count_in, Shown, ShowsRows, is_shown_folder, is_shown_in, has_shown_parent, is_shown_node}

all_same : {A : Type 0} (p q : A → Bool) → ((x : A) → p x ≡ q x) → (xs : List A) → list_all p xs ≡ list_all q xs
all_same p q same [] = refl
all_same p q same (x ∷ xs) = ap (λ b. b && list_all p xs) (same x) ∙ ap (λ b. q x && b) (all_same p q same xs)

folder_is : (o : Option Node) → is_shown_folder (option_map NodeIs o) ≡ is_folder o
folder_is None = refl
folder_is (Some Folder) = refl
folder_is (Some (File i)) = refl

some_is : (o : Option ℕ) → is_some (option_map LastIs o) ≡ is_some o
some_is None = refl
some_is (Some n) = refl

module _ (m : Shown) (x : ImageRows) (shows : ShowsRows m x.paths x.files) where
  pub top_is : is_shown_folder (m (keys.Path root)) ≡ is_folder (node_at x.paths root)
  top_is = ap is_shown_folder (shows.nodes root) ∙ folder_is (node_at x.paths root)

  parent_is : (o : Option (List ℕ)) → is_shown_in m o ≡ is_in_folder x.paths o
  parent_is None = refl
  parent_is (Some dir) = ap is_shown_folder (shows.nodes dir) ∙ folder_is (node_at x.paths dir)

  pub parents_are : list_all (has_shown_parent m) x.paths ≡ list_all (has_parent x.paths) x.paths
  parents_are = all_same (has_shown_parent m) (has_parent x.paths) (λ r. parent_is (parent_of r.path)) x.paths

  node_is : (n : Node) → is_shown_node m n ≡ is_recorded_node x.files n
  node_is Folder = refl
  node_is (File i) = ap is_some (shows.lasts i) ∙ some_is (last_at x.files i)

  pub recorded_are : list_all (λ r. is_shown_node m r.node) x.paths ≡ list_all (is_recorded x.files) x.paths
  recorded_are = all_same (λ (r : PathRecord). is_shown_node m r.node) (is_recorded x.files) (λ r. node_is r.node) x.paths

pub named_are : (x : ImageRows) (counts : List (InodeId × ℕ)) → AreCounts counts x.paths
    → list_all (λ f. is_named_times x.version (count_in counts f.inode)) x.files ≡ list_all (is_named x.version x.paths) x.files
named_are x counts is =
    all_same (λ (f : FileRow). is_named_times x.version (count_in counts f.inode)) (is_named x.version x.paths)
    (λ f. ap (is_named_times x.version) (is f.inode)) x.files

pub tree_is : (x : ImageRows) → is_folder (node_at x.paths root) ≡ true → list_all (has_parent x.paths) x.paths ≡ true
    → list_all (is_recorded x.files) x.paths ≡ true → list_all (is_named x.version x.paths) x.files ≡ true
    → (b : Bool) → b ≡ list_all (is_good_file x.header.region) x.files → MatchBool b (IsGoodTree x) (IsGoodTree x → ⊥)
tree_is x top parents recorded named true is = record { top = top; parents = parents; recorded = recorded; named = named; files = sym is }
tree_is x top parents recorded named false is = λ good. both_ways _ (sym is) good.files
