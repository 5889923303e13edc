-- What a map that stands for a tree says of paths is what the definitions ask of the tree; and it rests on the recorded keys.
use Rattle.std.proofs.Common.{◌≡◌, ℕ, Bool, true, false, cond, List, [], ◌∷◌, Option, None, Some, Result, Ok, Err, refl, sym, ap, ◌∙◌, subst}
use Rattle.std.specs.Prelude.{bytes_eq}
use Rattle.std.specs.FinMap.{get}
use Rattle.std.proofs.lemmas.Slice.Eq.{bytes_eq-Decides}
use Rattle.wtf_base.specs.declared.ids.InodeId.{InodeId}
use Rattle.wtf_kv.specs.Edits.{Agree}
use Rattle.wtf_path.specs.Grammar.{IsPath, spelling}
use Rattle.wtf_path.specs.Parts.{names_of, parent_with, parent_of}
use Rattle.wtf_path.proofs.Refused.{parts_of-join}
use Rattle.wtf_model.specs.declared.answer.Word.{Word}
use Rattle.wtf_model.specs.Tree as model
use Rattle.wtf_model.specs.Tree.{Tree, TreeNode, Dir, File, root, ◌>>=◌, is_parent, is_free, is_directory, bytes_of, target}
use Rattle.wtf_model.proofs.TreeLaws.{IsFree, IsFree-target}
use Rattle.wtf_values.specs.declared.key.Key.TheVariants.{Path, Dir as DirKey}
use Rattle.wtf_values.specs.declared.value.Node.{Node}
use Rattle.wtf_values.specs.declared.value.Node.TheVariants.{Folder, File as FileNode}
use Rattle.wtf_values.specs.declared.value.Value.{Value}
use Rattle.wtf_values.specs.declared.value.Value.TheVariants as value
use Rattle.wtf_values.specs.Names.{NamesOf}
use Rattle.wtf_meta.specs.Maps.{Map}
use Rattle.wtf_meta.specs.Contents.{Told}
use Rattle.wtf_meta.specs.Trees.{NodeAt, LeadsTo, IsListing, Stands}
use Rattle.wtf_meta.specs.NameEdits.{node_of, names_at}
use Rattle.wtf_meta.proofs.Nodes.{node_of-is, node-folder, names-listed}
use Rattle.wtf_index.specs.Checks.{stands_at, names_of_dir, as_parent, as_free, as_directory, as_file, target_in, target_of, source_of, directory_of}
use Rattle.wtf_index.specs.Recorded.{if_folder, target_keys_in, target_keys, directory_keys, source_keys, rmdir_keys}

-- the root alone has no parent
pub no-parent : (p : List ℕ) → IsPath p → parent_of p ≡ None → p ≡ root
no-parent p path none = path.spelled ∙ bare path.names (sym (ap parent_with (ap names_of path.spelled ∙ parts_of-join path.names path.each)) ∙ none)
  where
    bare : (ns : List (List ℕ)) → parent_with ns ≡ None → spelling ns ≡ root
    bare [] e = refl
    bare (n ∷ ns) e = absurd (cc)

pub inner : (p dir : List ℕ) → parent_of p ≡ Some dir → bytes_eq p root ≡ false
inner p dir up = not_true (bytes_eq p root) (λ h. none_some (sym (ap parent_of ((bytes_eq-Decides p root).0 h)) ∙ up))
  where
    not_true : (b : Bool) → (b ≡ true → ⊥) → b ≡ false
    not_true true h = absurd (h refl)
    not_true false h = refl

    none_some : None ≡ Some dir → ⊥
    none_some e = cc

pub rmdir_keys-inner : (w : Map) (p dir : List ℕ) → parent_of p ≡ Some dir → rmdir_keys w p ≡ directory_keys w p
rmdir_keys-inner w p dir up = ap (λ b. cond b [] (directory_keys w p)) (inner p dir up)

pub rmdir_keys-root : (w : Map) (p : List ℕ) → IsPath p → parent_of p ≡ None → rmdir_keys w p ≡ []
rmdir_keys-root w p path none = ap (λ b. cond b [] (directory_keys w p)) ((bytes_eq-Decides p root).1 (no-parent p path none))

module _ (b : ℕ) (told : Told) (w : Map) where
  parent-is : (v : Option Value) (o : Option TreeNode) → NodeAt b told w v o → as_parent (node_of v) ≡ is_parent o
  parent-is None None at = refl
  parent-is None (Some Dir) at = absurd at
  parent-is None (Some (File paths bytes)) at = absurd at
  parent-is (Some (value.Node Folder)) None at = absurd at
  parent-is (Some (value.Node Folder)) (Some Dir) at = refl
  parent-is (Some (value.Node Folder)) (Some (File paths bytes)) at = absurd at
  parent-is (Some (value.Node (FileNode i))) None at = absurd at
  parent-is (Some (value.Node (FileNode i))) (Some Dir) at = absurd at
  parent-is (Some (value.Node (FileNode i))) (Some (File paths bytes)) at = refl
  parent-is (Some (value.Names s)) o at = absurd at
  parent-is (Some (value.Last r)) o at = absurd at
  parent-is (Some (value.Count n)) o at = absurd at
  parent-is (Some (value.Region g)) o at = absurd at

  free-is : (v : Option Value) (o : Option TreeNode) → NodeAt b told w v o → as_free (node_of v) ≡ is_free o
  free-is None None at = refl
  free-is None (Some Dir) at = absurd at
  free-is None (Some (File paths bytes)) at = absurd at
  free-is (Some (value.Node Folder)) None at = absurd at
  free-is (Some (value.Node Folder)) (Some Dir) at = refl
  free-is (Some (value.Node Folder)) (Some (File paths bytes)) at = absurd at
  free-is (Some (value.Node (FileNode i))) None at = absurd at
  free-is (Some (value.Node (FileNode i))) (Some Dir) at = absurd at
  free-is (Some (value.Node (FileNode i))) (Some (File paths bytes)) at = refl
  free-is (Some (value.Names s)) o at = absurd at
  free-is (Some (value.Last r)) o at = absurd at
  free-is (Some (value.Count n)) o at = absurd at
  free-is (Some (value.Region g)) o at = absurd at

  directory-is : (v : Option Value) (o : Option TreeNode) → NodeAt b told w v o → as_directory (node_of v) ≡ is_directory o
  directory-is None None at = refl
  directory-is None (Some Dir) at = absurd at
  directory-is None (Some (File paths bytes)) at = absurd at
  directory-is (Some (value.Node Folder)) None at = absurd at
  directory-is (Some (value.Node Folder)) (Some Dir) at = refl
  directory-is (Some (value.Node Folder)) (Some (File paths bytes)) at = absurd at
  directory-is (Some (value.Node (FileNode i))) None at = absurd at
  directory-is (Some (value.Node (FileNode i))) (Some Dir) at = absurd at
  directory-is (Some (value.Node (FileNode i))) (Some (File paths bytes)) at = refl
  directory-is (Some (value.Names s)) o at = absurd at
  directory-is (Some (value.Last r)) o at = absurd at
  directory-is (Some (value.Count n)) o at = absurd at
  directory-is (Some (value.Region g)) o at = absurd at

  file-refused : (word : Word) (v : Option Value) (o : Option TreeNode) → NodeAt b told w v o → as_file (node_of v) ≡ Err word → bytes_of o ≡ Err word
  file-refused word None None at e = cc
  file-refused word None (Some Dir) at e = absurd at
  file-refused word None (Some (File paths bytes)) at e = absurd at
  file-refused word (Some (value.Node Folder)) None at e = absurd at
  file-refused word (Some (value.Node Folder)) (Some Dir) at e = cc
  file-refused word (Some (value.Node Folder)) (Some (File paths bytes)) at e = absurd at
  file-refused word (Some (value.Node (FileNode i))) o at e = absurd (cc)
  file-refused word (Some (value.Names s)) o at e = absurd at
  file-refused word (Some (value.Last r)) o at e = absurd at
  file-refused word (Some (value.Count n)) o at e = absurd at
  file-refused word (Some (value.Region g)) o at e = absurd at

file-found : (n : Option Node) (i : InodeId) → as_file n ≡ Ok i → n ≡ Some (FileNode i)
file-found None i e = absurd (cc)
file-found (Some Folder) i e = absurd (cc)
file-found (Some (FileNode j)) i e = let same : j ≡ i = cc in ap (λ z. Some (FileNode z)) same

target_forget : (a c : Result (Unit {0}) Word) (dir : List ℕ) → ((a >>= (λ _. c >>= (λ _. Ok dir))) >>= (λ _. Ok tt)) ≡ (a >>= (λ _. c))
target_forget (Ok u) (Ok v) dir = refl
target_forget (Ok u) (Err word) dir = refl
target_forget (Err word) c dir = refl

target_dir : (a c : Result (Unit {0}) Word) (dir d : List ℕ) → (a >>= (λ _. c >>= (λ _. Ok dir))) ≡ Ok d → dir ≡ d
target_dir (Ok u) (Ok v) dir d e = cc
target_dir (Ok u) (Err word) dir d e = absurd (cc)
target_dir (Err word) c dir d e = absurd (cc)

directory_word : (r : Result (Unit {0}) Word) (names : NamesOf) (word : Word) → (r >>= (λ _. Ok names)) ≡ Err word → r ≡ Err word
directory_word (Ok u) names word e = absurd (cc)
directory_word (Err other) names word e = cc

directory_node : (n : Option Node) (names m : NamesOf) → (as_directory n >>= (λ _. Ok names)) ≡ Ok m → n ≡ Some Folder
directory_node (Some Folder) names m e = refl
directory_node (Some (FileNode i)) names m e = absurd (cc)
directory_node None names m e = absurd (cc)

directory_names : (n : Option Node) (names m : NamesOf) → (as_directory n >>= (λ _. Ok names)) ≡ Ok m → names ≡ m
directory_names (Some Folder) names m e = cc
directory_names (Some (FileNode i)) names m e = absurd (cc)
directory_names None names m e = absurd (cc)

-- a target that is free, in this directory
pub record OpenAt (t : Tree) (p dir : List ℕ) : Type 0 where
  pub free : IsFree t p
  pub same : free.dir ≡ dir

-- a directory with its names
pub record FolderAt (w : Map) (t : Tree) (p : List ℕ) (names : NamesOf) : Type 0 where
  pub folder : w (Path p) ≡ Some (value.Node Folder)
  pub there : get t p ≡ Some Dir
  pub listing : IsListing t p names

module _ (b : ℕ) (told : Told) (tx k : ℕ) (w : Map) (t : Tree) (st : Stands b told tx k w t) where
  target-model : (p : List ℕ) (up : Option (List ℕ)) → (target_in w p up >>= (λ _. Ok tt)) ≡ model.target_in t p up
  target-model p None = refl
  target-model p (Some dir) = target_forget (as_parent (stands_at w dir)) (as_free (stands_at w p)) dir
      ∙ ap (λ r. r >>= (λ _. as_free (stands_at w p))) (parent-is b told w (w (Path dir)) (get t dir) (st.nodes dir))
      ∙ ap (λ r. is_parent (get t dir) >>= (λ _. r)) (free-is b told w (w (Path p)) (get t p) (st.nodes p))

  pub target-refused : (p : List ℕ) (word : Word) → target_of w p ≡ Err word → target t p ≡ Err word
  target-refused p word e = sym (target-model p (parent_of p)) ∙ ap (λ r. r >>= (λ _. Ok tt)) e

  pub target-free : (p dir : List ℕ) → target_of w p ≡ Ok dir → target t p ≡ Ok tt
  target-free p dir e = sym (target-model p (parent_of p)) ∙ ap (λ r. r >>= (λ _. Ok tt)) e

  pub target-open : (p dir : List ℕ) → target_of w p ≡ Ok dir → OpenAt t p dir
  target-open p dir e =
      let free = IsFree-target t p (target-free p dir e) in
      record { free = free; same = target_dir (as_parent (stands_at w free.dir)) (as_free (stands_at w p)) free.dir dir (sym (ap (target_in w p) free.up) ∙ e) }

  pub source-refused : (p : List ℕ) (word : Word) → source_of w p ≡ Err word → bytes_of (get t p) ≡ Err word
  source-refused p word e = file-refused b told w word (w (Path p)) (get t p) (st.nodes p) e

  pub directory-refused : (p : List ℕ) (word : Word) → directory_of w p ≡ Err word → is_directory (get t p) ≡ Err word
  directory-refused p word e = sym (directory-is b told w (w (Path p)) (get t p) (st.nodes p)) ∙ directory_word (as_directory (stands_at w p)) (names_of_dir w p) word e

  pub directory-found : (p : List ℕ) (names : NamesOf) → directory_of w p ≡ Ok names → FolderAt w t p names
  directory-found p names e =
      let folder : w (Path p) ≡ Some (value.Node Folder) = node_of-is (w (Path p)) Folder (directory_node (stands_at w p) (names_of_dir w p) names e) in
      let there : get t p ≡ Some Dir = node-folder b told w (w (Path p)) (get t p) (st.nodes p) folder in
      let listed = names-listed t p (w (DirKey p)) (get t p) (st.names p) there in
      let same : listed.names ≡ names = sym (ap names_at listed.is) ∙ directory_names (stands_at w p) (names_of_dir w p) names e in
      record { folder = folder; there = there; listing = subst (IsListing t p) same listed.listing }

pub source-leads : (w : Map) (p : List ℕ) (i : InodeId) → source_of w p ≡ Ok i → LeadsTo w p i
source-leads w p i e = node_of-is (w (Path p)) (FileNode i) (file-found (stands_at w p) i e)

-- on the recorded keys, another map says the same
module _ (b w : Map) where
  by_folder : (p dir : List ℕ) (n : Option Node) → Agree (if_folder n (Path p)) b w
      → (as_parent n >>= (λ _. as_free (stands_at w p) >>= (λ _. Ok dir))) ≡ (as_parent n >>= (λ _. as_free (stands_at b p) >>= (λ _. Ok dir)))
  by_folder p dir (Some Folder) h = ap (λ v. as_free (node_of v) >>= (λ _. Ok dir)) h.0
  by_folder p dir (Some (FileNode i)) h = refl
  by_folder p dir None h = refl

  target-in-agrees : (p : List ℕ) (up : Option (List ℕ)) → Agree (target_keys_in b p up) b w → target_in w p up ≡ target_in b p up
  target-in-agrees p None h = refl
  target-in-agrees p (Some dir) h =
      ap (λ v. as_parent (node_of v) >>= (λ _. as_free (stands_at w p) >>= (λ _. Ok dir))) h.0
      ∙ by_folder p dir (stands_at b dir) h.1

  pub target-agrees : (p : List ℕ) → Agree (target_keys b p) b w → target_of w p ≡ target_of b p
  target-agrees p h = target-in-agrees p (parent_of p) h

  by_directory : (p : List ℕ) (n : Option Node) → Agree (if_folder n (DirKey p)) b w → (as_directory n >>= (λ _. Ok (names_of_dir w p))) ≡ (as_directory n >>= (λ _. Ok (names_of_dir b p)))
  by_directory p (Some Folder) h = ap (λ v. Ok (names_at v)) h.0
  by_directory p (Some (FileNode i)) h = refl
  by_directory p None h = refl

  pub directory-agrees : (p : List ℕ) → Agree (directory_keys b p) b w → directory_of w p ≡ directory_of b p
  directory-agrees p h = ap (λ v. as_directory (node_of v) >>= (λ _. Ok (names_of_dir w p))) h.0 ∙ by_directory p (stands_at b p) h.1

  pub source-agrees : (p : List ℕ) → Agree (source_keys p) b w → source_of w p ≡ source_of b p
  source-agrees p h = ap (λ v. as_file (node_of v)) h.0
