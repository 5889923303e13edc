-- What the values of a map that stands for a tree say of it.
use Rattle.std.proofs.Common.{◌≡◌, ℕ, List, Option, None, Some, refl, sym, ap, subst}
use Rattle.wtf_base.specs.declared.ids.InodeId.{InodeId}
use Rattle.wtf_model.specs.Tree.{PathSet, Tree, TreeNode, Dir, File}
use Rattle.wtf_values.specs.declared.value.Node.{Node}
use Rattle.wtf_values.specs.declared.value.Node.TheVariants.{Folder, File as FileNode}
use Rattle.wtf_values.specs.declared.value.Value.{Value}
use Rattle.wtf_values.specs.declared.value.Value.TheVariants as value
use Rattle.wtf_values.specs.Names.{NamesOf}
use Rattle.wtf_meta.specs.Maps.{Map}
use Rattle.wtf_meta.specs.Contents.{Told}
use Rattle.wtf_meta.specs.Trees.{IsBody, IsFileOf, NodeAt, IsListing, NamesAt}
use Rattle.wtf_meta.specs.NameEdits.{node_of}

-- a value that says what stands there is just that
pub node_of-is : (v : Option Value) (n : Node) → node_of v ≡ Some n → v ≡ Some (value.Node n)
node_of-is None n e = absurd (cc)
node_of-is (Some (value.Node m)) n e = let same : m ≡ n = cc in ap (λ x. Some (value.Node x)) same
node_of-is (Some (value.Names s)) n e = absurd (cc)
node_of-is (Some (value.Last r)) n e = absurd (cc)
node_of-is (Some (value.Count c)) n e = absurd (cc)
node_of-is (Some (value.Region g)) n e = absurd (cc)

-- a file of the tree, and what the map has of it
pub record FileAt (b : ℕ) (told : Told) (w : Map) (i : InodeId) (o : Option TreeNode) : Type 0 where
  pub paths : PathSet
  pub bytes : List ℕ
  pub there : o ≡ Some (File paths bytes)
  pub file : IsFileOf b told w i paths bytes
  pub body : IsBody b told w i bytes

module _ (b : ℕ) (told : Told) (w : Map) where
  -- where the map says nothing, nothing stands in the tree
  pub node-missing : (v : Option Value) (o : Option TreeNode) → NodeAt b told w v o → node_of v ≡ None → o ≡ None
  node-missing None None at e = refl
  node-missing None (Some Dir) at e = absurd at
  node-missing None (Some (File paths bytes)) at e = absurd at
  node-missing (Some (value.Node n)) o at e = absurd (cc)
  node-missing (Some (value.Names s)) o at e = absurd at
  node-missing (Some (value.Last r)) o at e = absurd at
  node-missing (Some (value.Count n)) o at e = absurd at
  node-missing (Some (value.Region g)) o at e = absurd at

  -- and a value is missing there
  pub node-none : (v : Option Value) (o : Option TreeNode) → NodeAt b told w v o → o ≡ None → v ≡ None
  node-none None o at e = refl
  node-none (Some (value.Node Folder)) None at e = absurd at
  node-none (Some (value.Node Folder)) (Some Dir) at e = absurd (cc)
  node-none (Some (value.Node Folder)) (Some (File paths bytes)) at e = absurd (cc)
  node-none (Some (value.Node (FileNode i))) None at e = absurd at
  node-none (Some (value.Node (FileNode i))) (Some Dir) at e = absurd (cc)
  node-none (Some (value.Node (FileNode i))) (Some (File paths bytes)) at e = absurd (cc)
  node-none (Some (value.Names s)) o at e = absurd at
  node-none (Some (value.Last r)) o at e = absurd at
  node-none (Some (value.Count n)) o at e = absurd at
  node-none (Some (value.Region g)) o at e = absurd at

  pub node-folder : (v : Option Value) (o : Option TreeNode) → NodeAt b told w v o → v ≡ Some (value.Node Folder) → o ≡ Some Dir
  node-folder v None at e = absurd (subst (λ x. NodeAt b told w x None) e at)
  node-folder v (Some Dir) at e = refl
  node-folder v (Some (File paths bytes)) at e = absurd (subst (λ x. NodeAt b told w x (Some (File paths bytes))) e at)

  pub node-file : (v : Option Value) (o : Option TreeNode) (i : InodeId) → NodeAt b told w v o → v ≡ Some (value.Node (FileNode i)) → FileAt b told w i o
  node-file v None i at e = absurd (subst (λ x. NodeAt b told w x None) e at)
  node-file v (Some Dir) i at e = absurd (subst (λ x. NodeAt b told w x (Some Dir)) e at)
  node-file v (Some (File paths bytes)) i at e =
      let is : IsFileOf b told w i paths bytes = subst (λ x. NodeAt b told w x (Some (File paths bytes))) e at in
      record { paths = paths; bytes = bytes; there = refl; file = is; body = is.body }

  -- what stands there, where it was put
  pub node-put : (n : Node) (v : Option Value) (o p : Option TreeNode) → v ≡ Some (value.Node n) → o ≡ p → NodeAt b told w (Some (value.Node n)) p
      → NodeAt b told w v o
  node-put n v o p ev eo at = subst (λ x. NodeAt b told w x o) (sym ev) (subst (λ x. NodeAt b told w (Some (value.Node n)) x) (sym eo) at)

  pub node-taken : (v : Option Value) (o : Option TreeNode) → v ≡ None → o ≡ None → NodeAt b told w v o
  node-taken v o ev eo = subst (λ x. NodeAt b told w x o) (sym ev) (subst (λ x. NodeAt b told w None x) (sym eo) tt)

-- the files that a value leads to stay
pub node-stays : (b : ℕ) (told : Told) (old new : Map) (v : Option Value) (o : Option TreeNode)
    → ((i : InodeId) (paths : PathSet) (bytes : List ℕ) → v ≡ Some (value.Node (FileNode i)) → IsFileOf b told old i paths bytes
    → IsFileOf b told new i paths bytes)
    → NodeAt b told old v o → NodeAt b told new v o
node-stays b told old new None None stays at = tt
node-stays b told old new None (Some Dir) stays at = absurd at
node-stays b told old new None (Some (File paths bytes)) stays at = absurd at
node-stays b told old new (Some (value.Node Folder)) None stays at = absurd at
node-stays b told old new (Some (value.Node Folder)) (Some Dir) stays at = tt
node-stays b told old new (Some (value.Node Folder)) (Some (File paths bytes)) stays at = absurd at
node-stays b told old new (Some (value.Node (FileNode i))) None stays at = absurd at
node-stays b told old new (Some (value.Node (FileNode i))) (Some Dir) stays at = absurd at
node-stays b told old new (Some (value.Node (FileNode i))) (Some (File paths bytes)) stays at = stays i paths bytes refl at
node-stays b told old new (Some (value.Names s)) o stays at = absurd at
node-stays b told old new (Some (value.Last r)) o stays at = absurd at
node-stays b told old new (Some (value.Count n)) o stays at = absurd at
node-stays b told old new (Some (value.Region g)) o stays at = absurd at

pub node-kept : (b : ℕ) (told : Told) (old new : Map) (v x : Option Value) (o y : Option TreeNode)
    → ((i : InodeId) (paths : PathSet) (bytes : List ℕ) → v ≡ Some (value.Node (FileNode i)) → IsFileOf b told old i paths bytes
    → IsFileOf b told new i paths bytes)
    → x ≡ v → y ≡ o → NodeAt b told old v o → NodeAt b told new x y
node-kept b told old new v x o y stays ev eo at =
    subst (λ z. NodeAt b told new z y) (sym ev) (subst (λ z. NodeAt b told new v z) (sym eo) (node-stays b told old new v o stays at))

-- the names of a directory
pub record Listed (t : Tree) (dir : List ℕ) (v : Option Value) : Type 0 where
  pub names : NamesOf
  pub is : v ≡ Some (value.Names names)
  pub listing : IsListing t dir names

module _ (t : Tree) (p : List ℕ) where
  pub names-listed : (v : Option Value) (o : Option TreeNode) → NamesAt t p v o → o ≡ Some Dir → Listed t p v
  names-listed None None at e = absurd (cc)
  names-listed None (Some Dir) at e = absurd at
  names-listed None (Some (File paths bytes)) at e = absurd (cc)
  names-listed (Some (value.Node n)) o at e = absurd at
  names-listed (Some (value.Names s)) None at e = absurd at
  names-listed (Some (value.Names s)) (Some Dir) at e = record { names = s; is = refl; listing = at }
  names-listed (Some (value.Names s)) (Some (File paths bytes)) at e = absurd at
  names-listed (Some (value.Last r)) o at e = absurd at
  names-listed (Some (value.Count n)) o at e = absurd at
  names-listed (Some (value.Region g)) o at e = absurd at

  -- what is no directory has no names
  pub names-missing : (v : Option Value) (o : Option TreeNode) → NamesAt t p v o → (o ≡ Some Dir → ⊥) → v ≡ None
  names-missing None o at other = refl
  names-missing (Some (value.Node n)) o at other = absurd at
  names-missing (Some (value.Names s)) None at other = absurd at
  names-missing (Some (value.Names s)) (Some Dir) at other = absurd (other refl)
  names-missing (Some (value.Names s)) (Some (File paths bytes)) at other = absurd at
  names-missing (Some (value.Last r)) o at other = absurd at
  names-missing (Some (value.Count n)) o at other = absurd at
  names-missing (Some (value.Region g)) o at other = absurd at

  pub names-of_listing : (v : Option Value) (o : Option TreeNode) (names : NamesOf) → v ≡ Some (value.Names names) → o ≡ Some Dir → IsListing t p names
      → NamesAt t p v o
  names-of_listing v o names ev eo is = subst (λ x. NamesAt t p x o) (sym ev) (subst (λ x. NamesAt t p (Some (value.Names names)) x) (sym eo) is)

  pub names-of_none : (v : Option Value) (o : Option TreeNode) → v ≡ None → (o ≡ Some Dir → ⊥) → NamesAt t p v o
  names-of_none v None ev other = subst (λ x. NamesAt t p x None) (sym ev) tt
  names-of_none v (Some Dir) ev other = absurd (other refl)
  names-of_none v (Some (File paths bytes)) ev other = subst (λ x. NamesAt t p x (Some (File paths bytes))) (sym ev) tt
