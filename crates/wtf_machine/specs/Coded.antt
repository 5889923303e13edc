-- Codes of trees and sessions: how a proof tells the values of a machine apart.
use Rattle.std.specs.Prelude.{◌≡◌, ℕ, List, Option, Some, None, refl}
use Rattle.std.specs.Coded.{Coded, code_by, coded_list, coded_option, coded×, coded_ℕ}
use Rattle.std.specs.FinMap.{FinMap}
use Rattle.std.specs.FinMap as finite
use Rattle.std.specs.FinSet as set
use Rattle.std.specs.Ordering.{nat_cmp}
use Rattle.wtf_model.specs.Tree.{PathSet, Tree, TreeNode, Dir, File}
use Rattle.wtf_model.specs.Session.{Session, Handle}

-- how a tree is told from others: a directory as nothing, and a file as its paths and its bytes
abbrev pub content : TreeNode → Option (PathSet × List ℕ)
content Dir = None
content (File paths bytes) = Some (paths, bytes)

abbrev pub with_content : Option (PathSet × List ℕ) → TreeNode
with_content None = Dir
with_content (Some (paths, bytes)) = File paths bytes

abbrev pub told_by_content : (n : TreeNode) → with_content (content n) ≡ n
told_by_content Dir = refl
told_by_content (File paths bytes) = refl

abbrev pub paths_code : Coded PathSet
paths_code = set.code (coded_list coded_ℕ)

abbrev pub node_code : Coded TreeNode
node_code = code_by (Option (PathSet × List ℕ)) (coded_option (coded× paths_code (coded_list coded_ℕ))) content with_content told_by_content

abbrev pub tree_code : Coded Tree
tree_code = finite.code (coded_list coded_ℕ) node_code

-- a handle by its path and its offset
abbrev pub handle_code : Coded Handle
handle_code = code_by (List ℕ × ℕ) (coded× (coded_list coded_ℕ) coded_ℕ) (λ h. (h.path, h.off)) (λ p. record { path = p.0; off = p.1 }) (λ _. refl)

abbrev pub handles_code : Coded (FinMap nat_cmp Handle)
handles_code = finite.code coded_ℕ handle_code

abbrev pub slices_code : Coded (FinMap nat_cmp (List ℕ))
slices_code = finite.code coded_ℕ (coded_list coded_ℕ)

-- a session by its parts
abbrev pub session_code : Coded Session
session_code =
    code_by ((Tree × FinMap nat_cmp Handle) × FinMap nat_cmp (List ℕ))
    (coded× (coded× tree_code handles_code) slices_code)
    (λ s. ((s.tree, s.handles), s.slices)) (λ p. record { tree = p.0.0; handles = p.0.1; slices = p.1 }) (λ _. refl)
