-- What the machine keeps as maps of entries, with the paths and the bytes of files and the bytes of slices behind shared pointers.
use Rattle.std.specs.Prelude.{ℕ, List}
use Rattle.std.specs.Rc.{rc_slice_items}
use Rattle.std.specs.Ordering.{nat_cmp}
use Rattle.std.specs.Cmp.Lexicographic.{slice_cmp}
pub use Rattle.wtf_machine.specs.Entries.{map_of}
use Rattle.wtf_machine.specs.declared.path_map.FileContent.{FileContent}
use Rattle.wtf_machine.specs.declared.path_map.PathNode.{PathNode}
use Rattle.wtf_machine.specs.declared.path_map.PathNode.TheVariants as kept
use Rattle.wtf_machine.specs.declared.labels.Cursor.{Cursor}
use Rattle.wtf_model.specs.Tree.{Tree, TreeNode, Dir, File}
use Rattle.wtf_model.specs.Session.{Handle}

-- a file: all its paths, and its bytes
abbrev pub content_node : FileContent → TreeNode
content_node f = File f.paths.value (rc_slice_items f.bytes)

-- what stands at a path
abbrev pub node_of : PathNode → TreeNode
node_of kept.Folder = Dir
node_of (kept.Content f) = content_node f

abbrev pub tree_of : List (List ℕ × PathNode) → Tree
tree_of es = map_of (slice_cmp nat_cmp) node_of es

-- an open handle
abbrev pub handle_of : Cursor → Handle
handle_of c = record { path = c.path; off = c.off }
