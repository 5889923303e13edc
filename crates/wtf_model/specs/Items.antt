-- What calls read and change of a tree, item by item: what stands at a path, the names in a directory, the bytes of a file, and
-- how many paths it has.
-- A call reads its items whatever it answers, and changes its items where it is not refused. A handle is on the path that it has
-- in the session; a label that is not open has no file.
-- NSDI 2016, section 2.6; the items are this store's own.
use Rattle.std.specs.Prelude.{ℕ, Bool, false, List, [], ◌∷◌, ◌++◌, map, bytes_eq, Option, Some, None}
use Rattle.std.specs.List.{list_any}
use Rattle.std.specs.FinMap.{get}
use Rattle.wtf_path.specs.Parts.{parent_of}
use Rattle.wtf_model.specs.declared.item.Item.{Item}
use Rattle.wtf_model.specs.declared.item.Item.TheVariants.{NodeOf, NamesOf, BodyOf, LinksOf}
use Rattle.wtf_model.specs.declared.answer.Answer.{Answer}
use Rattle.wtf_model.specs.declared.answer.Answer.TheVariants.{Refused}
use Rattle.wtf_model.specs.declared.op.Op.{Op}
use Rattle.wtf_model.specs.declared.op.Op.TheVariants as op
use Rattle.wtf_model.specs.declared.op.Seek.{Seek}
use Rattle.wtf_model.specs.declared.op.Seek.TheVariants as to
use Rattle.wtf_model.specs.Tree.{PathSet, with_path, path_list, Tree, paths_at}
use Rattle.wtf_model.specs.Session.{Session, Handle, fresh}
use Rattle.wtf_model.specs.Call.{call}

-- two items are the same
abbrev pub same_item : Item → Item → Bool
same_item (NodeOf p) (NodeOf q) = bytes_eq p q
same_item (NamesOf p) (NamesOf q) = bytes_eq p q
same_item (BodyOf p) (BodyOf q) = bytes_eq p q
same_item (LinksOf p) (LinksOf q) = bytes_eq p q
same_item i j = false

-- an item is one of these
abbrev pub is_among : List Item → Item → Bool
is_among items i = list_any (same_item i) items

-- some item is one of both
abbrev pub meets : List Item → List Item → Bool
meets items others = list_any (is_among items) others

-- what stands at the directory that a path stands in, and the names there; the root stands in none
abbrev pub node_above : Option (List ℕ) → List Item
node_above None = []
node_above (Some dir) = NodeOf dir ∷ []

abbrev pub names_above : Option (List ℕ) → List Item
names_above None = []
names_above (Some dir) = NamesOf dir ∷ []

-- what a new path needs: what stands there, and at its parent
abbrev pub target_reads : List ℕ → List Item
target_reads p = NodeOf p ∷ node_above (parent_of p)

-- what a file that is named needs: what stands there, and its bytes
abbrev pub source_reads : List ℕ → List Item
source_reads p = NodeOf p ∷ BodyOf p ∷ []

-- and how many paths it has
abbrev pub file_reads : List ℕ → List Item
file_reads p = NodeOf p ∷ BodyOf p ∷ LinksOf p ∷ []

abbrev pub sources_reads : List (List ℕ) → List Item
sources_reads [] = []
sources_reads (p ∷ ps) = source_reads p ++ sources_reads ps

-- what a directory that is named needs: what stands there, and its names
abbrev pub folder_reads : List ℕ → List Item
folder_reads p = NodeOf p ∷ NamesOf p ∷ []

-- the bytes of a handle's file
abbrev pub body_of : Option Handle → List Item
body_of None = []
body_of (Some h) = BodyOf h.path ∷ []

abbrev pub handle_reads : Session → ℕ → List Item
handle_reads s f = body_of (get s.handles f)

-- a seek needs the length of a file only to lead to its end
abbrev pub seek_reads : Session → ℕ → Seek → List Item
seek_reads s f to.End = handle_reads s f
seek_reads s f place = []

-- what a call reads
abbrev pub reads : Session → Op (List ℕ) → List Item
reads s (op.Mkdir p) = target_reads p
reads s (op.Rmdir p) = folder_reads p
reads s (op.Create p) = target_reads p
reads s (op.Unlink p) = NodeOf p ∷ LinksOf p ∷ []
reads s (op.Rename p q) = file_reads p ++ target_reads q
reads s (op.Link p q) = file_reads p ++ target_reads q
reads s (op.List p) = folder_reads p
reads s (op.Stat p) = file_reads p
reads s (op.Open f p) = NodeOf p ∷ []
reads s (op.Close f) = []
reads s (op.Seek f place) = seek_reads s f place
reads s (op.Tell f) = []
reads s (op.Read f n) = handle_reads s f
reads s (op.Write f bytes) = []
reads s (op.Append f bytes) = handle_reads s f
reads s (op.Truncate f n) = []
reads s (op.Punch f n) = []
reads s (op.Yank f n label) = handle_reads s f
reads s (op.Peek label off n) = []
reads s (op.Cut label off n made) = []
reads s (op.Paste f label) = []
reads s (op.Glue f label) = handle_reads s f
reads s (op.Concat q paths) = target_reads q ++ sources_reads paths
reads s (op.Copy p q) = source_reads p ++ target_reads q

-- the bytes of the file at a path, by each of its paths
abbrev pub bodies_at : Tree → List ℕ → List Item
bodies_at t p = map (λ q. BodyOf q) (path_list (paths_at t p))

-- how many paths a file has, by each of these
abbrev pub links_of : PathSet → List Item
links_of paths = map (λ q. LinksOf q) (path_list paths)

abbrev pub bodies_of : Tree → Option Handle → List Item
bodies_of t None = []
bodies_of t (Some h) = bodies_at t h.path

abbrev pub handle_changes : Session → ℕ → List Item
handle_changes s f = bodies_of s.tree (get s.handles f)

-- a directory comes or goes, and its name in the one above; so does a file
abbrev pub folder_changes : List ℕ → List Item
folder_changes p = NodeOf p ∷ NamesOf p ∷ names_above (parent_of p)

abbrev pub file_changes : List ℕ → List Item
file_changes p = NodeOf p ∷ BodyOf p ∷ names_above (parent_of p)

-- what a call changes that is not refused
abbrev pub changes : Session → Op (List ℕ) → List Item
changes s (op.Mkdir p) = folder_changes p
changes s (op.Rmdir p) = folder_changes p
changes s (op.Create p) = file_changes p
changes s (op.Unlink p) = file_changes p ++ links_of (paths_at s.tree p)
changes s (op.Rename p q) = file_changes p ++ file_changes q
changes s (op.Link p q) = file_changes q ++ links_of (with_path (paths_at s.tree p) q)
changes s (op.Write f bytes) = handle_changes s f
changes s (op.Append f bytes) = handle_changes s f
changes s (op.Truncate f n) = handle_changes s f
changes s (op.Punch f n) = handle_changes s f
changes s (op.Paste f label) = handle_changes s f
changes s (op.Glue f label) = handle_changes s f
changes s (op.Concat q paths) = file_changes q
changes s (op.Copy p q) = file_changes q
changes s o = []

abbrev pub unless_refused : Answer → List Item → List Item
unless_refused (Refused w) items = []
unless_refused a items = items

-- what a call changes, where no file may be longer than cap
abbrev pub writes : ℕ → Session → Op (List ℕ) → List Item
writes cap s o = unless_refused (call cap s o).answer (changes s o)

-- what calls read and change, one after another, from a session on
unfoldable pub reads_from : ℕ → Session → List (Op (List ℕ)) → List Item
reads_from cap s [] = []
reads_from cap s (o ∷ ops) = reads s o ++ reads_from cap (call cap s o).session ops

unfoldable pub writes_from : ℕ → Session → List (Op (List ℕ)) → List Item
writes_from cap s [] = []
writes_from cap s (o ∷ ops) = writes cap s o ++ writes_from cap (call cap s o).session ops

-- and from a tree on
abbrev pub reads_of : ℕ → Tree → List (Op (List ℕ)) → List Item
reads_of cap tree ops = reads_from cap (fresh tree) ops

abbrev pub writes_of : ℕ → Tree → List (Op (List ℕ)) → List Item
writes_of cap tree ops = writes_from cap (fresh tree) ops
