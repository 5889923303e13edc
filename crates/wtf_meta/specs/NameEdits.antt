-- What values tell of names, and changes of names as changes of a map.
-- NSDI 2016, section 2.4 (a path leads to its inode, and each directory has its names beside it).
use Rattle.std.specs.Prelude.{ℕ, List, [], ◌∷◌, Option, None, Some}
use Rattle.wtf_base.specs.declared.ids.InodeId.{InodeId}
use Rattle.wtf_kv.specs.declared.changes.Change.{Change}
use Rattle.wtf_kv.specs.declared.changes.Change.TheVariants as change
use Rattle.wtf_path.specs.Parts.{name_of}
use Rattle.wtf_values.specs.declared.key.Key.{Key}
use Rattle.wtf_values.specs.declared.key.Key.TheVariants.{Path, Dir, Inode, Region, Links}
use Rattle.wtf_values.specs.declared.value.Node.{Node}
use Rattle.wtf_values.specs.declared.value.Node.TheVariants.{Folder, File}
use Rattle.wtf_values.specs.declared.value.Value.{Value}
use Rattle.wtf_values.specs.declared.value.Value.TheVariants as value
use Rattle.wtf_values.specs.declared.value.Delta.{Delta}
use Rattle.wtf_values.specs.declared.value.Delta.TheVariants as delta
use Rattle.wtf_values.specs.Names.{NamesOf, no_names}
use Rattle.wtf_meta.specs.Maps.{Edits}
use Rattle.wtf_meta.specs.FileEdits.{LAST_REGION}

-- what a path's value says that stands there
abbrev pub node_of : Option Value → Option Node
node_of (Some (value.Node n)) = Some n
node_of v = None

-- the names that a directory's value tells, none where it tells none
abbrev pub names_at : Option Value → NamesOf
names_at (Some (value.Names names)) = names
names_at v = no_names

-- how many paths a file has, by the value that tells it: one where it tells none
abbrev pub link_count : Option Value → ℕ
link_count (Some (value.Count n)) = n
link_count v = 1

-- something stands at a path
abbrev pub put_at : List ℕ → Node → Change Key Delta
put_at p n = change.Delta (Path p) (delta.Put (value.Node n))

-- nothing stands at a path
abbrev pub take_at : List ℕ → Change Key Delta
take_at p = change.Delta (Path p) delta.Remove

-- a directory gets the name of a path, or loses it
abbrev pub add_to : List ℕ → List ℕ → Change Key Delta
add_to dir p = change.Delta (Dir dir) (delta.DirAdd (name_of p))

abbrev pub drop_from : List ℕ → List ℕ → Change Key Delta
drop_from dir p = change.Delta (Dir dir) (delta.DirDel (name_of p))

-- a directory is made at p, which stands in dir
abbrev pub mkdir_edits : List ℕ → List ℕ → Edits
mkdir_edits dir p = put_at p Folder ∷ change.Delta (Dir p) (delta.Put (value.Names no_names)) ∷ add_to dir p ∷ []

-- the directory p is taken out
abbrev pub rmdir_edits : List ℕ → List ℕ → Edits
rmdir_edits dir p = take_at p ∷ change.Delta (Dir p) delta.Remove ∷ drop_from dir p ∷ []

-- a file without a byte is made at p
abbrev pub create_edits : List ℕ → List ℕ → InodeId → Edits
create_edits dir p i = put_at p (File i) ∷ change.Delta (Inode i) (delta.Put (value.Last 0)) ∷ add_to dir p ∷ []

-- the last path p of a file is taken out, and the file with all its regions
abbrev pub unlink_edits : List ℕ → List ℕ → InodeId → Edits
unlink_edits dir p i =
    change.Cut (Region i 0) (Region i LAST_REGION) ∷ change.Delta (Inode i) delta.Remove ∷ take_at p ∷ drop_from dir p ∷ []

-- a path p of a file that has others is taken out
abbrev pub unlink_one_edits : List ℕ → List ℕ → InodeId → Edits
unlink_one_edits dir p i = take_at p ∷ drop_from dir p ∷ change.Delta (Links i) delta.LinkSub ∷ []

-- the file of an inode gets one more path q, which stands in dir
abbrev pub link_edits : List ℕ → List ℕ → InodeId → Edits
link_edits dir q i = put_at q (File i) ∷ add_to dir q ∷ change.Delta (Links i) delta.LinkAdd ∷ []

-- the file p of the directory up becomes q of dir
abbrev pub rename_edits : List ℕ → List ℕ → List ℕ → List ℕ → InodeId → Edits
rename_edits up p dir q i = take_at p ∷ drop_from up p ∷ put_at q (File i) ∷ add_to dir q ∷ []
