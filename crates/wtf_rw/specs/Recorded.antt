-- The keys that each call records, in order and up to the refusal, by what the attempt saw and what is in hand.
use Rattle.std.specs.Prelude.{List, [], ◌∷◌, ◌++◌, Option, Some, None, ℕ}
use Rattle.wtf_model.specs.declared.op.Seek.{Seek}
use Rattle.wtf_model.specs.declared.op.Seek.TheVariants as to
use Rattle.wtf_base.specs.declared.ids.InodeId.{InodeId}
use Rattle.wtf_values.specs.declared.key.Key.{Key}
use Rattle.wtf_values.specs.declared.key.Key.TheVariants.{Path, Links}
use Rattle.wtf_values.specs.declared.value.Node.{Node}
use Rattle.wtf_values.specs.declared.value.Node.TheVariants.{Folder, File}
use Rattle.wtf_meta.specs.declared.session.Handle.{Handle}
use Rattle.wtf_meta.specs.Maps.{Map}
use Rattle.wtf_index.specs.Checks.{stands_at}
pub use Rattle.wtf_steps.specs.Recorded.{if_open, len_keys, append_keys, found, found_in, read_keys}

-- of a seek in an inode's file: what tells the file's length, for a seek to its end
abbrev pub place_keys : Map → InodeId → Seek → List Key
place_keys w i (to.Set n) = []
place_keys w i (to.Fwd n) = []
place_keys w i (to.Back n) = []
place_keys w i to.End = len_keys w i

abbrev pub seek_keys : Map → Option Handle → Seek → List Key
seek_keys w h place = if_open h (λ g. place_keys w g.inode place)

-- of a file that stands at a path what tells its length and how many paths it has, and of a directory nothing
abbrev pub node_keys : Map → Option Node → List Key
node_keys w (Some (File i)) = len_keys w i ++ Links i ∷ []
node_keys w (Some Folder) = []
node_keys w None = []

abbrev pub stat_keys : Map → List ℕ → List Key
stat_keys w p = Path p ∷ node_keys w (stands_at w p)

-- of an open: the path, unless the handle is open
abbrev pub open_keys : Option Handle → List ℕ → List Key
open_keys None p = Path p ∷ []
open_keys (Some h) p = []
