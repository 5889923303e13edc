-- The tree of an image while servers are lost: what it is where each slice has only its copies on servers that are left.
-- NSDI 2016, section 2 (an entry has several pointers, on different servers, and any of them gives its bytes).
use Rattle.std.specs.Prelude.{◌≡◌, ℕ, ◌<◌, ◌≤◌, ◌++◌, Bool, not, List, [], ◌∷◌, Option, None, Some, ⊤}
use Rattle.std.specs.List.{All, filter}
use Rattle.std.specs.Option.{option_map}
use Rattle.wtf_base.specs.declared.ids.InodeId.{InodeId}
use Rattle.wtf_base.specs.declared.pointer.Pointer.{Pointer}
use Rattle.wtf_base.specs.declared.slice.Slice.{Slice}
use Rattle.wtf_base.specs.Slices.{pointers_of}
use Rattle.wtf_overlay.specs.declared.part.Part.{Part}
use Rattle.wtf_overlay.specs.declared.part.Part.TheVariants.{Zero, Held}
use Rattle.wtf_overlay.specs.declared.part.Entry.{Entry}
use Rattle.wtf_overlay.specs.Clips.{clip_list}
use Rattle.wtf_values.specs.declared.key.Key.{Key}
use Rattle.wtf_values.specs.declared.key.Key.TheVariants.{Path, Dir, Inode, Region, Links}
use Rattle.wtf_values.specs.declared.region.RegionValue.{RegionValue}
use Rattle.wtf_values.specs.declared.region.Spill.{Spill}
use Rattle.wtf_values.specs.declared.value.Value.{Value}
use Rattle.wtf_values.specs.declared.value.Value.TheVariants as value
use Rattle.wtf_model.specs.Tree.{Tree}
use Rattle.wtf_meta.specs.Bytes.{EntryBytes}
use Rattle.wtf_meta.specs.Contents.{Told, is_told, lists_in}
use Rattle.wtf_meta.specs.Maps.{Map}
use Rattle.wtf_meta.specs.Trees.{Stands}
use Rattle.wtf_image.specs.Images.{HasText}
use Rattle.wtf_image.specs.Lookups.{plain, row_at}
use Rattle.wtf_image.specs.Rows.{ImageRows}

-- a copy lies on a server that is left
abbrev pub is_left : (ℕ → Bool) → Pointer → Bool
is_left lost p = not (lost p.server.0)

-- u is the slice s with only its copies on servers that are left, of which there is one; each copy, also one on a lost server, lies
-- in one of the eight files
pub record HasCopiesLeft (lost : ℕ → Bool) (s u : Slice) : Type 0 where
  pub copies : pointers_of u ≡ filter (is_left lost) (pointers_of s)
  pub files : All (λ (p : Pointer). p.file < 8) (pointers_of s)

abbrev pub IsLeftPart : (ℕ → Bool) → Part → Part → Type 0
IsLeftPart lost Zero Zero = ⊤
IsLeftPart lost (Held s) (Held u) = HasCopiesLeft lost s u
IsLeftPart lost Zero (Held u) = ⊥
IsLeftPart lost (Held s) Zero = ⊥

pub record IsLeftEntry (lost : ℕ → Bool) (e f : Entry) : Type 0 where
  pub off : f.off ≡ e.off
  pub len : f.len ≡ e.len
  pub part : IsLeftPart lost e.part f.part

-- the entries of a list, one by one
abbrev pub AreLeft : (ℕ → Bool) → List Entry → List Entry → Type 0
AreLeft lost [] [] = ⊤
AreLeft lost (e ∷ es) (f ∷ fs) = IsLeftEntry lost e f × AreLeft lost es fs
AreLeft lost [] (f ∷ fs) = ⊥
AreLeft lost (e ∷ es) [] = ⊥

-- What is left of the list in a slice: the copies of the slice that are left tell the same bytes, these decode to a list, and each
-- entry of that, also one that is hidden or not seen, is left and has bytes that are told. A region has b bytes.
pub record IsLeftList (b : ℕ) (told : Told) (lost : ℕ → Bool) (s : Slice) (under : List Entry) : Type 0 where
  pub slice : Slice
  pub left : HasCopiesLeft lost s slice
  pub list : List Entry
  pub decodes : lists_in b told slice ≡ Some list
  pub entries : AreLeft lost list under
  pub bytes : All (EntryBytes (is_told told)) under

-- and of that of a base, as far as it is seen
abbrev pub IsLeftBase : (b : ℕ) → Told → (ℕ → Bool) → Option Spill → List Entry → Type 0
IsLeftBase b told lost None under = under ≡ []
IsLeftBase b told lost (Some s) under = (whole : List Entry) × IsLeftList b told lost s.slice whole × (under ≡ clip_list s.visible whole)

-- a region with its base read: what is left of its list, under what is left of the entries
pub record IsLiveRegion (b : ℕ) (told : Told) (lost : ℕ → Bool) (v u : RegionValue) : Type 0 where
  pub end : u.end ≡ v.end
  pub base : u.base ≡ None
  pub under : List Entry
  pub base_is : IsLeftBase b told lost v.base under
  pub top : List Entry
  pub top_is : AreLeft lost v.list top
  pub list : u.list ≡ under ++ top

-- the value of a region's key: a region is read, and each other value stays
abbrev pub IsLiveValue : (b : ℕ) → Told → (ℕ → Bool) → Option Value → Option Value → Type 0
IsLiveValue b told lost (Some (value.Region v)) (Some (value.Region u)) = IsLiveRegion b told lost v u
IsLiveValue b told lost (Some (value.Region v)) None = ⊥
IsLiveValue b told lost (Some (value.Region v)) (Some (value.Node n)) = ⊥
IsLiveValue b told lost (Some (value.Region v)) (Some (value.Names ns)) = ⊥
IsLiveValue b told lost (Some (value.Region v)) (Some (value.Count n)) = ⊥
IsLiveValue b told lost (Some (value.Region v)) (Some (value.Last n)) = ⊥
IsLiveValue b told lost (Some (value.Node n)) now = now ≡ Some (value.Node n)
IsLiveValue b told lost (Some (value.Names ns)) now = now ≡ Some (value.Names ns)
IsLiveValue b told lost (Some (value.Count n)) now = now ≡ Some (value.Count n)
IsLiveValue b told lost (Some (value.Last n)) now = now ≡ Some (value.Last n)
IsLiveValue b told lost None now = now ≡ None

-- paths, directories, files and numbers of paths stay, and each region is read
pub record IsLiveMap (b : ℕ) (told : Told) (lost : ℕ → Bool) (w live : Map) : Type 0 where
  pub paths : (p : List ℕ) → live (Path p) ≡ w (Path p)
  pub dirs : (p : List ℕ) → live (Dir p) ≡ w (Dir p)
  pub inodes : (i : InodeId) → live (Inode i) ≡ w (Inode i)
  pub counts : (i : InodeId) → live (Links i) ≡ w (Links i)
  pub regions : (i : InodeId) (r : ℕ) → IsLiveValue b told lost (w (Region i r)) (live (Region i r))

-- The bytes are an image, and what it says of each key, where only the copies on servers that are left are looked at, stands for the
-- tree: the same as `IsImageOfTree` says of it where no server is lost.
pub record IsLiveTree (told : Told) (lost : ℕ → Bool) (bytes : List ℕ) (t : Tree) : Type 0 where
  pub rows : ImageRows
  pub map : Map
  pub live : Map
  pub text : HasText rows bytes
  pub says : (q : Key) → option_map plain (map q) ≡ row_at rows q
  pub is_live : IsLiveMap rows.header.region told lost map live
  pub stands : (tx : ℕ) → rows.header.next_tx ≤ tx → Stands rows.header.region told tx 0 live t
