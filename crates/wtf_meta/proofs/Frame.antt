-- Changes of one file leave all keys that are not of it, and so the other files.
use Rattle.std.proofs.Common.{◌≡◌, ◌≢◌, ℕ, ◌+◌, false, List, [], ◌∷◌, refl, ap, ◌∙◌}
use Rattle.std.specs.Prelude.{⊤}
use Rattle.std.proofs.lemmas.Bool.{cond-false}
use Rattle.std.specs.BTreeMap.{is_at}
use Rattle.wtf_base.specs.declared.ids.InodeId.{InodeId}
use Rattle.wtf_kv.specs.declared.changes.Change.TheVariants as change
use Rattle.wtf_kv.specs.Edits.{is_between}
use Rattle.wtf_values.specs.declared.key.Key.{Key}
use Rattle.wtf_values.specs.declared.key.Key.TheVariants.{Path, Dir, Inode, Region, Links}
use Rattle.wtf_values.specs.declared.value.Value.TheVariants as value
use Rattle.wtf_values.specs.declared.value.Delta.{Delta}
use Rattle.wtf_values.specs.declared.value.Delta.TheVariants as delta
use Rattle.wtf_values.specs.Keys.{key_cmp}
use Rattle.wtf_meta.specs.Maps.{Map, with}
use Rattle.wtf_meta.specs.FileEdits.{last_of, region_of, file_of, FileEdit, Push, PushRel, Clip, ZeroWithin, CutAbove, RaiseLast}
use Rattle.wtf_meta.specs.FileEdits.{SetLast, Put, LAST_REGION, edit_of, edits_of}
use Rattle.wtf_values.proofs.KeyLaws.{at_none, between_other}
use Rattle.wtf_meta.proofs.Steps.{step}

-- a key that is neither the inode's nor one of its regions
abbrev pub IsElsewhere : InodeId → Key → Type 0
IsElsewhere i (Path p) = ⊤
IsElsewhere i (Dir p) = ⊤
IsElsewhere i (Inode j) = i ≢ j
IsElsewhere i (Region j r) = i ≢ j
IsElsewhere i (Links j) = ⊤

-- which is not the inode's
pub inode_differs : (i : InodeId) (q : Key) → IsElsewhere i q → Inode i ≢ q
inode_differs i (Path p) h e = absurd (cc)
inode_differs i (Dir p) h e = absurd (cc)
inode_differs i (Inode j) h e = h (ap owner e)
  where
    owner : Key → InodeId
    owner (Path p) = i
    owner (Dir p) = i
    owner (Inode k) = k
    owner (Region k s) = k
    owner (Links k) = k
inode_differs i (Region j r) h e = absurd (cc)
inode_differs i (Links j) h e = absurd (cc)

-- nor that of a region
pub region_differs : (i : InodeId) (r : ℕ) (q : Key) → IsElsewhere i q → Region i r ≢ q
region_differs i r (Path p) h e = absurd (cc)
region_differs i r (Dir p) h e = absurd (cc)
region_differs i r (Inode j) h e = absurd (cc)
region_differs i r (Links j) h e = absurd (cc)
region_differs i r (Region j s) h e = h (ap owner e)
  where
    owner : Key → InodeId
    owner (Path p) = i
    owner (Dir p) = i
    owner (Inode k) = k
    owner (Region k t) = k
    owner (Links k) = k

-- a delta leaves the keys that it does not name
pub delta_elsewhere : (k q : Key) (d : Delta) (w : Map) → k ≢ q → step (change.Delta k d) w q ≡ w q
delta_elsewhere k q d w differ = cond-false (is_at (key_cmp k) q) _ _ (at_none k q differ)

-- a cut of a file's regions leaves the keys that are not of it
cut_elsewhere : (i : InodeId) (r : ℕ) (q : Key) → IsElsewhere i q → is_between key_cmp (Region i (r + 1)) (Region i LAST_REGION) q ≡ false
cut_elsewhere i r (Path p) h = refl
cut_elsewhere i r (Dir p) h = refl
cut_elsewhere i r (Inode j) h = refl
cut_elsewhere i r (Links j) h = refl
cut_elsewhere i r (Region j s) h = between_other i j (r + 1) LAST_REGION s h

stays : (i : InodeId) (d : FileEdit) (w : Map) (q : Key) → IsElsewhere i q → step (edit_of i d) w q ≡ w q
stays i (Push r e) w q h = delta_elsewhere (Region i r) q (delta.Push e) w (region_differs i r q h)
stays i (PushRel r ps b) w q h = delta_elsewhere (Region i r) q (delta.PushRel ps b) w (region_differs i r q h)
stays i (Clip r end) w q h = delta_elsewhere (Region i r) q (delta.Clip end) w (region_differs i r q h)
stays i (ZeroWithin r from upto) w q h = delta_elsewhere (Region i r) q (delta.ZeroWithin from upto) w (region_differs i r q h)
stays i (CutAbove r) w q h = cond-false (is_between key_cmp (Region i (r + 1)) (Region i LAST_REGION) q) _ _ (cut_elsewhere i r q h)
stays i (RaiseLast r) w q h = delta_elsewhere (Inode i) q (delta.RaiseLast r) w (inode_differs i q h)
stays i (SetLast r) w q h = delta_elsewhere (Inode i) q (delta.SetLast r) w (inode_differs i q h)
stays i (Put r x) w q h = delta_elsewhere (Region i r) q (delta.Put (value.Region x)) w (region_differs i r q h)

-- a key that is not of the file has what it had
pub others_stay : (i : InodeId) (ds : List FileEdit) (w : Map) (q : Key) → IsElsewhere i q → with (edits_of i ds) w q ≡ w q
others_stay i [] w q h = refl
others_stay i (d ∷ ds) w q h = others_stay i ds (step (edit_of i d) w) q h ∙ stays i d w q h

-- a path leads where it led
pub paths_stay : (i : InodeId) (ds : List FileEdit) (w : Map) (p : List ℕ) → with (edits_of i ds) w (Path p) ≡ w (Path p)
paths_stay i ds w p = others_stay i ds w (Path p) tt

-- a directory has the names that it had
pub dirs_stay : (i : InodeId) (ds : List FileEdit) (w : Map) (p : List ℕ) → with (edits_of i ds) w (Dir p) ≡ w (Dir p)
dirs_stay i ds w p = others_stay i ds w (Dir p) tt

-- another inode has what it had
pub inodes_stay : (i j : InodeId) (ds : List FileEdit) (w : Map) → i ≢ j → with (edits_of i ds) w (Inode j) ≡ w (Inode j)
inodes_stay i j ds w h = others_stay i ds w (Inode j) h

-- and so have its regions
pub regions_stay : (i j : InodeId) (r : ℕ) (ds : List FileEdit) (w : Map) → i ≢ j → with (edits_of i ds) w (Region j r) ≡ w (Region j r)
regions_stay i j r ds w h = others_stay i ds w (Region j r) h

-- each file has as many paths as it had
pub links_stay : (i j : InodeId) (ds : List FileEdit) (w : Map) → with (edits_of i ds) w (Links j) ≡ w (Links j)
links_stay i j ds w = others_stay i ds w (Links j) tt

-- and so the other files are what they were
pub file_stays : (i j : InodeId) (ds : List FileEdit) (w : Map) → i ≢ j → file_of j (with (edits_of i ds) w) ≡ file_of j w
file_stays i j ds w h = λ k. record { last = last_of (inodes_stay i j ds w h k); region = λ r. region_of (regions_stay i j r ds w h k) }
