-- Footprints: what the keys that were recorded, and those that were changed, have to do with the items of a tree, by the map alone.
-- NSDI 2016, section 2.6 (what a transaction read decides whether it may commit); the items are this store's own.
use Rattle.std.specs.Prelude.{◌≡◌, ◌⊎◌, ℕ, true, List, [], ◌∷◌, Some, ⊤}
use Rattle.wtf_base.specs.declared.ids.InodeId.{InodeId}
use Rattle.wtf_kv.specs.declared.changes.Change.{Change}
use Rattle.wtf_kv.specs.declared.changes.Change.TheVariants as change
use Rattle.wtf_kv.specs.Edits.{is_between, first_unfit}
use Rattle.wtf_model.specs.declared.item.Item.{Item}
use Rattle.wtf_model.specs.declared.item.Item.TheVariants.{NodeOf, NamesOf, BodyOf, LinksOf}
use Rattle.wtf_model.specs.Items.{is_among}
use Rattle.wtf_values.specs.declared.key.Key.{Key}
use Rattle.wtf_values.specs.declared.key.Key.TheVariants.{Path, Dir, Inode, Region, Links}
use Rattle.wtf_values.specs.declared.value.Delta.{Delta}
use Rattle.wtf_values.specs.Keys.{key_cmp}
use Rattle.wtf_values.specs.Outcomes.{outcome_of}
use Rattle.wtf_meta.specs.Maps.{Map, Edits, with}
use Rattle.wtf_meta.specs.Trees.{LeadsTo}

-- the item is one of these
abbrev pub Has : Item → List Item → Type 0
Has i items = is_among items i ≡ true

-- a path that led to the inode, and whose bytes were read
pub record BodyRead (old : Map) (reads : List Item) (i : InodeId) : Type 0 where
  pub path : List ℕ
  pub leads : LeadsTo old path i
  pub body : Has (BodyOf path) reads

-- one that led to it, and of which it was read what stands there, and how many paths the file has
pub record LinksRead (old : Map) (reads : List Item) (i : InodeId) : Type 0 where
  pub path : List ℕ
  pub leads : LeadsTo old path i
  pub node : Has (NodeOf path) reads
  pub links : Has (LinksOf path) reads

-- and one of which all this was read: from there the file got another path
pub record FileRead (old : Map) (reads : List Item) (i : InodeId) : Type 0 where
  pub path : List ℕ
  pub leads : LeadsTo old path i
  pub node : Has (NodeOf path) reads
  pub body : Has (BodyOf path) reads
  pub links : Has (LinksOf path) reads

-- a key belongs to an item that was read, or it is of an inode of the transaction itself
abbrev pub ReadBy : ℕ → Map → List Item → Key → Type 0
ReadBy tx old reads (Path p) = Has (NodeOf p) reads
ReadBy tx old reads (Dir p) = Has (NamesOf p) reads
ReadBy tx old reads (Inode i) = (i.tx.0 ≡ tx) ⊎ BodyRead old reads i
ReadBy tx old reads (Region i r) = (i.tx.0 ≡ tx) ⊎ BodyRead old reads i
ReadBy tx old reads (Links i) = (i.tx.0 ≡ tx) ⊎ LinksRead old reads i

-- a key belongs to an item that was written: that of a file by each path that led to it, and how many they are by what stands
-- there as well
abbrev pub WrittenBy : Map → List Item → Key → Type 0
WrittenBy old writes (Path p) = Has (NodeOf p) writes
WrittenBy old writes (Dir p) = Has (NamesOf p) writes
WrittenBy old writes (Inode i) = (q : List ℕ) → LeadsTo old q i → Has (BodyOf q) writes
WrittenBy old writes (Region i r) = (q : List ℕ) → LeadsTo old q i → Has (BodyOf q) writes
WrittenBy old writes (Links i) = (q : List ℕ) → LeadsTo old q i → Has (NodeOf q) writes ⊎ Has (LinksOf q) writes

abbrev pub EachRead : ℕ → Map → List Item → List Key → Type 0
EachRead tx old reads [] = ⊤
EachRead tx old reads (k ∷ ks) = ReadBy tx old reads k × EachRead tx old reads ks

-- each key that a change names; a cut names all keys of its range
abbrev pub ChangeWritten : Map → List Item → Change Key Delta → Type 0
ChangeWritten old writes (change.Delta k d) = WrittenBy old writes k
ChangeWritten old writes (change.Cut from to) = (k : Key) → is_between key_cmp from to k ≡ true → WrittenBy old writes k

abbrev pub EachWritten : Map → List Item → Edits → Type 0
EachWritten old writes [] = ⊤
EachWritten old writes (c ∷ cs) = ChangeWritten old writes c × EachWritten old writes cs

-- where a path's file comes from: it stood there, it is of the transaction itself, or it got this path
abbrev pub Comes : ℕ → Map → List Item → List ℕ → InodeId → Type 0
Comes tx old reads p i = LeadsTo old p i ⊎ (i.tx.0 ≡ tx) ⊎ FileRead old reads i

-- a path's file stands there still, or what stands there was written, and its bytes
abbrev pub StaysOr : Map → List Item → List ℕ → InodeId → Type 0
StaysOr new writes q i = LeadsTo new q i ⊎ (Has (NodeOf q) writes × Has (BodyOf q) writes)

-- The footprint of a call, or of a whole run, of the transaction tx on a map: each recorded key was read, and so was each key whose
-- change may find no room, whatever map it meets; each key that is changed was written; and it is known where each path leads.
pub record Feet (tx : ℕ) (old : Map) (keys : List Key) (cs : Edits) (reads writes : List Item) : Type 0 where
  pub read : EachRead tx old reads keys
  pub unfit : (m : Map) (k : Key) → first_unfit key_cmp outcome_of cs m ≡ Some k → ReadBy tx old reads k
  pub written : EachWritten old writes cs
  pub comes : (p : List ℕ) (i : InodeId) → LeadsTo (with cs old) p i → Comes tx old reads p i
  pub stays : (q : List ℕ) (i : InodeId) → LeadsTo old q i → StaysOr (with cs old) writes q i
