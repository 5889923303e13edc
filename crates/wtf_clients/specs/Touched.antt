-- What others have touched since the base of a transaction or a job, by the versions that keys have above it.
-- NSDI 2016, section 2.6 (a transaction is replayed where what it read has changed); the items are this store's own.
use Rattle.std.specs.Prelude.{◌≡◌, ◌⊎◌, ℕ, Bool, true, false, nat_lt, List, None}
use Rattle.std.specs.List.{list_any}
use Rattle.wtf_base.specs.declared.ids.InodeId.{InodeId}
use Rattle.wtf_kv.specs.Stores.{Store, versions_of}
use Rattle.wtf_model.specs.declared.item.Item.{Item}
use Rattle.wtf_model.specs.declared.item.Item.TheVariants.{NodeOf, NamesOf, BodyOf, LinksOf}
use Rattle.wtf_values.specs.declared.key.Key.{Key}
use Rattle.wtf_values.specs.declared.key.Key.TheVariants.{Path, Dir, Inode, Region, Links}
use Rattle.wtf_values.specs.declared.value.Value.{Value}
use Rattle.wtf_values.specs.Keys.{key_cmp}
use Rattle.wtf_meta.specs.Maps.{Map, metadata_at}
use Rattle.wtf_meta.specs.Trees.{LeadsTo}
use Rattle.wtf_meta.specs.Feet.{Has}
use Rattle.wtf_clients.specs.Views.{metadata_now}

-- the key has a version above the number b
abbrev pub above : Store Key Value → ℕ → Key → Bool
above kv b q = list_any (λ v. nat_lt b v.0) (versions_of key_cmp kv q)

-- Where it is told of each key whether it moved, which is to have a version above a base:

-- no key moved that had not before
abbrev pub NoneMoved : (Key → Bool) → (Key → Bool) → Type 0
NoneMoved before after = (q : Key) → after q ≡ true → before q ≡ true

-- no key of the bytes of the file did
pub record IsFileStill (moved : Key → Bool) (i : InodeId) : Type 0 where
  pub inode : moved (Inode i) ≡ false
  pub regions : (r : ℕ) → moved (Region i r) ≡ false

-- Over the map at the base and the map now, others have touched these items. What stands at a path was touched where its key moved,
-- and so were the names in a directory. Where a path led to a file, its bytes were touched; or the path leads to it still, and no
-- key of its bytes moved; and what stands there or how many paths the file has was touched, or the path leads to it still, and the
-- key of their number did not move.
pub record Touched (base now : Map) (moved : Key → Bool) (items : List Item) : Type 0 where
  pub nodes : (p : List ℕ) → moved (Path p) ≡ true → Has (NodeOf p) items
  pub lists : (p : List ℕ) → moved (Dir p) ≡ true → Has (NamesOf p) items
  pub bodies : (p : List ℕ) (i : InodeId) → LeadsTo base p i → Has (BodyOf p) items ⊎ (LeadsTo now p i × IsFileStill moved i)
  pub links : (p : List ℕ) (i : InodeId) → LeadsTo base p i
      → (Has (NodeOf p) items ⊎ Has (LinksOf p) items) ⊎ (LeadsTo now p i × (moved (Links i) ≡ false))

-- A file that the transaction itself would make stands nowhere in the map now, and no key of it moved.
pub record OwnStill (tx : ℕ) (now : Map) (moved : Key → Bool) : Type 0 where
  pub none : (i : InodeId) → i.tx.0 ≡ tx → now (Inode i) ≡ None
  pub still : (i : InodeId) → i.tx.0 ≡ tx → IsFileStill moved i
  pub links : (i : InodeId) → i.tx.0 ≡ tx → moved (Links i) ≡ false

-- What holds, for a transaction of this number on this base, of the items that others have touched since.
pub record SinceBase (kv : Store Key Value) (tx base : ℕ) (items : List Item) : Type 0 where
  pub touched : Touched (metadata_at kv base) (metadata_now kv) (above kv base) items
  pub own : OwnStill tx (metadata_now kv) (above kv base)
