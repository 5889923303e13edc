-- What a stop leaves of stores: the bytes that they told, but in ranges that were punched.
use Rattle.std.proofs.Common.{◌≡◌, ◌<◌, ◌∙◌, ℕ, true, cond, nat_lt, List, length, get_or, slice_get, None, Some, ⊎_elim, sym, ap, arith}
use Rattle.std.proofs.lemmas.Bool.{lt-ltb}
use Rattle.wtf_base.proofs.Elements.{element}
use Rattle.wtf_dev.specs.Disk.{DiskContent, DiskKind, DiskLaws, MayLeave}
use Rattle.wtf_dev.specs.Each.{EachFollows}
use Rattle.wtf_dev.specs.Store.{Range}
use Rattle.wtf_dev.specs.Sums.{TellsAll}
use Rattle.wtf_journal.specs.Follows.{SyncedState, is_there, synced_kind, there, view_of, where_true}
use Rattle.wtf_overlay.specs.Origin.{Place}
use Rattle.wtf_replica.specs.Bytes.{byte_at}
use Rattle.wtf_replica.proofs.Bytes.{byte_at-told, byte_at-within}
use Rattle.wtf_region.specs.Apart.{lies_apart}
use Rattle.wtf_meta.proofs.Telling.{TellsOn}
use Rattle.wtf_clients.specs.Off.{TellsWhere}
use Rattle.wtf_clients.proofs.Punched.{outside_from}
use Rattle.wtf_durable.specs.Stops.{StoresLeft, StoresMayLeave, left_at}

-- a byte of a file in one of eight
left_there : (file : ℕ) (bytes : List ℕ) (at b : ℕ) → file < 8 → slice_get bytes at ≡ Some b → cond (nat_lt file 8) (slice_get bytes at) None ≡ Some b
left_there file bytes at b below is = ap (λ t. cond t (slice_get bytes at) None) (lt-ltb file 8 below) ∙ is

module _ {S : Type 0} (kind : DiskKind S) where
  -- what is told of a store at a place of one of its files
  record TellsThere (shelf : List (SyncedState S)) (p : Place) (b : ℕ) : Type 0 where
    below : p.server < length shelf
    store : SyncedState S
    told : (view_of kind (get_or shelf p.server store)).told p.file p.at ≡ Some b
    file : p.file < 8
    byte : ((kind.view (get_or shelf p.server store).disk).file p.file).told p.at ≡ Some b

  tells_there : (shelf : List (SyncedState S)) (p : Place) (b : ℕ) → byte_at (synced_kind kind) shelf p ≡ Some b → TellsThere shelf p b
  tells_there shelf p b is =
      let below : p.server < length shelf = byte_at-within (synced_kind kind) shelf p b is in
      let d : SyncedState S = element shelf p.server below in
      let told : (view_of kind (get_or shelf p.server d)).told p.file p.at ≡ Some b = sym (byte_at-told (synced_kind kind) shelf p d below) ∙ is in
      let both = where_true (is_there (kind.view (get_or shelf p.server d).disk) p.file p.at)
      (((kind.view (get_or shelf p.server d).disk).file p.file).told p.at) b told in
      record {
        below = below;
        store = d;
        told = told;
        file = (there (kind.view (get_or shelf p.server d).disk) p.file p.at both.0).file;
        byte = both.1;
      }

  may_leave : (shelf : List (SyncedState S)) (p : Place) (b : ℕ) (at : TellsThere shelf p b) (c : DiskContent)
      → MayLeave (kind.view (get_or shelf p.server at.store).disk) c → slice_get (c p.file) p.at ≡ Some b
  may_leave shelf p b at c may = (may p.file).bytes p.at b at.byte

  -- a stop now leaves each byte that is told
  pub stores_now : (shelf : List (SyncedState S)) (stores : ℕ → DiskContent) → StoresMayLeave kind shelf stores
      → TellsOn (byte_at (synced_kind kind) shelf) (left_at stores)
  stores_now shelf stores may p b is =
      let at = tells_there shelf p b is in
      left_there p.file (stores p.server p.file) p.at b at.file (may_leave shelf p b at (stores p.server) (may p.server at.store at.below))

  -- stops at any moments since leave each that was told, where nothing was punched
  pub stores_since : DiskLaws kind → (old new : List (SyncedState S)) (ranges : List (ℕ × Range)) → EachFollows (synced_kind kind) old new ranges
      → TellsAll (synced_kind kind) old → (stores : ℕ → DiskContent) → StoresLeft kind old new stores
      → TellsWhere (lies_apart ranges) (byte_at (synced_kind kind) old) (left_at stores)
  stores_since laws old new ranges follows tells stores left p b apart is =
      let at = tells_there old p b is in
      let was : S = (get_or old p.server at.store).disk in
      let now : S = (get_or new p.server at.store).disk in
      let telling : (kind.view was).tells ≡ true = (tells p.server at.store at.below) in
      left_there p.file (stores p.server p.file) p.at b at.file
      (⊎_elim
      (λ before. may_leave old p b at (stores p.server) (laws.only_now was (stores p.server) telling before))
      (λ keeps. keeps p.file p.at b (outside_from p ranges apart) at.told)
      (((follows.each p.server at.store at.below).moments telling).since (kind.view was).moment (stores p.server) (omega arith)
      (left p.server at.store at.below)))
