-- The bytes and the bases that the tables name: those of the map at each number that can be read, of each open transaction, and of what
-- each job is to put in a region's place.
use Rattle.std.specs.Prelude.{◌≡◌, ◌==◌, ℕ, Bool, true, false, IsTrue, List, [], ◌∷◌, length, Some}
use Rattle.wtf_base.specs.declared.slice.Slice.{Slice}
use Rattle.wtf_kv.specs.Stores.{is_live}
use Rattle.wtf_overlay.specs.Origin.{Place}
use Rattle.wtf_meta.specs.Bytes.{MapBytes, MaybeBytes}
use Rattle.wtf_meta.specs.Maps.{metadata_at}
use Rattle.wtf_replay.specs.Views.{TxnView}
use Rattle.wtf_meta.specs.Contents.{Told}
use Rattle.wtf_replay.specs.Insides.{TxnBytes, lists_have}
use Rattle.wtf_compact.specs.Jobs.{JobView}
use Rattle.wtf_clients.specs.Views.{TablesView, of_client, of_label}

-- P holds of the places of each byte of the map now and of the map at each number that is pinned, for a transaction, an image or a
-- job, and of each byte that an open transaction or a job names; and Q of the slice of each base of these
pub record TablesBytes (P : List Place → Bool) (Q : Slice → Bool) (tables : TablesView) : Type 0 where
  pub live : (n : ℕ) → IsTrue (is_live tables.kv n) → MapBytes P Q (metadata_at tables.kv n)
  pub each : (c : ℕ) (x : TxnView) → of_client tables.clients c ≡ Some x → TxnBytes P Q tables.kv x
  pub planned : (j : ℕ) (x : JobView) → of_label tables.beside.jobs j ≡ Some x → MaybeBytes P Q x.value

-- P holds of the places of each byte that the tables name, also of each that the list of a base names, which its slice decodes to over stores
-- that tell this, for a region of so many bytes
abbrev pub ListedBytes : ℕ → Told → (List Place → Bool) → TablesView → Type 0
ListedBytes size told P tables = TablesBytes P (lists_have size told P) tables

-- the test that every byte passes, and the one that no slice does: where the slice of each base passes it there is none
abbrev pub any_byte : List Place → Bool
any_byte places = true

abbrev pub no_slice : Slice → Bool
no_slice s = false

-- a hole, or so many copies
abbrev pub has_copies : ℕ → List Place → Bool
has_copies n [] = true
has_copies n (p ∷ ps) = length (p ∷ ps) == n
