-- What holds of a collector with what it is lent, between two calls.
use Rattle.std.specs.Prelude.{◌≡◌, ℕ, ◌≤◌, List, Option, None, Some, IsTrue}
use Rattle.wtf_dev.specs.Memory.{StoreState, mem_store}
use Rattle.wtf_kv.specs.Stores.{Store, is_live}
use Rattle.wtf_replica.specs.Inside.{size_in}
use Rattle.wtf_values.specs.declared.key.Key.{Key}
use Rattle.wtf_values.specs.declared.value.Value.{Value}
use Rattle.wtf_meta.specs.Maps.{metadata_at}
use Rattle.wtf_region.specs.declared.dev.Dev.{Dev}
use Rattle.wtf_region.specs.Devs.{IsSoundDev, stores}
use Rattle.wtf_region.specs.Inside.{IsStoredInside}
use Rattle.wtf_gc.specs.Scans.{AreHeld}
use Rattle.wtf_gc.specs.Views.{ScanView, RunView, GcView, mark_of}

-- no mark of a scan passes its file's length
abbrev pub Marks : List StoreState → ScanView → Type 0
Marks shelf s = (k f : ℕ) → mark_of s k f ≤ size_in mem_store shelf k f

abbrev pub RunMarks : List StoreState → Option RunView → Type 0
RunMarks shelf None = Unit {0}
RunMarks shelf (Some r) = Marks shelf r.scan

-- nor one of the three that a collector has
pub record AreMarks (shelf : List StoreState) (g : GcView) : Type 0 where
  pub older : Marks shelf g.older
  pub newer : Marks shelf g.newer
  pub running : RunMarks shelf g.running

-- what each number that may be read sees lies inside the stores
abbrev pub AllLie : Dev StoreState → Store Key Value → Type 0
AllLie dev kv = (n : ℕ) → IsTrue (is_live kv n) → IsStoredInside mem_store (stores dev) dev.settings (metadata_at kv n)

-- what the calls of a collector ask for
pub record IsGcReady (dev : Dev StoreState) (kv : Store Key Value) (g : GcView) : Type 0 where
  pub sound : IsSoundDev mem_store dev
  pub held : AreHeld g.running kv
  pub lie : AllLie dev kv
  pub marks : AreMarks (stores dev) g

-- the same is lent
pub record IsSameLent (old new : Dev StoreState) : Type 0 where
  pub shelf : new.shelf.ghost_name ≡ old.shelf.ghost_name
  pub cache : new.cache.ghost_name ≡ old.cache.ghost_name
  pub ring : new.ring ≡ old.ring
  pub settings : new.settings ≡ old.settings
