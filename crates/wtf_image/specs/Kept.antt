-- An image that says just what a store has.
use Rattle.std.specs.Prelude.{◌≡◌, ℕ, List, [], ⊤}
use Rattle.wtf_base.specs.declared.settings.Settings.{Settings}
use Rattle.wtf_kv.specs.Stores.{Store}
use Rattle.wtf_values.specs.declared.key.Key.{Key}
use Rattle.wtf_values.specs.declared.value.Value.{Value}
use Rattle.wtf_meta.specs.Maps.{metadata_at}
use Rattle.wtf_image.specs.declared.error.LoadError.{LoadError}
use Rattle.wtf_image.specs.declared.error.LoadError.TheVariants as error
use Rattle.wtf_image.specs.declared.loads.Loaded.{Loaded}
use Rattle.wtf_imagefmt.specs.Rows.{ImageRows}
use Rattle.wtf_image.specs.Images.{HasText}
use Rattle.wtf_imagefmt.specs.Lookups.{row_at}
use Rattle.wtf_image.specs.Rules.{AreGoodSettings, IsGoodTree}
use Rattle.wtf_imagefmt.specs.Saving.{header_of}
use Rattle.wtf_image.specs.Tables.{shown}

-- the bytes are an image with good settings and a good tree, and of each key it says what the store has
pub record IsKept (kv : Store Key Value) (s : Settings) (next_tx : ℕ) (bytes : List ℕ) : Type 0 where
  pub rows : ImageRows
  pub text : HasText rows bytes
  pub header : rows.header ≡ header_of s kv.number next_tx
  pub good : AreGoodSettings rows
  pub tree : IsGoodTree rows
  pub map : (q : Key) → row_at rows q ≡ shown kv q

-- what was loaded is a store with the same map at the same number, the same settings and the same next transaction
pub record IsSameAs (kv : Store Key Value) (s : Settings) (next_tx : ℕ) (l : Loaded) : Type 0 where
  pub number : l.kv.number ≡ kv.number
  pub pins : l.kv.pins ≡ []
  pub map : metadata_at l.kv l.kv.number ≡ metadata_at kv kv.number
  pub servers : l.settings.servers ≡ s.servers
  pub replicas : l.settings.replicas ≡ s.replicas
  pub region : l.settings.region ≡ s.region
  pub next : l.next_tx ≡ next_tx

abbrev pub IsPointerOrMemory : LoadError → Type 0
IsPointerOrMemory error.NotAnImage = ⊥
IsPointerOrMemory error.BadSettings = ⊥
IsPointerOrMemory error.BadTree = ⊥
IsPointerOrMemory error.PointerOutside = ⊤
IsPointerOrMemory error.Memory = ⊤
