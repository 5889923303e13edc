-- What is loaded of an image, and why bytes are refused.
use Rattle.std.specs.Prelude.{◌≡◌, ℕ, Bool, true, false, List, [], Option, None, Some, ⊤}
use Rattle.wtf_base.specs.declared.ids.InodeId.{InodeId}
use Rattle.wtf_base.specs.declared.settings.Settings.{Settings}
use Rattle.wtf_kv.specs.Stores.{Store, versions_of}
use Rattle.wtf_values.specs.Keys.{key_cmp}
use Rattle.wtf_values.specs.declared.key.Key.{Key}
use Rattle.wtf_values.specs.declared.key.Key.TheVariants as keys
use Rattle.wtf_values.specs.declared.value.Value.{Value}
use Rattle.wtf_image.specs.declared.error.LoadError.{LoadError}
use Rattle.wtf_image.specs.declared.error.LoadError.TheVariants as error
use Rattle.wtf_imagefmt.specs.Rows.{ImageRows}
use Rattle.wtf_image.specs.Images.{HasText, IsNoImage}
use Rattle.wtf_imagefmt.specs.Lookups.{Plain, row_at}
use Rattle.wtf_image.specs.Rules.{AreGoodSettings, IsGoodTree, none_lost, are_inside_without}
use Rattle.wtf_image.specs.Seeds.{IsOnly}
use Rattle.wtf_image.specs.Tables.{shown, ShowsRows}

-- the settings are those of the image
pub record AreSettingsOf (x : ImageRows) (s : Settings) : Type 0 where
  pub servers : s.servers ≡ x.header.servers
  pub replicas : s.replicas ≡ x.header.replicas
  pub region : s.region ≡ x.header.region

-- the bytes are an image with good settings, which are these
pub record IsChecked (bytes : List ℕ) (s : Settings) : Type 0 where
  pub rows : ImageRows
  pub text : HasText rows bytes
  pub good : AreGoodSettings rows
  pub settings : AreSettingsOf rows s

-- an image whose settings or numbers break a rule
pub record HasBadSettings (bytes : List ℕ) : Type 0 where
  pub rows : ImageRows
  pub text : HasText rows bytes
  pub bad : AreGoodSettings rows → ⊥

-- why a check refuses bytes; memory may be wanted at any time
abbrev pub IsCheckRefusal : List ℕ → LoadError → Type 0
IsCheckRefusal bytes error.NotAnImage = IsNoImage bytes
IsCheckRefusal bytes error.BadSettings = HasBadSettings bytes
IsCheckRefusal bytes error.BadTree = ⊥
IsCheckRefusal bytes error.PointerOutside = ⊥
IsCheckRefusal bytes error.Memory = ⊤

-- a key has the one version n with what an image says of it, and none where that is nothing
abbrev pub IsSeededBy : ℕ → List (ℕ × Option Value) → Option Plain → Type 0
IsSeededBy n vs None = vs ≡ []
IsSeededBy n vs (Some s) = IsOnly n vs s

-- what an image says of a key by one record, and so not of the names in a directory or of the number of a file's paths
abbrev pub row_but_names : ImageRows → Key → Option Plain
row_but_names x (keys.Path p) = row_at x (keys.Path p)
row_but_names x (keys.Dir p) = None
row_but_names x (keys.Inode i) = row_at x (keys.Inode i)
row_but_names x (keys.Region i r) = row_at x (keys.Region i r)
row_but_names x (keys.Links i) = None

-- a store with the files and the paths of an image, no directory and no number of paths
pub record IsPartly (x : ImageRows) (kv : Store Key Value) : Type 0 where
  pub number : kv.number ≡ x.header.installs
  pub pins : kv.pins ≡ []
  pub rows : ShowsRows (shown kv) x.paths x.files
  pub versions : (q : Key) → IsSeededBy kv.number (versions_of key_cmp kv q) (row_but_names x q)
  pub no_dirs : (p : List ℕ) → versions_of key_cmp kv (keys.Dir p) ≡ []
  pub no_counts : (i : InodeId) → versions_of key_cmp kv (keys.Links i) ≡ []

-- a store is what an image says: at its number of installs, nothing is pinned, and each key has just what the image says
-- of it, as its one version, which is the number
pub record IsLoaded (x : ImageRows) (kv : Store Key Value) : Type 0 where
  pub number : kv.number ≡ x.header.installs
  pub pins : kv.pins ≡ []
  pub versions : (q : Key) → IsSeededBy kv.number (versions_of key_cmp kv q) (row_at x q)
  pub map : (q : Key) → shown kv q ≡ row_at x q

-- an image with good settings that makes no tree
pub record HasBadTree (bytes : List ℕ) : Type 0 where
  pub rows : ImageRows
  pub text : HasText rows bytes
  pub good : AreGoodSettings rows
  pub bad : IsGoodTree rows → ⊥

-- an image with good settings and a good tree that names bytes outside the stores, whose files have these sizes; the sizes on
-- lost servers are not looked at
pub record HasPointerOutside (lost : ℕ → Bool) (size : ℕ → ℕ → ℕ) (bytes : List ℕ) : Type 0 where
  pub rows : ImageRows
  pub text : HasText rows bytes
  pub good : AreGoodSettings rows
  pub tree : IsGoodTree rows
  pub outside : are_inside_without lost size rows ≡ false

-- why bytes are refused: the first rule that they break; memory may be wanted at any time
abbrev pub IsRefusalWithout : (ℕ → Bool) → (ℕ → ℕ → ℕ) → List ℕ → LoadError → Type 0
IsRefusalWithout lost size bytes error.NotAnImage = IsNoImage bytes
IsRefusalWithout lost size bytes error.BadSettings = HasBadSettings bytes
IsRefusalWithout lost size bytes error.BadTree = HasBadTree bytes
IsRefusalWithout lost size bytes error.PointerOutside = HasPointerOutside lost size bytes
IsRefusalWithout lost size bytes error.Memory = ⊤

-- the same where no server is lost
abbrev pub IsLoadRefusal : (ℕ → ℕ → ℕ) → List ℕ → LoadError → Type 0
IsLoadRefusal size bytes why = IsRefusalWithout none_lost size bytes why

-- why an image with good settings is refused
abbrev pub IsLateRefusal : (ℕ → Bool) → (ℕ → ℕ → ℕ) → ImageRows → LoadError → Type 0
IsLateRefusal lost size x error.NotAnImage = ⊥
IsLateRefusal lost size x error.BadSettings = ⊥
IsLateRefusal lost size x error.BadTree = IsGoodTree x → ⊥
IsLateRefusal lost size x error.PointerOutside = IsGoodTree x × (are_inside_without lost size x ≡ false)
IsLateRefusal lost size x error.Memory = ⊤

-- the bytes are an image that breaks no rule
pub record IsTakenWithout (lost : ℕ → Bool) (size : ℕ → ℕ → ℕ) (bytes : List ℕ) (x : ImageRows) : Type 0 where
  pub text : HasText x bytes
  pub good : AreGoodSettings x
  pub tree : IsGoodTree x
  pub inside : are_inside_without lost size x ≡ true

-- the same where no server is lost
abbrev pub IsTaken : (ℕ → ℕ → ℕ) → List ℕ → ImageRows → Type 0
IsTaken size bytes x = IsTakenWithout none_lost size bytes x
