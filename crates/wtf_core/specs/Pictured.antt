-- The tree that an image stands for, and which images a run can begin with.
use Rattle.std.specs.Prelude.{◌≡◌, ◌⊎◌, ◌≤◌, ℕ, List, [], None, Some}
use Rattle.std.specs.List.{Contains}
use Rattle.wtf_base.specs.declared.ids.InodeId.{InodeId}
use Rattle.wtf_base.specs.declared.settings.Settings.{Settings}
use Rattle.wtf_dev.specs.Keep.{KeeperView}
use Rattle.wtf_model.specs.Tree.{Tree, root_alone}
use Rattle.wtf_meta.specs.Contents.{Told}
use Rattle.wtf_image.specs.Images.{HasText}
use Rattle.wtf_image.specs.Loading.{AreSettingsOf, IsTaken}
use Rattle.wtf_image.specs.Lookups.{region_at}
pub use Rattle.wtf_image.specs.Pictured.{IsImageOfTree, IsImageWith}
use Rattle.wtf_image.specs.Rows.{RegionRow, ImageRows}

-- no region of an image has a list that lies in a slice: all lists of regions are in the image
abbrev pub IsBareImage : List ℕ → Type 0
IsBareImage bytes = (x : ImageRows) → HasText x bytes → (i : InodeId) (r : ℕ) (row : RegionRow) → region_at x.files i r ≡ Some row → row.base ≡ None

-- bytes stand for one of these trees; no bytes stand for the root alone
abbrev pub IsImageOfOne : Told → List ℕ → List Tree → Type 0
IsImageOfOne told bytes may =
    ((bytes ≡ []) × Contains may root_alone) ⊎ ((t : Tree) × Contains may t × IsImageOfTree told bytes t)

-- a keeper holds such bytes, and tells them
abbrev pub HoldsTree : KeeperView → Told → List Tree → Type 0
HoldsTree v told may = (bytes : List ℕ) × (v.held ≡ Some bytes) × IsImageOfOne told bytes may

-- An image that is taken: the bytes break no rule, over stores whose files have these sizes. Its settings are these, and its
-- numbers at most these: of installs, and of the next transaction.
pub record IsImageFor (size : ℕ → ℕ → ℕ) (settings : Settings) (number next : ℕ) (bytes : List ℕ) : Type 0 where
  pub rows : ImageRows
  pub taken : IsTaken size bytes rows
  pub settings_are : AreSettingsOf rows settings
  pub installs : rows.header.installs ≤ number
  pub next_tx : rows.header.next_tx ≤ next

-- no byte, or such an image
abbrev pub IsTakenFor : (ℕ → ℕ → ℕ) → Settings → ℕ → ℕ → List ℕ → Type 0
IsTakenFor size settings number next bytes = (bytes ≡ []) ⊎ IsImageFor size settings number next bytes

-- a keeper holds such bytes, and tells them
abbrev pub HoldsTaken : KeeperView → (ℕ → ℕ → ℕ) → Settings → ℕ → ℕ → Type 0
HoldsTaken v size settings number next = (bytes : List ℕ) × (v.held ≡ Some bytes) × IsTakenFor size settings number next bytes

-- or an image with just these numbers
abbrev pub HoldsWith : KeeperView → (ℕ → ℕ → ℕ) → Settings → ℕ → ℕ → Type 0
HoldsWith v size settings number next = (bytes : List ℕ) × (v.held ≡ Some bytes) × IsImageWith size settings number next bytes
