-- The tree that an image stands for, and which images a run can begin with.
use Rattle.std.specs.Prelude.{◌≡◌, ◌≤◌, ℕ, List}
use Rattle.std.specs.Option.{option_map}
use Rattle.wtf_base.specs.declared.settings.Settings.{Settings}
use Rattle.wtf_model.specs.Tree.{Tree}
use Rattle.wtf_values.specs.declared.key.Key.{Key}
use Rattle.wtf_meta.specs.Contents.{Told}
use Rattle.wtf_meta.specs.Maps.{Map}
use Rattle.wtf_meta.specs.Trees.{Stands}
use Rattle.wtf_image.specs.Images.{HasText}
use Rattle.wtf_image.specs.Loading.{AreSettingsOf, IsTaken}
use Rattle.wtf_imagefmt.specs.Lookups.{plain, row_at}
use Rattle.wtf_imagefmt.specs.Rows.{ImageRows}

-- The bytes are an image, and what it says of each key stands for the tree, over what the stores tell, for each transaction
-- that is not before the one that it gives as the next. So a region whose list lies in a slice has the bytes that this list, with the
-- image's entries over it, says: the stores tell each byte of the slice, these decode to a list, and the stores tell each byte that the
-- list names (`Stands.bytes`).
pub record IsImageOfTree (told : Told) (bytes : List ℕ) (t : Tree) : Type 0 where
  pub rows : ImageRows
  pub map : Map
  pub text : HasText rows bytes
  pub says : (q : Key) → option_map plain (map q) ≡ row_at rows q
  pub stands : (tx : ℕ) → rows.header.next_tx ≤ tx → Stands rows.header.region told tx 0 map t

-- An image that is taken: the bytes break no rule, over stores whose files have these sizes. Its settings are these, and so
-- are its numbers: of installs, and of the next transaction.
pub record IsImageWith (size : ℕ → ℕ → ℕ) (settings : Settings) (number next : ℕ) (bytes : List ℕ) : Type 0 where
  pub rows : ImageRows
  pub taken : IsTaken size bytes rows
  pub settings_are : AreSettingsOf rows settings
  pub installs : rows.header.installs ≡ number
  pub next_tx : rows.header.next_tx ≡ next
