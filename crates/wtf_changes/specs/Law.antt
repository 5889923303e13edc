-- Two images of a store, at a number that is pinned and at its number.
use Rattle.std.specs.Prelude.{◌≡◌, ℕ, ◌≤◌, IsTrue}
use Rattle.wtf_base.specs.declared.settings.Settings.{Settings}
use Rattle.wtf_kv.specs.Stores.{Store, is_pinned}
use Rattle.wtf_values.specs.declared.key.Key.{Key}
use Rattle.wtf_values.specs.declared.value.Value.{Value}
use Rattle.wtf_imagefmt.specs.declared.records.Version.TheVariants.{Two}
use Rattle.wtf_imagefmt.specs.Rows.{ImageRows}
use Rattle.wtf_imagefmt.specs.Savable.{IsSavable}
use Rattle.wtf_imagefmt.specs.Saving.{Says, header_of}
use Rattle.wtf_imagefmt.specs.Shapes.{IsImage}
use Rattle.wtf_imagefmt.specs.Shown.{Shown, shown_at, shown}

-- the rows are an image of what a store shows, which can be saved with this next transaction number
pub record IsPictureOf (m : Shown) (s : Settings) (number next_tx : ℕ) (x : ImageRows) : Type 0 where
  pub savable : IsSavable s.region next_tx m
  pub shape : IsImage x
  pub says : Says m x
  pub header : x.header ≡ header_of s number next_tx

-- x is an image at a number that is pinned, and z one of the second version at the number of the store
pub record AreImagesSince (kv : Store Key Value) (since : ℕ) (s : Settings) (next_tx : ℕ) (x z : ImageRows) : Type 0 where
  pub pinned : IsTrue (is_pinned kv since)
  pub upto : since ≤ kv.number
  pub before : ℕ
  pub old : IsPictureOf (shown_at kv since) s since before x
  pub new : IsPictureOf (shown kv) s kv.number next_tx z
  pub second : z.version ≡ Two
