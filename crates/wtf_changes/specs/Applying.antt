-- What changes make of an image, and why they are refused.
use Rattle.std.specs.Prelude.{◌≡◌, List, ℕ, Option, None, Some, Result, Ok, Err, ⊤}
use Rattle.wtf_spillfmt.specs.declared.error.ListError.{ListError}
use Rattle.wtf_spillfmt.specs.declared.error.ListError.TheVariants as unread
use Rattle.wtf_imagefmt.specs.Images.{HasText}
use Rattle.wtf_imagefmt.specs.Rows.{ImageRows}
use Rattle.wtf_changes.specs.declared.error.ApplyError.{ApplyError}
use Rattle.wtf_changes.specs.declared.error.ApplyError.TheVariants as error
use Rattle.wtf_changes.specs.Rows.{ChangeRows}
use Rattle.wtf_changes.specs.Shapes.{HasChanges}
use Rattle.wtf_changes.specs.Drafts.{applied}

-- nothing is made, unless memory ran out
abbrev pub IsUnmade : {Y : Type 0} → Option Y → ApplyError → Type 0
IsUnmade made error.NotChanges = made ≡ None
IsUnmade made error.Memory = ⊤

-- what is made
abbrev pub IsApplied : {A Y : Type 0} → Option Y → Y → Result A ApplyError → Type 0
IsApplied made new (Ok x) = made ≡ Some new
IsApplied made new (Err why) = IsUnmade made why

-- the bytes are an image
pub record IsSomeImage (bytes : List ℕ) : Type 0 where
  pub rows : ImageRows
  pub text : HasText rows bytes

-- bytes are the image that changes make of an image
pub record HasApplied (image changes bytes : List ℕ) : Type 0 where
  pub before : ImageRows
  pub rows : ChangeRows
  pub after : ImageRows
  pub is_image : HasText before image
  pub are_changes : HasChanges rows changes
  pub made : applied before rows ≡ Some after
  pub text : HasText after bytes

-- the bytes are no changes, or give a region to a file that the image does not have behind them
abbrev pub AreNoChanges : List ℕ → List ℕ → Type 0
AreNoChanges image changes = (x : ImageRows) (ch : ChangeRows) → HasText x image → HasChanges ch changes → applied x ch ≡ None

-- why changes are refused, unless memory ran out
abbrev pub IsApplyRefusal : List ℕ → List ℕ → ApplyError → Type 0
IsApplyRefusal image changes error.NotChanges = AreNoChanges image changes
IsApplyRefusal image changes error.Memory = ⊤

abbrev pub no_changes_by : ListError → ApplyError
no_changes_by unread.NotAList = error.NotChanges
no_changes_by unread.Memory = error.Memory
