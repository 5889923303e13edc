-- Stores that may have lost bytes, but none at the places of a set.
use Rattle.std.specs.Prelude.{◌≡◌, ℕ, Bool, true, Some}
use Rattle.wtf_overlay.specs.Origin.{Place}
use Rattle.wtf_meta.specs.Contents.{Told}

-- at the places of a set the later stores tell what the earlier ones told
abbrev pub TellsWhere : (Place → Bool) → Told → Told → Type 0
TellsWhere set told later = (p : Place) (byte : ℕ) → set p ≡ true → told p ≡ Some byte → later p ≡ Some byte
