-- What the records of a journal give: an image, and changes that are made in the image before them.
use Rattle.std.specs.Prelude.{◌≡◌, ⊤, ℕ, zero, suc, nat_eq, Bool, true, false, if◌then◌else◌, List, [], ◌∷◌, ◌++◌, Option, None, Some}
use Rattle.wtf_overlay.specs.Reading.{◌>>=◌}
use Rattle.wtf_imagefmt.specs.Images.{HasText}
use Rattle.wtf_imagefmt.specs.Reading.{image_of}
use Rattle.wtf_imagefmt.specs.Rows.{ImageRows}
use Rattle.wtf_changes.specs.Applying.{IsSomeImage}
use Rattle.wtf_changes.specs.Drafts.{DraftRows, applied, taken, written}
use Rattle.wtf_changes.specs.Reading.{changes_of}
use Rattle.wtf_changes.specs.Rows.{ChangeRows}
use Rattle.wtf_journal.specs.declared.held.Shown.{Shown}
use Rattle.wtf_journal.specs.declared.held.Shown.TheVariants.{Nothing, Image, Changed}
use Rattle.wtf_dev.specs.Disk.{DiskKind}
use Rattle.wtf_journal.specs.Records.{HasBodies, RestsAt}
use Rattle.wtf_journal.specs.Scan.{JournalGives, held_after}

-- the rows of an image; none before the first record
abbrev pub Held : Type 0
Held = Option ImageRows

abbrev pub image_by : List ℕ → Option Held
image_by image = image_of image >>= λ x. Some (Some x)

abbrev pub changed_by : Held → List ℕ → Option Held
changed_by None changes = None
changed_by (Some x) changes = changes_of changes >>= λ ch. applied x ch >>= λ y. Some (Some y)

abbrev pub body_by : ℕ → Held → List ℕ → Option Held
body_by zero held rest = image_by rest
body_by (suc zero) held rest = changed_by held rest
body_by (suc (suc n)) held rest = None

-- what a body makes of what the records before it gave: 0 and an image, or 1 and changes; none where it is not in the format
abbrev pub held_by : Held → List ℕ → Option Held
held_by held [] = None
held_by held (kind ∷ rest) = body_by kind held rest

abbrev pub is_changes : List ℕ → Bool
is_changes [] = false
is_changes (kind ∷ rest) = nat_eq kind 1

-- whether the last of these records is one of changes; `before` where there is none
abbrev pub ends_in_changes : Bool → List (List ℕ) → Bool
ends_in_changes before [] = before
ends_in_changes before (body ∷ bodies) = ends_in_changes (is_changes body) bodies

-- the bytes are the text of what is held: those of an image, and none before the first record
abbrev pub IsTextOf : Held → List ℕ → Type 0
IsTextOf None bytes = bytes ≡ []
IsTextOf (Some x) bytes = HasText x bytes

-- what there is, as rows
abbrev pub rows_shown : Shown → Held
rows_shown Nothing = None
rows_shown (Image v) = image_of v.items
rows_shown (Changed d) = Some (written d)

abbrev pub is_changed : Shown → Bool
is_changed Nothing = false
is_changed (Image v) = false
is_changed (Changed d) = true

-- the bytes are an image, and a draft is taken of its image as it is
abbrev pub IsKeptAs : Shown → Type 0
IsKeptAs Nothing = ⊤
IsKeptAs (Image v) = IsSomeImage v.items
IsKeptAs (Changed d) = taken (written d) ≡ d

-- a draft of the image that is held
abbrev pub DrawsHeld : Held → DraftRows → Type 0
DrawsHeld held d = (x : ImageRows) × (held ≡ Some x) × (d ≡ taken x)

-- what is held, and whether changes came behind the last image
pub record HeldView : Type 0 where
  pub rows : Held
  pub behind : Bool

abbrev pub nothing_held : HeldView
nothing_held = record { rows = None; behind = false }

-- the same as `held_by`, with that
abbrev pub view_by : HeldView → List ℕ → Option HeldView
view_by v body = held_by v.rows body >>= λ rows. Some (record { rows = rows; behind = is_changes body })

-- what a body makes, of changes or of an image
pub record IsMadeBy (made : Option Held) (changes : Bool) (shown : Shown) : Type 0 where
  pub kept : IsKeptAs shown
  pub made_is : made ≡ Some (rows_shown shown)
  pub is_changed : is_changed shown ≡ changes

-- changes that are made in an image
abbrev pub made_in : ImageRows → ChangeRows → Option Held
made_in x ch = applied x ch >>= λ y. Some (Some y)

-- the record that is added where changes came behind the last image
abbrev pub renewal : Bool → List ℕ → List (List ℕ)
renewal behind image = if behind then (0 ∷ image) ∷ [] else []

-- What opening a journal gives: the image that its records give, and where the last of them are changes, a record of it behind them.
pub record IsJournalOpened {D : Type 0} (kind : DiskKind D) (old new : D) (end : ℕ) (image : List ℕ) : Type 0 where
  pub bodies : List (List ℕ)
  pub has : HasBodies bodies ((kind.view old).file 0).seen
  pub held : Held
  pub held_is : held_after held_by (Some None) bodies ≡ Some held
  -- the journal stood for nothing else
  pub only : (other : Held) → JournalGives held_by None ((kind.view old).file 0).seen other → other ≡ held
  pub text : IsTextOf held image
  pub rests : RestsAt kind new end (bodies ++ renewal (ends_in_changes false bodies) image)
  -- and still stands for that
  pub still : held_after held_by (Some None) (bodies ++ renewal (ends_in_changes false bodies) image) ≡ Some held
