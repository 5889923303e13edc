-- What a run starts from: what the keeper gave, and what that says.
use Rattle.std.specs.Prelude.{◌≡◌, ℕ, List, [], ◌∷◌, ⊤}
use Rattle.wtf_base.specs.declared.settings.Settings.{Settings}
use Rattle.wtf_model.specs.Tree.{Tree, root_alone}
use Rattle.wtf_model.specs.Machines.{Machine, start}
use Rattle.wtf_meta.specs.Contents.{Told}
use Rattle.wtf_image.specs.Rows.{ImageRows}
use Rattle.wtf_image.specs.Images.{HasText}
use Rattle.wtf_image.specs.Rules.{AreGoodSettings}
use Rattle.wtf_image.specs.Loading.{AreSettingsOf, IsTaken}
use Rattle.wtf_core.specs.Pictured.{IsImageOfTree}

-- the bytes that the keeper gave, and the settings, how many installs there were, and the number of the transaction that
-- begins next
pub record Opening : Type 0 where
  pub bytes : List ℕ
  pub settings : Settings
  pub number : ℕ
  pub next_tx : ℕ

-- nothing was saved: no install so far, and no transaction
abbrev pub new_opening : Settings → Opening
new_opening settings = record { bytes = []; settings = settings; number = 0; next_tx = 1 }

-- the bytes are an image whose settings and numbers keep their limits, and these are its settings and its numbers
pub record IsOpeningOf (bytes : List ℕ) (o : Opening) : Type 0 where
  pub rows : ImageRows
  pub text : HasText rows bytes
  pub good : AreGoodSettings rows
  pub settings : AreSettingsOf rows o.settings
  pub number : o.number ≡ rows.header.installs
  pub next_tx : o.next_tx ≡ rows.header.next_tx

-- What the bytes of a keeper open: without a byte the settings are those that were asked for, and else the image's.
abbrev pub Opens : Settings → List ℕ → Opening → Type 0
Opens asked [] o = o ≡ new_opening asked
Opens asked (b ∷ bytes) o = IsOpeningOf (b ∷ bytes) o

-- the bytes break no rule of images, over stores whose files have these sizes
abbrev pub IsTakenOver : (ℕ → ℕ → ℕ) → List ℕ → Type 0
IsTakenOver size [] = ⊤
IsTakenOver size (b ∷ bytes) = (x : ImageRows) × IsTaken size (b ∷ bytes) x

-- the tree that a run starts from: the root alone, or one for which the image stands
abbrev pub StartsFrom : Told → List ℕ → Tree → Type 0
StartsFrom told [] t = t ≡ root_alone
StartsFrom told (b ∷ bytes) t = IsImageOfTree told (b ∷ bytes) t

-- the machine before the first line
abbrev pub first : Opening → Tree → Machine
first o t = start o.settings o.number t
