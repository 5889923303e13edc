-- What a load gives.
use Rattle.std.specs.Prelude.{◌≡◌, ℕ, Bool, List}
use Rattle.wtf_image.specs.declared.loads.Loaded.{Loaded}
use Rattle.wtf_imagefmt.specs.Rows.{ImageRows}
use Rattle.wtf_image.specs.Rules.{none_lost}
use Rattle.wtf_image.specs.Loading.{AreSettingsOf, IsLoaded, IsTakenWithout}

-- the bytes are an image that breaks no rule, over stores whose files have these sizes, where those on lost servers are not
-- looked at; and this is what it says
pub record IsLoadWithout (lost : ℕ → Bool) (size : ℕ → ℕ → ℕ) (bytes : List ℕ) (l : Loaded) : Type 0 where
  pub rows : ImageRows
  pub taken : IsTakenWithout lost size bytes rows
  pub settings : AreSettingsOf rows l.settings
  pub next_tx : l.next_tx ≡ rows.header.next_tx
  pub store : IsLoaded rows l.kv

-- the same where no server is lost
abbrev pub IsLoadOf : (ℕ → ℕ → ℕ) → List ℕ → Loaded → Type 0
IsLoadOf size bytes l = IsLoadWithout none_lost size bytes l
