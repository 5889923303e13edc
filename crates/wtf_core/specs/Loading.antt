-- A core that was loaded of an image.
use Rattle.std.specs.Prelude.{◌≡◌, ℕ, List, []}
use Rattle.wtf_values.specs.declared.key.Key.{Key}
use Rattle.wtf_image.specs.Rows.{ImageRows}
use Rattle.wtf_image.specs.Lookups.{row_at}
use Rattle.wtf_image.specs.Loading.{AreSettingsOf, IsTaken}
use Rattle.wtf_image.specs.Tables.{shown}
use Rattle.wtf_core.specs.Views.{CoreView}
use Rattle.wtf_clients.specs.Views.{unsaved}
use Rattle.wtf_clients.specs.Saves.{only_image}

-- The bytes are an image that breaks no rule, over stores whose files have these sizes. The core has its settings and its
-- number, says of each key what the image says, and begins next the image's next transaction; none is open. It knows that the
-- keeper has this image, and remembers no list.
pub record IsCoreOf (size : ℕ → ℕ → ℕ) (bytes : List ℕ) (core : CoreView) : Type 0 where
  pub rows : ImageRows
  pub taken : IsTaken size bytes rows
  pub settings : AreSettingsOf rows core.settings
  pub number : core.tables.kv.number ≡ rows.header.installs
  pub next_tx : core.tables.next_tx ≡ rows.header.next_tx
  pub map : (q : Key) → shown core.tables.kv q ≡ row_at rows q
  pub clients : core.tables.clients ≡ []
  pub beside : core.tables.beside ≡ only_image unsaved core.tables.kv.number
  pub lists : core.lists ≡ []
