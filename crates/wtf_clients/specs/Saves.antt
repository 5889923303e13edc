-- What a save makes of the tables.
use Rattle.std.specs.Prelude.{◌≡◌, ◌⊎◌, ℕ, ◌+◌, ◌<◌, false, [], ◌∷◌, ◌++◌}
use Rattle.wtf_kv.specs.Stores.{times_pinned}
use Rattle.wtf_replica.specs.declared.replicas.Replicas.{Replicas}
use Rattle.wtf_replica.specs.Downs.{is_down}
use Rattle.wtf_model.specs.declared.answer.Answer.{Answer}
use Rattle.wtf_model.specs.declared.answer.Answer.TheVariants as answer
use Rattle.wtf_replay.specs.Tried.{KeepsMaps, KeepsVersions}
use Rattle.wtf_clients.specs.Views.{BesideView, TablesView}
use Rattle.wtf_clients.specs.Sounds.{all_kept}

-- one image more may be on the keeper
abbrev pub with_image : BesideView → ℕ → BesideView
with_image beside n = record beside { images = beside.images ++ n ∷ [] }

-- the image of the number may be, and was handed to it last
abbrev pub HasImage : TablesView → Type 0
HasImage tables = (before : BesideView) × (tables.beside ≡ with_image before tables.kv.number)

-- one image is on the keeper
abbrev pub only_image : BesideView → ℕ → BesideView
only_image beside n = record beside { images = n ∷ []; none = false }

-- What stands beside the store is now this, and its numbers are pinned for it in place of those before. All else stays.
pub record Saves (old new : TablesView) (now : BesideView) : Type 0 where
  pub clients : new.clients ≡ old.clients
  pub number : new.kv.number ≡ old.kv.number
  pub maps : KeepsMaps old.kv new.kv
  pub versions : KeepsVersions old.kv new.kv
  pub pins : (n : ℕ) → times_pinned new.kv n + all_kept n old.beside ≡ times_pinned old.kv n + all_kept n now
  pub next_tx : new.next_tx ≡ old.next_tx
  pub beside : new.beside ≡ now

-- none of the servers is down
abbrev pub AreUp : Replicas → ℕ → Type 0
AreUp replicas servers = (k : ℕ) → k < servers → is_down replicas k ≡ false

-- A save: the number is answered where no server is down, and its image is then the only one. After a fault the images are
-- those before, or that of the number beside them.
abbrev pub SaveTurn : Type 0 → TablesView → TablesView → Answer → Type 0
SaveTurn Up old new (answer.Saved n) = (n ≡ old.kv.number) × Up × Saves old new (only_image old.beside n)
SaveTurn Up old new answer.FaultSave = Saves old new old.beside ⊎ Saves old new (with_image old.beside old.kv.number)
SaveTurn Up old new a = ⊥
