-- What an attempt holds, what it sees, and how it grows.
use Rattle.std.specs.Prelude.{◌≡◌, ℕ, List, ◌++◌, Option}
use Rattle.std.specs.declared.cmp.Ordering.{Ordering}
use Rattle.wtf_kv.specs.declared.cell.Applied.{Applied}
use Rattle.wtf_kv.specs.declared.changes.Change.{Change}
use Rattle.wtf_kv.specs.Edits.{over}
use Rattle.wtf_kv.specs.Stores.{Store, map_at}

-- its base, the keys that it has recorded, and its changes, in order
pub record Attempted (K D : Type 0) : Type 0 where
  pub base : ℕ
  pub reads : List K
  pub changes : List (Change K D)

-- the map that an attempt sees: the one at its base, with its changes over it
abbrev pub map_seen : {K C D : Type 0} → (K → K → Ordering) → (Option C → D → Applied C) → Store K C → Attempted K D → K → Option C
map_seen order outcome s attempt = over order outcome attempt.changes (map_at order s attempt.base)

-- the base is the same, and the attempt has recorded these keys more and made these changes more
pub record GrowsBy {K D : Type 0} (old new : Attempted K D) (keys : List K) (cs : List (Change K D)) : Type 0 where
  pub base : new.base ≡ old.base
  pub reads : new.reads ≡ old.reads ++ keys
  pub changes : new.changes ≡ old.changes ++ cs

-- a list goes on where another ends
abbrev pub GoesOn : {A : Type 0} → List A → List A → Type 0
GoesOn {A} old new = (more : List A) × (new ≡ old ++ more)

-- the base is the same, and both lists go on where they ended
pub record Grows {K D : Type 0} (old new : Attempted K D) : Type 0 where
  pub base : new.base ≡ old.base
  pub reads : GoesOn old.reads new.reads
  pub changes : GoesOn old.changes new.changes
