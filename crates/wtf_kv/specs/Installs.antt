-- What is made ready, and what its install makes of a store.
use Rattle.std.specs.Prelude.{◌≡◌, ℕ, ◌+◌, List, Option}
use Rattle.std.specs.declared.cmp.Ordering.{Ordering}
use Rattle.wtf_kv.specs.declared.cell.Applied.{Applied}
use Rattle.wtf_kv.specs.declared.changes.Change.{Change}
use Rattle.wtf_kv.specs.Stores.{Store, versions_in, versions_of, map_at}
use Rattle.wtf_kv.specs.Edits.{versions_with}

-- an install that was made ready: the number that it will have, and its changes
pub record Planned (K D : Type 0) : Type 0 where
  pub number : ℕ
  pub changes : List (Change K D)

module _ {K C D : Type 0} (order : K → K → Ordering) (outcome : Option C → D → Applied C) where
  -- the store holds exactly what the planned install makes
  pub record IsReady (s : Store K C) (plan : Planned K D) : Type 0 where
    pub next : plan.number ≡ s.number + 1
    pub versions : (q : K) → versions_in order s.cells q ≡ versions_with order outcome plan.changes plan.number q (map_at order s s.number q) (versions_of order s q)
