-- Orders that name each server once.
use Rattle.std.specs.Prelude.{◌≡◌, ℕ, ◌<◌, nat_eq, List, length}
use Rattle.std.specs.List.{All, Contains, IsDistinct}

-- the list names each of n servers, and each of them once
pub record IsOrder (n : ℕ) (servers : List ℕ) : Type 0 where
  pub len : length servers ≡ n
  pub known : All (λ k. k < n) servers
  pub each : (k : ℕ) → k < n → Contains servers k
  pub once : IsDistinct nat_eq servers
