-- The limits of a store's settings.
use Rattle.std.specs.Prelude.{ℕ, ◌≤◌}

-- so many servers, copies of a slice, and bytes of a region
abbrev pub AreSettings : ℕ → ℕ → ℕ → Type 0
AreSettings servers replicas region =
    (1 ≤ servers) × (servers ≤ 16) × (1 ≤ replicas) × (replicas ≤ 3) × (replicas ≤ servers) × (64 ≤ region) × (region ≤ 1048576)
