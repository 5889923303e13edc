-- Counts that stand still at the greatest 64-bit number, 2 ^ 64 - 1.
use Rattle.std.specs.Prelude.{ℕ, ◌+◌, ◌-◌, ◌^◌, ◌<◌, min, max}

-- the count rose, or stands at its end, where it counts as risen
abbrev pub Rose : ℕ → ℕ → Type 0
Rose before now = now < 2 ^ 64 - 1 → before < now

-- one more, but for the end
abbrev pub risen : ℕ → ℕ
risen n = max n (min (n + 1) (2 ^ 64 - 1))
