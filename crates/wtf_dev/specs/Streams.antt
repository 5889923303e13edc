-- What contracts see of where bytes come from, and of where they go.
use Rattle.std.specs.Prelude.{◌≡◌, ℕ, ◌+◌, ◌-◌, ◌^◌, ◌<◌, ◌≤◌, min, List, [], ◌++◌, length, take, drop, Option, Some, Result, Ok, Err}

-- the count of faults, how many bytes it gave in all, and the bytes that it has left, where it tells them
pub record SourceView : Type 0 where
  pub faults : ℕ
  -- stands still at 2 ^ 64 - 1
  pub given : ℕ
  pub rest : Option (List ℕ)

-- the count of faults, and the bytes taken so far, where it tells them
pub record SinkView : Type 0 where
  pub faults : ℕ
  pub taken : Option (List ℕ)

-- how many bytes a source gave in all, after one more read
abbrev pub given_after : {E : Type 0} → Result ℕ E → ℕ → ℕ
given_after (Ok n) given = min (given + n) (2 ^ 64 - 1)
given_after (Err e) given = given

-- A read into `room` places that leaves `out` there, from a source that had `rest` left and has `left` now:
-- the next bytes, none with room only at the end, and a failed one takes none.
abbrev pub Gives : {E : Type 0} → Result ℕ E → ℕ → List ℕ → List ℕ → Option (List ℕ) → Type 0
Gives (Ok n) room out rest left = (n ≤ length rest) × (take n out ≡ take n rest) × (left ≡ Some (drop n rest)) × (n ≡ 0 → 0 < room → rest ≡ [])
Gives (Err e) room out rest left = left ≡ Some rest

-- A write of these bytes to a sink that had taken `old`: the first n of them are added, and a failed one adds none.
abbrev pub Takes : {E : Type 0} → Result ℕ E → List ℕ → List ℕ → Option (List ℕ) → Type 0
Takes (Ok n) bytes old new = new ≡ Some (old ++ take n bytes)
Takes (Err e) bytes old new = new ≡ Some old
