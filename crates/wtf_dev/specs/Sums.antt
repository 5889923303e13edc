-- What the stores of a shelf hold together.
use Rattle.std.specs.Prelude.{◌≡◌, ℕ, ◌+◌, true, List}
use Rattle.std.specs.List.{All, sum_by}
use Rattle.wtf_dev.specs.Store.{StoreView, StoreKind}

-- each store tells its content
abbrev pub TellsAll : {S : Type 0} → StoreKind S → List S → Type 0
TellsAll kind shelf = All (λ s. (kind.view s).tells ≡ true) shelf

-- the lengths of the eight files together
abbrev pub stored_bytes : StoreView → ℕ
stored_bytes s = s.size 0 + s.size 1 + s.size 2 + s.size 3 + s.size 4 + s.size 5 + s.size 6 + s.size 7

-- the lengths of all files of all stores together
abbrev pub all_stored : {S : Type 0} → StoreKind S → List S → ℕ
all_stored kind shelf = sum_by (λ s. stored_bytes (kind.view s)) shelf

-- the counts of faults of all stores together
abbrev pub all_faults : {S : Type 0} → StoreKind S → List S → ℕ
all_faults kind shelf = sum_by (λ s. (kind.view s).faults) shelf
