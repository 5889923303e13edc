-- What a call does to an open file, where the file tells it.
use Rattle.std.specs.Prelude.{ℕ, List, Option, Ok, Result}
use Rattle.std.specs.Io.Seek.{MovesTo}
use Rattle.std.specs.Io.KnownBytes.{Appends, Consumes}

-- the file stands at a place
abbrev pub IsSoughtTo : {F : Type 0} → (F → Option ℕ) → ℕ → F → F → Type 0
IsSoughtTo position at old new = let went : Result ℕ ℕ = Ok at in MovesTo (position old) (position new) at went

-- the bytes from a place on were read
abbrev pub IsReadAt : {F : Type 0} → (F → Option ℕ) → (F → Option (List ℕ)) → ℕ → List ℕ → F → F → Type 0
IsReadAt {F} position left at bytes old new = (there : F) × IsSoughtTo position at old there × Consumes (left there) (left new) bytes

-- bytes were written from a place on
abbrev pub IsWrittenAt : {F : Type 0} → (F → Option ℕ) → (F → Option (List ℕ)) → ℕ → List ℕ → F → F → Type 0
IsWrittenAt {F} position contents at bytes old new = (there : F) × IsSoughtTo position at old there × Appends (contents there) (contents new) bytes
