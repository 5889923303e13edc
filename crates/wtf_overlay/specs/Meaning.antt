-- What bytes mean, given what the stores tell at each place.
use Rattle.std.specs.Prelude.{ℕ, Bool, false, nat_eq, if◌then◌else◌, List, [], ◌∷◌, Option, Some, None}
use Rattle.std.specs.List.{list_all}
use Rattle.wtf_overlay.specs.Origin.{Place}

-- both places tell a byte, and the same one
abbrev pub tell_the_same : Option ℕ → Option ℕ → Bool
tell_the_same (Some a) (Some b) = nat_eq a b
tell_the_same (Some a) None = false
tell_the_same None _ = false

-- the byte at these places: 0 for a hole, else the one that every copy tells, if they agree
abbrev pub meaning : (Place → Option ℕ) → List Place → Option ℕ
meaning byte_at [] = Some 0
meaning byte_at (p ∷ ps) = if list_all (λ q. tell_the_same (byte_at p) (byte_at q)) ps then byte_at p else None
