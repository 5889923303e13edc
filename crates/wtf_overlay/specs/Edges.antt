-- Where the entries of a list begin and end.
use Rattle.std.specs.Prelude.{◌≡◌, ℕ, ◌+◌, ◌||◌, Bool, true, false, nat_eq, List, [], ◌∷◌, ⊤}
use Rattle.wtf_overlay.specs.declared.part.Entry.{Entry}

-- each start and each end of the list passes the test
abbrev pub EdgesIn : (ℕ → Bool) → List Entry → Type 0
EdgesIn p [] = ⊤
EdgesIn p (e ∷ es) = (p e.off ≡ true) × (p (e.off + e.len) ≡ true) × EdgesIn p es

-- an entry of the list begins or ends at y
abbrev pub is_edge : List Entry → ℕ → Bool
is_edge [] y = false
is_edge (e ∷ es) y = nat_eq e.off y || (nat_eq (e.off + e.len) y || is_edge es y)
