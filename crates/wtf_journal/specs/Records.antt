-- What the bytes of a journal hold.
use Rattle.std.specs.Prelude.{◌≡◌, ◌≢◌, ◌⊎◌, ℕ, ◌<◌, ◌≤◌, ◌+◌, ◌^◌, List, [], ◌∷◌, ◌++◌, length, take, drop}
use Rattle.std.specs.Int.{w64, to_be_bytes}
use Rattle.std.specs.List.{All}
use Rattle.wtf_dev.specs.Disk.{DiskKind, IsSettled}

-- the length of a body, and the body
abbrev pub framed : List ℕ → List ℕ
framed body = to_be_bytes w64 (length body) ++ body

-- open records of these bodies
abbrev pub records : List (List ℕ) → List ℕ
records [] = []
records (body ∷ bodies) = 1 ∷ (framed body ++ records bodies)

-- the length of each has 64 bits
abbrev pub AreShort : List (List ℕ) → Type 0
AreShort bodies = All (λ (body : List ℕ). length body < 2 ^ 64) bodies

-- these records, and then a closed gate
pub record EndsClosed (bodies : List (List ℕ)) (c : List ℕ) : Type 0 where
  pub gate : ℕ
  pub rest : List ℕ
  pub closed : gate ≢ 1
  pub split : c ≡ records bodies ++ (gate ∷ rest)
  pub short : AreShort bodies

-- A journal of these bodies. One of at most one byte has none.
abbrev pub HasBodies : List (List ℕ) → List ℕ → Type 0
HasBodies bodies c = EndsClosed bodies c ⊎ ((bodies ≡ []) × (length c ≤ 1))

-- the journal has these bodies, or one more
abbrev pub BeforeOrAfter : List (List ℕ) → List ℕ → List ℕ → Type 0
BeforeOrAfter bodies body c = HasBodies bodies c ⊎ HasBodies (bodies ++ body ∷ []) c

-- these bytes, written behind a gate that is set then
abbrev pub gated : List ℕ → ℕ → List ℕ → ℕ → List ℕ
gated s at bytes gate = take at s ++ (gate ∷ (bytes ++ drop (at + 1 + length bytes) s))

-- all up to the gate is as it was
abbrev pub IsShut : List ℕ → ℕ → List ℕ → Type 0
IsShut s at c = take (at + 1) c ≡ take (at + 1) s

-- all bytes stand behind the gate, whatever that is
abbrev pub IsGated : List ℕ → ℕ → List ℕ → List ℕ → Type 0
IsGated s at bytes c = (gate : ℕ) × (c ≡ gated s at bytes gate)

-- Between two calls: file 0 has records of these bodies and a closed gate at `end`, and nothing is pending.
pub record RestsAt {D : Type 0} (kind : DiskKind D) (d : D) (end : ℕ) (bodies : List (List ℕ)) : Type 0 where
  pub gate : ℕ
  pub rest : List ℕ
  pub closed : gate ≢ 1
  pub settled : IsSettled (records bodies ++ (gate ∷ rest)) ((kind.view d).file 0)
  pub end_is : end ≡ length (records bodies)
  pub short : AreShort bodies
