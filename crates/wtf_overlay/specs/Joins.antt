-- Entries that are put after others, joined with the last one where they could be one.
use Rattle.std.specs.Prelude.{◌≡◌, ◌⊎◌, ◌++◌, ℕ, ◌+◌, ◌-◌, ◌≤◌, true, false, List, [], ◌∷◌, Option, Some, None}
use Rattle.wtf_overlay.specs.declared.part.Entry.{Entry}
use Rattle.wtf_overlay.specs.Origin.{part_origin}
use Rattle.wtf_overlay.specs.Compact.{could_be_one, is_held}

-- e and f as one: it shows what they show, and what could be one with e could be one with it
pub record IsJoin (e f both : Entry) : Type 0 where
  pub off : both.off ≡ e.off
  pub end : both.off + both.len ≡ f.off + f.len
  pub met : e.off + e.len ≡ f.off
  pub one : could_be_one e f ≡ true
  pub held : is_held both.part ≡ true
  pub first : (i : ℕ) → part_origin both.part i ≡ part_origin e.part i
  pub second : (i : ℕ) → e.len ≤ i → part_origin both.part i ≡ part_origin f.part (i - e.len)
  pub before : (x : Entry) → could_be_one x both ≡ could_be_one x e

-- the two as one, if they could be
abbrev pub IsJoined : Entry → Entry → Option Entry → Type 0
IsJoined e f None = could_be_one e f ≡ false
IsJoined e f (Some both) = IsJoin e f both

-- zeros leave the list as it is
pub record Dropped (e : Entry) (old new : List Entry) : Type 0 where
  pub zeros : is_held e.part ≡ false
  pub same : new ≡ old

-- e comes after the last entry, which could not be one with it
pub record Pushed (e : Entry) (old new : List Entry) : Type 0 where
  pub held : is_held e.part ≡ true
  pub more : new ≡ old ++ e ∷ []
  pub apart : (front : List Entry) (last : Entry) → old ≡ front ++ last ∷ [] → could_be_one last e ≡ false

-- e and the last entry are one
pub record Joined (e : Entry) (old new : List Entry) : Type 0 where
  pub front : List Entry
  pub last : Entry
  pub both : Entry
  pub was : old ≡ front ++ last ∷ []
  pub is : new ≡ front ++ both ∷ []
  pub join : IsJoin last e both

abbrev pub IsPut : Entry → List Entry → List Entry → Type 0
IsPut e old new = Dropped e old new ⊎ (Pushed e old new ⊎ Joined e old new)
