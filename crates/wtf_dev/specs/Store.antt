-- What contracts see of a slice store, and what every call keeps of it.
use Rattle.std.specs.Prelude.{◌≡◌, ℕ, ◌+◌, ◌<◌, ◌≤◌, ◌^◌, Bool, true, Option, Some, None, List, [], ◌∷◌, ◌++◌, length, slice_index}

-- a part of a backing file
pub record Range : Type 0 where
  pub file : ℕ
  pub at : ℕ
  pub len : ℕ

-- the counts, the length of each file, and at each place the byte that lasts and the one that a read gives, where they are told
pub record StoreView : Type 0 where
  pub faults : ℕ
  pub syncs : ℕ
  pub size : ℕ → ℕ
  pub told : ℕ → ℕ → Option ℕ
  pub shown : ℕ → ℕ → Option ℕ
  -- whether this store tells what is appended to it and what is punched
  pub tells : Bool

-- the place lies in no range of the list
abbrev pub Outside : ℕ → ℕ → List Range → Type 0
Outside f i [] = Unit {0}
Outside f i (r ∷ rs) = (f ≡ r.file → r.at ≤ i → r.at + r.len ≤ i) × Outside f i rs

-- what a later state keeps of an earlier one, between which these ranges were punched
pub record Kept (old new : StoreView) (punched : List Range) : Type 0 where
  pub faults : old.faults ≤ new.faults
  pub syncs : old.syncs ≤ new.syncs
  pub size : (f : ℕ) → old.size f ≤ new.size f
  pub bytes : (f i b : ℕ) → Outside f i punched → old.told f i ≡ Some b → new.told f i ≡ Some b
  -- a read gives what it gave, and below the old length nothing else comes to be known
  pub shown : (f i b : ℕ) → Outside f i punched → old.shown f i ≡ Some b → new.shown f i ≡ Some b
  pub unshown : (f i : ℕ) → Outside f i punched → i < old.size f → old.shown f i ≡ None → new.shown f i ≡ None
  pub tells : new.tells ≡ old.tells

-- the bytes of a file from a place on are these
abbrev pub Holds : StoreView → ℕ → ℕ → List ℕ → Type 0
Holds s f at bytes = (k : ℕ) → k < length bytes → s.told f (at + k) ≡ Some (slice_index bytes k)

-- each byte there that a read gives is the one in the list
abbrev pub Agrees : StoreView → ℕ → ℕ → List ℕ → Type 0
Agrees s f at bytes = (k b : ℕ) → k < length bytes → s.shown f (at + k) ≡ Some b → slice_index bytes k ≡ b

-- each file is as long as it was
abbrev pub SameSizes : StoreView → StoreView → Type 0
SameSizes old new = (f : ℕ) → new.size f ≡ old.size f

-- what an append to a file that answers `place` does
pub record Appended (old new : StoreView) (f : ℕ) (written : List ℕ) (place : ℕ) : Type 0 where
  pub at : place ≡ old.size f
  pub size : new.size f ≡ place + length written
  pub bytes : old.tells ≡ true → Holds new f place written

-- A kind of store: what contracts see of one, and when a later state of it follows an earlier one, between which these
-- ranges were punched. A kind may say more in `follows` than its laws ask for.
pub record StoreKind (S : Type 0) : Type 1 where
  pub view : S → StoreView
  pub follows : S → S → List Range → Type 0

-- what every kind of store keeps to
pub record KindLaws {S : Type 0} (kind : StoreKind S) : Type 0 where
  -- a state follows itself, and nothing is punched
  pub follows_itself : (s : S) → kind.follows s s []
  -- two spans join
  pub follows_on : (a b c : S) (xs ys : List Range) → kind.follows a b xs → kind.follows b c ys → kind.follows a c (xs ++ ys)
  -- no count and no length falls, and outside the ranges told bytes stay, and below the old length nothing comes to be told
  pub keeps : (a b : S) (xs : List Range) → kind.follows a b xs → Kept (kind.view a) (kind.view b) xs
  -- no file is longer than 2^61 - 1 bytes
  pub fits : (s : S) (f : ℕ) → (kind.view s).size f < 2 ^ 61
  -- each byte that is told lies in one of the eight files, below its length
  pub within : (s : S) (f i b : ℕ) → (kind.view s).shown f i ≡ Some b → (f < 8) × (i < (kind.view s).size f)
  -- a byte that lasts is the one that a read gives
  pub shows : (s : S) (f i b : ℕ) → (kind.view s).told f i ≡ Some b → (kind.view s).shown f i ≡ Some b
