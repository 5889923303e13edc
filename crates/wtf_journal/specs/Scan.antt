-- What a journal stands for.
use Rattle.std.specs.Prelude.{◌≡◌, ◌↔◌, ◌⊎◌, ℕ, ◌<◌, ◌≤◌, ◌^◌, Option, None, Some, List, [], ◌∷◌, ◌++◌, length}
use Rattle.wtf_dev.specs.Disk.{DiskContent, DiskKind, DiskView, IsFileImage}
use Rattle.wtf_journal.specs.Records.{AreShort, EndsClosed, HasBodies, RestsAt, framed, records}

-- what a body makes of what the records before it gave, where it is in the format
abbrev pub BodyMakes : Type 0 → Type 0
BodyMakes M = M → List ℕ → Option M

abbrev pub make_on : {M : Type 0} → BodyMakes M → Option M → List ℕ → Option M
make_on makes None body = None
make_on makes (Some held) body = makes held body

abbrev pub held_after : {M : Type 0} → BodyMakes M → Option M → List (List ℕ) → Option M
held_after makes held [] = held
held_after makes held (body ∷ bodies) = held_after makes (make_on makes held body) bodies

-- the bytes stand for this, where no record stands for `start`
pub record JournalGives {M : Type 0} (makes : BodyMakes M) (start : M) (c : List ℕ) (held : M) : Type 0 where
  pub bodies : List (List ℕ)
  pub has : HasBodies bodies c
  pub held_is : held_after makes (Some start) bodies ≡ Some held

-- A stop leaves files of which the journal is one that it could be before, or both have at most one byte.
abbrev pub KeepsJournal : DiskView → DiskContent → Type 0
KeepsJournal old c = (c0 : List ℕ) × IsFileImage (old.file 0) c0 × ((c 0 ≡ c0) ⊎ ((length c0 ≤ 1) × (length (c 0) ≤ 1)))

-- Bytes stand for what others stand for, and for nothing else. Where those stand for nothing, they are those.
pub record SameMeaning {M : Type 0} (makes : BodyMakes M) (start : M) (before now : List ℕ) : Type 0 where
  pub same : (held : M) → JournalGives makes start before held ↔ JournalGives makes start now held
  pub bad : ((held : M) → JournalGives makes start before held → ⊥) → now ≡ before

-- A stop leaves files of which the journal stands for what one that it could be before stands for.
abbrev pub KeepsMeaning : {M : Type 0} → BodyMakes M → M → DiskView → DiskContent → Type 0
KeepsMeaning {M = M} makes start old c = (before : List ℕ) × IsFileImage (old.file 0) before × SameMeaning makes start before (c 0)

-- a read of a whole journal: its records end with a closed gate at `end`, and give this
pub record ReadsTo {M : Type 0} (makes : BodyMakes M) (start : M) (c : List ℕ) (end : ℕ) (held : M) : Type 0 where
  pub bodies : List (List ℕ)
  pub ends : EndsClosed bodies c
  pub end_is : end ≡ length (records bodies)
  pub held_is : held_after makes (Some start) bodies ≡ Some held

-- no whole record with a gate behind it stands at the front
abbrev pub EndsInside : List ℕ → Type 0
EndsInside bytes = (body more : List ℕ) → length body < 2 ^ 64 → bytes ≡ framed body ++ more → more ≡ []

-- the open record at `at` is not in the format
pub record IsBadAt {M : Type 0} (makes : BodyMakes M) (start : M) (c : List ℕ) (at : ℕ) : Type 0 where
  pub long : 1 < length c
  pub bodies : List (List ℕ)
  pub rest : List ℕ
  pub held : M
  pub split : c ≡ records bodies ++ (1 ∷ rest)
  pub short : AreShort bodies
  pub at_is : at ≡ length (records bodies)
  pub held_is : held_after makes (Some start) bodies ≡ Some held
  pub bad : (body more : List ℕ) → length body < 2 ^ 64 → rest ≡ framed body ++ more → (more ≡ []) ⊎ (makes held body ≡ None)

-- What opening a journal gives: the records of its bytes, at rest, and what they stand for.
pub record OpensTo {M D : Type 0} (makes : BodyMakes M) (kind : DiskKind D) (old new : D) (end : ℕ) (start held : M) : Type 0 where
  pub bodies : List (List ℕ)
  pub has : HasBodies bodies ((kind.view old).file 0).seen
  pub rests : RestsAt kind new end bodies
  pub held_is : held_after makes (Some start) bodies ≡ Some held
  -- and for nothing else
  pub only : (other : M) → JournalGives makes start ((kind.view old).file 0).seen other → other ≡ held
