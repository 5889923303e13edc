-- What comes of an install.
use Rattle.std.specs.Prelude.{◌≡◌, ℕ, ◌+◌, ◌<◌, ◌≤◌, List, Option, Some, None, nat_lt}
use Rattle.std.specs.List.{find}
use Rattle.std.specs.declared.cmp.Ordering.{Ordering}
use Rattle.wtf_kv.specs.declared.cell.Applied.{Applied}
use Rattle.wtf_kv.specs.Stores.{Store, ShowsSame, versions_of, map_at, version_of}
use Rattle.wtf_kv.specs.Edits.{over, Fits, Agree, first_unfit, versions_with, version_with}
use Rattle.wtf_occ.specs.Attempts.{Attempted}
use Rattle.wtf_occ.specs.declared.tried.Tried.{Tried}
use Rattle.wtf_occ.specs.declared.tried.Tried.TheVariants.{Installed, Conflict}

-- the first of two that is there
abbrev pub or_else : {A : Type 0} → Option A → Option A → Option A
or_else None other = other
or_else (Some a) other = Some a

module _ {K C : Type 0} (order : K → K → Ordering) where
  -- the store shows the same, so every map and every version is what it was
  pub record Stays (old new : Store K C) : Type 0 where
    pub same : ShowsSame order old new
    pub maps : (n : ℕ) → map_at order new n ≡ map_at order old n
    pub versions : (n : ℕ) → version_of order new n ≡ version_of order old n

  -- the first of the keys that has a version above the base
  abbrev pub first_moved : ℕ → List K → Store K C → Option K
  first_moved base keys s = find (λ key. nat_lt base (version_of order s s.number key)) keys

module _ {K C D : Type 0} (order : K → K → Ordering) (outcome : Option C → D → Applied C) where
  -- the key that is in the way of an install: the first recorded key that moved, or else the key of
  -- the first delta that does not fit
  abbrev pub key_in_the_way : Attempted K D → Store K C → Option K
  key_in_the_way attempt s = or_else (first_moved order attempt.base attempt.reads s) (first_unfit order outcome attempt.changes (map_at order s s.number))

  -- No key was in the way, so that the map at the number is at each recorded key what it is at the base, and each change
  -- fits there. All changes are applied in order under the next number.
  pub record IsInstalled (attempt : Attempted K D) (old new : Store K C) (n : ℕ) : Type 0 where
    pub free : key_in_the_way attempt old ≡ None
    pub agree : Agree attempt.reads (map_at order old attempt.base) (map_at order old old.number)
    pub fits : Fits order outcome attempt.changes (map_at order old old.number)
    pub next : n ≡ old.number + 1
    pub number : new.number ≡ n
    pub map : map_at order new n ≡ over order outcome attempt.changes (map_at order old old.number)
    pub versions : (q : K) → versions_of order new q ≡ versions_with order outcome attempt.changes n q (map_at order old old.number q) (versions_of order old q)
    pub version : (q : K) → version_of order new n q ≡ version_with order outcome old.pins attempt.changes n q (map_at order old old.number q) (version_of order old old.number q)

  -- the key was in the way, with its versions at the base and at the number, where it has moved, and all stays
  pub record IsConflict (attempt : Attempted K D) (old new : Store K C) (key : K) (seen now : ℕ) : Type 0 where
    pub names : key_in_the_way attempt old ≡ Some key
    pub seen_is : seen ≡ version_of order old attempt.base key
    pub now_is : now ≡ version_of order old old.number key
    pub moved : attempt.base < now
    pub bound : now ≤ old.number
    pub stays : Stays order old new

  -- what an install of the attempt answers and makes of the store
  abbrev pub IsTried : Attempted K D → Store K C → Store K C → Tried K → Type 0
  IsTried attempt old new (Installed n) = IsInstalled attempt old new n
  IsTried attempt old new (Conflict key seen now) = IsConflict attempt old new key seen now
