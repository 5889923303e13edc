-- What calls make of a store, one after another.
use Rattle.std.specs.Prelude.{◌≡◌, ℕ, ◌+◌, ◌^◌, Bool, true, ◌||◌, ◌&&◌, not, nat_eq, nat_lt, List, [], ◌∷◌, ◌++◌, ◌⊎◌, Option, Some, IsTrue, MatchBool, ◌≤◌}
use Rattle.std.specs.Set.{remove_key}
use Rattle.std.specs.declared.cmp.Ordering.{Ordering}
use Rattle.wtf_kv.specs.declared.cell.Applied.{Applied}
use Rattle.wtf_kv.specs.declared.calls.Call.{Call}
use Rattle.wtf_kv.specs.declared.calls.Call.TheVariants.{Pin, Unpin, Prune, Reserve, Install}
use Rattle.wtf_kv.specs.declared.changes.Change.{Change}
use Rattle.wtf_kv.specs.Seen.{kept_versions}
use Rattle.wtf_kv.specs.Edits.{over, Fits, first_unfit}
use Rattle.wtf_kv.specs.Stores.{Store, is_pinned, is_live, times_pinned, map_at, versions_of, ShowsSame}

-- m is still pinned, and the map at m is what it was
pub record KeepsMap {K C : Type 0} (order : K → K → Ordering) (m : ℕ) (old new : Store K C) : Type 0 where
  pub pinned : IsTrue (is_pinned new m)
  pub map : map_at order new m ≡ map_at order old m

-- whether a pin of n may be undone, where the last pin of m may not
abbrev pub may_unpin : {K C : Type 0} → ℕ → ℕ → Store K C → Bool
may_unpin m n s = is_pinned s n && (not (nat_eq n m) || nat_lt 1 (times_pinned s n))

-- whether a call may be made of a store, where the last pin of m is not undone
abbrev pub is_allowed : {K C D : Type 0} → ℕ → Call K C D → Store K C → Bool
is_allowed m (Pin n) s = is_live s n
is_allowed m (Unpin n) s = may_unpin m n s
is_allowed m Prune s = true
is_allowed m (Reserve cs) s = nat_lt s.number (2 ^ 63)
is_allowed m (Install cs) s = nat_lt s.number (2 ^ 63)

module _ {K C D : Type 0} (order : K → K → Ordering) (outcome : Option C → D → Applied C) where
  -- what is not kept is dropped; live numbers see what they saw
  pub record IsPruned (old new : Store K C) : Type 0 where
    pub number : new.number ≡ old.number
    pub pins : new.pins ≡ old.pins
    pub kept : (q : K) → versions_of order new q ≡ kept_versions old.pins (versions_of order old q)
    pub maps : (n : ℕ) → IsTrue (is_live old n) → map_at order new n ≡ map_at order old n

  -- the changes fit, and are installed under the next number; the maps up to the number are what they were
  pub record IsNextInstall (cs : List (Change K D)) (old new : Store K C) : Type 0 where
    pub fits : Fits order outcome cs (map_at order old old.number)
    pub number : new.number ≡ old.number + 1
    pub pins : new.pins ≡ old.pins
    pub map : map_at order new new.number ≡ over order outcome cs (map_at order old old.number)
    pub maps : (n : ℕ) → n ≤ old.number → map_at order new n ≡ map_at order old n

  -- a delta does not fit the value of its key: nothing is installed
  pub record IsRefused (cs : List (Change K D)) (old new : Store K C) : Type 0 where
    pub key : K
    pub unfit : first_unfit order outcome cs (map_at order old old.number) ≡ Some key
    pub same : ShowsSame order old new

  -- what a call makes of a store
  abbrev pub Made : Call K C D → Store K C → Store K C → Type 0
  Made (Pin n) old new = new ≡ record old { pins = old.pins ++ n ∷ [] }
  Made (Unpin n) old new = new ≡ record old { pins = remove_key (nat_eq n) old.pins }
  Made Prune old new = IsPruned old new
  Made (Reserve cs) old new = ShowsSame order old new
  Made (Install cs) old new = IsNextInstall cs old new ⊎ IsRefused cs old new

  -- what a call leaves that finds no memory: one that takes none is made
  abbrev pub Leaves : Call K C D → Store K C → Store K C → Type 0
  Leaves (Pin n) old new = new ≡ old
  Leaves (Unpin n) old new = ⊥
  Leaves Prune old new = ⊥
  Leaves (Reserve cs) old new = ShowsSame order old new
  Leaves (Install cs) old new = ShowsSame order old new

  -- a call is made where it is allowed, and else the store stays
  abbrev pub IsMadeWhere : Bool → Call K C D → Store K C → Store K C → Type 0
  IsMadeWhere allowed c old new = MatchBool allowed (Made c old new) (new ≡ old)

  abbrev pub Step : ℕ → Call K C D → Store K C → Store K C → Type 0
  Step m c old new = IsMadeWhere (is_allowed m c old) c old new

  -- a call finds no memory, where it is allowed
  abbrev pub IsLeftWhere : Bool → Call K C D → Store K C → Store K C → Type 0
  IsLeftWhere allowed c old new = IsTrue allowed × Leaves c old new

  abbrev pub Stop : ℕ → Call K C D → Store K C → Store K C → Type 0
  Stop m c old new = IsLeftWhere (is_allowed m c old) c old new

  -- the calls one after another
  abbrev pub Steps : ℕ → List (Call K C D) → Store K C → Store K C → Type 0
  Steps m [] old new = new ≡ old
  Steps m (c ∷ cs) old new = (s : Store K C) × Step m c old s × Steps m cs s new

  -- the calls one after another, up to one that finds no memory
  abbrev pub StopsIn : ℕ → List (Call K C D) → Store K C → Store K C → Type 0
  StopsIn m [] old new = ⊥
  StopsIn m (c ∷ cs) old new = Stop m c old new ⊎ ((s : Store K C) × Step m c old s × StopsIn m cs s new)
