-- What a store of versions holds, and the maps that it shows at its numbers.
use Rattle.std.specs.Prelude.{◌≡◌, ℕ, ◌+◌, ◌≤◌, Bool, true, ◌||◌, if◌then◌else◌, List, [], map, Option, nat_eq, count_by}
use Rattle.std.specs.Option.{unwrap_or}
use Rattle.std.specs.List.{list_any}
use Rattle.std.specs.declared.cmp.Ordering.{Ordering}
use Rattle.std.specs.Map.{lookup}
use Rattle.std.specs.declared.vec.Vec.{Vec}
use Rattle.std.specs.BTreeMap.{is_at}
use Rattle.wtf_kv.specs.Seen.{last_seen, value_seen, number_seen, reported, kept_versions, upto, ascends}

-- the number of the last install; the pinned numbers, each as often as it is pinned; and each key's
-- versions, where those above the number are made ready for the next install and not yet shown
pub record Store (K C : Type 0) : Type 0 where
  pub number : ℕ
  pub pins : List ℕ
  pub cells : List (K × List (ℕ × Option C))

-- the cells of a map, as they are seen
abbrev pub listed : {K C A : Type 0} → List (K × Vec (ℕ × Option C) A) → List (K × List (ℕ × Option C))
listed entries = map (λ e. (e.0, e.1.items)) entries

-- whether n is pinned
abbrev pub is_pinned : {K C : Type 0} → Store K C → ℕ → Bool
is_pinned s n = list_any (nat_eq n) s.pins

-- each of the pins is at most the number
abbrev pub ArePinsUpto : List ℕ → ℕ → Type 0
ArePinsUpto pins number = (p : ℕ) → list_any (nat_eq p) pins ≡ true → p ≤ number

-- how often n is pinned
abbrev pub times_pinned : {K C : Type 0} → Store K C → ℕ → ℕ
times_pinned s n = count_by (nat_eq n) s.pins

-- n is pinned once more than before, and each other number as often as before
abbrev pub IsPinnedOnceMore : {K C : Type 0} → ℕ → Store K C → Store K C → Type 0
IsPinnedOnceMore n old new = (m : ℕ) → times_pinned new m ≡ times_pinned old m + (if nat_eq m n then 1 else 0)

-- whether n may be read: it is pinned, or it is the number
abbrev pub is_live : {K C : Type 0} → Store K C → ℕ → Bool
is_live s n = nat_eq n s.number || is_pinned s n

-- whether one of the keys is equal to q
abbrev pub names : {K : Type 0} → (K → K → Ordering) → List K → K → Bool
names order keys q = list_any (λ k. is_at (order k) q) keys

module _ {K C : Type 0} (order : K → K → Ordering) where
  -- the versions of a key in the cells
  abbrev pub versions_in : List (K × List (ℕ × Option C)) → K → List (ℕ × Option C)
  versions_in cells key = unwrap_or (lookup (is_at (order key)) cells) []

  -- the versions of a key, the oldest first
  abbrev pub versions_of : Store K C → K → List (ℕ × Option C)
  versions_of s key = upto s.number (versions_in s.cells key)

  -- the map at n: each key has the value of the last version that is at most n
  abbrev pub map_at : Store K C → ℕ → K → Option C
  map_at s n key = value_seen (last_seen n (versions_of s key))

  -- the version that n sees of a key, 0 where none is reported
  abbrev pub version_of : Store K C → ℕ → K → ℕ
  version_of s n key = number_seen (reported s.pins (last_seen n (versions_of s key)))

  -- the versions of each key ascend
  abbrev pub AllAscend : Store K C → Type 0
  AllAscend s = (key : K) → ascends (versions_of s key)

  -- of each key only versions stand that are kept: nothing is left to prune
  abbrev pub AllKept : Store K C → Type 0
  AllKept s = (key : K) → kept_versions s.pins (versions_of s key) ≡ versions_of s key

  -- both stores show the same: number, pins, and the versions of each key
  pub record ShowsSame (old new : Store K C) : Type 0 where
    pub number : new.number ≡ old.number
    pub pins : new.pins ≡ old.pins
    pub versions : (q : K) → versions_of new q ≡ versions_of old q
