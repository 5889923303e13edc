-- Where the changes of a key stand in a list of changes.
use Rattle.std.specs.Prelude.{◌≡◌, ℕ, zero, suc, ◌+◌, ◌-◌, Bool, true, false, cond, List, [], ◌∷◌, map, Option, nat_le, nat_lt, length, take, drop}
use Rattle.std.specs.Option.{unwrap_or}
use Rattle.std.specs.List.{list_any}
use Rattle.std.specs.declared.cmp.Ordering.{Ordering}
use Rattle.std.specs.declared.vec.Vec.{Vec}
use Rattle.std.specs.Map.{lookup}
use Rattle.std.specs.BTreeMap.{is_at}
use Rattle.wtf_kv.specs.declared.cell.Applied.{Applied}
use Rattle.wtf_kv.specs.declared.changes.Change.{Change}
use Rattle.wtf_kv.specs.declared.changes.Change.TheVariants.{Delta, Cut}
use Rattle.wtf_kv.specs.Edits.{is_between, after_changes}

-- the positions, counted from i, of the elements that pass a test
abbrev pub positions_from : {X : Type 0} → ℕ → (X → Bool) → List X → List ℕ
positions_from i p [] = []
positions_from i p (x ∷ xs) = cond (p x) (i ∷ positions_from (i + 1) p xs) (positions_from (i + 1) p xs)

-- n positions from i on
abbrev pub upto : ℕ → ℕ → List ℕ
upto i zero = []
upto i (suc n) = i ∷ upto (i + 1) n

-- the positions in a map, as they are seen
abbrev pub listed_positions : {K A : Type 0} → List (K × Vec ℕ A) → List (K × List ℕ)
listed_positions entries = map (λ e. (e.0, e.1.items)) entries

-- all but the last
abbrev pub front : {X : Type 0} → List X → List X
front xs = take (length xs - 1) xs

-- each of the positions lies below n
abbrev pub AllBelow : ℕ → List ℕ → Type 0
AllBelow n [] = Unit {0}
AllBelow n (i ∷ is) = (nat_lt i n ≡ true) × AllBelow n is

-- whether a change is a cut
abbrev pub is_cut : {K D : Type 0} → Change K D → Bool
is_cut (Delta key d) = false
is_cut (Cut from to) = true

module _ {K D : Type 0} (order : K → K → Ordering) where
  -- whether a change is a delta of q
  abbrev pub is_delta_of : K → Change K D → Bool
  is_delta_of q (Delta key d) = is_at (order key) q
  is_delta_of q (Cut from to) = false

  -- whether one of the changes is a delta of q
  abbrev pub has_delta : List (Change K D) → K → Bool
  has_delta cs q = list_any (is_delta_of q) cs

  -- whether a change is a cut of a range in which q lies
  abbrev pub covers : K → Change K D → Bool
  covers q (Delta key d) = false
  covers q (Cut from to) = is_between order from to q

  -- whether the first of the changes covers q
  abbrev pub first_covers : List (Change K D) → K → Bool
  first_covers [] q = false
  first_covers (c ∷ cs) q = covers q c

  -- one past the last of the positions at which a change covers q, or else what was there before
  abbrev pub past_cover : List (Change K D) → K → List ℕ → ℕ → ℕ
  past_cover cs q [] from = from
  past_cover cs q (i ∷ is) from = past_cover cs q is (cond (first_covers (drop i cs) q) (i + 1) from)

-- the positions of a key in an index
abbrev pub positions_of : {K : Type 0} → (K → K → Ordering) → List (K × List ℕ) → K → List ℕ
positions_of order entries q = unwrap_or (lookup (is_at (order q)) entries) []

-- the index has exactly the positions of each key's deltas, and those of the cuts, ascending
pub record IsIndex {K D : Type 0} (order : K → K → Ordering) (changes : List (Change K D)) (entries : List (K × List ℕ)) (cut_positions : List ℕ) : Type 0 where
  pub deltas : (q : K) → positions_of order entries q ≡ positions_from 0 (is_delta_of order q) changes
  pub cuts : cut_positions ≡ positions_from 0 is_cut changes

module _ {K C D : Type 0} (order : K → K → Ordering) (outcome : Option C → D → Applied C) where
  -- what the changes at those of the positions that lie at a start or past it make of the value of q
  abbrev pub after_positions : List (Change K D) → K → ℕ → List ℕ → Option C → Option C
  after_positions cs q from [] now = now
  after_positions cs q from (i ∷ is) now = after_positions cs q from is (cond (nat_le from i) (after_changes order outcome (take 1 (drop i cs)) q now) now)
