-- What holds inside every history: of its cells, and of the keys by which it finds what may be dropped and what changed.
use Rattle.std.specs.Prelude.{◌≡◌, ℕ, ◌+◌, ◌≤◌, true, false, List, length, take, drop, Option}
use Rattle.std.specs.declared.cmp.Ordering.{Ordering}
use Rattle.wtf_kv.specs.Seen.{upto, ascends, within, is_settled}
use Rattle.wtf_kv.specs.declared.recent.Recent.{Recent}
use Rattle.wtf_kv.specs.Recents.{IsMarked}
use Rattle.wtf_kv.specs.Stores.{names, versions_in}

module _ {K C : Type 0} (order : K → K → Ordering) where
  -- the versions of each key ascend up to the next number
  abbrev pub AllGood : ℕ → List (K × List (ℕ × Option C)) → Type 0
  AllGood number cells = (key : K) → ascends (versions_in order cells key) × within (number + 1) (versions_in order cells key)

  -- the keys with versions above the number are among those from fresh on
  pub record Noted (number fresh : ℕ) (touched : List K) (cells : List (K × List (ℕ × Option C))) : Type 0 where
    pub inside : fresh ≤ length touched
    pub clean : (q : K) → names order (drop fresh touched) q ≡ false → within number (versions_in order cells q)

  -- the keys of which something may be dropped are among those before fresh
  abbrev pub Listed : ℕ → ℕ → List K → List (K × List (ℕ × Option C)) → Type 0
  Listed number fresh touched cells = (q : K) → names order (take fresh touched) q ≡ false → is_settled (upto number (versions_in order cells q)) ≡ true

  -- what holds of every history
  pub record Sound (number fresh : ℕ) (recent : Recent K) (touched : List K) (cells : List (K × List (ℕ × Option C))) : Type 0 where
    pub good : AllGood number cells
    pub noted : Noted number fresh touched cells
    pub loose : Listed number fresh touched cells
    pub marked : IsMarked order recent cells
