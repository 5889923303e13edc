-- The keys that changed since a mark, and what is noted of them.
use Rattle.std.specs.Prelude.{◌≡◌, ℕ, Bool, false, ◌||◌, not, is_some, nat_le, nat_lt, List, Option, None, Some}
use Rattle.std.specs.Option.{unwrap_or}
use Rattle.std.specs.declared.cmp.Ordering.{Ordering}
use Rattle.std.specs.BTreeMap.{is_at}
use Rattle.std.specs.Map.{lookup}
use Rattle.wtf_kv.specs.declared.recent.Recent.{Recent}
use Rattle.wtf_kv.specs.Seen.{within, last_seen, number_seen, reported}
use Rattle.wtf_kv.specs.Stores.{versions_in}

-- whether a key is among those of a map
abbrev pub is_among : {K X : Type 0} → (K → K → Ordering) → List (K × X) → K → Bool
is_among order entries q = is_some (lookup (is_at (order q)) entries)

-- whether there is a mark, and a number reaches it
abbrev pub is_upto : Option ℕ → ℕ → Bool
is_upto None n = false
is_upto (Some mark) n = nat_le mark n

-- whether the version that a number sees lies above another, as it is reported
abbrev pub is_due : {C : Type 0} → List ℕ → ℕ → ℕ → List (ℕ × Option C) → Bool
is_due pins number since vs = nat_lt since (number_seen (reported pins (last_seen number vs)))

module _ {K : Type 0} (order : K → K → Ordering) where
  -- whether a key may have changed since the mark: it is noted, or there is no mark
  abbrev pub may_change : Recent K → K → Bool
  may_change recent q = not (is_some recent.since) || is_among order recent.keys.entries q

  -- the mark stays, and so does what is noted
  pub record NotesMore (old new : Recent K) : Type 0 where
    pub since : new.since ≡ old.since
    pub more : (q : K) → may_change new q ≡ false → may_change old q ≡ false

  -- no other key has a version above the mark
  abbrev pub IsMarked : {C : Type 0} → Recent K → List (K × List (ℕ × Option C)) → Type 0
  IsMarked recent cells = (q : K) → may_change recent q ≡ false → within (unwrap_or recent.since 0) (versions_in order cells q)
