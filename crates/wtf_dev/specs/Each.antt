-- What a call that is lent a shelf keeps of each store.
use Rattle.std.specs.Prelude.{◌≡◌, ℕ, ◌<◌, List, [], ◌∷◌, length, ◌==◌, if◌then◌else◌, slice_index_or}
use Rattle.wtf_dev.specs.Store.{Range, StoreKind}

-- the ranges of one server
abbrev pub on_server : ℕ → List (ℕ × Range) → List Range
on_server k [] = []
on_server k (r ∷ rs) = if r.0 == k then r.1 ∷ on_server k rs else on_server k rs

-- these ranges, all of them on server k
abbrev pub at_server : ℕ → List Range → List (ℕ × Range)
at_server k [] = []
at_server k (r ∷ rs) = (k, r) ∷ at_server k rs

-- each store follows what it was, with its own of the punched ranges
pub record EachFollows {S : Type 0} (kind : StoreKind S) (old new : List S) (punched : List (ℕ × Range)) : Type 0 where
  pub same_length : length new ≡ length old
  pub each : (k : ℕ) (d : S) → k < length old → kind.follows (slice_index_or old k d) (slice_index_or new k d) (on_server k punched)
