-- Which servers are out in a span, which of an order are taken, and what a span leaves of the stores.
use Rattle.std.specs.Prelude.{◌≡◌, ◌≢◌, ◌⊎◌, ℕ, ◌<◌, ◌≤◌, true, List, [], ◌∷◌, length, slice_index_or}
use Rattle.wtf_dev.specs.Counts.{Rose}
use Rattle.wtf_dev.specs.Store.{StoreKind, SameSizes}
use Rattle.wtf_replica.specs.Spans.{Span}

-- the count of faults of server k's store rose
abbrev pub HasRisen : {S : Type 0} → StoreKind S → List S → List S → ℕ → Type 0
HasRisen {S} kind old new k =
    (k < length old) × ((d : S) → Rose (kind.view (slice_index_or old k d)).faults (kind.view (slice_index_or new k d)).faults)

-- a server is out in a span where it is down, or its store's count of faults rose in it
abbrev pub IsOut : {S : Type 0} → StoreKind S → Span S → ℕ → Type 0
IsOut kind t k = (t.down k ≡ true) ⊎ HasRisen kind t.before t.after k

-- taken has the servers of the order, in its order, but for some that are out
abbrev pub LeavesOut : (ℕ → Type 0) → List ℕ → List ℕ → Type 0
LeavesOut Out [] [] = Unit {0}
LeavesOut Out [] (k ∷ taken) = ⊥
LeavesOut Out (j ∷ order) [] = Out j × LeavesOut Out order []
LeavesOut Out (j ∷ order) (k ∷ taken) = ((j ≡ k) × LeavesOut Out order taken) ⊎ (Out j × LeavesOut Out order (k ∷ taken))

-- the stores of the servers that are down are as they were
abbrev pub IsLeftDown : {S : Type 0} → Span S → Type 0
IsLeftDown {S} t = (k : ℕ) (d : S) → t.down k ≡ true → slice_index_or t.after k d ≡ slice_index_or t.before k d

-- the stores of the servers from n on are as they were
abbrev pub SameFrom : {S : Type 0} → ℕ → List S → List S → Type 0
SameFrom {S} n old new = (k : ℕ) (d : S) → n ≤ k → slice_index_or new k d ≡ slice_index_or old k d

-- each file of each store is as long as it was
abbrev pub SameLengths : {S : Type 0} → StoreKind S → List S → List S → Type 0
SameLengths {S} kind old new =
    (k : ℕ) (d : S) → k < length old → SameSizes (kind.view (slice_index_or old k d)) (kind.view (slice_index_or new k d))

-- of all files only those with this number grow
abbrev pub OtherFilesStay : {S : Type 0} → StoreKind S → List S → List S → ℕ → Type 0
OtherFilesStay {S} kind old new file =
    (k f : ℕ) (d : S) → f ≢ file → (kind.view (slice_index_or new k d)).size f ≡ (kind.view (slice_index_or old k d)).size f

-- no store was synced
abbrev pub SameSyncs : {S : Type 0} → StoreKind S → List S → List S → Type 0
SameSyncs {S} kind old new =
    (k : ℕ) (d : S) → k < length old → (kind.view (slice_index_or new k d)).syncs ≡ (kind.view (slice_index_or old k d)).syncs

-- the number of syncs of server k's store rose
abbrev pub HasSynced : {S : Type 0} → StoreKind S → List S → List S → ℕ → Type 0
HasSynced {S} kind old new k =
    (k < length old) × ((d : S) → Rose (kind.view (slice_index_or old k d)).syncs (kind.view (slice_index_or new k d)).syncs)
