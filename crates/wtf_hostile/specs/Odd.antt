-- What contracts see of an odd store: its count of faults, and the lengths of the store in memory that it stands on. It tells no
-- byte.
use Rattle.std.specs.Prelude.{ℕ, false, None}
use Rattle.std.proofs.Common.{arith}
use Rattle.wtf_dev.specs.Store.{StoreView, Kept, StoreKind, KindLaws}
use Rattle.wtf_dev.specs.Memory.{StoreState, store_view}
use Rattle.wtf_dev.specs.MemoryLaws.{kept_same, kept_on}

pub record OddState : Type 0 where
  pub store : StoreState
  pub faults : ℕ

abbrev pub odd_view : OddState → StoreView
odd_view s = record {
  faults = s.faults;
  syncs = s.store.syncs;
  size = (store_view s.store).size;
  told = λ f i. None;
  shown = λ f i. None;
  tells = false;
}

abbrev pub odd_store : StoreKind OddState
odd_store = record { view = odd_view; follows = λ old new punched. Kept (odd_view old) (odd_view new) punched }

-- Such a store keeps to the laws of devices. The `impl` gives this proof, so it stands beside the definitions.
pub odd_laws : KindLaws odd_store
odd_laws = record {
  follows_itself = λ s. kept_same (odd_view s);
  follows_on = λ a b c xs ys p q. kept_on (odd_view a) (odd_view b) (odd_view c) xs ys p q;
  keeps = λ a b xs f. f;
  fits = λ s f. omega arith;
  within = λ s f i b shown. absurd (cc);
  shows = λ s f i b told. absurd (cc);
}
