-- What a call leaves alone of the stores, from what is known of its parts.
use Rattle.std.proofs.Common.{◌≡◌, ℕ, Option, None, Some, refl, sym, subst, inl, inr}
use Rattle.std.specs.Option.{option_map}
use Rattle.wtf_dev.specs.Store.{StoreKind}
use Rattle.wtf_ring.specs.Points.{PlaceView}
use Rattle.wtf_replica.specs.Copies.{GrowsOnce}
use Rattle.wtf_replica.specs.Outs.{IsLeftDown, SameSyncs}
use Rattle.wtf_replica.specs.Spans.{Span}
use Rattle.wtf_meta.specs.declared.session.Handle.{Handle}
use Rattle.wtf_region.specs.declared.dev.Dev.{Dev}
use Rattle.wtf_region.specs.Devs.{between}
use Rattle.wtf_region.specs.Showing.{OnlyRead}
use Rattle.wtf_steps.specs.Leaving.{GrowsOnly, LeavesStores}

-- stores that were only read
pub leaves_read : {S : Type 0} (kind : StoreKind S) (t : Span S) (n : ℕ) → OnlyRead kind t → LeavesStores kind None n t
leaves_read kind t n reads = record { down = reads.down; syncs = reads.syncs; files = reads.lengths }

grows_none : {S : Type 0} (kind : StoreKind S) (into : Option PlaceView) (n : ℕ) (dev : Dev S) → GrowsOnly kind into n (between dev dev)
grows_none kind None n dev = λ k d there f. refl
grows_none kind (Some place) n dev = record {
  others = λ k f d other. refl;
  beside = λ k d none. refl;
  once = λ k d there. inr (inl refl);
}

-- or not touched
pub leaves_all : {S : Type 0} (kind : StoreKind S) (into : Option PlaceView) (n : ℕ) (dev : Dev S) → LeavesStores kind into n (between dev dev)
leaves_all kind into n dev = record { down = λ k d down. refl; syncs = λ k d there. refl; files = grows_none kind into n dev }

-- bytes went to one place
pub leaves_put : {S : Type 0} (kind : StoreKind S) (t : Span S) (o : Option Handle) (place : Handle → PlaceView) (h : Handle) (n : ℕ) (p : PlaceView)
    → o ≡ Some h → p ≡ place h → IsLeftDown t → GrowsOnce kind t p n → SameSyncs kind t.before t.after → LeavesStores kind (option_map place o) n t
leaves_put kind t o place h n p here is down grows syncs = subst (λ (q : Option Handle). LeavesStores kind (option_map place q) n t) (sym here) (record {
  down = down;
  syncs = syncs;
  files = subst (λ (q : PlaceView). GrowsOnce kind t q n) is grows;
})
