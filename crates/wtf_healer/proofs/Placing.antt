-- Where slices that were stored anew lie, and what was made of each entry of a list, over a longer span.
use Rattle.std.proofs.Common.{◌≡◌, ◌+◌, ◌*◌, ◌/◌, ◌++◌, List, [], ◌∷◌, ap, ◌∙◌, subst}
use Rattle.wtf_base.specs.declared.settings.Settings.{Settings}
use Rattle.wtf_base.specs.declared.slice.Slice.{Slice}
use Rattle.wtf_dev.specs.Store.{StoreKind, KindLaws}
use Rattle.wtf_overlay.specs.declared.part.Part.{Part}
use Rattle.wtf_overlay.specs.declared.part.Entry.{Entry}
use Rattle.wtf_replica.specs.Downs.{is_down}
use Rattle.wtf_ring.specs.Points.{PlaceView, place_of}
use Rattle.wtf_region.specs.declared.cache.RegionKey.{RegionKey}
use Rattle.wtf_region.specs.declared.dev.Dev.{Dev}
use Rattle.wtf_region.specs.Devs.{GoesOn, is_down_in}
use Rattle.wtf_region.proofs.Spans.{goes_on}
use Rattle.wtf_healer.specs.Restored.{place_for, WasStored, IsMadeOf, AreMadeOf}
use Rattle.wtf_healer.specs.Sparse.{is_sparse_part}

-- the place of an entry stays
pub place_same : {S : Type 0} {kind : StoreKind S} {old new : Dev S} → GoesOn kind old new [] → (key : RegionKey) (e : Entry)
    → place_for new key e ≡ place_for old key e
place_same {old = old} {new = new} g key e =
    ap (λ r. place_of r.now.points key.inode ((key.region * new.settings.region + e.off) / new.settings.region)) g.ring
    ∙ ap (λ (st : Settings). place_of old.ring.now.points key.inode ((key.region * st.region + e.off) / st.region)) g.settings

-- and which parts are sparse
pub sparse_same : {S : Type 0} {kind : StoreKind S} {old new : Dev S} → GoesOn kind old new [] → (p : Part)
    → is_sparse_part (is_down_in new) new.settings.replicas p ≡ is_sparse_part (is_down_in old) old.settings.replicas p
sparse_same {old = old} {new = new} g p =
    ap (λ r. is_sparse_part (is_down r.now) new.settings.replicas p) g.replicas
    ∙ ap (λ (st : Settings). is_sparse_part (is_down_in old) st.replicas p) g.settings

module _ {S : Type 0} {kind : StoreKind S} (laws : KindLaws kind) where
  stored_later : (old mid new : Dev S) → GoesOn kind mid new [] → (place : PlaceView) (s : Slice) → WasStored kind old mid place s
      → WasStored kind old new place s
  stored_later old mid new g place s h = record {
    before = h.before;
    after = h.after;
    since = h.since;
    goes = h.goes;
    until = goes_on laws h.until g;
    bytes = h.bytes;
    stored = h.stored;
  }

  stored_since : (old mid new : Dev S) → GoesOn kind old mid [] → (place : PlaceView) (s : Slice) → WasStored kind mid new place s
      → WasStored kind old new place s
  stored_since old mid new f place s h = record {
    before = h.before;
    after = h.after;
    since = goes_on laws f h.since;
    goes = h.goes;
    until = h.until;
    bytes = h.bytes;
    stored = h.stored;
  }

  made_later : (old mid new : Dev S) → GoesOn kind mid new [] → (key : RegionKey) (e x : Entry) → IsMadeOf kind old mid key e x
      → IsMadeOf kind old new key e x
  made_later old mid new g key e x h = record {
    stays = h.stays;
    stored = λ sparse. let one = h.stored sparse in (one.0, one.1, stored_later old mid new g (place_for old key e) one.0 one.2);
  }

  pub made_since : (old mid new : Dev S) → GoesOn kind old mid [] → (key : RegionKey) (e x : Entry) → IsMadeOf kind mid new key e x
      → IsMadeOf kind old new key e x
  made_since old mid new f key e x h = record {
    stays = λ whole. h.stays (sparse_same f e.part ∙ whole);
    stored = λ sparse.
        let one = h.stored (sparse_same f e.part ∙ sparse) in
        let here = stored_since old mid new f (place_for mid key e) one.0 one.2 in
        (one.0, one.1, subst (λ (p : PlaceView). WasStored kind old new p one.0) (place_same f key e) here);
  }

  pub are_made_later : (old mid new : Dev S) → GoesOn kind mid new [] → (key : RegionKey) (es fs : List Entry) → AreMadeOf kind old mid key es fs
      → AreMadeOf kind old new key es fs
  are_made_later old mid new g key [] [] h = tt
  are_made_later old mid new g key (e ∷ es) (x ∷ fs) h = (made_later old mid new g key e x h.0, are_made_later old mid new g key es fs h.1)
  are_made_later old mid new g key [] (x ∷ fs) h = absurd h
  are_made_later old mid new g key (e ∷ es) [] h = absurd h

  pub are_made_since : (old mid new : Dev S) → GoesOn kind old mid [] → (key : RegionKey) (es fs : List Entry) → AreMadeOf kind mid new key es fs
      → AreMadeOf kind old new key es fs
  are_made_since old mid new f key [] [] h = tt
  are_made_since old mid new f key (e ∷ es) (x ∷ fs) h = (made_since old mid new f key e x h.0, are_made_since old mid new f key es fs h.1)
  are_made_since old mid new f key [] (x ∷ fs) h = absurd h
  are_made_since old mid new f key (e ∷ es) [] h = absurd h

pub made_push : {S : Type 0} (kind : StoreKind S) (old new : Dev S) (key : RegionKey) (es fs : List Entry) (e x : Entry) → AreMadeOf kind old new key es fs
    → IsMadeOf kind old new key e x → AreMadeOf kind old new key (es ++ e ∷ []) (fs ++ x ∷ [])
made_push kind old new key [] [] e x h one = (one, tt)
made_push kind old new key (y ∷ es) (z ∷ fs) e x h one = (h.0, made_push kind old new key es fs e x h.1 one)
made_push kind old new key [] (z ∷ fs) e x h one = absurd h
made_push kind old new key (y ∷ es) [] e x h one = absurd h
