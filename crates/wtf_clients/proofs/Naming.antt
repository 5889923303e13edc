-- What holds of the places of each byte that the tables name goes on holding.
use Rattle.wtf_clients.proofs.Common.{IsTrue, Settings, Slice, EachFollows, StoreKind, KindLaws, Place, Store, is_pinned, is_live, times_pinned, Key}
use Rattle.wtf_clients.proofs.Common.{RegionValue, Value, MapBytes, MaybeBytes, any_slice, metadata_at, maybe_stays, is_inside, inside_stays, TxnView, TxnBytes}
use Rattle.wtf_clients.proofs.Common.{KeepsMaps, BesideView, TablesView, of_client, of_label, metadata_now, AreSound, Sets, TablesBytes, SetsClientAlone, Ends}
use Rattle.wtf_clients.proofs.Common.{TablesStay, ◌≡◌, ◌≤◌, ℕ, Bool, List, [], length, Option, None, Some, sym, ap, ◌∙◌, subst, ⊎_elim, arith}
use Rattle.wtf_clients.proofs.{Lives.live_cases, Lives.live_upto, Lives.now_bytes, Lives.Reaches, Lives.same_reaches, Lives.ended_reaches, Pins.number_cases}

module _ (P : List Place → Bool) (Q : Slice → Bool) where
  -- a transaction over a store that shows the same at its base
  pub txn_along : (kv after : Store Key Value) (x : TxnView) → metadata_at after x.at.base ≡ metadata_at kv x.at.base → TxnBytes P Q kv x → TxnBytes P Q after x
  txn_along kv after x same h =
      record { hand = record { base = subst (MapBytes P Q) (sym same) h.hand.base; changes = h.hand.changes; slices = h.hand.slices }; log = h.log }

  -- the maps that can be read later: the map now, and those that could be read before
  pub live_along : (old new : TablesView) → AreSound old → KeepsMaps old.kv new.kv → Reaches old.kv new.kv → TablesBytes P Q old
      → MapBytes P Q (metadata_now new.kv) → (n : ℕ) → IsTrue (is_live new.kv n) → MapBytes P Q (metadata_at new.kv n)
  live_along old new sound maps reach h map n live = ⊎_elim
      (λ now. subst (λ k. MapBytes P Q (metadata_at new.kv k)) (sym now) map)
      (λ pinned.
      let was : IsTrue (is_live old.kv n) = reach n pinned in
      subst (MapBytes P Q) (sym (maps n (live_upto old n sound was))) (h.live n was)) (live_cases new.kv n live)

  -- of all transactions one alone is now this one, or none
  pub bytes_set : (old new : TablesView) (c : ℕ) (now : Option TxnView) → AreSound old → Sets c now old.clients new.clients → KeepsMaps old.kv new.kv →
      Reaches old.kv new.kv → TablesBytes P Q old → MapBytes P Q (metadata_now new.kv)
      → ((x : TxnView) → now ≡ Some x → TxnBytes P Q new.kv x) → new.beside ≡ old.beside → TablesBytes P Q new
  bytes_set old new c now sound sets maps reach h map own beside = record {
    live = live_along old new sound maps reach h map;
    each = λ d x is. ⊎_elim
        (λ same. own x (sym sets.is ∙ ap (of_client new.clients) (sym same) ∙ is))
        (λ other. let was : of_client old.clients d ≡ Some x = sym (sets.others d other) ∙ is in txn_along old.kv new.kv x
        (maps x.at.base (sound.each d x was).based) (h.each d x was)) (number_cases d c);
    planned = λ j x is. h.planned j x (ap (λ (b : BesideView). of_label b.jobs j) (sym beside) ∙ is);
  }

  -- the map now, where the number stays
  pub now_along : (old new : Store Key Value) → new.number ≡ old.number → KeepsMaps old new → MapBytes P Q (metadata_now old) → MapBytes P Q (metadata_now new)
  now_along old new number maps h = subst (MapBytes P Q) (sym (ap (metadata_at new) number ∙ maps old.number (omega arith))) h

  pub stays_bytes : (old new : TablesView) (c : ℕ) → AreSound old → TablesStay old new c → TablesBytes P Q old → TablesBytes P Q new
  stays_bytes old new c sound st h =
      bytes_set old new c (of_client old.clients c) sound st.clients st.maps (same_reaches old.kv new.kv st.pins) h
      (now_along old.kv new.kv st.number st.maps (now_bytes P Q old h))
      (λ x is. txn_along old.kv new.kv x (st.maps x.at.base (sound.each c x is).based) (h.each c x is)) st.beside

  -- a transaction goes on at its base
  pub keeps_bytes : (old new : TablesView) (c : ℕ) (y : TxnView) → AreSound old → SetsClientAlone old new c (Some y) → TxnBytes P Q old.kv y
      → TablesBytes P Q old →
      TablesBytes P Q new
  keeps_bytes old new c y sound keeps own h =
      let maps : KeepsMaps old.kv new.kv = λ n le. ap (λ (s : Store Key Value). metadata_at s n) keeps.kv in
      let reach : Reaches old.kv new.kv = same_reaches old.kv new.kv (λ n. ap (λ (s : Store Key Value). times_pinned s n) keeps.kv) in
      bytes_set old new c (Some y) sound keeps.clients maps reach h (subst (λ (s : Store Key Value). MapBytes P Q (metadata_now s)) (sym keeps.kv)
      (now_bytes P Q old h))
      (λ x is. subst (λ (s : Store Key Value). TxnBytes P Q s x) (sym keeps.kv) (subst (TxnBytes P Q old.kv) (let e : y ≡ x = cc in e) own)) keeps.beside

  -- it has ended
  pub ends_bytes : (old new : TablesView) (mid : Store Key Value) (c : ℕ) (x : TxnView) → AreSound old → Ends old new mid c x → MapBytes P Q
      (metadata_now mid) → TablesBytes P Q old → TablesBytes P Q new
  ends_bytes old new mid c x sound ends map h =
      let at : (n : ℕ) → metadata_at new.kv n ≡ metadata_at mid n = λ n. ap (λ (s : Store Key Value). metadata_at s n) ends.kv in
      bytes_set old new c None sound ends.clients (λ n le. at n ∙ ends.maps n le) (ended_reaches old.kv mid new.kv x.at.base ends.pins ends.unpinned) h
      (subst (MapBytes P Q) (sym (ap (λ (s : Store Key Value). metadata_now s) ends.kv)) map)
      (λ y is. absurd (cc)) ends.beside

  -- it ended, and the map now is as it was
  pub leaves_bytes : (old new : TablesView) (mid : Store Key Value) (c : ℕ) (x : TxnView) → AreSound old → Ends old new mid c x → mid.number ≡ old.kv.number →
      TablesBytes P Q old → TablesBytes P Q new
  leaves_bytes old new mid c x sound ends same h = ends_bytes old new mid c x sound ends (now_along old.kv mid same ends.maps (now_bytes P Q old h)) h

  -- no transaction is open, there is no job, and no other number can be read
  pub bytes_alone : (tables : TablesView) → ((c : ℕ) → of_client tables.clients c ≡ None) → ((j : ℕ) → of_label tables.beside.jobs j ≡ None) →
      ((n : ℕ) → IsTrue (is_pinned tables.kv n) → n ≡ tables.kv.number) → MapBytes P Q (metadata_now tables.kv) → TablesBytes P Q tables
  bytes_alone tables none idle alone map = record {
    live = λ n live. ⊎_elim
        (λ now. subst (λ k. MapBytes P Q (metadata_at tables.kv k)) (sym now) map)
        (λ pinned. subst (λ k. MapBytes P Q (metadata_at tables.kv k)) (sym (alone n pinned)) map)
        (live_cases tables.kv n live);
    each = λ c x is. absurd (let e : None ≡ Some x = sym (none c) ∙ is in cc);
    planned = λ j x is. absurd (let e : None ≡ Some x = sym (idle j) ∙ is in cc);
  }

-- what lies inside the stores goes on doing so, as they grow
pub value_later : {S : Type 0} {kind : StoreKind S} → KindLaws kind → {before after : List S} → EachFollows kind before after []
    → (settings : Settings) → settings.servers ≤ length before → (v : Option RegionValue) → MaybeBytes (is_inside kind before settings) any_slice v
    → MaybeBytes (is_inside kind after settings) any_slice v
value_later {kind = kind} laws {before = before} {after = after} goes settings enough v h =
    maybe_stays (is_inside kind before settings) (is_inside kind after settings) (inside_stays laws goes settings enough) any_slice any_slice (λ s is. is) v h
