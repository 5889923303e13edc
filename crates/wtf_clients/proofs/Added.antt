-- Each byte of what a call stored was added by it, and the log keeps it.
use Rattle.wtf_clients.proofs.Common.{All, option_map, unwrap_or, cases_lt, cases_Bool, and_from, length-map, slice_get_past, All-head, All-tail, All-push}
use Rattle.wtf_clients.proofs.Common.{All-pop, All-map, All-weaker, Kept, Pointer, Settings, Slice, place_in, pointers_of, EachFollows, Range, StoreKind}
use Rattle.wtf_clients.proofs.Common.{KindLaws, TellsAll, PlaceView, Place, part_origin, Held, IsNewCopy, IsStored, size_in, Span, size_in-at, Answer, Op}
use Rattle.wtf_clients.proofs.Common.{Handle, is_told, Map, SessionView, handle_in, Dev, GoesOn, stores, told_in, between, is_inside, own_of, OwnBy, SliceBytes}
use Rattle.wtf_clients.proofs.Common.{call_data, IsCalled, IsOwnOf, LogBytes, TxnView, told_slice, own_told_of, off, HoldsOfAdded, ◌≡◌, ℕ, ◌+◌, ◌<◌, ◌≤◌, Bool}
use Rattle.wtf_clients.proofs.Common.{true, not, List, [], ◌∷◌, ◌++◌, length, Option, None, Some, refl, sym, ap, ◌∙◌, subst, ⊎_elim, arith}
use Rattle.wtf_clients.proofs.ToldLaws.{own_inside}

-- no file gets shorter, whatever is punched
pub sizes_grow : {S : Type 0} {kind : StoreKind S} → KindLaws kind → (old new : List S) (ranges : List (ℕ × Range)) → EachFollows kind old new ranges
    → (k f : ℕ) → size_in kind old k f ≤ size_in kind new k f
sizes_grow {S} {kind} laws old new ranges e k f = ⊎_elim
    (λ below. by old refl below)
    (λ past.
    let none : size_in kind old k f ≡ 0 = ap (λ (o : Option S). unwrap_or (option_map (λ s. (kind.view s).size f) o) 0) (slice_get_past old k past) in
    omega (arith, none))
    (cases_lt k (length old))
  where
    by : (shelf : List S) → old ≡ shelf → k < length old → size_in kind old k f ≤ size_in kind new k f
    by [] is below = let none : length old ≡ 0 = ap length is in absurd (omega (arith, below, none))
    by (d ∷ ds) is below =
        let same = e.same_length in
        let was = size_in-at kind old k f d below in
        let now = size_in-at kind new k f d (omega (arith, below, same)) in
        let kept = (laws.keeps _ _ _ (e.each k d below)).size f in
        omega (arith, was, now, kept)

-- so each byte that was added lies off each set of bytes inside the files as they were
pub added_off : {S : Type 0} (kind : StoreKind S) (t : Span S) (settings : Settings) (X : Place → Bool)
    → ((p : Place) → X p ≡ true → p.at < size_in kind t.before p.server p.file) → HoldsOfAdded kind t settings (off X)
added_off kind t settings X low places added = by places added.past
  where
    Past : Place → Type 0
    Past p = size_in kind t.before p.server p.file ≤ p.at

    by : (ps : List Place) → All Past ps → off X ps ≡ true
    by [] h = refl
    by (p ∷ ps) h =
        let le = All-head Past p ps h in
        and_from (not (X p)) (off X ps)
        (⊎_elim (λ here. let lt = low p here in absurd (omega (arith, lt, le))) (λ none. ap not none) (cases_Bool (X p))) (by ps (All-tail Past p ps h))

module _ {S : Type 0} (kind : StoreKind S) (old new : Dev S) where
  abbrev Adds : (List Place → Bool) → Type 0
  Adds P = HoldsOfAdded kind (between old new) old.settings P

  -- a new copy begins where its file ended
  past_end : (f : ℕ) (bytes : List ℕ) (i : ℕ) (p : Pointer) → IsNewCopy kind (between old new) f bytes p
      → size_in kind (stores old) (place_in i p).server (place_in i p).file ≤ (place_in i p).at
  past_end f bytes i p copy = by (stores old) refl copy.server
    where
      by : (shelf : List S) → stores old ≡ shelf → p.server.0 < length shelf → size_in kind (stores old) p.server.0 p.file ≤ p.at + i
      by [] is below = absurd (omega (arith, below))
      by (d ∷ ds) is below =
          let known = copy.server in
          let there = size_in-at kind (stores old) p.server.0 p.file d known in
          let at = copy.at d in
          let same = copy.file in
          let here = ap (λ k. size_in kind (stores old) p.server.0 k) same in
          let end = size_in-at kind (stores old) p.server.0 f d known in
          omega (arith, here, end, at)

  -- each byte of a slice that was stored was added
  pub stored_added : (place : PlaceView) (bytes : List ℕ) (s : Slice) → IsStored kind (between old new) old.settings.replicas place bytes s
      → SliceBytes (is_told (told_in kind new)) (Some s) → SliceBytes (is_inside kind (stores new) old.settings) (Some s)
      → (P : List Place → Bool) → Adds P → SliceBytes P (Some s)
  stored_added place bytes s st told inside P added = λ i below. added (part_origin (Held s) i) (record {
    wide = length-map (pointers_of s) (place_in i) ∙ st.width;
    past = All-map (λ (p : Place). size_in kind (stores old) p.server p.file ≤ p.at) (place_in i) (pointers_of s)
        (All-weaker (IsNewCopy kind (between old new) place.file bytes)
        (λ (q : Pointer). size_in kind (stores old) (place_in i q).server (place_in i q).file ≤ (place_in i q).at)
        (λ q copy. past_end place.file bytes i q copy) (pointers_of s) st.copies);
    within = inside i below;
    told = told i below;
  })

  by_added : (o : Option Handle) (place : Handle → PlaceView) (bytes : List ℕ) (own : Option Slice) → OwnBy kind old new o place bytes own
      → SliceBytes (is_told (told_in kind new)) own → SliceBytes (is_inside kind (stores new) old.settings) own
      → (P : List Place → Bool) → Adds P → SliceBytes P own
  by_added None place bytes own h told inside P added = subst (SliceBytes P) (sym h.1) tt
  by_added (Some g) place bytes None h told inside P added = tt
  by_added (Some g) place bytes (Some s) h told inside P added = stored_added (place g) bytes s h.0 told inside P added

  -- each byte of what a call stored was added
  pub own_added : (w : Map) (s : SessionView) (o : Op (List ℕ)) (own : Option Slice) → length (stores new) ≡ length (stores old)
      → TellsAll kind (stores old) → IsOwnOf kind old new w s o own → (P : List Place → Bool) → Adds P → SliceBytes P own
  own_added w s o own same all h =
      by o h (told_slice (told_in kind new) own (call_data o) (own_told_of kind old new w s o own same all h)) (own_inside kind old new w s o own h)
    where
      by : (o : Op (List ℕ)) → IsOwnOf kind old new w s o own → SliceBytes (is_told (told_in kind new)) own
          → SliceBytes (is_inside kind (stores new) old.settings) own → (P : List Place → Bool) → Adds P → SliceBytes P own
      by (Op.Write f bytes) h told inside P added = by_added (handle_in s f) _ bytes own h told inside P added
      by (Op.Append f bytes) h told inside P added = by_added (handle_in s f) _ bytes own h told inside P added
      by (Op.Read f n) h told inside P added = subst (SliceBytes P) (sym h) tt
      by (Op.Yank f n label) h told inside P added = subst (SliceBytes P) (sym h) tt
      by (Op.Peek label off n) h told inside P added = subst (SliceBytes P) (sym h) tt
      by (Op.Concat q paths) h told inside P added = subst (SliceBytes P) (sym h) tt
      by o h told inside P added = subst (SliceBytes P) (sym h.1) tt

-- what is added in a later part of a span is added in it
pub added_since : {S : Type 0} {kind : StoreKind S} → KindLaws kind → (old mid new : Dev S) → GoesOn kind old mid [] → (P : List Place → Bool)
    → HoldsOfAdded kind (between old new) old.settings P → HoldsOfAdded kind (between mid new) mid.settings P
added_since {kind = kind} laws old mid new goes P added places is = added places (record {
  wide = is.wide ∙ ap (λ (st : Settings). st.replicas) goes.settings;
  past = All-weaker (λ (p : Place). size_in kind (stores mid) p.server p.file ≤ p.at) (λ (p : Place). size_in kind (stores old) p.server p.file ≤ p.at)
      (λ p le. let grown = sizes_grow laws (stores old) (stores mid) [] goes.each p.server p.file in omega (arith, le, grown)) places is.past;
  within = subst (λ (st : Settings). is_inside kind (stores new) st places ≡ true) goes.settings is.within;
  told = is.told;
})

-- what a log has is what it had, with the slice of the call, where it keeps just that
pub own_logged : (x y : TxnView) (o : Op (List ℕ)) (own : Option Slice) (a : Answer) (h : IsCalled x y o own a) → own_of h.kept ≡ own
    → ((P : List Place → Bool) → LogBytes P x.log → SliceBytes P own → LogBytes P y.log)
    × ((P : List Place → Bool) → LogBytes P y.log → LogBytes P x.log × SliceBytes P own)
own_logged x y o own a h keeps =
    let Each : (List Place → Bool) → Op Kept → Type 0 = λ P k. SliceBytes P (own_of k) in (
      λ P had mine. subst (LogBytes P) (sym h.logged.log) (All-push (Each P) x.log.ops h.kept had (subst (SliceBytes P) (sym keeps) mine)),
      λ P has.
          let both = All-pop (Each P) (x.log.ops ++ h.kept ∷ []) x.log.ops (Some h.kept) refl (subst (LogBytes P) h.logged.log has) in
          (both.0, subst (SliceBytes P) keeps both.1),
    )
