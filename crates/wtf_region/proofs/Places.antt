-- Regions that are remembered, with their places.
use Rattle.std.proofs.Common.{◌≡◌, Bool, true, false, List, [], ◌∷◌, ◌++◌, Option, Some, None, Contains, option_to_list, slice_get, is_some, refl, sym, ap}
use Rattle.std.proofs.Common.{subst, inl, inr}
use Rattle.std.specs.Map.{lookup, lookup_entry}
use Rattle.std.proofs.lemmas.List.Elements.{Contains-append_right}
use Rattle.lru.specs.LruCache.{LruCache, promoted, put_entries}
use Rattle.lru.proofs.CallerLemmas.{Contains-lookup_entry, Contains-promoted, Contains-put_entries}
use Rattle.lru.proofs.Splits.{Contains-head, Contains-cons}
use Rattle.wtf_ring.specs.Points.{RingView, PlaceView}
use Rattle.wtf_region.specs.declared.cache.RegionKey.{RegionKey}
use Rattle.wtf_region.specs.contracts.cache.RegionKeyPartialEq.TheImpl as region_key
use Rattle.wtf_region.specs.Cached.{IsPlaceOf, AreFrom, BeginsAt}
use Rattle.wtf_region.proofs.RegionKeys.{same_key}

abbrev Entry : Type 0
Entry = RegionKey × PlaceView

-- the first place is that of the first region
pub place_of_first : (ring : RingView) (key : RegionKey) (es : List Entry) → AreFrom ring es → BeginsAt key es → (e : Entry) → slice_get es 0 ≡ Some e
    → IsPlaceOf ring key e.1
place_of_first ring key [] from first e h = cc
place_of_first ring key (f ∷ es) from first e h =
    let same : f ≡ e = cc in
    let named : f.0 ≡ key = cc in
    subst (λ (k : RegionKey). IsPlaceOf ring k e.1) named
    (subst (λ (g : Entry). IsPlaceOf ring f.0 g.1) same (from f (Contains-head f es)))

module _ (key : RegionKey) where
  abbrev test : RegionKey → Bool
  test = region_key.eq-value.it key

  entry_of : (es : List Entry) → is_some (lookup test es) ≡ true → (e : Entry) × (lookup_entry test es ≡ Some e)
  entry_of [] h = cc
  entry_of (f ∷ es) h = (elim (test f.0) as (λ y. test f.0 ≡ y → (e : Entry) × (lookup_entry test (f ∷ es) ≡ Some e)) [
    | true ↦ λ t. (f, rw t refl)
    | false ↦ λ t. let on = entry_of es (rw t at h) in (on.0, rw t on.1)
  ]) refl

  -- a region that is there goes first
  pub BeginsAt-promoted : (es : List Entry) → is_some (lookup test es) ≡ true → BeginsAt key (promoted test es)
  BeginsAt-promoted es h =
      let e = entry_of es h in
      rw e.1 (ap Some (sym (same_key key e.0.0 (Contains-lookup_entry test es e.0 e.1).1)))

  pub AreFrom-promoted : (ring : RingView) (es : List Entry) → AreFrom ring es → AreFrom ring (promoted test es)
  AreFrom-promoted ring es from e h = from e (Contains-promoted test es e h)

  module _ (c : LruCache RegionKey PlaceView) (p : PlaceView) where
    put_begins : (o : Option Entry) → lookup_entry test c.entries ≡ o → BeginsAt key (put_entries region_key.eq-value.it c key p)
    put_begins None h = rw h refl
    put_begins (Some f) h = rw h (ap Some (sym (same_key key f.0 (Contains-lookup_entry test c.entries f h).1)))

    -- a region that is put in goes first
    pub BeginsAt-put_entries : BeginsAt key (put_entries region_key.eq-value.it c key p)
    BeginsAt-put_entries = put_begins (lookup_entry test c.entries) refl

    pub AreFrom-put_entries : (ring : RingView) → AreFrom ring c.entries → IsPlaceOf ring key p → AreFrom ring (put_entries region_key.eq-value.it c key p)
    AreFrom-put_entries ring from place e h = elim (Contains-put_entries region_key.eq-value.it c key p e h) [
      | inl there ↦ from e there
      | inr put ↦
          let named : key ≡ e.0 = elim put.1 [ inl same ↦ sym same | inr there ↦ same_key key e.0 there.2 ] in
          subst (λ (k : RegionKey). IsPlaceOf ring k e.1) named (subst (λ (q : PlaceView). IsPlaceOf ring key q) (sym put.0) place)
    ]

-- those that are in the cache, where all are told
pub AreFrom-places : (ring : RingView) (spare : Option Entry) (es all : List Entry) → option_to_list spare ++ es ≡ all → AreFrom ring all → AreFrom ring es
AreFrom-places ring spare es all told from e h = from e (subst (λ (l : List Entry). Contains l e) told (Contains-append_right (option_to_list spare) es e h))

-- one more is remembered
pub AreFrom-cons : (ring : RingView) (key : RegionKey) (p : PlaceView) (es : List Entry) → IsPlaceOf ring key p → AreFrom ring es → AreFrom ring ((key, p) ∷ es)
AreFrom-cons ring key p es place from e h = elim (Contains-cons (key, p) es e h) [
  | inl same ↦ subst (λ (g : Entry). IsPlaceOf ring g.0 g.1) same place
  | inr there ↦ from e there
]
