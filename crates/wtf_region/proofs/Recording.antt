-- Keys and changes of a file that are added to an attempt.
use Rattle.std.proofs.Common.{◌≡◌, ◌⊎◌, ℕ, ◌+◌, ◌*◌, ◌<◌, List, [], ◌∷◌, ◌++◌, ap, sym, ◌∙◌, subst, arith, inl, inr}
use Rattle.std.proofs.lemmas.Bool.{cases_order}
use Rattle.std.proofs.lemmas.List.{append-nil, map-append}
use Rattle.wtf_base.specs.declared.ids.InodeId.{InodeId}
use Rattle.wtf_kv.specs.Stores.{Store}
use Rattle.wtf_occ.specs.Attempts.{Attempted, GrowsBy}
use Rattle.wtf_occ.proofs.AttemptLaws.{GrowsBy-nothing, GrowsBy-append, map_seen-by}
use Rattle.wtf_values.specs.declared.key.Key.{Key}
use Rattle.wtf_values.specs.declared.value.Value.{Value}
use Rattle.wtf_values.specs.declared.value.Delta.{Delta}
use Rattle.wtf_values.specs.Keys.{key_cmp}
use Rattle.wtf_values.specs.Outcomes.{outcome_of}
use Rattle.wtf_meta.specs.Maps.{Edits, seen}
use Rattle.wtf_meta.specs.FileEdits.{FileEdit, edit_of, edits_of}
use Rattle.wtf_meta.specs.Appends.{FileKey, OfRegion, key_of, keys_of, region_keys}
use Rattle.wtf_meta.proofs.Places.{apart}
use Rattle.wtf_region.specs.Edited.{Recorded, Edited}

-- what is recorded leaves the map that an attempt sees
pub still_seen : (kv : Store Key Value) (i : InodeId) (ks : List FileKey) (old new : Attempted Key Delta) → Recorded i ks old new → seen kv new ≡ seen kv old
still_seen kv i ks old new h = map_seen-by key_cmp outcome_of kv old new (keys_of i ks) [] h

-- more keys
pub recorded_on : (i : InodeId) (ks ls : List FileKey) (a m n : Attempted Key Delta) → Recorded i ks a m → Recorded i ls m n → Recorded i (ks ++ ls) a n
recorded_on i ks ls a m n first next =
    subst (λ (qs : List Key). GrowsBy a n qs []) (sym (map-append (key_of i) ks ls)) (GrowsBy-append a m n (keys_of i ks) (keys_of i ls) [] [] first next)

-- one region more
pub recorded_region : (i : InodeId) (rs ss : List ℕ) (r : ℕ) (a m n : Attempted Key Delta) → ss ≡ rs ++ r ∷ [] → Recorded i (region_keys rs) a m
    → Recorded i (OfRegion r ∷ []) m n
    → Recorded i (region_keys ss) a n
recorded_region i rs ss r a m n e first next =
    subst (λ (ks : List FileKey). Recorded i ks a n) (sym (ap region_keys e ∙ map-append (λ q. OfRegion q) rs (r ∷ [])))
    (recorded_on i (region_keys rs) (OfRegion r ∷ []) a m n first next)

-- a place at the border of a region lies at the begin of its own
at_border : (b q r s : ℕ) → q * b ≡ r * b + s → s < b → s ≡ 0
at_border b q r s e below = elim (cases_order q r) [
  | inl same ↦ omega (arith, e, ap (λ (k : ℕ). k * b) same)
  | inr (inl l) ↦ absurd (omega (arith, e, apart b q r l))
  | inr (inr g) ↦ absurd (omega (arith, e, below, apart b r q g))
]

-- a part begins the range, or a region
pub part_start : (b off len done r s : ℕ) → done < len → (done ≡ 0) ⊎ ((done ≡ len) ⊎ ((q : ℕ) × (q * b ≡ off + done))) → r * b + s ≡ off + done → s < b
    → (done ≡ 0) ⊎ (s ≡ 0)
part_start b off len done r s left (inl first) place below = inl first
part_start b off len done r s left (inr (inl whole)) place below = absurd (omega (arith, whole, left))
part_start b off len done r s left (inr (inr begins)) place below = inr (at_border b begins.0 r s (begins.1 ∙ sym place) below)

-- no change yet
pub Edited-none : (i : InodeId) (F : List FileEdit → Type 0) (a : Attempted Key Delta) → F [] → Edited i [] F a a
Edited-none i F a h = record { edits = []; grows = GrowsBy-nothing a; does = h }

-- more changes
pub Edited-more : (i : InodeId) (ks ls : List FileKey) (F G H : List FileEdit → Type 0) (a m n : Attempted Key Delta) → Edited i ks F a m → Edited i ls G m n
    → ((ds es : List FileEdit) → F ds → G es → H (ds ++ es)) → Edited i (ks ++ ls) H a n
Edited-more i ks ls F G H a m n first next join = record {
  edits = first.edits ++ next.edits;
  grows = subst (λ (qs : List Key). GrowsBy a n qs (edits_of i (first.edits ++ next.edits))) (sym (map-append (key_of i) ks ls))
      (subst (λ (cs : Edits). GrowsBy a n (keys_of i ks ++ keys_of i ls) cs) (sym (map-append (edit_of i) first.edits next.edits))
      (GrowsBy-append a m n (keys_of i ks) (keys_of i ls) (edits_of i first.edits) (edits_of i next.edits) first.grows next.grows));
  does = join first.edits next.edits first.does next.does;
}

pub Edited-as : (i : InodeId) (ks : List FileKey) (F G : List FileEdit → Type 0) (a n : Attempted Key Delta) → Edited i ks F a n
    → ((ds : List FileEdit) → F ds → G ds) → Edited i ks G a n
Edited-as i ks F G a n h weaker = record { edits = h.edits; grows = h.grows; does = weaker h.edits h.does }

-- keys, and then changes
pub Edited-recorded : (i : InodeId) (ks : List FileKey) (F : List FileEdit → Type 0) (a m n : Attempted Key Delta) → Recorded i ks a m → Edited i [] F m n
    → Edited i ks F a n
Edited-recorded i ks F a m n first next = record {
  edits = next.edits;
  grows = subst (λ (qs : List Key). GrowsBy a n qs (edits_of i next.edits)) (append-nil (keys_of i ks))
      (GrowsBy-append a m n (keys_of i ks) [] [] (edits_of i next.edits) first next.grows);
  does = next.does;
}
