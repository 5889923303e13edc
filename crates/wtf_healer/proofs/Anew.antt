-- A region that was healed, and one of which no slice is sparse: both have the bytes of what was left of the region, told by all copies.
use Rattle.std.proofs.Common.{◌≡◌, ℕ, ◌++◌, ◌||◌, Bool, false, List, [], get_or, Option, None, Some, refl, sym, ap, ◌∙◌, subst}
use Rattle.std.specs.List.{All}
use Rattle.std.proofs.lemmas.Bool.{or_parts}
use Rattle.std.proofs.lemmas.List.Elements.{All-nil}
use Rattle.wtf_base.specs.declared.slice.Slice.{Slice}
use Rattle.wtf_base.specs.Slices.{len_of}
use Rattle.wtf_base.specs.Places.{Place, places_of}
use Rattle.wtf_overlay.specs.declared.part.Entry.{Entry}
use Rattle.wtf_overlay.specs.Clips.{clip_list}
use Rattle.wtf_overlay.specs.Meaning.{meaning}
use Rattle.wtf_overlay.specs.Origin.{origin}
use Rattle.wtf_values.specs.declared.region.RegionValue.{RegionValue}
use Rattle.wtf_values.specs.declared.region.Spill.{Spill}
use Rattle.wtf_meta.specs.Bytes.{EntryBytes, BaseBytes, RegionBytes}
use Rattle.wtf_meta.specs.Contents.{Told, is_told, is_listed, lists_in}
use Rattle.wtf_meta.specs.Files.{region_origin}
use Rattle.wtf_meta.specs.Lists.{seen_list, or_none}
use Rattle.wtf_meta.proofs.ListTests.{list_has-true}
use Rattle.wtf_meta.proofs.Telling.{TellsOn, meaning_later, told_from, lists_in-from, lists_in-later, TellBytes-later}
use Rattle.wtf_region.specs.Showing.{meaning_up}
use Rattle.wtf_healer.specs.Live.{AreLeft, IsLeftList, IsLeftBase, IsLiveRegion}
use Rattle.wtf_healer.specs.Regions.{IsCompacted, list_over}
use Rattle.wtf_healer.specs.Restored.{AreKept}
use Rattle.wtf_healer.specs.Runs.{IsUnder, IsWholeRegion}
use Rattle.wtf_healer.specs.Sparse.{is_sparse, is_sparse_base, has_sparse, is_to_heal}
use Rattle.wtf_healer.proofs.Leaving.{left, means_up, is_up_told, entries_up, kept_origin, kept_entries}
use Rattle.wtf_healer.proofs.Rereading.{IsReadAs, read_same, over_left, entries_on, under_later}
use Rattle.wtf_healer.proofs.Restoring.{All-append_parts}
use Rattle.wtf_healer.proofs.Unlost.{are_filed, tells_same, lists_same, entries_same, list_same, seen_same, left_itself}

-- x was put in the place of v, whose base has the list `under`: the compact list, of which the sparse entries were stored anew
pub record IsAnew (b n : ℕ) (told now : Told) (lost : ℕ → Bool) (v x : RegionValue) : Type 0 where
  pub under : List Entry
  pub read : IsReadAs b told lost v.base under
  pub short : List Entry
  pub short_is : IsCompacted v under short
  pub kept : AreKept lost told now short x.list
  pub whole : has_sparse lost n x.list ≡ false
  pub filed : All (EntryBytes are_filed) x.list
  pub end : x.end ≡ v.end
  pub base : x.base ≡ None

-- no slice of v is sparse
pub record IsUnlost (b n : ℕ) (told : Told) (lost : ℕ → Bool) (v : RegionValue) : Type 0 where
  pub under : List Entry
  pub read : IsReadAs b told lost v.base under
  pub whole : is_to_heal lost n under v ≡ false

-- a region without a base has its entries alone
alone : (lists : Slice → Option (List Entry)) (base : Option Spill) (list : List Entry) → base ≡ None → (y : ℕ)
    → origin (seen_list lists base ++ list) y ≡ origin list y
alone lists base list none y = ap (λ (o : Option Spill). origin (seen_list lists o ++ list) y) none

-- where the bytes of what is left of a region lie
live_origin : (b : ℕ) (told : Told) (lost : ℕ → Bool) (v u : RegionValue) (lists : Slice → Option (List Entry)) (h : IsLiveRegion b told lost v u) → (y : ℕ)
    → region_origin lists (Some u) y ≡ origin (h.under ++ h.top) y
live_origin b told lost v u lists h y = alone lists u.base u.list h.base y ∙ ap (λ (l : List Entry). origin l y) h.list

module _ (b n : ℕ) (told now : Told) (lost : ℕ → Bool) (v u : RegionValue) (h : IsLiveRegion b told lost v u) where
  -- a region that was healed tells the bytes that were left of it
  pub anew_bytes : (x : RegionValue) → IsAnew b n told now lost v x → (y byte : ℕ) → meaning told (region_origin (lists_in b told) (Some u) y) ≡ Some byte
      → meaning now (region_origin (lists_in b now) (Some x) y) ≡ Some byte
  anew_bytes x a y byte tells =
      let over : List Place = origin (list_over v.base a.under v.list) y in
      let seen = over_left b told lost v.base v.list h.under h.top a.under h.base_is h.top_is a.read y in
      let here : meaning told (left lost over) ≡ Some byte =
      ap (meaning told) (sym (live_origin b told lost v u (lists_in b told) h y ∙ seen.0)) ∙ tells in
      let up : meaning_up lost told (origin a.short y) ≡ Some byte =
      ap (meaning_up lost told) (a.short_is.origins y) ∙ means_up lost told over byte seen.1 here in
      ap (meaning now) (alone (lists_in b now) x.base x.list a.base y) ∙ kept_origin lost told now a.short x.list a.kept y byte up

  under_up : (base : Option Spill) (under es : List Entry) → IsLeftBase b told lost base under → IsReadAs b told lost base es
      → All (EntryBytes (is_up_told lost told)) es
  under_up None under es l read = subst (All (EntryBytes (is_up_told lost told))) (sym read) (All-nil (EntryBytes (is_up_told lost told)))
  under_up (Some s) under es l read =
      let whole = l.0 in
      let r : IsLeftList b told lost s.slice whole = l.1 in
      subst (All (EntryBytes (is_up_told lost told))) (sym (read_same b told lost s whole r es read)) (entries_up lost told r.list whole r.entries r.bytes)

  -- each byte of the compact list has a copy that is left
  pub short_up : (under short : List Entry) → IsReadAs b told lost v.base under → IsCompacted v under short → All (EntryBytes (is_told told)) u.list
      → All (EntryBytes (is_up_told lost told)) short
  short_up under short read is bytes =
      let parts = All-append_parts (EntryBytes (is_told told)) h.under h.top (subst (All (EntryBytes (is_told told))) h.list bytes) in
      is.named (is_up_told lost told) (under_up v.base h.under under h.base_is read) (entries_up lost told v.list h.top h.top_is parts.1)

  -- and all bytes of it are told, also those that others hide
  pub anew_entries : (x : RegionValue) → IsAnew b n told now lost v x → All (EntryBytes (is_told told)) u.list → All (EntryBytes (is_told now)) x.list
  anew_entries x a bytes = kept_entries lost told now a.short x.list a.kept (short_up a.under a.short a.read a.short_is bytes)

  pub anew_region : (x : RegionValue) → IsAnew b n told now lost v x → RegionBytes (is_told told) (is_listed b told) u
      → RegionBytes (is_told now) (is_listed b now) x
  anew_region x a bytes = record {
    base = subst (BaseBytes (is_told now) (is_listed b now)) (sym a.base) tt;
    entries = anew_entries x a bytes.entries;
  }

  -- what is left of it is all of it
  pub anew_live : (x : RegionValue) → IsAnew b n told now lost v x → IsLiveRegion b now lost x x
  anew_live x a = record {
    end = refl;
    base = a.base;
    under = [];
    base_is = subst (λ (o : Option Spill). IsLeftBase b now lost o []) (sym a.base) refl;
    top = x.list;
    top_is = left_itself lost n x.list a.whole a.filed;
    list = refl;
  }

-- and no slice of it is sparse
pub anew_whole : (b n : ℕ) (told now : Told) (lost : ℕ → Bool) (v x : RegionValue) → IsAnew b n told now lost v x → IsWholeRegion b n now lost x
anew_whole b n told now lost v x a = record {
  under = [];
  under_is = subst (λ (o : Option Spill). IsUnder b now lost o []) (sym a.base) refl;
  whole = ap (λ (o : Option Spill). is_sparse_base lost n o || has_sparse lost n [] || has_sparse lost n x.list) a.base ∙ a.whole;
}

-- ---- regions that stay

module _ (b n : ℕ) (told now : Told) (lost : ℕ → Bool) (on : TellsOn told now) where
  -- of a slice that is not sparse the list is told still
  list_now : (s : Spill) (whole : List Entry) (r : IsLeftList b told lost s.slice whole) → is_sparse lost n s.slice ≡ false
      → lists_in b now s.slice ≡ Some r.list
  list_now s whole r h = lists_in-later told now b s.slice r.list on (lists_same lost n b told s.slice r.slice r.list h r.left r.decodes)

  stays_over : (base : Option Spill) (list under top es : List Entry) → IsLeftBase b told lost base under → AreLeft lost list top
      → IsReadAs b told lost base es → is_sparse_base lost n base ≡ false → has_sparse lost n es ≡ false → has_sparse lost n list ≡ false → (y : ℕ)
      → origin (under ++ top) y ≡ origin (seen_list (lists_in b now) base ++ list) y
  stays_over None list under top es h t read base below above y =
      ap (λ (l : List Entry). origin (l ++ top) y) h ∙ list_same lost n list top above t y
  stays_over (Some s) list under top es h t read base below above y =
      let whole = h.0 in
      let r : IsLeftList b told lost s.slice whole = h.1 in
      let clear : has_sparse lost n r.list ≡ false = ap (has_sparse lost n) (sym (read_same b told lost s whole r es read)) ∙ below in
      ap (λ (l : List Entry). origin (l ++ top) y) h.2
      ∙ seen_same lost n s.visible r.list whole list top clear r.entries above t y
      ∙ ap (λ o. origin (clip_list s.visible (or_none o) ++ list) y) (sym (list_now s whole r base))

  stays_base : (base : Option Spill) (under es : List Entry) → IsLeftBase b told lost base under → IsReadAs b told lost base es
      → is_sparse_base lost n base ≡ false → has_sparse lost n es ≡ false → BaseBytes (is_told now) (is_listed b now) base
  stays_base None under es h read base below = tt
  stays_base (Some s) under es h read base below =
      let whole = h.0 in
      let r : IsLeftList b told lost s.slice whole = h.1 in
      let clear : has_sparse lost n r.list ≡ false = ap (has_sparse lost n) (sym (read_same b told lost s whole r es read)) ∙ below in
      let was = lists_in-from b told r.slice r.list r.decodes in
      let tells = TellBytes-later told now (len_of s.slice) (places_of s.slice) was.0 on (tells_same lost n told s.slice r.slice base r.left was.0 was.1) in
      let bytes = entries_on b told now lost on r.list (entries_same lost n (is_told told) r.list whole clear r.entries r.bytes) in (
        λ i below. told_from now (places_of s.slice i) (get_or was.0 i 0) (tells.tells i below),
        list_has-true (is_told now) (lists_in b now s.slice) r.list (list_now s whole r base) bytes,
      )

  module _ (v u : RegionValue) (h : IsLiveRegion b told lost v u) (k : IsUnlost b n told lost v) where
    abbrev clears : Type 0
    clears = (is_sparse_base lost n v.base ≡ false) × (has_sparse lost n k.under ≡ false) × (has_sparse lost n v.list ≡ false)

    clear : clears
    clear =
        let one = or_parts (is_sparse_base lost n v.base || has_sparse lost n k.under) (has_sparse lost n v.list) k.whole in
        let two = or_parts (is_sparse_base lost n v.base) (has_sparse lost n k.under) one.0 in
        (two.0, two.1, one.1)

    -- a region of which no slice is sparse tells the bytes that were left of it
    pub stays_bytes : (y byte : ℕ) → meaning told (region_origin (lists_in b told) (Some u) y) ≡ Some byte
        → meaning now (region_origin (lists_in b now) (Some v) y) ≡ Some byte
    stays_bytes y byte tells =
        let same = live_origin b told lost v u (lists_in b told) h y
        ∙ stays_over v.base v.list h.under h.top k.under h.base_is h.top_is k.read clear.0 clear.1 clear.2 y in
        ap (meaning now) (sym same) ∙ meaning_later told now (region_origin (lists_in b told) (Some u) y) byte on tells

    -- each byte of it is told
    pub stays_region : RegionBytes (is_told told) (is_listed b told) u → RegionBytes (is_told now) (is_listed b now) v
    stays_region bytes =
        let parts = All-append_parts (EntryBytes (is_told told)) h.under h.top (subst (All (EntryBytes (is_told told))) h.list bytes.entries) in
        record {
          base = stays_base v.base h.under k.under h.base_is k.read clear.0 clear.1;
          entries = entries_on b told now lost on v.list (entries_same lost n (is_told told) v.list h.top clear.2 h.top_is parts.1);
        }

    -- and none is sparse still
    pub stays_whole : IsWholeRegion b n now lost v
    stays_whole = record {
      under = k.under;
      under_is = under_later b told now lost on v.base h.under k.under h.base_is k.read;
      whole = k.whole;
    }

    -- what was left of it tells the same later
    pub live_bytes : (y byte : ℕ) → meaning told (region_origin (lists_in b told) (Some u) y) ≡ Some byte
        → meaning now (region_origin (lists_in b now) (Some u) y) ≡ Some byte
    live_bytes y byte tells =
        let same = live_origin b told lost v u (lists_in b told) h y ∙ sym (live_origin b told lost v u (lists_in b now) h y) in
        ap (meaning now) (sym same) ∙ meaning_later told now (region_origin (lists_in b told) (Some u) y) byte on tells

    pub live_region : RegionBytes (is_told told) (is_listed b told) u → RegionBytes (is_told now) (is_listed b now) u
    live_region bytes = record {
      base = subst (BaseBytes (is_told now) (is_listed b now)) (sym h.base) tt;
      entries = entries_on b told now lost on u.list bytes.entries;
    }
