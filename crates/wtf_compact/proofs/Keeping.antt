-- What was planned keeps the region, over stores that tell it.
use Rattle.std.proofs.Common.{◌≡◌, ℕ, true, false, List, [], ◌∷◌, ◌++◌, get_or, Option, None, Some, refl, sym, subst}
use Rattle.std.specs.List.{All}
use Rattle.std.proofs.lemmas.List.Elements.{All-head, All-tail}
use Rattle.wtf_base.specs.declared.settings.Settings.{Settings}
use Rattle.wtf_base.specs.declared.slice.Slice.{Slice}
use Rattle.wtf_base.specs.Places.{places_of}
use Rattle.wtf_dev.specs.Store.{Range, StoreKind, KindLaws}
use Rattle.wtf_values.specs.declared.region.RegionValue.{RegionValue}
use Rattle.wtf_replica.proofs.Bytes.{byte_at-kept}
use Rattle.wtf_meta.specs.Lists.{ListFact, TellLists, region_facts}
use Rattle.wtf_meta.specs.Contents.{Told, is_told, is_listed, lists_in}
use Rattle.wtf_meta.specs.Bytes.{EntryBytes, MaybeBytes, ListSlices, any_slice}
use Rattle.wtf_meta.proofs.ListFacts.{TellLists-append}
use Rattle.wtf_meta.proofs.ListTests.{list_has-true}
use Rattle.wtf_meta.proofs.Named.{region_slices}
use Rattle.wtf_meta.proofs.Putting.{SameRegion-places}
use Rattle.wtf_meta.proofs.Telling.{TellsOn, told_from, is_told-later, is_listed-later, lists_in-from, told_lists}
use Rattle.wtf_meta.proofs.Weaker.{maybe_stays, slices_stay}
use Rattle.wtf_region.specs.declared.dev.Dev.{Dev}
use Rattle.wtf_region.specs.Apart.{are_apart}
use Rattle.wtf_region.specs.Devs.{GoesOn, told_in}
use Rattle.wtf_compact.specs.declared.target.Target.{Target}
use Rattle.wtf_compact.specs.Planned.{IsPlanned, TellsRegion, KeepsRegion}

-- slices that decode to lists each byte of which is told pass the test of that, and are told themselves
listed : (b : ℕ) (told : Told) (fs : List ListFact) → TellLists (lists_in b told) fs → All (λ (f : ListFact). All (EntryBytes (is_told told)) f.list) fs
    → ListSlices (is_told told) (is_listed b told) fs
listed b told [] tell h = tt
listed b told (f ∷ fs) tell h =
    let Whole : ListFact → Type 0 = λ f. All (EntryBytes (is_told told)) f.list in
    let was = lists_in-from b told f.slice f.list tell.0 in (
      (
        λ i below. told_from told (places_of f.slice i) (get_or was.0 i 0) (was.1.tells i below),
        list_has-true (is_told told) (lists_in b told f.slice) f.list tell.0 (All-head Whole f fs h),
      ),
      listed b told fs tell.1 (All-tail Whole f fs h),
    )

module _ {S : Type 0} {kind : StoreKind S} (laws : KindLaws kind) {old new : Dev S} (goes : GoesOn kind old new []) (t : Target)
    (ranges : List (ℕ × Range)) where
  abbrev now : Told
  now = told_in kind new

  abbrev b : ℕ
  b = new.settings.region

  on : TellsOn (told_in kind old) now
  on = λ p byte h. byte_at-kept laws goes.each p byte tt h

  still_listed : (s : Slice) → is_listed old.settings.region (told_in kind old) s ≡ true → is_listed b now s ≡ true
  still_listed s h = subst (λ (st : Settings). is_listed st.region now s ≡ true) (sym goes.settings)
      (is_listed-later (told_in kind old) now old.settings.region s on h)

  pub keeps_region : (was value : Option RegionValue) → IsPlanned kind old new t was value → TellsRegion kind old ranges was → KeepsRegion b now was value
  keeps_region None None p tells = tt
  keeps_region None (Some x) p tells = let both : true ≡ false = p.there in absurd (cc)
  keeps_region (Some v) None p tells = let both : false ≡ true = p.there in absurd (cc)
  keeps_region (Some v) (Some x) p tells =
      let told = told_in kind old in
      let facts : List ListFact = region_facts (Some v) p.under in
      let slices = slices_stay (is_told told) (is_told told) (λ qs is. is) (is_listed old.settings.region told) any_slice (λ s is. refl) facts
      (region_slices (is_told told) (is_listed old.settings.region told) (Some v) p.under tells.region) in
      let away = region_slices (are_apart ranges) any_slice (Some v) p.under tells.away in
      let read = p.told ranges tells.cache slices away in
      let own = p.told_own tells.all in
      let region : MaybeBytes (is_told now) (is_listed b now) (Some v) =
      maybe_stays (is_told told) (is_told now) (λ qs is. is_told-later told now qs on is) (is_listed old.settings.region told) (is_listed b now) still_listed
      (Some v) tells.region in
      let known = told_lists b now facts read in
      let lists = p.names.lists (is_told now) (is_listed b now) region known in
      record {
        same = SameRegion-places now b (facts ++ p.stored) (Some v) (Some x) p.same (TellLists-append (lists_in b now) facts p.stored read own);
        named = p.names.is_in (is_told now) (is_listed b now) region known (listed b now p.stored own lists);
      }
