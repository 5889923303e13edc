-- Lists that are read one after another.
use Rattle.std.proofs.Common.{◌≡◌, Bool, true, ◌||◌, List, [], ◌∷◌, ◌++◌, map, take, drop, get_or, length, ℕ, ◌+◌, ◌<◌, refl, sym, ap, ◌∙◌, subst, ⊎_elim}
use Rattle.std.specs.List.{All, Contains}
use Rattle.std.proofs.lemmas.Bool.{cases_Bool, or_right}
use Rattle.std.proofs.lemmas.List.Elements.{All-nil, All-cons, All-append, All-weaker, All-contains, Contains-push, Contains-append_left, Contains-append_right}
use Rattle.std.proofs.lemmas.List.{map-append, take_more, take-append-drop}
use Rattle.std.proofs.lemmas.List.Folds.{list_any-append}
use Rattle.wtf_base.specs.declared.slice.Slice.{Slice}
use Rattle.wtf_base.specs.Places.{Place}
use Rattle.wtf_dev.specs.Store.{StoreKind, KindLaws}
use Rattle.wtf_overlay.specs.declared.part.Entry.{Entry}
use Rattle.wtf_meta.specs.Lists.{Lists, ListFact}
use Rattle.wtf_meta.specs.Contents.{is_told, lists_in}
use Rattle.wtf_meta.specs.Bytes.{SliceBytes, EntryBytes, ListSlices, any_slice}
use Rattle.wtf_region.specs.declared.dev.Dev.{Dev}
use Rattle.wtf_meta.proofs.ListFacts.{TellLists-append, ListSlices-parts}
use Rattle.wtf_region.specs.Apart.{are_apart}
use Rattle.wtf_region.specs.Cached.{list_fact}
use Rattle.wtf_region.specs.Devs.{GoesOn, inside_of, told_in}
use Rattle.wtf_region.specs.Reads.{IsSliceRead}
use Rattle.wtf_region.proofs.Recalls.{recalls_same, recalls_on}
use Rattle.wtf_region.proofs.ListReads.{entries_later, places_later, facts_on}
use Rattle.wtf_gc.specs.declared.extent.Extent.{Extent}
use Rattle.wtf_gc.specs.Extents.{extents_cover}
use Rattle.wtf_gc.specs.Named.{list_has, facts_have}
use Rattle.wtf_gc.specs.Reading.{ListsRead}
use Rattle.wtf_gc.proofs.Adding.{or_none, or_thrice}
use Rattle.wtf_gc.proofs.Found.{none_of, first_or, mapped, any_of, tell_one}

slices_both : (P : List Place → Bool) (fs gs : List ListFact) → ListSlices P any_slice fs → ListSlices P any_slice gs → ListSlices P any_slice (fs ++ gs)
slices_both P [] gs a b = b
slices_both P (f ∷ fs) gs a b = (a.0, slices_both P fs gs a.1 b)

slices_moved : (P Q : List Place → Bool) → ((qs : List Place) → P qs ≡ true → Q qs ≡ true) → (fs : List ListFact) → ListSlices P any_slice fs
    → ListSlices Q any_slice fs
slices_moved P Q f [] a = tt
slices_moved P Q f (g ∷ gs) a = ((λ i lt. f _ (a.0.0 i lt), a.0.1), slices_moved P Q f gs a.1)

slice_of : (P : List Place → Bool) (fs : List ListFact) (f : ListFact) → ListSlices P any_slice fs → Contains fs f → SliceBytes P f.slice
slice_of P [] f lie there = absurd (none_of f there)
slice_of P (g ∷ gs) f lie there = ⊎_elim
    (λ (same : g ≡ f). subst (λ (x : ListFact). SliceBytes P x.slice) same lie.0.0)
    (λ rest. slice_of P gs f lie.1 rest)
    (first_or g f gs there)

-- what a fact has that stands there adds nothing
has_again : (fs : List ListFact) (f : ListFact) (p : Place) → Contains fs f → facts_have (fs ++ f ∷ []) p ≡ facts_have fs p
has_again fs f p there =
    let has : ListFact → Bool = λ (g : ListFact). list_has g.list p in
    list_any-append has fs (f ∷ []) ∙ ap (λ b. facts_have fs p || b) (or_none (has f)) ∙ ⊎_elim
    (λ t. ap (λ b. facts_have fs p || b) t ∙ or_right (facts_have fs p) true refl ∙ sym (any_of has fs f there t))
    (λ e. ap (λ b. facts_have fs p || b) e ∙ or_none (facts_have fs p))
    (cases_Bool (has f))

module _ {S : Type 0} {kind : StoreKind S} (laws : KindLaws kind) where
  -- none is read
  pub read_none : (dev : Dev S) (found : List Extent) → ListsRead kind dev dev [] found found
  read_none dev found = record {
    facts = [];
    asked = [];
    recalls = recalls_same kind dev dev refl;
    among = All-nil (λ (f : ListFact). Contains [] f.slice);
    each = refl;
    adds = λ p. sym (or_none (extents_cover found p));
    lie = tt;
    inside = All-nil (λ (f : ListFact). All (EntryBytes (inside_of kind dev)) f.list);
    told = λ ranges was told apart. tt;
  }

  -- one is
  pub read_one : (old new : Dev S) (s : Slice) (es : List Entry) (found found' : List Extent) → IsSliceRead kind old new s es
      → SliceBytes (inside_of kind new) s
      → ((p : Place) → extents_cover found' p ≡ (extents_cover found p || list_has es p)) → ListsRead kind old new (s ∷ []) found found'
  read_one old new s es found found' read inside adds = record {
    facts = record { slice = s; list = es } ∷ [];
    asked = list_fact s es ∷ [];
    recalls = read.recalls;
    among = All-cons (λ (f : ListFact). Contains (s ∷ []) f.slice) (list_fact s es) [] (Contains-push [] s)
        (All-nil (λ (f : ListFact). Contains (s ∷ []) f.slice));
    each = refl;
    adds = λ p. adds p ∙ ap (λ b. extents_cover found p || b) (sym (or_none (list_has es p)));
    lie = ((inside, refl), tt);
    inside = All-cons (λ (f : ListFact). All (EntryBytes (inside_of kind new)) f.list) (record { slice = s; list = es }) [] read.inside
        (All-nil (λ (f : ListFact). All (EntryBytes (inside_of kind new)) f.list));
    told = λ ranges was told apart. (read.told ranges was told.0.0 apart.0.0, tt);
  }

  -- one after others
  pub read_on : {old mid new : Dev S} → GoesOn kind old mid [] → GoesOn kind mid new []
      → (slices more : List Slice) (before between after : List Extent)
      → ListsRead kind old mid slices before between → ListsRead kind mid new more between after → ListsRead kind old new (slices ++ more) before after
  read_on {old = old} {mid = mid} {new = new} g h slices more before between after first next = record {
    facts = first.facts ++ next.facts;
    asked = first.asked ++ next.asked;
    recalls = recalls_on laws g h first.asked next.asked first.recalls next.recalls;
    among = All-append (λ (f : ListFact). Contains (slices ++ more) f.slice) first.asked next.asked
        (All-weaker (λ (f : ListFact). Contains slices f.slice) (λ (f : ListFact). Contains (slices ++ more) f.slice)
        (λ f h. Contains-append_left slices more f.slice h) first.asked first.among)
        (All-weaker (λ (f : ListFact). Contains more f.slice) (λ (f : ListFact). Contains (slices ++ more) f.slice)
        (λ f h. Contains-append_right slices more f.slice h) next.asked next.among);
    each = map-append (λ (f : ListFact). f.slice) first.facts next.facts ∙ ap (λ l. l ++ map (λ (f : ListFact). f.slice) next.facts) first.each
        ∙ ap (λ l. slices ++ l) next.each;
    adds = λ p. next.adds p ∙ ap (λ b. b || facts_have next.facts p) (first.adds p)
        ∙ or_thrice (extents_cover before p) (facts_have first.facts p) (facts_have next.facts p)
        ∙ ap (λ b. extents_cover before p || b) (sym (list_any-append (λ (f : ListFact). list_has f.list p) first.facts next.facts));
    lie = slices_both (inside_of kind new) first.facts next.facts
        (slices_moved (inside_of kind mid) (inside_of kind new) (places_later laws g.sound h) first.facts first.lie) next.lie;
    inside = All-append (λ (f : ListFact). All (EntryBytes (inside_of kind new)) f.list) first.facts next.facts
        (All-weaker (λ (f : ListFact). All (EntryBytes (inside_of kind mid)) f.list) (λ (f : ListFact). All (EntryBytes (inside_of kind new)) f.list)
        (λ f is. entries_later laws g.sound h f.list is) first.facts first.inside)
        next.inside;
    told = facts_on laws g h first.facts next.facts first.told next.told;
  }

-- one that was read already
pub read_again : {S : Type 0} (kind : StoreKind S) (old new : Dev S) (slices : List Slice) (s : Slice) (before after : List Extent) → Contains slices s
    → ListsRead kind old new slices before after → ListsRead kind old new (slices ++ s ∷ []) before after
read_again kind old new slices s before after there read =
    let (f, is_fact, same) = mapped (λ (f : ListFact). f.slice) read.facts s (subst (λ (l : List Slice). Contains l s) (sym read.each) there) in
    let Inside : ListFact → Type 0 = λ (g : ListFact). All (EntryBytes (inside_of kind new)) g.list in
    record {
      facts = read.facts ++ f ∷ [];
      asked = read.asked;
      recalls = read.recalls;
      among = All-weaker (λ (g : ListFact). Contains slices g.slice) (λ (g : ListFact). Contains (slices ++ s ∷ []) g.slice)
          (λ g h. Contains-append_left slices (s ∷ []) g.slice h) read.asked read.among;
      each = map-append (λ (g : ListFact). g.slice) read.facts (f ∷ []) ∙ ap (λ l. l ++ f.slice ∷ []) read.each ∙ ap (λ x. slices ++ x ∷ []) same;
      adds = λ p. read.adds p ∙ ap (λ b. extents_cover before p || b) (sym (has_again read.facts f p is_fact));
      lie = slices_both (inside_of kind new) read.facts (f ∷ []) read.lie ((slice_of (inside_of kind new) read.facts f read.lie is_fact, refl), tt);
      inside = All-append Inside read.facts (f ∷ []) read.inside (All-cons Inside f [] (All-contains Inside read.facts f read.inside is_fact) (All-nil Inside));
      told = λ ranges was told apart.
          let tell = read.told ranges was (ListSlices-parts (is_told (told_in kind old)) any_slice read.facts (f ∷ []) told).0
          (ListSlices-parts (are_apart ranges) any_slice read.facts (f ∷ []) apart).0 in
          let lists : Lists = lists_in new.settings.region (told_in kind new) in
          TellLists-append lists read.facts (f ∷ []) tell (tell_one lists read.facts f tell is_fact, tt);
    }

-- the first of some elements are among all
pub mapped_first : {X Y : Type 0} (f : X → Y) (xs : List X) (i : ℕ) (y : Y) → Contains (map f (take i xs)) y → Contains (map f xs) y
mapped_first f xs i y h =
    subst (λ l. Contains l y) (sym (map-append f (take i xs) (drop i xs)) ∙ ap (map f) (take-append-drop i xs))
    (Contains-append_left (map f (take i xs)) (map f (drop i xs)) y h)

-- the last of some slices is one of them
pub last_there : (slices : List Slice) (s : Slice) → Contains (slices ++ s ∷ []) s
last_there slices s = Contains-push slices s

pub map_more : {X Y : Type 0} (f : X → Y) (xs : List X) (i : ℕ) (d : X) → i < length xs → map f (take i xs) ++ f (get_or xs i d) ∷ [] ≡ map f (take (i + 1) xs)
map_more f xs i d below = sym (ap (map f) (take_more xs i d below) ∙ map-append f (take i xs) (get_or xs i d ∷ []))
