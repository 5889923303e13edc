-- What parts find, from what was gathered and what was read.
use Rattle.std.proofs.Common.{◌≡◌, ◌⊎◌, ℕ, Bool, true, cond, ◌||◌, List, [], ◌∷◌, map, Option, None, Some, refl, sym, ap, ◌∙◌, subst, ⊎_elim, inl, inr, arith}
use Rattle.std.specs.List.{All, list_any, Contains}
use Rattle.std.specs.List.Sorted.{IsPermutation}
use Rattle.std.proofs.lemmas.Bool.{cases_Bool, or_left, or_right, or_cases}
use Rattle.std.proofs.lemmas.List.Elements.{All-weaker, All-head, All-tail, All-map, All-contains_itself, Contains-push, Contains-push_cases}
use Rattle.std.proofs.lemmas.List.Elements.{Contains-append_left, Contains-append_right, Contains-append_cases}
use Rattle.std.proofs.lemmas.List.Sorted.{All-permutation, Contains-permutation, IsPermutation-sym}
use Rattle.wtf_base.specs.declared.fault.Fault.{Fault}
use Rattle.wtf_base.specs.declared.slice.Slice.{Slice}
use Rattle.wtf_base.specs.Places.{Place}
use Rattle.wtf_dev.specs.Store.{StoreKind}
use Rattle.wtf_kv.specs.Seen.{IsAmong}
use Rattle.wtf_kv.specs.Stores.{Store, versions_of}
use Rattle.wtf_values.specs.declared.key.Key.{Key}
use Rattle.wtf_values.specs.declared.region.RegionValue.{RegionValue}
use Rattle.wtf_values.specs.declared.region.Spill.{Spill}
use Rattle.wtf_values.specs.declared.value.Value.{Value}
use Rattle.wtf_values.specs.declared.value.Value.TheVariants as value
use Rattle.wtf_values.specs.Keys.{key_cmp}
use Rattle.wtf_overlay.specs.declared.part.Entry.{Entry}
use Rattle.wtf_meta.specs.Lists.{Lists, ListFact, TellLists, or_none}
use Rattle.wtf_meta.specs.Bytes.{SliceBytes, BaseBytes, ListSlices, any_slice}
use Rattle.wtf_region.specs.declared.dev.Dev.{Dev}
use Rattle.wtf_region.specs.Reads.{IsOfBase, IsSliceFault, IsBaseFault}
use Rattle.wtf_gc.specs.declared.extent.Extent.{Extent}
use Rattle.wtf_gc.specs.declared.gather.Base.{Base}
use Rattle.wtf_gc.specs.declared.parts.Parts.{Parts}
use Rattle.wtf_gc.specs.Extents.{extents_cover, no_places}
use Rattle.wtf_gc.specs.Named.{list_has, own_has, under_has, facts_have}
use Rattle.wtf_gc.specs.Parts.{key_stands_in, key_part, bases_of, value_has, value_bases, versions_have, versions_bases, IsIn, Finds, GathersUpto}
use Rattle.wtf_gc.specs.Reading.{ListsRead, PartsRead, IsBasesFault, IsPartsFault}

-- ---- elements
head_of : {X : Type 0} (x : X) (xs : List X) → Contains (x ∷ xs) x
head_of x xs = Contains-append_left (x ∷ []) xs x (Contains-push [] x)

tail_of : {X : Type 0} (x y : X) (xs : List X) → Contains xs y → Contains (x ∷ xs) y
tail_of x y xs h = Contains-append_right (x ∷ []) xs y h

pub none_of : {X : Type 0} (y : X) → Contains [] y → ⊥
none_of y h = let lt = h.1 in absurd (omega (arith, lt))

pub first_or : {X : Type 0} (x y : X) (xs : List X) → Contains (x ∷ xs) y → (x ≡ y) ⊎ Contains xs y
first_or x y xs h = ⊎_elim
    (λ one. ⊎_elim (λ none. absurd (none_of y none)) (λ is. inl is) (Contains-push_cases [] x y one))
    (λ rest. inr rest)
    (Contains-append_cases (x ∷ []) xs y h)

pub mapped : {X Y : Type 0} (f : X → Y) (xs : List X) (y : Y) → Contains (map f xs) y → (x : X) × Contains xs x × (f x ≡ y)
mapped f [] y h = absurd (none_of y h)
mapped f (x ∷ xs) y h = ⊎_elim
    (λ is. (x, head_of x xs, is))
    (λ rest. let (z, there, is) = mapped f xs y rest in (z, tail_of x z xs there, is))
    (first_or (f x) y (map f xs) h)

to_mapped : {X Y : Type 0} (f : X → Y) (xs : List X) (x : X) → Contains xs x → Contains (map f xs) (f x)
to_mapped f [] x h = absurd (none_of x h)
to_mapped f (z ∷ xs) x h = ⊎_elim
    (λ is. subst (λ y. Contains (f z ∷ map f xs) (f y)) is (head_of (f z) (map f xs)))
    (λ rest. tail_of (f z) (f x) (map f xs) (to_mapped f xs x rest))
    (first_or z x xs h)

some_of : {X : Type 0} (t : X → Bool) (xs : List X) → list_any t xs ≡ true → (x : X) × Contains xs x × (t x ≡ true)
some_of t [] h = cc
some_of t (x ∷ xs) h = ⊎_elim
    (λ here. (x, head_of x xs, here))
    (λ later. let (z, there, is) = some_of t xs later in (z, tail_of x z xs there, is))
    (or_cases (t x) (list_any t xs) h)

pub any_of : {X : Type 0} (t : X → Bool) (xs : List X) (x : X) → Contains xs x → t x ≡ true → list_any t xs ≡ true
any_of t [] x h is = absurd (none_of x h)
any_of t (z ∷ xs) x h is = ⊎_elim
    (λ same. or_left (t z) (list_any t xs) (ap t same ∙ is))
    (λ rest. or_right (t z) (list_any t xs) (any_of t xs x rest is))
    (first_or z x xs h)

pub tell_one : (lists : Lists) (facts : List ListFact) (f : ListFact) → TellLists lists facts → Contains facts f → lists f.slice ≡ Some f.list
tell_one lists [] f tell h = absurd (none_of f h)
tell_one lists (g ∷ gs) f tell h = ⊎_elim
    (λ (same : g ≡ f). subst (λ (x : ListFact). lists x.slice ≡ Some x.list) same tell.0)
    (λ rest. tell_one lists gs f tell.1 rest)
    (first_or g f gs h)

-- ---- versions
region_in : (o : Option Value) (p : Place) → value_has o p ≡ true → (r : RegionValue) × (o ≡ Some (value.Region r)) × (own_has r p ≡ true)
region_in None p h = cc
region_in (Some (value.Node n)) p h = cc
region_in (Some (value.Names ns)) p h = cc
region_in (Some (value.Count n)) p h = cc
region_in (Some (value.Last l)) p h = cc
region_in (Some (value.Region r)) p h = (r, refl, h)

abbrev Among : RegionValue → List (ℕ × Option Value) → Type 0
Among r vs = (n : ℕ) × IsAmong (n, Some (value.Region r)) vs

named_among : (vs : List (ℕ × Option Value)) (p : Place) → versions_have vs p ≡ true → (r : RegionValue) × Among r vs × (own_has r p ≡ true)
named_among [] p h = cc
named_among (v ∷ vs) p h = ⊎_elim
    (λ here. let (r, is, names) = region_in v.1 p here in (r, (v.0, inl (ap (λ (o : Option Value). (v.0, o)) (sym is))), names))
    (λ later. let (r, among, names) = named_among vs p later in (r, (among.0, inr among.1), names))
    (or_cases (value_has v.1 p) (versions_have vs p) h)

among_named : (vs : List (ℕ × Option Value)) (r : RegionValue) (n : ℕ) (p : Place) → IsAmong (n, Some (value.Region r)) vs → own_has r p ≡ true
    → versions_have vs p ≡ true
among_named [] r n p h names = absurd h
among_named (v ∷ vs) r n p h names = ⊎_elim
    (λ (is : (n, Some (value.Region r)) ≡ v). or_left (value_has v.1 p) (versions_have vs p) (ap (λ (w : ℕ × Option Value). value_has w.1 p) (sym is) ∙ names))
    (λ rest. or_right (value_has v.1 p) (versions_have vs p) (among_named vs r n p rest names))
    h

spill_in : (part : ℕ) (r : RegionValue) (o : Option Spill) → r.base ≡ o → (b : Base) → Contains (bases_of part o) b
    → (r' : RegionValue) × (s : Spill) × (Some (value.Region r) ≡ Some (value.Region r')) × (r'.base ≡ Some s) × (b.slice ≡ s.slice)
spill_in part r None is b h = absurd (none_of b h)
spill_in part r (Some s) is b h = ⊎_elim
    (λ same. (r, s, refl, is, ap (λ (x : Base). x.slice) (sym same)))
    (λ none. absurd (none_of b none))
    (first_or (record { part = part; slice = s.slice }) b [] h)

base_in : (part : ℕ) (o : Option Value) (b : Base) → Contains (value_bases part o) b
    → (r : RegionValue) × (s : Spill) × (o ≡ Some (value.Region r)) × (r.base ≡ Some s) × (b.slice ≡ s.slice)
base_in part None b h = absurd (none_of b h)
base_in part (Some (value.Node n)) b h = absurd (none_of b h)
base_in part (Some (value.Names ns)) b h = absurd (none_of b h)
base_in part (Some (value.Count n)) b h = absurd (none_of b h)
base_in part (Some (value.Last l)) b h = absurd (none_of b h)
base_in part (Some (value.Region r)) b h = spill_in part r r.base refl b h

base_among : (part : ℕ) (vs : List (ℕ × Option Value)) (b : Base) → Contains (versions_bases part vs) b
    → (r : RegionValue) × (s : Spill) × Among r vs × (r.base ≡ Some s) × (b.slice ≡ s.slice)
base_among part [] b h = absurd (none_of b h)
base_among part (v ∷ vs) b h = ⊎_elim
    (λ here. let (r, s, is, base, same) = base_in part v.1 b here in (r, s, (v.0, inl (ap (λ (o : Option Value). (v.0, o)) (sym is))), base, same))
    (λ later. let (r, s, among, base, same) = base_among part vs b later in (r, s, (among.0, inr among.1), base, same))
    (Contains-append_cases (value_bases part v.1) (versions_bases part vs) b h)

abbrev base_at : ℕ → Spill → Base
base_at part s = record { part = part; slice = s.slice }

among_base : (part : ℕ) (vs : List (ℕ × Option Value)) (r : RegionValue) (n : ℕ) (s : Spill) → IsAmong (n, Some (value.Region r)) vs → r.base ≡ Some s
    → Contains (versions_bases part vs) (base_at part s)
among_base part [] r n s h base = absurd h
among_base part (v ∷ vs) r n s h base = ⊎_elim
    (λ (is : (n, Some (value.Region r)) ≡ v). Contains-append_left (value_bases part v.1) (versions_bases part vs) (base_at part s)
    (subst (λ (w : ℕ × Option Value). Contains (value_bases part w.1) (base_at part s)) is
    (subst (λ (o : Option Spill). Contains (bases_of part o) (base_at part s)) (sym base) (head_of (base_at part s) []))))
    (λ rest. Contains-append_right (value_bases part v.1) (versions_bases part vs) (base_at part s) (among_base part vs r n s rest base))
    h

-- what holds of the slices of facts, one by one
slices_of : (P : List Place → Bool) (Q : Slice → Bool) (fs : List ListFact)
    → All (λ s. SliceBytes P s × (Q s ≡ true)) (map (λ (f : ListFact). f.slice) fs) → ListSlices P Q fs
slices_of P Q [] all = tt
slices_of P Q (f ∷ fs) all =
    let Lies : Slice → Type 0 = λ s. SliceBytes P s × (Q s ≡ true) in
    (All-head Lies f.slice (map (λ (g : ListFact). g.slice) fs) all, slices_of P Q fs (All-tail Lies f.slice (map (λ (g : ListFact). g.slice) fs) all))

-- ---- parts
module _ (kv : Store Key Value) (parts : Parts) (found : List Extent) (bases : List Base) (g : GathersUpto kv parts None found bases) where
  -- each base that was gathered is a version's
  pub base_of : (b : Base) → Contains bases b → (r : RegionValue) × (s : Spill) × IsIn kv parts r × (r.base ≡ Some s) × (b.slice ≡ s.slice)
  base_of b h =
      let key = g.only_lists b h in
      ⊎_elim
      (λ (t : key_stands_in parts key.at ≡ true).
      let (r, s, among, base, same) =
      base_among (key_part key.at) (versions_of key_cmp kv key.at) b
      (subst (λ c. Contains (cond c (versions_bases (key_part key.at) (versions_of key_cmp kv key.at)) []) b) t key.is) in
      (r, s, record { at = key.at; stands = t; number = among.0; among = among.1 }, base, same))
      (λ f. absurd (none_of b (subst (λ c. Contains (cond c (versions_bases (key_part key.at) (versions_of key_cmp kv key.at)) []) b) f key.is)))
      (cases_Bool (key_stands_in parts key.at))

  -- and each version's base was gathered
  base_there : (r : RegionValue) (s : Spill) (there : IsIn kv parts r) → r.base ≡ Some s → Contains bases (base_at (key_part there.at) s)
  base_there r s there base = g.lists there.at (base_at (key_part there.at) s) refl
      (subst (λ c. Contains (cond c (versions_bases (key_part there.at) (versions_of key_cmp kv there.at)) []) (base_at (key_part there.at) s))
      (sym there.stands)
      (among_base (key_part there.at) (versions_of key_cmp kv there.at) r there.number s there.among base))

  module _ (sorted : List Base) (moved : IsPermutation bases sorted) (facts : List ListFact)
      (each : map (λ (f : ListFact). f.slice) facts ≡ map (λ (b : Base). b.slice) sorted) (after : List Extent)
      (adds : (p : Place) → extents_cover after p ≡ (extents_cover found p || facts_have facts p)) (lists : Lists) (tell : TellLists lists facts) where
    under_found : (p : Place) (r : RegionValue) (there : IsIn kv parts r) (o : Option Spill) → r.base ≡ o → under_has lists o p ≡ true
        → facts_have facts p ≡ true
    under_found p r there None base names = cc
    under_found p r there (Some s) base names =
        let b = base_at (key_part there.at) s in
        let here : Contains (map (λ (f : ListFact). f.slice) facts) s.slice = subst (λ l. Contains l s.slice) (sym each)
        (to_mapped (λ (x : Base). x.slice) sorted b (Contains-permutation bases sorted b moved (base_there r s there base))) in
        let (f, is_fact, same) = mapped (λ (f : ListFact). f.slice) facts s.slice here in
        let list : lists s.slice ≡ Some f.list = ap lists (sym same) ∙ tell_one lists facts f tell is_fact in
        any_of (λ (f : ListFact). list_has f.list p) facts f is_fact (ap (λ (o : Option (List Entry)). list_has (or_none o) p) (sym list) ∙ names)

    pub parts_find : Finds lists kv parts no_places (extents_cover after)
    parts_find = record {
      keeps = λ p e. cc;
      finds = λ p named. adds p ∙ ⊎_elim
          (λ own. or_left (extents_cover found p) (facts_have facts p) (g.finds named.there.at p refl named.there.stands
          (among_named (versions_of key_cmp kv named.there.at) named.region named.there.number p named.there.among own)))
          (λ under. or_right (extents_cover found p) (facts_have facts p) (under_found p named.region named.there named.region.base refl under))
          (or_cases (own_has named.region p) (under_has lists named.region.base p) named.names);
      only = λ p e. inr (⊎_elim
          (λ own. let key = g.only p own in
          let (r, among, names) = named_among (versions_of key_cmp kv key.at) p key.names in
          record {
            region = r;
            there = record { at = key.at; stands = key.stands; number = among.0; among = among.1 };
            names = or_left (own_has r p) (under_has lists r.base p) names;
          })
          (λ under. let (f, is_fact, names) = some_of (λ (f : ListFact). list_has f.list p) facts under in
          let here : Contains (map (λ (b : Base). b.slice) sorted) f.slice =
          subst (λ l. Contains l f.slice) each (to_mapped (λ (f : ListFact). f.slice) facts f is_fact) in
          let (b, is_base, same) = mapped (λ (b : Base). b.slice) sorted f.slice here in
          let (r, s, there, base, slice) = base_of b (Contains-permutation sorted bases b (IsPermutation-sym bases sorted moved) is_base) in
          let list : lists s.slice ≡ Some f.list = ap lists (sym slice ∙ same) ∙ tell_one lists facts f tell is_fact in
          record {
            region = r;
            there = there;
            names = or_right (own_has r p) (under_has lists r.base p)
                (ap (λ (o : Option Spill). under_has lists o p) base ∙ ap (λ (o : Option (List Entry)). list_has (or_none o) p) list ∙ names);
          })
          (or_cases (extents_cover found p) (facts_have facts p) (sym (adds p) ∙ e)));
    }

  -- each base that was gathered lies inside, where those of the versions do
  pub bases_inside : (P : List Place → Bool) → ((r : RegionValue) → IsIn kv parts r → BaseBytes P any_slice r.base) → (sorted : List Base)
      → IsPermutation bases sorted → All (λ (b : Base). SliceBytes P b.slice) sorted
  bases_inside P inside sorted moved = All-permutation (λ (b : Base). SliceBytes P b.slice) bases sorted moved
      (All-weaker (Contains bases) (λ (b : Base). SliceBytes P b.slice)
      (λ b h. let (r, s, there, base, same) = base_of b h in
      let own : BaseBytes P any_slice (Some s) = subst (BaseBytes P any_slice) base (inside r there) in
      subst (SliceBytes P) (sym same) own.0)
      bases (All-contains_itself bases))

  -- and passes a test where those do
  bases_lie : (P : List Place → Bool) (Q : Slice → Bool) → ((r : RegionValue) → IsIn kv parts r → BaseBytes P Q r.base) → (sorted : List Base)
      → IsPermutation bases sorted → All (λ (b : Base). SliceBytes P b.slice × (Q b.slice ≡ true)) sorted
  bases_lie P Q lie sorted moved = All-permutation (λ (b : Base). SliceBytes P b.slice × (Q b.slice ≡ true)) bases sorted moved
      (All-weaker (Contains bases) (λ (b : Base). SliceBytes P b.slice × (Q b.slice ≡ true))
      (λ b h. let (r, s, there, base, same) = base_of b h in
      let own : BaseBytes P Q (Some s) = subst (BaseBytes P Q) base (lie r there) in
      subst (λ (t : Slice). SliceBytes P t × (Q t ≡ true)) (sym same) own)
      bases (All-contains_itself bases))

  -- each is of a version of a region
  region_of : (sorted : List Base) → IsPermutation bases sorted → (f : ListFact) → Contains (map (λ (b : Base). b.slice) sorted) f.slice
      → (v : RegionValue) × IsIn kv parts v × IsOfBase v.base f.slice
  region_of sorted moved f h =
      let (b, there, is) = mapped (λ (x : Base). x.slice) sorted f.slice h in
      let (r, s, stands, base, same) = base_of b (Contains-permutation sorted bases b (IsPermutation-sym bases sorted moved) there) in
      (r, stands, subst (λ (o : Option Spill). IsOfBase o f.slice) (sym base) (sym is ∙ same))

  -- and why one was not read
  pub parts_fault : {S : Type 0} (kind : StoreKind S) (old new : Dev S) (sorted : List Base) → IsPermutation bases sorted → (why : Fault)
      → IsBasesFault kind old new sorted why → IsPartsFault kind old new kv parts why
  parts_fault kind old new sorted moved why = ⊎_elim (λ memory. inl memory)
      (λ lacks. let (r, s, there, base, same) = base_of lacks.base
      (Contains-permutation sorted bases lacks.base (IsPermutation-sym bases sorted moved) lacks.one) in
      inr (record {
        mid = lacks.mid;
        goes = lacks.goes;
        before = lacks.before;
        recalls = lacks.recalls;
        among = All-weaker (λ (f : ListFact). Contains (map (λ (b : Base). b.slice) sorted) f.slice)
            (λ (f : ListFact). (v : RegionValue) × IsIn kv parts v × IsOfBase v.base f.slice) (λ f h. region_of sorted moved f h) lacks.before lacks.among;
        region = r;
        there = there;
        cause = subst (λ (o : Option Spill). IsBaseFault kind lacks.mid new o why) (sym base)
            (subst (λ (x : Slice). IsSliceFault kind lacks.mid new x why) same lacks.cause);
        left = lacks.left;
      }))

  pub parts_read : {S : Type 0} (kind : StoreKind S) (old new : Dev S) (sorted : List Base) → IsPermutation bases sorted → (after : List Extent)
      → ListsRead kind old new (map (λ (b : Base). b.slice) sorted) found after
      → PartsRead kind old new kv parts no_places (extents_cover after)
  parts_read kind old new sorted moved after read = record {
    facts = read.facts;
    slices = λ P Q lie. slices_of P Q read.facts (subst (λ l. All (λ s. SliceBytes P s × (Q s ≡ true)) l) (sym read.each)
        (All-map (λ s. SliceBytes P s × (Q s ≡ true)) (λ (b : Base). b.slice) sorted (bases_lie P Q lie sorted moved)));
    asked = read.asked;
    recalls = read.recalls;
    among = All-weaker (λ (f : ListFact). Contains (map (λ (b : Base). b.slice) sorted) f.slice)
        (λ (f : ListFact). (v : RegionValue) × IsIn kv parts v × IsOfBase v.base f.slice) (λ f h. region_of sorted moved f h) read.asked read.among;
    finds = λ lists tell. parts_find sorted moved read.facts read.each after read.adds lists tell;
    inside = read.inside;
    told = read.told;
  }
