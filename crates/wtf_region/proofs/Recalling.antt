-- What the cache of lists does with a list that is asked for.
use Rattle.std.proofs.Common.{◌≡◌, ◌⊎◌, ◌+◌, ◌≤◌, Bool, true, false, List, [], ◌∷◌, ◌++◌, length, take, min, Option, Some, None, refl, sym, ap, ◌∙◌, subst}
use Rattle.std.proofs.Common.{arith, inl, inr}
use Rattle.std.specs.Prelude.{Result, Ok, Err, OnOk, OnErr}
use Rattle.std.specs.List.{Contains}
use Rattle.std.specs.Map.{lookup, lookup_entry, remove_entry}
use Rattle.std.proofs.lemmas.List.{take_all, length-take}
use Rattle.lru.specs.LruCache.{LruCache, lru_cache, promoted, put_entries}
use Rattle.lru.proofs.CallerLemmas.{Contains-take, Contains-lookup_entry, Contains-remove_entry}
use Rattle.lru.proofs.Splits.{Contains-cons}
use Rattle.wtf_base.specs.declared.slice.Slice.{Slice}
use Rattle.wtf_base.specs.contracts.slice.SlicePartialEq.TheImpl as slice_eq
use Rattle.wtf_base.specs.contracts.slice.SliceEq.TheImpl.Laws as slice_laws
use Rattle.wtf_overlay.specs.declared.part.Entry.{Entry}
use Rattle.wtf_meta.specs.Lists.{ListFact}
use Rattle.wtf_region.specs.Cached.{Remembered, RemembersOnly, cached, list_fact, recalled_one, recalled, looked_up}
use Rattle.wtf_region.proofs.SliceKeys.{same_slice, cached_entry}

-- a slice with its list
abbrev pub Kept : Type 0
Kept = Slice × List Entry

-- without an entry that is found there is one less
removed : (test : Slice → Bool) (es : Remembered) (e : Kept) → lookup_entry test es ≡ Some e → length (remove_entry test es) + 1 ≡ length es
removed test [] e h = absurd (cc)
removed test (f ∷ es) e h = (elim (test f.0) as (λ y. test f.0 ≡ y → length (remove_entry test (f ∷ es)) + 1 ≡ length (f ∷ es)) [
  | true ↦ λ t. rw t (let same : length es + 1 ≡ length (f ∷ es) = omega arith in same)
  | false ↦ λ t. rw t (let on = removed test es e (rw t at h) in omega (arith, on))
]) refl

-- and without one that is not found nothing is
unfound : (test : Slice → Bool) (es : Remembered) → lookup_entry test es ≡ None → remove_entry test es ≡ es
unfound test [] h = refl
unfound test (f ∷ es) h = (elim (test f.0) as (λ y. test f.0 ≡ y → remove_entry test (f ∷ es) ≡ f ∷ es) [
  | true ↦ λ t. let bad : Some f ≡ None = rw t at h in absurd (cc)
  | false ↦ λ t. rw t (ap (λ (l : Remembered). f ∷ l) (unfound test es (rw t at h)))
]) refl

found_value : (test : Slice → Bool) (es : Remembered) → lookup_entry test es ≡ None → lookup test es ≡ None
found_value test [] h = refl
found_value test (f ∷ es) h = (elim (test f.0) as (λ y. test f.0 ≡ y → lookup test (f ∷ es) ≡ None) [
  | true ↦ λ t. let bad : Some f ≡ None = rw t at h in absurd (cc)
  | false ↦ λ t. rw t (found_value test es (rw t at h))
]) refl

value_of : (test : Slice → Bool) (es : Remembered) (e : Kept) → lookup_entry test es ≡ Some e → lookup test es ≡ Some e.1
value_of test [] e h = cc
value_of test (f ∷ es) e h = (elim (test f.0) as (λ y. test f.0 ≡ y → lookup test (f ∷ es) ≡ Some e.1) [
  | true ↦ λ t. let h' = rw t at h in let is : f ≡ e = cc in rw t (ap (λ g. Some g.1) is)
  | false ↦ λ t. rw t (value_of test es e (rw t at h))
]) refl

-- a list of 64 that has an entry of the slice stays of 64 with another one in its stead
in_front : (s : Slice) (list : List Entry) (es : Remembered) (e : Kept) → lookup_entry (slice_eq.eq-value.it s) es ≡ Some e → length es ≤ 64
    → (s, list) ∷ remove_entry (slice_eq.eq-value.it s) es ≡ recalled_one (list_fact s list) es
in_front s list es e found few =
    let one : length (remove_entry (slice_eq.eq-value.it s) es) + 1 ≡ length es = removed (slice_eq.eq-value.it s) es e found in
    sym (take_all 64 ((s, list) ∷ remove_entry (slice_eq.eq-value.it s) es) (omega (arith, one, few)))

found_slice : (s : Slice) (es : Remembered) (e : Kept) → lookup_entry (slice_eq.eq-value.it s) es ≡ Some e → e.0 ≡ s
found_slice s es e found = sym (same_slice s e.0 (Contains-lookup_entry (slice_eq.eq-value.it s) es e found).1)

to_front : (s : Slice) (list : List Entry) (es : Remembered) → length es ≤ 64 → cached es s ≡ Some list
    → (o : Option Kept) → lookup_entry (slice_eq.eq-value.it s) es ≡ o → promoted (slice_eq.eq-value.it s) es ≡ recalled_one (list_fact s list) es
to_front s list es few is None none = let bad : None ≡ Some list = sym (found_value (slice_eq.eq-value.it s) es none) ∙ is in absurd (cc)
to_front s list es few is (Some e) found =
    let value : Some e.1 ≡ Some list = sym (value_of (slice_eq.eq-value.it s) es e found) ∙ is in
    let list_is : e.1 ≡ list = cc in
    let key_is : e.0 ≡ s = found_slice s es e found in
    let same : e ≡ (s, list) = λ i. (key_is i, list_is i) in
    rw found (ap (λ (x : Kept). x ∷ remove_entry (slice_eq.eq-value.it s) es) same ∙ in_front s list es e found few)

-- a list that is remembered is asked for
pub promoted_recalls : (s : Slice) (list : List Entry) (es : Remembered) → length es ≤ 64 → cached es s ≡ Some list
    → promoted (slice_eq.eq-value.it s) es ≡ recalled_one (list_fact s list) es
promoted_recalls s list es few is = to_front s list es few is (lookup_entry (slice_eq.eq-value.it s) es) refl

put_front : (c : LruCache Slice (List Entry)) (s : Slice) (list : List Entry) → c.cap ≡ 64 → length c.entries ≤ 64
    → (o : Option Kept) → lookup_entry (slice_eq.eq-value.it s) c.entries ≡ o
    → put_entries slice_eq.eq-value.it c s list ≡ recalled_one (list_fact s list) c.entries
put_front c s list room few None none =
    rw (none, room) (ap (λ (l : Remembered). take 64 ((s, list) ∷ l)) (sym (unfound (slice_eq.eq-value.it s) c.entries none)))
put_front c s list room few (Some e) found =
    let key_is : e.0 ≡ s = found_slice s c.entries e found in
    rw found (ap (λ (x : Slice). (x, list) ∷ remove_entry (slice_eq.eq-value.it s) c.entries) key_is ∙ in_front s list c.entries e found few)

-- and one that may not be
pub put_recalls : (c : LruCache Slice (List Entry)) (s : Slice) (list : List Entry) → c.cap ≡ 64 → length c.entries ≤ 64
    → put_entries slice_eq.eq-value.it c s list ≡ recalled_one (list_fact s list) c.entries
put_recalls c s list room few = put_front c s list room few (lookup_entry (slice_eq.eq-value.it s) c.entries) refl

-- no more than 64 are
pub recalled_few : (f : ListFact) (es : Remembered) → length (recalled_one f es) ≤ 64
recalled_few f es =
    let all : Remembered = (f.slice, f.list) ∷ remove_entry (slice_eq.eq-value.it f.slice) es in
    let is : length (take 64 all) ≡ min 64 (length all) = length-take 64 all in
    omega (arith, is)

pub kept_few : {X Y : Type 0} (r : Result X Y) (old new : LruCache Slice (List Entry)) (s : Slice) (list : List Entry)
    → OnOk r (new ≡ lru_cache (put_entries slice_eq.eq-value.it old s list) old.cap) → OnErr r (new ≡ old)
    → (old.cap ≡ 64) × (length old.entries ≤ 64) → (new.cap ≡ 64) × (length new.entries ≤ 64)
kept_few (Ok x) old new s list put same few =
    rw put (few.0, subst (λ (l : Remembered). length l ≤ 64) (sym (put_recalls old s list few.0 few.1)) (recalled_few (list_fact s list) old.entries))
kept_few (Err y) old new s list put same few = rw same few

-- the list is remembered then
pub recalled_first : (f : ListFact) (es : Remembered) → cached (recalled_one f es) f.slice ≡ Some f.list
recalled_first f es = rw (slice_laws.laws-law.refl f.slice) refl

-- and no other that was not
pub recalled_only : (f : ListFact) (es : Remembered) (e : Kept) → Contains (recalled_one f es) e → Contains es e ⊎ (e ≡ (f.slice, f.list))
recalled_only f es e there =
    let rest = remove_entry (slice_eq.eq-value.it f.slice) es in
    elim (Contains-cons (f.slice, f.list) rest e (Contains-take 64 ((f.slice, f.list) ∷ rest) e there)) [
      | inl is ↦ inr (sym is)
      | inr was ↦ inl (Contains-remove_entry (slice_eq.eq-value.it f.slice) es e was)
    ]

pub remembers_recalled : (s : Slice) (list : List Entry) (old new : Remembered) → new ≡ recalled_one (list_fact s list) old
    → RemembersOnly (λ (x : Slice). x ≡ s) old new
remembers_recalled s list old new is = λ e there. elim (recalled_only (list_fact s list) old e (subst (λ (l : Remembered). Contains l e) is there)) [
  | inl was ↦ inl was
  | inr same ↦ inr (ap (λ (p : Kept). p.0) same)
]

-- a look-up of a slice whose list is remembered, and of one whose is not
pub looked_up_some : (s : Slice) (list : List Entry) (o : Option (List Entry)) (old new : Remembered) → o ≡ Some list → new ≡ looked_up s o old
    → new ≡ recalled_one (list_fact s list) old
looked_up_some s list o old new is h = subst (λ (p : Option (List Entry)). new ≡ looked_up s p old) is h

pub looked_up_none : (s : Slice) (o : Option (List Entry)) (old new : Remembered) → o ≡ None → new ≡ looked_up s o old → new ≡ old
looked_up_none s o old new is h = subst (λ (p : Option (List Entry)). new ≡ looked_up s p old) is h

-- what a look-up came to remember was remembered
pub looked_up_only : (s : Slice) (o : Option (List Entry)) (old new : Remembered) → o ≡ cached old s → new ≡ looked_up s o old
    → (e : Kept) → Contains new e → Contains old e
looked_up_only s None old new is h e there = subst (λ (l : Remembered). Contains l e) h there
looked_up_only s (Some list) old new is h e there = elim (recalled_only (list_fact s list) old e (subst (λ (l : Remembered). Contains l e) h there)) [
  | inl was ↦ was
  | inr same ↦ subst (Contains old) (sym same) (cached_entry old s list (sym is))
]

-- lists that were asked for one after another
pub recalled_more : (fs gs : List ListFact) (es : Remembered) → recalled (fs ++ gs) es ≡ recalled gs (recalled fs es)
recalled_more [] gs es = refl
recalled_more (f ∷ fs) gs es = recalled_more fs gs (recalled_one f es)

pub recalled_on : (fs gs : List ListFact) (old mid new : Remembered) → mid ≡ recalled fs old → new ≡ recalled gs mid → new ≡ recalled (fs ++ gs) old
recalled_on fs gs old mid new first next = next ∙ ap (recalled gs) first ∙ sym (recalled_more fs gs old)
