-- Seeds of a store, one after another.
use Rattle.std.proofs.Common.{◌≡◌, ℕ, zero, suc, ◌+◌, ◌<◌, Bool, true, false, cond, ◌&&◌, List, [], ◌∷◌, ◌++◌, length, take, map, get_or, Option, None, Some}
use Rattle.std.proofs.Common.{refl, sym, ap, subst, ◌∙◌, arith, ⊎_elim}
use Rattle.std.specs.Prelude.{Result, Ok, Err, OnOk}
use Rattle.std.specs.List.{flat_map}
use Rattle.std.specs.Option.{option_or}
use Rattle.std.specs.BTreeMap.{is_at}
use Rattle.std.specs.declared.cmp.Ordering.{Ordering}
use Rattle.std.specs.FinMap.Entries.{find}
use Rattle.std.specs.Ordering.{eq_by_cmp}
use Rattle.std.proofs.lemmas.Bool.{cases_Bool, both_ways}
use Rattle.std.proofs.lemmas.List.{take_more, get_or-map, length-map}
use Rattle.std.proofs.lemmas.List.Concat.{flat_map-cons}
use Rattle.std.proofs.lemmas.Grind.{flat_map-append}
use Rattle.std.proofs.lemmas.List.{append-nil}
use Rattle.wtf_kv.specs.Stores.{Store, versions_of}
use Rattle.wtf_values.specs.Keys.{key_cmp}
use Rattle.wtf_values.specs.declared.key.Key.{Key}
use Rattle.wtf_values.specs.declared.value.Value.{Value}
use Rattle.wtf_values.proofs.KeyLaws.{at_itself, at_same, at_none}
use Rattle.wtf_imagefmt.specs.Shapes.{ascends, ascends_from}
use Rattle.wtf_imagefmt.specs.Lookups.{Plain, plain}
use Rattle.wtf_image.specs.Seeds.{Seed, IsOnly, Adds}

abbrev S : Type 0
S = Store Key Value

-- what entries and then others have at a key
pub find-both : {K X : Type 0} (R : K → K → Ordering) (q : K) (es fs : List (K × X)) → find R q (es ++ fs) ≡ option_or (find R q es) (find R q fs)
find-both R q [] fs = refl
find-both {K} {X} R q (e ∷ es) fs =
    elim (eq_by_cmp R q e.0) as (λ b. cond b (Some e.1) (find R q (es ++ fs)) ≡ option_or (cond b (Some e.1) (find R q es)) (find R q fs))
    [ true ↦ refl | false ↦ find-both R q es fs ]

-- a key that ties with another is that key
tied : (q k : Key) (v : Plain) (s : Plain) → cond (is_at (key_cmp q) k) (Some v) None ≡ Some s → (q ≡ k) × (v ≡ s)
tied q k v s h = ⊎_elim
    (λ tie. let is : Some v ≡ Some s = sym (ap (λ b. cond b (Some v) None) tie) ∙ h in (at_same q k tie, cc))
    (λ off. let is : None ≡ Some s = sym (ap (λ b. cond b (Some v) None) off) ∙ h in absurd (cc))
    (cases_Bool (is_at (key_cmp q) k))

untied : (q k : Key) (v : Plain) → cond (is_at (key_cmp q) k) (Some v) None ≡ None → is_at (key_cmp k) q ≡ false
untied q k v h = ⊎_elim
    (λ tie. let is : Some v ≡ None = sym (ap (λ b. cond b (Some v) None) tie) ∙ h in absurd (cc))
    (λ off. at_none k q (λ same. both_ways _ off (subst (λ x. is_at (key_cmp q) x ≡ true) (sym same) (at_itself q))))
    (cases_Bool (is_at (key_cmp q) k))

-- what follows of an outcome that is no error
pub on_ok : {A E P Q : Type 0} (r : Result A E) → (P → Q) → OnOk r P → OnOk r Q
on_ok (Ok a) f h = f h
on_ok (Err e) f h = h

-- one key with its first value
pub adds_one : (old new : S) (k : Key) (v : Value) → new.number ≡ old.number → new.pins ≡ []
    → ((q : Key) → versions_of key_cmp new q ≡ cond (is_at (key_cmp k) q) ((old.number, Some v) ∷ []) (versions_of key_cmp old q))
    → Adds old new ((k, plain v) ∷ [])
adds_one old new k v number pins is = record {
  number = number;
  pins = pins;
  seeded = λ q s found.
      let t = tied q k (plain v) s found in
      record {
        value = v;
        version = is q ∙ ap (λ b. cond b ((old.number, Some v) ∷ []) (versions_of key_cmp old q))
            (subst (λ x. is_at (key_cmp k) x ≡ true) (sym t.0) (at_itself k));
        is = t.1;
      };
  others = λ q missing. is q ∙ ap (λ b. cond b ((old.number, Some v) ∷ []) (versions_of key_cmp old q)) (untied q k (plain v) missing);
}

-- no key
pub adds_none : (kv : S) → kv.pins ≡ [] → Adds kv kv []
adds_none kv pins = record { number = refl; pins = pins; seeded = λ q s found. absurd (cc); others = λ q missing. refl }

none_both : {X : Type 0} (a b : Option X) → option_or a b ≡ None → (a ≡ None) × (b ≡ None)
none_both None b h = (refl, h)
none_both (Some x) b h = absurd (cc)

not_both : {X : Type 0} (a b : Option X) (y : X) → a ≡ Some y → ((z : X) → b ≡ Some z → a ≡ None) → b ≡ None
not_both a None y e apart = refl
not_both a (Some z) y e apart = let none : a ≡ None = apart z refl in absurd (cc)

-- seeds and then others, of other keys
module _ (a b c : S) (s t : List Seed) (one : Adds a b s) (two : Adds b c t)
    (apart : (q : Key) (z : Plain) → find key_cmp q t ≡ Some z → find key_cmp q s ≡ None) where
  then_others : (q : Key) → find key_cmp q (s ++ t) ≡ None → versions_of key_cmp c q ≡ versions_of key_cmp a q
  then_others q h = let both = none_both _ _ (sym (find-both key_cmp q s t) ∙ h) in two.others q both.1 ∙ one.others q both.0

  then_seeded : (q : Key) (x : Plain) (o : Option Plain) → find key_cmp q s ≡ o → option_or o (find key_cmp q t) ≡ Some x
      → IsOnly a.number (versions_of key_cmp c q) x
  then_seeded q x (Some y) e h =
      let first = one.seeded q x (e ∙ h) in
      let same = two.others q (not_both (find key_cmp q s) (find key_cmp q t) y e (apart q)) in
      record { value = first.value; version = same ∙ first.version; is = first.is }
  then_seeded q x None e h =
      let second = two.seeded q x h in
      record { value = second.value; version = second.version ∙ ap (λ n. (n, Some second.value) ∷ []) one.number; is = second.is }

  pub adds_then : Adds a c (s ++ t)
  adds_then = record {
    number = two.number ∙ one.number;
    pins = two.pins;
    seeded = λ q x found. then_seeded q x (find key_cmp q s) refl (sym (find-both key_cmp q s t) ∙ found);
    others = then_others;
  }

-- a key that is not among the seeds has no version yet
pub still_fresh : (a b : S) (s : List Seed) (q : Key) → Adds a b s → find key_cmp q s ≡ None → versions_of key_cmp a q ≡ [] → versions_of key_cmp b q ≡ []
still_fresh a b s q adds missing fresh = adds.others q missing ∙ fresh

module _ {A : Type 0} (g : A → List Seed) where
  pub seeds_more : (xs : List A) (i : ℕ) (x : A) → i < length xs → x ≡ get_or xs i x → flat_map g (take (i + 1) xs) ≡ flat_map g (take i xs) ++ g x
  seeds_more xs i x lt is =
      ap (flat_map g) (take_more xs i x lt ∙ ap (λ (y : A). take i xs ++ y ∷ []) (sym is))
      ∙ flat_map-append g (take i xs) (x ∷ []) ∙ ap (λ m. flat_map g (take i xs) ++ m) (flat_map-cons g x [] ∙ append-nil (g x))

  -- one more thing's seeds, of other keys than those before
  pub adds_more : (a b c : S) (xs : List A) (i : ℕ) (x : A) → i < length xs → x ≡ get_or xs i x → Adds a b (flat_map g (take i xs)) → Adds b c (g x)
      → ((q : Key) (z : Plain) → find key_cmp q (g x) ≡ Some z → find key_cmp q (flat_map g (take i xs)) ≡ None) → Adds a c (flat_map g (take (i + 1) xs))
  adds_more a b c xs i x lt is so_far one apart =
      subst (λ s. Adds a c s) (sym (seeds_more xs i x lt is)) (adds_then a b c (flat_map g (take i xs)) (g x) so_far one apart)

  -- where things ascend, and those that come before another have no seed of its keys
  module _ (before : A → A → Bool) (trans : (x y z : A) → before x y ≡ true → before y z ≡ true → before x z ≡ true) (Owns : A → Key → Type 0)
      (apart : (x y : A) (q : Key) → before x y ≡ true → Owns y q → find key_cmp q (g x) ≡ None) where
    and_both : (p q : Bool) → (p && q) ≡ true → (p ≡ true) × (q ≡ true)
    and_both true q h = (refl, h)
    and_both false q h = absurd (cc)

    all_after : (x : A) (ys : List A) (j : ℕ) (y : A) → ascends_from before x ys ≡ true → j < length ys → y ≡ get_or ys j y → before x y ≡ true
    all_after x [] j y h lt is = absurd (omega arith)
    all_after x (w ∷ ys) zero y h lt is = let both = and_both _ _ h in subst (λ v. before x v ≡ true) (sym is) both.0
    all_after x (w ∷ ys) (suc j) y h lt is = let both = and_both _ _ h in trans x w y both.0 (all_after w ys j y both.1 (omega arith) is)

    tail_ascends : (x : A) (ys : List A) → ascends_from before x ys ≡ true → ascends before ys ≡ true
    tail_ascends x [] h = refl
    tail_ascends x (y ∷ ys) h = (and_both _ _ h).1

    pub not_before : (xs : List A) (i : ℕ) (x : A) (q : Key) → ascends before xs ≡ true → i < length xs → x ≡ get_or xs i x → Owns x q
        → find key_cmp q (flat_map g (take i xs)) ≡ None
    not_before [] i x q h lt is owns = absurd (omega arith)
    not_before (w ∷ ys) zero x q h lt is owns = refl
    not_before (w ∷ ys) (suc j) x q h lt is owns =
        find-both key_cmp q (g w) (flat_map g (take j ys))
        ∙ ap (λ o. option_or o (find key_cmp q (flat_map g (take j ys)))) (apart w x q (all_after w ys j x h (omega arith) is) owns)
        ∙ not_before ys j x q (tail_ascends w ys h) (omega arith) is owns

-- an element's row stands at its place
pub row_here : {A B : Type 0} (f : A → B) (xs : List A) (i : ℕ) (x : A) → i < length xs → x ≡ get_or xs i x → f x ≡ get_or (map f xs) i (f x)
row_here f xs i x lt is = ap f is ∙ sym (get_or-map f xs i x (f x) lt)

pub row_inside : {A B : Type 0} (f : A → B) (xs : List A) (i : ℕ) → i < length xs → i < length (map f xs)
row_inside f xs i lt = subst (λ n. i < n) (sym (length-map xs f)) lt
