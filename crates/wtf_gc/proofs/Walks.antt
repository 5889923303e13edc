-- A walk over the keys, and what it gathers.
use Rattle.std.proofs.Common.{◌≡◌, ℕ, ◌⊎◌, Bool, true, false, cond, ◌||◌, ◌&&◌, List, [], ◌∷◌, ◌++◌, Option, Some, refl, sym, ap, ◌∙◌, subst, ⊎_elim}
use Rattle.std.proofs.Common.{inl, inr, arith}
use Rattle.std.specs.declared.cmp.Ordering.{Ordering}
use Rattle.std.specs.declared.cmp.Ordering.TheVariants.{Less, Equal, Greater}
use Rattle.std.specs.Ordering.{is_lt, ordering_reverse}
use Rattle.std.specs.List.{Contains}
use Rattle.std.proofs.lemmas.Bool.{cases_Bool, and_parts, and_from, or_left, or_right, or_cases, both_ways}
use Rattle.std.proofs.lemmas.List.Elements.{Contains-append_left, Contains-append_right, Contains-append_cases}
use Rattle.wtf_base.specs.declared.ids.InodeId.{InodeId}
use Rattle.wtf_base.specs.Places.{Place}
use Rattle.wtf_kv.specs.Seen.{has_any}
use Rattle.wtf_kv.specs.Stores.{Store, versions_of}
use Rattle.wtf_kv.specs.Order.{is_before, is_past, has_version, IsNextKey}
use Rattle.wtf_kv.proofs.KeyLaws.{between}
use Rattle.wtf_values.specs.declared.key.Key.{Key}
use Rattle.wtf_values.specs.declared.key.Key.TheVariants as key
use Rattle.wtf_values.specs.declared.value.Value.{Value}
use Rattle.wtf_values.specs.Keys.{key_cmp, same_key}
use Rattle.wtf_values.proofs.KeyLaws.{key_total}
use Rattle.wtf_gc.specs.declared.extent.Extent.{Extent}
use Rattle.wtf_gc.specs.declared.gather.Base.{Base}
use Rattle.wtf_gc.specs.declared.parts.Parts.{Parts}
use Rattle.wtf_gc.specs.Extents.{extents_cover}
use Rattle.wtf_gc.specs.Parts.{key_stands_in, key_bases, versions_have, versions_bases, key_part, GathersUpto}

three : (o : Ordering) → (o ≡ Less) ⊎ (o ≡ Equal) ⊎ (o ≡ Greater)
three Less = inl refl
three Equal = inr (inl refl)
three Greater = inr (inr refl)

nothing : {X : Type 0} (vs : List (ℕ × Option X)) → has_any vs ≡ false → vs ≡ []
nothing [] e = refl
nothing (v ∷ vs) e = cc

-- a key without a version names nothing, and has no base
none_named : (kv : Store Key Value) (q : Key) (p : Place) → has_version key_cmp kv q ≡ false → versions_have (versions_of key_cmp kv q) p ≡ true → ⊥
none_named kv q p none h = both_ways _ (ap (λ vs. versions_have vs p) (nothing (versions_of key_cmp kv q) none)) h

empty_has_none : (b : Base) → Contains [] b → ⊥
empty_has_none b h = let lt = h.1 in absurd (omega (arith, lt))

no_bases : (kv : Store Key Value) (parts : Parts) (q : Key) → (key_stands_in parts q ≡ true → has_version key_cmp kv q ≡ false) → key_bases kv parts q ≡ []
no_bases kv parts q none = ⊎_elim
    (λ t. ap (λ c. cond c (versions_bases (key_part q) (versions_of key_cmp kv q)) []) t
    ∙ ap (versions_bases (key_part q)) (nothing (versions_of key_cmp kv q) (none t)))
    (λ f. ap (λ c. cond c (versions_bases (key_part q) (versions_of key_cmp kv q)) []) f)
    (cases_Bool (key_stands_in parts q))

-- the keys of parts stand behind those of inodes
pub parts_past : (i : InodeId) (parts : Parts) (q : Key) → key_stands_in parts q ≡ true → is_past key_cmp (Some (key.Inode i)) q ≡ true
parts_past i parts (key.Path p) stands = cc
parts_past i parts (key.Dir p) stands = cc
parts_past i parts (key.Inode j) stands = cc
parts_past i parts (key.Links j) stands = cc
parts_past i parts (key.Region j r) stands = refl

pub gathers_start : (kv : Store Key Value) (parts : Parts) (after next : Option Key)
    → ((q : Key) → key_stands_in parts q ≡ true → is_past key_cmp after q ≡ true)
    → IsNextKey key_cmp kv after next → GathersUpto kv parts next [] []
gathers_start kv parts after next past h =
    let none : (q : Key) → key_stands_in parts q ≡ true → is_before key_cmp next q ≡ true → has_version key_cmp kv q ≡ false =
    λ q stands before. between key_cmp key_total same_key kv after next q h (past q stands) before in
    record {
      finds = λ q p before stands names. absurd (none_named kv q p (none q stands before) names);
      only = λ p e. cc;
      lists = λ q b before is. absurd (empty_has_none b (subst (λ l. Contains l b) (no_bases kv parts q (λ stands. none q stands before)) is));
      only_lists = λ b is. absurd (empty_has_none b is);
    }

-- what one key adds
pub gathers_step : (kv : Store Key Value) (parts : Parts) (k : Key) (next : Option Key) (found found' : List Extent) (bases bases' : List Base)
    → GathersUpto kv parts (Some k) found bases
    → ((p : Place) → extents_cover found' p ≡ (extents_cover found p || (key_stands_in parts k && versions_have (versions_of key_cmp kv k) p)))
    → bases' ≡ bases ++ key_bases kv parts k
    → IsNextKey key_cmp kv (Some k) next → GathersUpto kv parts next found' bases'
gathers_step kv parts k next found found' bases bases' g adds is h =
    let none : (q : Key) → key_cmp q k ≡ Greater → is_before key_cmp next q ≡ true → has_version key_cmp kv q ≡ false = λ q greater before.
    between key_cmp key_total same_key kv (Some k) next q h (ap is_lt (key_total.antisymm k q ∙ ap ordering_reverse greater)) before in
    let more : Place → Bool = λ p. key_stands_in parts k && versions_have (versions_of key_cmp kv k) p in
    record {
      finds = λ q p before stands names. adds p ∙ ⊎_elim
          (λ less. or_left (extents_cover found p) (more p) (g.finds q p (ap is_lt less) stands names))
          (λ rest. ⊎_elim
          (λ same. let qk : q ≡ k = same_key q k same in
          or_right (extents_cover found p) (more p)
          (and_from (key_stands_in parts k) (versions_have (versions_of key_cmp kv k) p)
          (subst (λ (y : Key). key_stands_in parts y ≡ true) qk stands)
          (subst (λ (y : Key). versions_have (versions_of key_cmp kv y) p ≡ true) qk names)))
          (λ greater. absurd (none_named kv q p (none q greater before) names))
          rest)
          (three (key_cmp q k));
      only = λ p e. ⊎_elim (g.only p)
          (λ new. let both = and_parts (key_stands_in parts k)
          (versions_have (versions_of key_cmp kv k) p) new in record { at = k; stands = both.0; names = both.1 })
          (or_cases (extents_cover found p) (more p) (sym (adds p) ∙ e));
      lists = λ q b before has. subst (λ l. Contains l b) (sym is) (⊎_elim
          (λ less. Contains-append_left bases (key_bases kv parts k) b (g.lists q b (ap is_lt less) has))
          (λ rest. ⊎_elim
          (λ same. let qk : q ≡ k = same_key q k same in Contains-append_right bases (key_bases kv parts k) b
          (subst (λ (y : Key). Contains (key_bases kv parts y) b) qk has))
          (λ greater. absurd (empty_has_none b (subst (λ l. Contains l b) (no_bases kv parts q (λ stands. none q greater before)) has)))
          rest)
          (three (key_cmp q k)));
      only_lists = λ b has. ⊎_elim (g.only_lists b)
          (λ new. record { at = k; is = new })
          (Contains-append_cases bases (key_bases kv parts k) b (subst (λ l. Contains l b) is has));
    }
