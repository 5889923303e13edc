-- What the changes that put regions make of the value of a key.
use Rattle.std.proofs.Common.{◌≡◌, ℕ, zero, suc, ◌<◌, ◌⊎◌, true, false, cond, List, [], ◌∷◌, get_or, map, Option, Some, refl, sym, ap, ◌∙◌, arith, inl, inr}
use Rattle.std.proofs.Common.{true≢false}
use Rattle.std.specs.BTreeMap.{is_at}
use Rattle.std.specs.List.{All, Contains}
use Rattle.std.proofs.lemmas.Bool.{cases_Bool}
use Rattle.std.proofs.lemmas.List.Elements.{All-head, All-tail, Contains-append_cases}
use Rattle.wtf_kv.specs.Edits.{after_change, after_changes}
use Rattle.wtf_values.specs.Keys.{key_cmp}
use Rattle.wtf_values.specs.Outcomes.{outcome_of}
use Rattle.wtf_values.specs.declared.key.Key.{Key}
use Rattle.wtf_values.specs.declared.key.Key.TheVariants.{Region}
use Rattle.wtf_values.specs.declared.value.Value.{Value}
use Rattle.wtf_values.specs.declared.value.Value.TheVariants as value
use Rattle.wtf_values.proofs.KeyLaws.{at_itself, at_same}
use Rattle.wtf_region.specs.declared.cache.RegionKey.{RegionKey}
use Rattle.wtf_healer.specs.Regions.{Put, change_of}

abbrev pub keys_of : List Put → List RegionKey
keys_of ps = map (λ (p : Put). p.key) ps

-- the value of a key after the puts
abbrev pub after_puts : List Put → Key → Option Value → Option Value
after_puts ps q now = after_changes key_cmp outcome_of (map change_of ps) q now

-- one of the puts is that of the key, whatever the key had
pub record IsHit (P : Put → Type 0) (ps : List Put) (q : Key) : Type 0 where
  pub put : Put
  pub is : P put
  pub at : q ≡ Region put.key.inode put.key.region
  pub made : (now : Option Value) → after_puts ps q now ≡ Some (value.Region put.value)

-- none is, and the key has what it had
pub record IsMissed (ps : List Put) (q : Key) : Type 0 where
  pub none : (k : RegionKey) → Contains (keys_of ps) k → q ≡ Region k.inode k.region → ⊥
  pub stays : (now : Option Value) → after_puts ps q now ≡ now

only : {X : Type 0} (x y : X) (i : ℕ) → i < 1 → get_or (x ∷ []) i y ≡ y → x ≡ y
only x y zero below e = e
only x y (suc i) below e = absurd (omega (arith, below))

module _ (P : Put → Type 0) (q : Key) where
  first_hit : (p : Put) (ps : List Put) → P p → is_at (key_cmp (Region p.key.inode p.key.region)) q ≡ true → IsMissed ps q → IsHit P (p ∷ ps) q
  first_hit p ps is at miss = record {
    put = p;
    is = is;
    at = sym (at_same (Region p.key.inode p.key.region) q at);
    made = λ now. miss.stays (after_change key_cmp outcome_of (change_of p) q now) ∙ ap (λ b. cond b (Some (value.Region p.value)) now) at;
  }

  first_missed : (p : Put) (ps : List Put) → is_at (key_cmp (Region p.key.inode p.key.region)) q ≡ false → IsMissed ps q → IsMissed (p ∷ ps) q
  first_missed p ps off miss = record {
    none = λ k there at. elim (Contains-append_cases (p.key ∷ []) (keys_of ps) k there) [
      | inl first ↦
          let same : p.key ≡ k = only p.key k first.0 first.1 first.2 in
          let here : q ≡ Region p.key.inode p.key.region = at ∙ ap (λ (j : RegionKey). Region j.inode j.region) (sym same) in
          let is : is_at (key_cmp (Region p.key.inode p.key.region)) q ≡ true =
          ap (is_at (key_cmp (Region p.key.inode p.key.region))) here ∙ at_itself (Region p.key.inode p.key.region) in
          true≢false (sym is ∙ off)
      | inr later ↦ miss.none k later at
    ];
    stays = λ now. miss.stays (after_change key_cmp outcome_of (change_of p) q now) ∙ ap (λ b. cond b (Some (value.Region p.value)) now) off;
  }

  -- each put has what holds of all puts, so the one of the key does, if there is one
  pub put_at : (ps : List Put) → All P ps → IsHit P ps q ⊎ IsMissed ps q
  put_at [] all = inr (record { none = λ k there at. absurd (omega (arith, there.1)); stays = λ now. refl })
  put_at (p ∷ ps) all = elim (put_at ps (All-tail P p ps all)) [
    | inl hit ↦ inl (record {
      put = hit.put;
      is = hit.is;
      at = hit.at;
      made = λ now. hit.made (after_change key_cmp outcome_of (change_of p) q now);
    })
    | inr miss ↦ elim (cases_Bool (is_at (key_cmp (Region p.key.inode p.key.region)) q)) [
      | inl at ↦ inl (first_hit p ps (All-head P p ps all) at miss)
      | inr off ↦ inr (first_missed p ps off miss)
    ]
  ]

  -- puts of regions leave the value of a key that is no region's
  pub put_aside : (ps : List Put) → All P ps → ((k : RegionKey) → q ≡ Region k.inode k.region → ⊥) → (now : Option Value) → after_puts ps q now ≡ now
  put_aside ps all other now = elim (put_at ps all) [
    | inl hit ↦ absurd (other hit.put.key hit.at)
    | inr miss ↦ miss.stays now
  ]
