-- Laws of the versions that numbers see.
use Rattle.std.proofs.Common.{◌≡◌, ℕ, ◌≤◌, true, cond, None, Some, is_some, nat_lt, ap, ◌∙◌, arith, ⊎_elim, inl, refl}
use Rattle.std.specs.declared.cmp.Ordering.{Ordering}
use Rattle.std.proofs.lemmas.Bool.{or_right, lt-ltb}
use Rattle.wtf_kv.specs.Seen.{value_seen, number_seen, reported, any_below}
use Rattle.wtf_kv.specs.Stores.{Store, versions_of, map_at, version_of, is_pinned}
use Rattle.wtf_kv.proofs.Prune.{has, seen_either}
use Rattle.wtf_kv.proofs.Sees.{reported_seen-le}

module _ {K C : Type 0} (order : K → K → Ordering) where
  -- what a number sees is at most that number
  pub version-le : (s : Store K C) (n : ℕ) (key : K) → version_of order s n key ≤ n
  version-le s n key = reported_seen-le s.pins n (versions_of order s key)

  -- a key without a version above b, where b is pinned, has at n the value that it has at b
  pub unmoved : (s : Store K C) (b n : ℕ) (key : K) → is_pinned s b ≡ true → b ≤ n → version_of order s n key ≤ b → map_at order s b key ≡ map_at order s n key
  unmoved s b n key pinned le old =
      let vs = versions_of order s key in
      ⊎_elim
      (λ e. ap value_seen e)
      (λ (v, is, lt).
      let counts = or_right (is_some v.1) (any_below s.pins v.0) (has (λ p. nat_lt p v.0) b s.pins pinned (lt-ltb b v.0 lt)) in
      let number : version_of order s n key ≡ v.0 = ap (λ o. number_seen (reported s.pins o)) is ∙ ap (λ t. number_seen (cond t (Some v) None)) counts in
      absurd (omega arith))
      (seen_either b n vs None None le (inl refl))
