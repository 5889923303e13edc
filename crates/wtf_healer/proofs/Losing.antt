-- Masks of servers.
use Rattle.std.proofs.Common.{◌≡◌, ℕ, ◌+◌, ◌*◌, ◌%◌, ◌^◌, ◌<◌, ◌||◌, true, max, nat_eq, List, ◌∷◌, sym, ap, ◌∙◌, arith, inl, inr}
use Rattle.std.specs.Prelude.{◌==◌, bit_or}
use Rattle.std.specs.Int.{bit_at}
use Rattle.std.proofs.Math.Pow.{pow-lt}
use Rattle.std.proofs.lemmas.Bool.{cases_eq, eq-eqb, ne_eqb}
use Rattle.std.proofs.lemmas.List.Elements.{All-cons, All-head, All-tail}
use Rattle.std.proofs.lemmas.Nat.Bits.{bit_at_or, bit_at-lt, bit_at-pow_same, bit_at-pow_other}
use Rattle.wtf_image.specs.Rules.{is_lost}
use Rattle.wtf_healer.specs.Spared.{IsLostOf}
use Rattle.wtf_healer.specs.declared.lost.Lost.{Lost}

pow_small : (k : ℕ) → k < 16 → 2 ^ k < 65536
pow_small k below = let h : 2 ^ k < 2 ^ 16 = pow-lt below in omega (arith, h)

-- the bit of server k
one_bit : (k : ℕ) → k < 16 → 1 * 2 ^ k % 65536 ≡ 2 ^ k
one_bit k below = let h = pow_small k below in omega (arith, h)

with_same : (m k : ℕ) → bit_at (bit_or m (2 ^ k)) k == 1 ≡ true
with_same m k =
    let a = bit_at-lt m k in
    eq-eqb _ 1 (bit_at_or m (2 ^ k) k ∙ ap (λ n. max (bit_at m k) n) (bit_at-pow_same k) ∙ omega (arith, a))

with_other : (m k j : ℕ) → (j ≡ k → ⊥) → (bit_at (bit_or m (2 ^ k)) j == 1) ≡ (bit_at m j == 1)
with_other m k j ne =
    ap (λ n. n == 1) (bit_at_or m (2 ^ k) j ∙ ap (λ n. max (bit_at m j) n) (bit_at-pow_other k j ne) ∙ omega arith)

-- with the bit of one server more
pub is_lost-with : (m k j : ℕ) → k < 16 → is_lost (bit_or m (1 * 2 ^ k % 65536)) j ≡ (nat_eq j k || is_lost m j)
is_lost-with m k j below = ap (λ n. is_lost (bit_or m n) j) (one_bit k below) ∙ elim (cases_eq j k) [
  | inl same ↦ ap (λ i. is_lost (bit_or m (2 ^ k)) i) same ∙ with_same m k ∙ sym (ap (λ b. b || is_lost m j) (eq-eqb j k same))
  | inr ne ↦ with_other m k j ne ∙ sym (ap (λ b. b || is_lost m j) (ne_eqb j k ne))
]

-- one server more
pub lost_and : (ks : List ℕ) (lost more : Lost) (k : ℕ) → k < 16 → more.mask ≡ bit_or lost.mask (1 * 2 ^ k % 65536) → more.above ≡ max lost.above (k + 1)
    → IsLostOf ks lost → IsLostOf (k ∷ ks) more
lost_and ks lost more k below mask above h = record {
  has = λ j. ap (λ m. is_lost m j) mask ∙ is_lost-with lost.mask k j below ∙ ap (λ b. nat_eq j k || b) (h.has j);
  above = λ n le. All-cons (λ j. j < n) k ks (omega (arith, le, above)) (h.above n (omega (arith, le, above)));
  least = λ n all.
      let first : k < n = All-head (λ j. j < n) k ks all in
      let rest = h.least n (All-tail (λ j. j < n) k ks all) in
      omega (arith, first, rest, above);
}
