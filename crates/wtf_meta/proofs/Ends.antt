-- Where pieces end: one piece more, and the piece that holds a byte.
use Rattle.std.proofs.Common.{◌≡◌, ℕ, zero, suc, ◌+◌, ◌-◌, ◌^◌, ◌<◌, ◌≤◌, ◌++◌, nat_le, true, false, List, [], ◌∷◌, length, get_or, take, ap, sym, ◌∙◌, arith}
use Rattle.std.proofs.Common.{inl, inr}
use Rattle.std.specs.List.Sorted.{IsNonDecreasingBy, IsPartitionPoint}
use Rattle.std.proofs.lemmas.Bool.{cases_lt, leb-true, leb-false}
use Rattle.std.proofs.lemmas.List.{get_or_append_left, get_or-append-add}
use Rattle.wtf_overlay.specs.declared.part.Piece.{Piece}
use Rattle.wtf_overlay.specs.Origin.{pieces_len}
use Rattle.wtf_meta.specs.Slices.{bytes_in, AreEnds, EndsBefore}

-- the ends of the first n pieces
abbrev pub AreEndsTo : List Piece → List ℕ → ℕ → Type 0
AreEndsTo ps ends n = (k d : ℕ) → k < n → get_or ends k d ≡ bytes_in (take (k + 1) ps)

-- one more is known
pub ends_more : (ps : List Piece) (ends : List ℕ) (n e : ℕ) → length ends ≡ n → e ≡ bytes_in (take (n + 1) ps) → AreEndsTo ps ends n
    → AreEndsTo ps (ends ++ e ∷ []) (n + 1)
ends_more ps ends n e count is before k d below = elim (cases_lt k n) [
  | inl l ↦ get_or_append_left ends (e ∷ []) d k (omega (arith, l, count)) ∙ before k d l
  | inr past ↦
      let last : k ≡ n = omega (arith, past, below) in
      ap (λ j. get_or (ends ++ e ∷ []) j d) (let at : k ≡ length ends + 0 = omega (arith, last, count) in at)
      ∙ get_or-append-add ends (e ∷ []) 0 d ∙ is ∙ ap (λ j. bytes_in (take (j + 1) ps)) (sym last)
]

-- more pieces have no fewer bytes
len_rises : (ps : List Piece) (i j : ℕ) → i ≤ j → pieces_len (take i ps) ≤ pieces_len (take j ps)
len_rises ps zero j h = omega arith
len_rises ps (suc i) zero h = absurd (omega (arith, h))
len_rises [] (suc i) (suc j) h = omega arith
len_rises (p ∷ ps) (suc i) (suc j) h = omega (arith, len_rises ps i j (omega (arith, h)))

pub ends_rise : (ps : List Piece) (ends : List ℕ) → AreEnds ps ends → IsNonDecreasingBy (λ (n : ℕ). n) ends
ends_rise ps ends are i j d le lt =
    omega (
      arith,
      are.each i d (omega (arith, le, lt, are.count)),
      are.each j d (omega (arith, lt, are.count)),
      len_rises ps (i + 1) (j + 1) (omega (arith, le)),
    )

-- the next piece ends past a byte at which the ends part
past : (ps : List Piece) (ends : List ℕ) (off k : ℕ) → AreEnds ps ends → IsPartitionPoint (λ e. nat_le e off ≡ true) (λ e. nat_le e off ≡ false) ends k
    → k < length ps → off < pieces_len (take (k + 1) ps)
past ps ends off k are point some = omega (
  arith,
  leb-false (get_or ends k 0) off (point.1 k 0 (omega arith) (omega (arith, some, are.count))),
  are.each k 0 some,
)

-- the pieces that end at or before a byte, by the ends
pub ends_before : (ps : List Piece) (ends : List ℕ) (off k start : ℕ) → AreEnds ps ends → off < 2 ^ 64 - 1 → k ≤ length ends
    → IsPartitionPoint (λ e. nat_le e off ≡ true) (λ e. nat_le e off ≡ false) ends k
    → start ≡ bytes_in (take k ps) → EndsBefore ps off k start
ends_before ps ends off zero start are few within point is =
    record { within = omega arith; is = omega (arith, is); passed = omega (arith, is); next = past ps ends off zero are point }
ends_before ps ends off (suc k) start are few within point is =
    let upto = leb-true (get_or ends k 0) off (point.0 k 0 (omega arith) (omega arith)) in
    let last = are.each k 0 (omega (arith, within, are.count)) in
    let same : take (suc k) ps ≡ take (k + 1) ps = ap (λ j. take j ps) (let e : suc k ≡ k + 1 = omega arith in e) in
    let end : start ≡ bytes_in (take (k + 1) ps) = is ∙ ap bytes_in same in
    record {
      within = omega (arith, within, are.count);
      is = ap pieces_len same ∙ omega (arith, end, upto, last, few);
      passed = omega (arith, end, upto, last);
      next = past ps ends off (suc k) are point;
    }
