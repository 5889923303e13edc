-- How a piece comes to be filled, read by read.
use Rattle.std.proofs.Common.{◌≡◌, ℕ, zero, suc, ◌+◌, ◌≤◌, List, [], ◌∷◌, ◌++◌, length, take, drop, Option, Some, refl, sym, ap, ◌∙◌, arith}
use Rattle.std.proofs.lemmas.List.{length-drop, drop-drop, length-take-le, take-append-le}
use Rattle.std.proofs.Math.Seq.{take-add, take-append-add}
use Rattle.wtf_carry.specs.Streams.{Filled}

-- so far n bytes came from a source that had `rest` left and has `left` now
pub record Filling (n : ℕ) (out rest : List ℕ) (left : Option (List ℕ)) : Type 0 where
  pub short : n ≤ length rest
  pub bytes : take n out ≡ take n rest
  pub left_is : left ≡ Some (drop n rest)

-- more bytes came into the room behind the first n
pub filling-more : (n more : ℕ) (out room rest : List ℕ) (left left' : Option (List ℕ)) → n ≤ length out → Filling n out rest left
    → more ≤ length (drop n rest) → take more room ≡ take more (drop n rest) → left' ≡ Some (drop more (drop n rest))
    → Filling (n + more) (take n out ++ room) rest left'
filling-more n more out room rest left left' fits f short same from =
    let size : length (take n out) ≡ n = length-take-le n out fits in
    record {
      short = omega (arith, length-drop n rest, f.short);
      bytes = ap (λ (k : ℕ). take (k + more) (take n out ++ room)) (sym size) ∙ take-append-add (take n out) room more
          ∙ ap (λ (l : List ℕ). l ++ take more room) f.bytes ∙ ap (λ (l : List ℕ). take n rest ++ l) same ∙ sym (take-add n more rest);
      left_is = from ∙ ap Some (drop-drop more n rest);
    }

take_front : (k : ℕ) (l : List ℕ) → take k (take k l) ≡ take k l
take_front zero l = refl
take_front (suc k) [] = refl
take_front (suc k) (x ∷ l) = ap (λ (m : List ℕ). x ∷ m) (take_front k l)

-- nothing came into the room behind the first n, so the source is at its end
pub filling-end : (n size : ℕ) (out room rest : List ℕ) (left left' : Option (List ℕ)) → n ≤ length out → n ≤ size → Filling n out rest left
    → drop n rest ≡ [] → left' ≡ Some (drop n rest) → Filled n size (take n out ++ room) rest left'
filling-end n size out room rest left left' fits small f none from = record {
  count = omega (arith, f.short, length-drop n rest, ap length none);
  bytes = take-append-le n (take n out) room (omega (arith, length-take-le n out fits)) ∙ take_front n out ∙ f.bytes;
  left_is = from;
}
