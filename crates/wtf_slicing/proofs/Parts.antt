-- A part of a slice: where its bytes are found among the pieces.
use Rattle.std.proofs.Common.{◌≡◌, ◌≤◌, ◌+◌, ◌-◌, ℕ, List, length, drop, take, Option, None, Some, refl, sym, ap, ◌∙◌, subst, arith}
use Rattle.std.specs.Option.{option_map}
use Rattle.std.specs.Prelude.{IfSome, IsSomeAnd}
use Rattle.std.proofs.lemmas.List.{take-append-drop, take_all, length-drop}
use Rattle.wtf_overlay.specs.Origin.{Plans, pieces_len, pieces_origin}
use Rattle.wtf_overlay.specs.declared.part.Piece.{Piece}
use Rattle.wtf_overlay.proofs.Pieces.{pieces_len-append, pieces_origin_right}
use Rattle.wtf_meta.specs.Slices.{bytes_in, HoldsByte}

-- a slice of which the length is told
pub record IsThere (o : Option (List Piece)) (n : ℕ) : Type 0 where
  pub pieces : List Piece
  pub is : o ≡ Some pieces
  pub len : n ≡ bytes_in pieces

pub there : (o : Option (List Piece)) (n : ℕ) → Some n ≡ option_map bytes_in o → IsThere o n
there None n e = absurd (cc)
there (Some ps) n e = record { pieces = ps; is = refl; len = cc }

pub never_set : (o : Option (List Piece)) → None ≡ option_map bytes_in o → o ≡ None
never_set None e = refl
never_set (Some ps) e = absurd (cc)

-- what is known of a slice that is there
pub within_of : (o : Option (List Piece)) (ps : List Piece) (n : ℕ) → o ≡ Some ps → IfSome o (λ qs. n ≤ pieces_len qs) → n ≤ pieces_len ps
within_of o ps n is h = subst (λ (r : Option (List Piece)). IfSome r (λ qs. n ≤ pieces_len qs)) is h

pub within_some : (o : Option (List Piece)) (ps : List Piece) (n : ℕ) → o ≡ Some ps → n ≤ pieces_len ps → IfSome o (λ qs. n ≤ pieces_len qs)
within_some o ps n is h = subst (λ (r : Option (List Piece)). IfSome r (λ qs. n ≤ pieces_len qs)) (sym is) h

pub plans_of : (o : Option (List Piece)) (ps out : List Piece) (off n : ℕ) → o ≡ Some ps → IfSome o (λ qs. Plans out n (λ i. pieces_origin qs (off + i)))
    → Plans out n (λ i. pieces_origin ps (off + i))
plans_of o ps out off n is h = subst (λ (r : Option (List Piece)). IfSome r (λ qs. Plans out n (λ i. pieces_origin qs (off + i)))) is h

pub plans_some : (o : Option (List Piece)) (ps out : List Piece) (off n : ℕ) → o ≡ Some ps → Plans out n (λ i. pieces_origin ps (off + i)) → IfSome o
    (λ qs. Plans out n (λ i. pieces_origin qs (off + i)))
plans_some o ps out off n is h = subst (λ (r : Option (List Piece)). IfSome r (λ qs. Plans out n (λ i. pieces_origin qs (off + i)))) (sym is) h

pub byte_of : (o : Option (List Piece)) (ps : List Piece) (off k skip : ℕ) → o ≡ Some ps → IsSomeAnd o (λ qs. HoldsByte qs off k skip) → HoldsByte ps off k skip
byte_of o ps off k skip is h = subst (λ (r : Option (List Piece)). IsSomeAnd r (λ qs. HoldsByte qs off k skip)) is h

-- all pieces from one on
pub rest_of : (ps : List Piece) (k : ℕ) → take (length ps - k) (drop k ps) ≡ drop k ps
rest_of ps k = take_all (length ps - k) (drop k ps) (omega (arith, length-drop k ps))

-- the pieces from one on that holds a byte
pub rest_len : (ps : List Piece) (off k skip : ℕ) → HoldsByte ps off k skip → pieces_len ps + skip ≡ off + pieces_len (drop k ps)
rest_len ps off k skip at = omega (arith, at.place, pieces_len-append (take k ps) (drop k ps), ap pieces_len (take-append-drop k ps))

pub rest_plans : (ps out : List Piece) (off k skip n : ℕ) → HoldsByte ps off k skip → Plans out n (λ i. pieces_origin (drop k ps) (skip + i))
    → Plans out n (λ i. pieces_origin ps (off + i))
rest_plans ps out off k skip n at plans =
    let t = pieces_len (take k ps) in
    record {
      len = plans.len;
      origin = λ i below.
          let same : off + i - t ≡ skip + i = omega (arith, at.place) in
          plans.origin i below ∙ sym (
          ap (λ (l : List Piece). pieces_origin l (off + i)) (sym (take-append-drop k ps))
          ∙ pieces_origin_right (take k ps) (drop k ps) (off + i) (omega (arith, at.place)) ∙ ap (pieces_origin (drop k ps)) same);
    }
