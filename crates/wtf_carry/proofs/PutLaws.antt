-- How the lines that put a file come to be written, piece by piece.
use Rattle.std.proofs.Common.{
  ◌≡◌,
  ◌≢◌,
  ◌⊎◌,
  inl,
  inr,
  ℕ,
  ◌+◌,
  ◌<◌,
  ◌≤◌,
  min,
  nat_le,
  Bool,
  true,
  false,
  List,
  [],
  ◌∷◌,
  ◌++◌,
  length,
  take,
  drop,
  Option,
  Some,
  None,
  refl,
  sym,
  ap,
  ◌∙◌,
  arith,
  append_assoc,
  subst,
  Result,
  Ok,
  Err,
}
use Rattle.std.specs.Prelude.{All}
use Rattle.std.proofs.lemmas.List.{length-append, append-nil, length-take-le, take-append-drop}
use Rattle.std.proofs.lemmas.Bool.Decides.{nat_tests}
use Rattle.std.proofs.Math.ListN.{drop_of_length-le}
use Rattle.std.proofs.lemmas.List.Elements.{All-nil, All-cons, All-head, All-tail, All-append, All-weaker}
use Rattle.hex.specs.Hex.{IsBytes}
use Rattle.wtf_path.specs.Grammar.{IsPath}
use Rattle.wtf_model.specs.declared.limits.TheConstants.{MAX_WRITTEN}
use Rattle.wtf_carry.specs.declared.stop.Stop.{Stop}
use Rattle.wtf_carry.specs.declared.stop.Stop.TheVariants as stop
use Rattle.wtf_carry.specs.declared.TheConstants.{MOST_BYTES}
use Rattle.wtf_carry.specs.Asked.{Asked, Asks, asked_text, turn, carried, writes, begin_line, try_line, create_line, open_line, write_line}
use Rattle.wtf_carry.specs.Ways.{IsWayUp, mkdirs}
use Rattle.wtf_carry.specs.Streams.{Filled}
use Rattle.wtf_carry.specs.Puts.{head_lines, joined, IsPiece, IsFullPiece, AreFilled, Puts, HasHead, Carries, CarriesEnd, CarriesTo, passage, Sofar}
use Rattle.wtf_carry.proofs.Events.{begin-asks, try-asks, create-asks, open-asks, write-asks}
use Rattle.wtf_carry.proofs.SizeLaws.{lines-size}
use Rattle.wtf_carry.proofs.Carried.{text_of-append, total-push, carried-push, joined-push, joined-size, carried-asks, mkdirs-ask}

pub sofar-start : (path all old head : List ℕ) (left new : Option (List ℕ)) → HasHead path [] head → left ≡ Some all → new ≡ Some (old ++ head)
    → Sofar path all old 0 0 left new
sofar-start path all old head left new h from to = record {
  is_path = h.is_path;
  up = h.up;
  pieces = [];
  rest = all;
  way = h.way;
  bytes = refl;
  left_is = from;
  sized = All-nil IsPiece;
  filled = tt;
  full = λ some. All-nil IsFullPiece;
  count = refl;
  size = refl;
  new_is = to ∙ ap Some (ap (λ (l : List ℕ). old ++ l) (h.new_is ∙ ap asked_text (sym (append-nil (head_lines path h.up)))));
}

-- one piece behind full ones
filled-push : (pieces : List (List ℕ)) (last : List ℕ) → All IsFullPiece pieces → AreFilled (pieces ++ last ∷ [])
filled-push [] last full = tt
filled-push (piece ∷ []) last full = (All-head IsFullPiece piece [] full, tt)
filled-push (piece ∷ next ∷ pieces) last full =
    (All-head IsFullPiece piece (next ∷ pieces) full, filled-push (next ∷ pieces) last (All-tail IsFullPiece piece (next ∷ pieces) full))

-- bytes of which a piece was taken are none that are at their end
not-end : (rest piece then : List ℕ) → rest ≡ piece ++ then → 1 ≤ length piece → rest ≢ []
not-end rest piece then is some none = absurd (omega (arith, ap length (sym is ∙ none), length-append piece then))

full-push : (pieces : List (List ℕ)) (piece then : List ℕ) → All IsFullPiece pieces → IsFullPiece piece ⊎ (then ≡ []) → then ≢ []
    → All IsFullPiece (pieces ++ piece ∷ [])
full-push pieces piece then full (inl is) more = All-append IsFullPiece pieces (piece ∷ []) full (All-cons IsFullPiece piece [] is (All-nil IsFullPiece))
full-push pieces piece then full (inr none) more = absurd (more none)

-- a text, and more
joined_text : (old : List ℕ) (xs ys : List Asked) → (old ++ asked_text xs) ++ asked_text ys ≡ old ++ asked_text (xs ++ ys)
joined_text old xs ys = append_assoc old (asked_text xs) (asked_text ys) ∙ ap (λ (l : List ℕ). old ++ l) (sym (text_of-append xs ys))

pub sofar-more : (path all old : List ℕ) (i at n : ℕ) (left new left' new' : Option (List ℕ)) (s : Sofar path all old i at left new)
    → Carries path i at n (passage s.rest (old ++ asked_text (head_lines path s.up ++ carried writes path 0 0 s.pieces)) left' new')
    → Sofar path all old (i + 1) (at + n) left' new'
sofar-more path all old i at n left new left' new' s c =
    let head = head_lines path s.up in
    let before = carried writes path 0 0 s.pieces in
    let more = turn try_line path i at ++ write_line c.piece ∷ [] in
    let before_full = s.full (not-end s.rest c.piece c.then c.rest_is c.is.0) in
    let push = carried-push writes path 0 0 s.pieces c.piece i at (omega (arith, s.count)) (omega (arith, s.size)) in
    record {
      is_path = s.is_path;
      up = s.up;
      pieces = s.pieces ++ c.piece ∷ [];
      rest = c.then;
      way = s.way;
      bytes = s.bytes ∙ ap (λ (l : List ℕ). joined s.pieces ++ l) c.rest_is ∙ sym (append_assoc (joined s.pieces) c.piece c.then)
          ∙ ap (λ (l : List ℕ). l ++ c.then) (sym (joined-push s.pieces c.piece));
      left_is = c.left_is;
      sized = All-append IsPiece s.pieces (c.piece ∷ []) s.sized (All-cons IsPiece c.piece [] c.is (All-nil IsPiece));
      filled = filled-push s.pieces c.piece before_full;
      full = full-push s.pieces c.piece c.then before_full c.full;
      count = omega (arith, length-append s.pieces (c.piece ∷ []), s.count);
      size = omega (arith, total-push (λ (piece : List ℕ). length piece) s.pieces c.piece, s.size, c.count);
      new_is = c.new_is ∙ ap Some (joined_text old (head ++ before) more
          ∙ ap (λ (xs : List Asked). old ++ asked_text xs) (append_assoc head before more ∙ ap (λ (xs : List Asked). head ++ xs) (sym push)));
    }

piece-asks : (piece : List ℕ) → IsPiece piece → Asks (write_line piece)
piece-asks piece is = write-asks piece is.2 is.1

head-asks : (path : List ℕ) (up : List (List ℕ)) → IsPath path → IsWayUp path up → All Asks (head_lines path up)
head-asks path up is way =
    All-cons Asks begin_line (mkdirs up ++ create_line path ∷ open_line path ∷ []) begin-asks
    (All-append Asks (mkdirs up) (create_line path ∷ open_line path ∷ []) (mkdirs-ask path up way)
    (All-cons Asks (create_line path) (open_line path ∷ []) (create-asks path is) (All-cons Asks (open_line path) [] (open-asks path is) (All-nil Asks))))

pub sofar-end : (path all old : List ℕ) (i at : ℕ) (left new left' new' then : Option (List ℕ)) (s : Sofar path all old i at left new) → at ≤ MOST_BYTES
    → CarriesEnd (passage s.rest (old ++ asked_text (head_lines path s.up ++ carried writes path 0 0 s.pieces)) left' new')
    → then ≡ Some ((old ++ asked_text (head_lines path s.up ++ carried writes path 0 0 s.pieces)) ++ asked_text (try_line ∷ []))
    → Puts path all old then
sofar-end path all old i at left new left' new' then s fits c last =
    let head = head_lines path s.up in
    let before = carried writes path 0 0 s.pieces in
    let is = s.is_path in
    let P : List ℕ → Type 0 = λ piece. Asks (write_line piece) in
    let bytes : joined s.pieces ≡ all = sym (s.bytes ∙ ap (λ (l : List ℕ). joined s.pieces ++ l) c.rest_is ∙ append-nil (joined s.pieces)) in
    record {
      up = s.up;
      pieces = s.pieces;
      way = s.way;
      bytes = bytes;
      sized = s.sized;
      filled = s.filled;
      few = omega (arith, ap length bytes, joined-size s.pieces, s.size);
      new_is = last ∙ ap Some (joined_text old (head ++ before) (try_line ∷ [])
          ∙ ap (λ (xs : List Asked). old ++ asked_text xs) (append_assoc head before (try_line ∷ [])));
      within = lines-size path s.up s.pieces is s.way s.filled (omega (arith, s.size));
      asks = All-append Asks head (before ++ try_line ∷ []) (head-asks path s.up is s.way)
          (All-append Asks before (try_line ∷ [])
          (carried-asks writes path 0 0 s.pieces try-asks is (omega (arith, s.size)) (All-weaker IsPiece P piece-asks s.pieces s.sized))
          (All-cons Asks try_line [] try-asks (All-nil Asks)));
    }

pub sofar-too_long : (path all old : List ℕ) (i at : ℕ) (left new : Option (List ℕ)) (s : Sofar path all old i at left new) → MOST_BYTES < at + length s.rest
    → MOST_BYTES < length all
sofar-too_long path all old i at left new s h =
    omega (arith, ap length s.bytes, length-append (joined s.pieces) s.rest, joined-size s.pieces, s.size)

-- a piece of n bytes is full, or nothing is left behind it
full-or-last : (n : ℕ) (rest piece : List ℕ) → n ≡ min MAX_WRITTEN (length rest) → length piece ≡ n → IsFullPiece piece ⊎ (drop n rest ≡ [])
full-or-last n rest piece count size = by_size (nat_le (length rest) n) refl
  where
    by_size : (b : Bool) → nat_le (length rest) n ≡ b → IsFullPiece piece ⊎ (drop n rest ≡ [])
    by_size true h = inr (drop_of_length-le rest (grind (arith, nat_tests)))
    by_size false h = inl (grind (arith, nat_tests))

pub carries-one : (path : List ℕ) (i at n : ℕ) (rest old out piece text : List ℕ) (left new : Option (List ℕ)) → Filled n MAX_WRITTEN out rest left
    → piece ≡ take n out → 1 ≤ n → IsBytes piece
    → text ≡ asked_text (turn try_line path i at ++ write_line piece ∷ []) → new ≡ Some (old ++ text) → Carries path i at n (passage rest old left new)
carries-one path i at n rest old out piece text left new f is some bytes lines to =
    let p : piece ≡ take n rest = is ∙ f.bytes in
    let size : length piece ≡ n = ap length p ∙ length-take-le n rest (omega (arith, f.count)) in
    record {
      piece = piece;
      then = drop n rest;
      rest_is = sym (ap (λ (l : List ℕ). l ++ drop n rest) p ∙ take-append-drop n rest);
      left_is = f.left_is;
      count = size;
      is = (omega (arith, size), omega (arith, size, f.count), bytes);
      full = full-or-last n rest piece f.count size;
      new_is = to ∙ ap Some (ap (λ (l : List ℕ). old ++ l) lines);
    }

pub carries-some : (path : List ℕ) (i at n : ℕ) (rest old : List ℕ) (left new : Option (List ℕ)) (came : Option ℕ) → came ≡ Some n
    → CarriesTo path i at (passage rest old left new) (Ok came)
    → Carries path i at n (passage rest old left new)
carries-some path i at n rest old left new came e c = let P : Option ℕ → Type 0 = λ o. CarriesTo path i at (passage rest old left new) (Ok o) in subst P e c

pub carries-none : (path : List ℕ) (i at : ℕ) (rest old : List ℕ) (left new : Option (List ℕ)) (came : Option ℕ) → came ≡ None
    → CarriesTo path i at (passage rest old left new) (Ok came)
    → CarriesEnd (passage rest old left new)
carries-none path i at rest old left new came e c = let P : Option ℕ → Type 0 = λ o. CarriesTo path i at (passage rest old left new) (Ok o) in subst P e c

pub carries-too_long : (path : List ℕ) (i at : ℕ) (rest old : List ℕ) (left new : Option (List ℕ)) (result : Result (Option ℕ) Stop) → result ≡ Err stop.TooLong
    → CarriesTo path i at (passage rest old left new) result → MOST_BYTES < at + length rest
carries-too_long path i at rest old left new result e c =
    let P : Result (Option ℕ) Stop → Type 0 = λ r. CarriesTo path i at (passage rest old left new) r in subst P e c
