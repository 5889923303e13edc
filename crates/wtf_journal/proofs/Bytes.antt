-- What a stop leaves in each of the two steps of an append.
use Rattle.std.proofs.Common.{◌≡◌, ◌≢◌, ◌⊎◌, ◌<◌, ◌+◌, ◌^◌, ◌∙◌, ℕ, List, [], ◌∷◌, ◌++◌, length, get_or, take, drop, inl, inr, sym, ap, arith, append_assoc}
use Rattle.std.proofs.Common.{length-append, take-append-drop}
use Rattle.std.specs.Prelude.{Result, Ok, Err, OnOk}
use Rattle.std.proofs.lemmas.Bool.{cases_eq}
use Rattle.std.proofs.lemmas.List.{take_at, drop_at, drop_more, take-append-le, take-take, length-take-le}
use Rattle.std.proofs.lemmas.List.Elements.{All-push}
use Rattle.wtf_dev.specs.Disk.{overwritten}
use Rattle.wtf_journal.specs.Records.{framed, records, AreShort, HasBodies, BeforeOrAfter, gated, IsShut, IsGated}
use Rattle.wtf_journal.proofs.Torn.{Torn}

pub records-push : (bodies : List (List ℕ)) (body rest : List ℕ) → records (bodies ++ body ∷ []) ++ rest ≡ records bodies ++ (1 ∷ (framed body ++ rest))
records-push [] body rest = ap (λ (l : List ℕ). 1 ∷ l) (append_assoc (framed body) [] rest)
records-push (b ∷ bodies) body rest =
    ap (λ (l : List ℕ). 1 ∷ l) (append_assoc (framed b) (records (bodies ++ body ∷ [])) rest
    ∙ ap (λ (l : List ℕ). framed b ++ l) (records-push bodies body rest)
    ∙ sym (append_assoc (framed b) (records bodies) (1 ∷ (framed body ++ rest))))

pub short-push : (bodies : List (List ℕ)) (body : List ℕ) → AreShort bodies → length body < 2 ^ 64 → AreShort (bodies ++ body ∷ [])
short-push bodies body all one = All-push (λ (b : List ℕ). length b < 2 ^ 64) bodies body all one

module _ (s bytes : List ℕ) (at : ℕ) (inside : at < length s) where
  abbrev behind : List ℕ
  behind = overwritten s (at + 1) bytes

  split : behind ≡ take (at + 1) s ++ (bytes ++ drop (at + 1 + length bytes) s)
  split = append_assoc (take (at + 1) s) bytes (drop (at + 1 + length bytes) s)

  front_length : length (take (at + 1) s) ≡ at + 1
  front_length = length-take-le (at + 1) s (omega (arith, inside))

  pub behind_front : take at behind ≡ take at s
  behind_front =
      ap (λ (l : List ℕ). take at l) split
      ∙ take-append-le at (take (at + 1) s) (bytes ++ drop (at + 1 + length bytes) s) (omega (arith, front_length))
      ∙ take-take at (at + 1) s (omega arith)

  pub behind_back : drop (at + 1) behind ≡ bytes ++ drop (at + 1 + length bytes) s
  behind_back = ap (λ (l : List ℕ). drop (at + 1) l) split ∙ drop_at (take (at + 1) s) (bytes ++ drop (at + 1 + length bytes) s) (at + 1) front_length

  pub behind_longer : at < length behind
  behind_longer = omega (arith, ap length split, length-append (take (at + 1) s) (bytes ++ drop (at + 1 + length bytes) s), front_length)

  -- in the first step the gate stays as it is
  pub shut : (c : List ℕ) → Torn (at + 1) (length bytes) s c → IsShut s at c
  shut c torn = torn.front

  -- in the second all bytes stand behind it
  pub set : (c : List ℕ) → Torn at 1 behind c → IsGated s at bytes c
  set c torn =
      let gate = get_or c at 0 in
      let back : drop at c ≡ gate ∷ (bytes ++ drop (at + 1 + length bytes) s) =
      drop_more c at 0 (omega (arith, behind_longer, torn.no_shorter)) ∙ ap (λ (l : List ℕ). gate ∷ l) (torn.back ∙ behind_back) in
      (gate, sym (take-append-drop at c) ∙ ap (λ (l : List ℕ). l ++ drop at c) (torn.front ∙ behind_front) ∙ ap (λ (l : List ℕ). take at s ++ l) back)

  pub done : overwritten behind at (1 ∷ []) ≡ gated s at bytes 1
  done =
      ap (λ (l : List ℕ). (l ++ 1 ∷ []) ++ drop (at + 1) behind) behind_front
      ∙ append_assoc (take at s) (1 ∷ []) (drop (at + 1) behind)
      ∙ ap (λ (l : List ℕ). take at s ++ (1 ∷ l)) behind_back

-- records, a closed gate at `at`, and whatever stands behind it
module _ (bodies : List (List ℕ)) (shut_gate : ℕ) (shut_is : shut_gate ≢ 1) (rest body : List ℕ) (at : ℕ) (at_is : at ≡ length (records bodies)) where
  abbrev file : List ℕ
  file = records bodies ++ (shut_gate ∷ rest)

  abbrev bytes : List ℕ
  bytes = framed body ++ 0 ∷ []

  file_front : take at file ≡ records bodies
  file_front = take_at (records bodies) (shut_gate ∷ rest) at (sym at_is)

  file_gate : take (at + 1) file ≡ records bodies ++ shut_gate ∷ []
  file_gate =
      ap (λ (l : List ℕ). take (at + 1) l) (sym (append_assoc (records bodies) (shut_gate ∷ []) rest))
      ∙ take_at (records bodies ++ shut_gate ∷ []) rest (at + 1) (omega (arith, length-append (records bodies) (shut_gate ∷ []), at_is))

  abbrev after : List ℕ
  after = drop (at + 1 + length bytes) file

  spelled : (gate : ℕ) → gated file at bytes gate ≡ records bodies ++ (gate ∷ (framed body ++ (0 ∷ after)))
  spelled gate = ap (λ (l : List ℕ). l ++ (gate ∷ (bytes ++ after))) file_front
      ∙ ap (λ (l : List ℕ). records bodies ++ (gate ∷ l)) (append_assoc (framed body) (0 ∷ []) after)

  pub gated_is : gated file at bytes 1 ≡ records (bodies ++ body ∷ []) ++ (0 ∷ after)
  gated_is = spelled 1 ∙ sym (records-push bodies body (0 ∷ after))

  pub end_after : at + length bytes ≡ length (records (bodies ++ body ∷ []))
  end_after = omega (
    arith,
    ap length (records-push bodies body []),
    length-append (records (bodies ++ body ∷ [])) [],
    length-append (records bodies)
        (1 ∷ (framed body ++ [])),
    length-append (framed body) [],
    length-append (framed body) (0 ∷ []),
    at_is,
  )

  module _ (all : AreShort bodies) (one : length body < 2 ^ 64) where
    has_before : (c : List ℕ) → IsShut file at c → HasBodies bodies c
    has_before c is = inl (record {
      gate = shut_gate;
      rest = drop (at + 1) c;
      closed = shut_is;
      split = sym (take-append-drop (at + 1) c) ∙ ap (λ (l : List ℕ). l ++ drop (at + 1) c) (is ∙ file_gate)
          ∙ append_assoc (records bodies) (shut_gate ∷ []) (drop (at + 1) c);
      short = all;
    })

    has_gated : (c : List ℕ) → IsGated file at bytes c → BeforeOrAfter bodies body c
    has_gated c is = elim (cases_eq is.0 1) [
      | inl is_open ↦ inr (inl (record {
        gate = 0;
        rest = after;
        closed = omega arith;
        split = is.1 ∙ ap (λ (g : ℕ). gated file at bytes g) is_open ∙ gated_is;
        short = short-push bodies body all one;
      }))
      | inr is_shut ↦ inl (inl (record { gate = is.0; rest = framed body ++ (0 ∷ after); closed = is_shut; split = is.1 ∙ spelled is.0; short = all }))
    ]

    pub has_one : (c : List ℕ) → IsShut file at c ⊎ IsGated file at bytes c → BeforeOrAfter bodies body c
    has_one c (inl is) = inl (has_before c is)
    has_one c (inr is) = has_gated c is

pub on_ok : {T E : Type 0} (r : Result T E) (A B : Type 0) → (A → B) → OnOk r A → OnOk r B
on_ok (Ok x) A B f a = f a
on_ok (Err e) A B f a = a
