-- The parts of a text between slashes.
use Rattle.std.proofs.Common.{◌≡◌, ℕ, ◌+◌, ◌<◌, Bool, true, false, cond, List, [], ◌∷◌, ◌++◌, length, refl, ap, ◌∙◌, arith}
use Rattle.std.specs.Prelude.{◌==◌}
use Rattle.std.specs.List.{All, slice_split, join_with_byte, onto_first, count_by}
use Rattle.std.proofs.lemmas.List.Splits.{length-slice_split, join_with_byte-slice_split, slice_split_none, slice_split_at}
use Rattle.std.proofs.lemmas.List.Elements.{All-nil, All-cons, All-head, All-tail}
use Rattle.wtf_path.specs.Parts.{is_slash, parts_of}

pub parts_of-some : (bs : List ℕ) → 0 < length bs → parts_of bs ≡ slice_split is_slash bs
parts_of-some [] h = absurd (omega arith)
parts_of-some (b ∷ bs) h = refl

pub some_bytes : (bs : List ℕ) (b : Bool) → b ≡ (length bs == 0) → b ≡ false → 0 < length bs
some_bytes [] b e f = cc
some_bytes (x ∷ xs) b e f = omega arith

pub length-parts_of : (bs : List ℕ) → 0 < length bs → length (parts_of bs) ≡ count_by is_slash bs + 1
length-parts_of bs h = rw (parts_of-some bs h) (length-slice_split is_slash bs)

-- the parts, joined again
pub join-parts_of : (bs : List ℕ) → join_with_byte 47 (parts_of bs) ≡ bs
join-parts_of [] = refl
join-parts_of (b ∷ bs) = join_with_byte-slice_split 47 (b ∷ bs)

-- a byte that is no slash and has P
abbrev pub Within : (ℕ → Type 0) → ℕ → Type 0
Within P b = P b × (is_slash b ≡ false)

onto_first_all : (P : ℕ → Type 0) (x : ℕ) (parts : List (List ℕ)) → P x → All (All P) parts → All (All P) (onto_first x parts)
onto_first_all P x [] p all = All-cons (All P) (x ∷ []) [] (All-cons P x [] p (All-nil P)) (All-nil (All P))
onto_first_all P x (part ∷ parts) p all =
    All-cons (All P) (x ∷ part) parts (All-cons P x part p (All-head (All P) part parts all)) (All-tail (All P) part parts all)

-- what each byte of a text has, each byte of its parts has
pub slice_split_within : (P : ℕ → Type 0) (bs : List ℕ) → All P bs → All (All (Within P)) (slice_split is_slash bs)
slice_split_within P [] all = All-cons (All (Within P)) [] [] (All-nil (Within P)) (All-nil (All (Within P)))
slice_split_within P (x ∷ xs) all =
    let rest = slice_split_within P xs (All-tail P x xs all) in
    let here = All-head P x xs all in
    let step : (b : Bool) → is_slash x ≡ b → All (All (Within P)) (cond b ([] ∷ slice_split is_slash xs) (onto_first x (slice_split is_slash xs))) =
    λ b. elim b as (λ b. is_slash x ≡ b → All (All (Within P)) (cond b ([] ∷ slice_split is_slash xs) (onto_first x (slice_split is_slash xs)))) [
      | true ↦ λ e. All-cons (All (Within P)) [] (slice_split is_slash xs) (All-nil (Within P)) rest
      | false ↦ λ e. onto_first_all (Within P) x (slice_split is_slash xs) (here, e) rest
    ] in
    step (is_slash x) refl

pub parts_of_within : (P : ℕ → Type 0) (bs : List ℕ) → All P bs → All (All (Within P)) (parts_of bs)
parts_of_within P [] all = All-nil (All (Within P))
parts_of_within P (b ∷ bs) all = slice_split_within P (b ∷ bs) all

abbrev pub HasNoSlash : List ℕ → Type 0
HasNoSlash = All (λ b. is_slash b ≡ false)

-- names without slashes are the parts of what joins them
pub split-join : (n : List ℕ) (ns : List (List ℕ)) → All HasNoSlash (n ∷ ns) → slice_split is_slash (join_with_byte 47 (n ∷ ns)) ≡ n ∷ ns
split-join n [] all = slice_split_none is_slash n (All-head HasNoSlash n [] all)
split-join n (m ∷ ns) all =
    slice_split_at is_slash n 47 (join_with_byte 47 (m ∷ ns)) (All-head HasNoSlash n (m ∷ ns) all) refl
    ∙ ap (λ parts. n ∷ parts) (split-join m ns (All-tail HasNoSlash n (m ∷ ns) all))

onto_first-append : (x : ℕ) (parts : List (List ℕ)) (last : List ℕ) → 0 < length parts → onto_first x (parts ++ last ∷ []) ≡ onto_first x parts ++ last ∷ []
onto_first-append x [] last h = absurd (omega arith)
onto_first-append x (part ∷ parts) last h = refl

-- the last part stands behind the last slash
pub split-last : (before after : List ℕ) → HasNoSlash after → slice_split is_slash (before ++ 47 ∷ after) ≡ slice_split is_slash before ++ after ∷ []
split-last [] after clear = ap (λ parts. [] ∷ parts) (slice_split_none is_slash after clear)
split-last (x ∷ xs) after clear =
    let rest = split-last xs after clear in
    let step : (b : Bool) → cond b ([] ∷ slice_split is_slash (xs ++ 47 ∷ after)) (onto_first x (slice_split is_slash (xs ++ 47 ∷ after)))
    ≡ cond b ([] ∷ slice_split is_slash xs) (onto_first x (slice_split is_slash xs)) ++ after ∷ [] =
    λ b. elim b as (λ b. cond b ([] ∷ slice_split is_slash (xs ++ 47 ∷ after)) (onto_first x (slice_split is_slash (xs ++ 47 ∷ after)))
    ≡ cond b ([] ∷ slice_split is_slash xs) (onto_first x (slice_split is_slash xs)) ++ after ∷ []) [
      | true ↦ ap (λ parts. [] ∷ parts) rest
      | false ↦ ap (onto_first x) rest ∙ onto_first-append x (slice_split is_slash xs) after (let k = length-slice_split is_slash xs in omega arith)
    ] in
    step (is_slash x)
