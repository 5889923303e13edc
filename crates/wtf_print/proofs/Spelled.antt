-- The words of a text, and the numbers, bytes, names and rows that they spell.
use Rattle.std.proofs.Common.{rules, ◌≡◌, ◌≢◌, ℕ, zero, suc, ◌-◌, ◌^◌, ◌<◌, ◌≤◌, ◌==◌, Bool, true, false, not, ◌&&◌, cond, List, [], ◌∷◌, ◌++◌, length, get_or, codes, decimal, refl, ap, ◌∙◌, arith, Option, Some, None, map, append_assoc}
use Rattle.std.specs.Prelude.{All, IfSome}
use Rattle.std.specs.List.{list_all, flat_map}
use Rattle.std.proofs.lemmas.Bool.{and_parts, or_parts, false_from_ne_true, eqb-true, le-leb}
use Rattle.std.proofs.lemmas.Bool.Decides.{nat_tests}
use Rattle.std.proofs.lemmas.Fmt.{digits_decimal, digits_value-decimal, decimal_nonempty, first_decimal, decimal_digit}
use Rattle.std.proofs.lemmas.Str.Parse.{IsNumeralModel, numerals_by_fold}
use Rattle.std.proofs.lemmas.List.{append-nil}
use Rattle.std.proofs.lemmas.List.Elements.{All-nil, All-cons, All-head, All-tail, All-append, All-weaker}
use Rattle.std.proofs.lemmas.List.Splits.{slice_split_none, slice_split_at}
use Rattle.std.proofs.lemmas.List.Sums.{AllPass-from_list_all, list_all-from_AllPass}
use Rattle.hex.specs.Hex.{IsBytes, is_hex_digit, encode_lower}
use Rattle.hex.proofs.HexLemmas.{decode_of-encode_lower, decode_of-ok}
use Rattle.wtf_path.specs.Grammar.{IsName, IsPath}
use Rattle.wtf_path.specs.Parts.{is_slash}
use Rattle.wtf_path.specs.declared.error.PathError.{PathError}
use Rattle.wtf_path.specs.declared.error.PathError.TheVariants as path_error
use Rattle.wtf_path.specs.Refusals.{is_empty, begins_with_slash, is_graphic, is_dot_name, has_bad_byte}
use Rattle.wtf_path.proofs.Refused.{refused_none}
use Rattle.wtf_lex.specs.Words.{words_of, is_space}
use Rattle.wtf_lex.specs.Numbers.{is_digit, value_from, is_numeral, number_within}
use Rattle.wtf_model.specs.declared.lists.Row.{Row}
use Rattle.wtf_print.specs.Texts.{name_text, row_text}
use Rattle.wtf_print.specs.Forms.{IsRow}
use Rattle.wtf_print.specs.Pieces.{◌>>=◌, is_name_byte, name_of, path_unless, path_of, file_row_of, row_of, each_of}
use Rattle.wtf_print.proofs.Cuts.{HasNoColon, cut-at}

abbrev pub HasNoSpace : List ℕ → Type 0
HasNoSpace text = All (λ b. is_space b ≡ false) text

pub one-word : (w : List ℕ) → HasNoSpace w → words_of w ≡ w ∷ []
one-word w none = slice_split_none is_space w none

pub first-word : (w rest : List ℕ) → HasNoSpace w → words_of (w ++ 32 ∷ rest) ≡ w ∷ words_of rest
first-word w rest none = slice_split_at is_space w 32 rest none refl

-- ---- numbers

digits : IsNumeralModel (λ ds. list_all is_digit ds ≡ true) (value_from 0)
digits = numerals_by_fold _ (search rules) value_from (search rules)

digit-no_space : (b : ℕ) → is_digit b ≡ true → is_space b ≡ false
digit-no_space b h = grind (arith, nat_tests)

digit-no_colon : (b : ℕ) → is_digit b ≡ true → b ≢ 58
digit-no_colon b h e = let k : is_digit 58 ≡ true = rw e at h in cc

all-digits : (n : ℕ) → n < 2 ^ 64 → All (λ b. is_digit b ≡ true) (decimal n)
all-digits n h = AllPass-from_list_all is_digit (decimal n) (digits_decimal digits n h)

pub number-no_space : (n : ℕ) → n < 2 ^ 64 → HasNoSpace (decimal n)
number-no_space n h = All-weaker (λ b. is_digit b ≡ true) (λ b. is_space b ≡ false) digit-no_space (decimal n) (all-digits n h)

pub number-no_colon : (n : ℕ) → n < 2 ^ 64 → HasNoColon (decimal n)
number-no_colon n h = All-weaker (λ b. is_digit b ≡ true) (λ b. b ≢ 58) digit-no_colon (decimal n) (all-digits n h)

-- digits without a leading zero
numeral_of : (ds : List ℕ) → list_all is_digit ds ≡ true → 0 < length ds → 48 < get_or ds 0 0 → is_numeral ds ≡ true
numeral_of [] all some first = absurd (omega arith)
numeral_of (d ∷ []) all some first = (and_parts (is_digit d) true all).0
numeral_of (d ∷ e ∷ ds) all some first =
    let no_zero : (d == 48) ≡ false = false_from_ne_true (d == 48) (λ k. absurd (omega (arith, eqb-true d 48 k, first))) in
    rw no_zero all

numeral-decimal : (n : ℕ) → n < 2 ^ 64 → is_numeral (decimal n) ≡ true
numeral-decimal zero h = rw (decimal_digit 0 (omega arith)) refl
numeral-decimal (suc n) h = numeral_of (decimal (suc n)) (digits_decimal digits (suc n) h) (decimal_nonempty (suc n) h) (first_decimal (suc n) (omega arith) h)

numbered : (numeral within : Bool) (value n : ℕ) → numeral ≡ true → value ≡ n → within ≡ true → cond (numeral && within) (Some value) None ≡ Some n
numbered numeral within value n a b c = rw (a, b, c) refl

-- the digits of a number spell it
pub number-spelled : (most n : ℕ) → n < 2 ^ 64 → n ≤ most → number_within most (decimal n) ≡ Some n
number-spelled most n h k =
    let is = digits_value-decimal digits n h in
    numbered (is_numeral (decimal n)) _ (value_from 0 (decimal n)) n (numeral-decimal n h) is (le-leb (value_from 0 (decimal n)) most (rw is k))

-- ---- bytes

hex_digit-no_space : (b : ℕ) → is_hex_digit b ≡ true → is_space b ≡ false
hex_digit-no_space b h = false_from_ne_true (is_space b) (λ e. let k : is_hex_digit 32 ≡ true = rw (eqb-true b 32 e) at h in cc)

pub hex-no_space : (bytes : List ℕ) → IsBytes bytes → HasNoSpace (encode_lower bytes)
hex-no_space bytes are =
    All-weaker (λ b. is_hex_digit b ≡ true) (λ b. is_space b ≡ false) hex_digit-no_space (encode_lower bytes)
    (decode_of-ok (encode_lower bytes) bytes (decode_of-encode_lower bytes are)).1

-- ---- paths

-- a path has no byte that is refused
no_bad_byte : (a b c : Bool) (o : Option PathError)
    → cond a (Some path_error.Empty) (cond (not b) (Some path_error.NotAbsolute) (cond c (Some path_error.BadByte) o)) ≡ None → c ≡ false
no_bad_byte true b c o h = absurd cc
no_bad_byte false false c o h = absurd cc
no_bad_byte false true true o h = absurd cc
no_bad_byte false true false o h = refl

graphic-no_space : (b : ℕ) → not (is_graphic b) ≡ false → is_space b ≡ false
graphic-no_space b h = false_from_ne_true (is_space b) (λ e. let k : not (is_graphic 32) ≡ false = rw (eqb-true b 32 e) at h in cc)

graphic_bytes-no_space : (bs : List ℕ) → has_bad_byte bs ≡ false → HasNoSpace bs
graphic_bytes-no_space [] h = All-nil (λ b. is_space b ≡ false)
graphic_bytes-no_space (b ∷ bs) h =
    let here = or_parts (not (is_graphic b)) (has_bad_byte bs) h in
    All-cons (λ b. is_space b ≡ false) b bs (graphic-no_space b here.0) (graphic_bytes-no_space bs here.1)

pub path-no_space : (p : List ℕ) → IsPath p → HasNoSpace p
path-no_space p path = graphic_bytes-no_space p (no_bad_byte (is_empty p) (begins_with_slash p) (has_bad_byte p) _ (refused_none p path))

pub path-spelled : (p : List ℕ) → IsPath p → path_of p ≡ Some p
unfolding path_of
path-spelled p path = ap (λ (o : Option PathError). path_unless o p) (refused_none p path)

-- ---- names

abbrev IsNameByte : ℕ → Type 0
IsNameByte b = (33 ≤ b) × (b ≤ 126) × (b ≢ 47)

name_byte-no_space : (b : ℕ) → IsNameByte b → is_space b ≡ false
name_byte-no_space b h = let low = h.0 in grind (arith, nat_tests)

pub name-no_space : (n : List ℕ) → IsName n → HasNoSpace n
name-no_space n name = All-weaker IsNameByte (λ b. is_space b ≡ false) name_byte-no_space n name.bytes

name_byte-passes : (b : ℕ) → IsNameByte b → is_name_byte b ≡ true
name_byte-passes b h =
    let graphic : is_graphic b ≡ true = let low = h.0 in let high = h.1 in grind (arith, nat_tests) in
    let no_slash : is_slash b ≡ false = false_from_ne_true (is_slash b) (λ e. h.2 (eqb-true b 47 e)) in
    rw (graphic, no_slash) refl

name-not_dots : (n : List ℕ) → IsName n → is_dot_name n ≡ false
name-not_dots [] name = absurd (name.some refl)
name-not_dots (a ∷ []) name = false_from_ne_true (a == 46) (λ e. name.not_dot (ap (λ x. x ∷ []) (eqb-true a 46 e)))
name-not_dots (a ∷ b ∷ []) name =
    false_from_ne_true (a == 46 && b == 46) (λ e. name.not_dot_dot (let k : (a ≡ 46) × (b ≡ 46) = grind (arith, nat_tests) in cc))
name-not_dots (a ∷ b ∷ c ∷ n) name = refl

named : (dots bytes : Bool) (n : List ℕ) → dots ≡ false → bytes ≡ true → cond (not dots && bytes) (Some n) None ≡ Some n
named dots bytes n a b = rw (a, b) refl

pub name-spelled : (n : List ℕ) → IsName n → name_of n ≡ Some n
unfolding name_of
name-spelled n name =
    named (is_dot_name n) (list_all is_name_byte n) n (name-not_dots n name)
    (list_all-from_AllPass is_name_byte n (All-weaker IsNameByte (λ b. is_name_byte b ≡ true) name_byte-passes n name.bytes))

-- ---- rows

-- the word of a row, by its path and its length
abbrev pub row_word_of : List ℕ → Option ℕ → List ℕ
row_word_of p None = codes "d:" ++ p
row_word_of p (Some n) = codes "f:" ++ (p ++ 58 ∷ decimal n)

abbrev pub row_word : Row → List ℕ
row_word r = row_word_of r.path r.len

row_text_of : (p : List ℕ) (o : Option ℕ) → row_text (record { path = p; len = o }) ≡ name_text (row_word_of p o)
unfolding row_text
row_text_of p None = refl
row_text_of p (Some n) = append_assoc (codes " f:" ++ p) (codes ":") (decimal n)

row_word-no_space : (p : List ℕ) (o : Option ℕ) → IsPath p → IfSome o (λ n. n < 2 ^ 64) → HasNoSpace (row_word_of p o)
row_word-no_space p None path len =
    let P : ℕ → Type 0 = λ b. is_space b ≡ false in
    All-cons P 100 (58 ∷ p) refl (All-cons P 58 p refl (path-no_space p path))
row_word-no_space p (Some n) path len =
    let P : ℕ → Type 0 = λ b. is_space b ≡ false in
    All-cons P 102 (58 ∷ (p ++ 58 ∷ decimal n)) refl (All-cons P 58 (p ++ 58 ∷ decimal n) refl
    (All-append P p (58 ∷ decimal n) (path-no_space p path) (All-cons P 58 (decimal n) refl (number-no_space n len))))

file_row-spelled : (p : List ℕ) (n : ℕ) → IsPath p → n < 2 ^ 64 → file_row_of (p ++ 58 ∷ decimal n) ≡ Some (record { path = p; len = Some n })
unfolding file_row_of
file_row-spelled p n path h =
    ap (λ (o : Option (List ℕ × List ℕ)). o >>= λ cut. path_of cut.0 >>= λ p. number_within (2 ^ 64 - 1) cut.1 >>= λ n. Some (record { path = p; len = Some n })) (cut-at p (decimal n) (number-no_colon n h))
    ∙ ap (λ (o : Option (List ℕ)). o >>= λ p. number_within (2 ^ 64 - 1) (decimal n) >>= λ n. Some (record { path = p; len = Some n })) (path-spelled p path)
    ∙ ap (λ (o : Option ℕ). o >>= λ n. Some (record { path = p; len = Some n })) (number-spelled (2 ^ 64 - 1) n h (omega arith))

row_word-spelled : (p : List ℕ) (o : Option ℕ) → IsPath p → IfSome o (λ n. n < 2 ^ 64) → row_of (row_word_of p o) ≡ Some (record { path = p; len = o })
unfolding row_of
row_word-spelled p None path len = ap (λ (o : Option (List ℕ)). o >>= λ p. Some (record { path = p; len = None })) (path-spelled p path)
row_word-spelled p (Some n) path len = file_row-spelled p n path len

pub row-no_space : (r : Row) → IsRow r → HasNoSpace (row_word r)
row-no_space r is = row_word-no_space r.path r.len is.0 is.1

pub row-spelled : (r : Row) → IsRow r → row_of (row_word r) ≡ Some r
row-spelled r is = row_word-spelled r.path r.len is.0 is.1

-- the text of rows is that of their words
pub rows-text : (rows : List Row) → flat_map row_text rows ≡ flat_map name_text (map row_word rows)
rows-text [] = refl
rows-text (r ∷ rs) =
    ap (λ (l : List ℕ). l ++ flat_map row_text rs) (row_text_of r.path r.len)
    ∙ ap (λ (l : List ℕ). name_text (row_word r) ++ l) (rows-text rs)

-- ---- lists

-- words behind a first one, each behind a space
pub listed : (key : List ℕ) (ws : List (List ℕ)) → HasNoSpace key → All HasNoSpace ws → words_of (key ++ flat_map name_text ws) ≡ key ∷ ws
listed key [] none all = rw (append-nil key) (one-word key none)
listed key (w ∷ ws) none all =
    first-word key (w ++ flat_map name_text ws) none
    ∙ ap (λ (l : List (List ℕ)). key ∷ l) (listed w ws (All-head HasNoSpace w ws all) (All-tail HasNoSpace w ws all))

-- each word is read as what spelled it
pub each-spelled : {A : Type 0} (P : A → Type 0) (read : List ℕ → Option A) (spell : A → List ℕ) → ((x : A) → P x → read (spell x) ≡ Some x)
    → (xs : List A) → All P xs → each_of read (map spell xs) ≡ Some xs
each-spelled P read spell back [] all = refl
each-spelled {A} P read spell back (x ∷ xs) all =
    ap (λ (o : Option A). o >>= λ y. each_of read (map spell xs) >>= λ ys. Some (y ∷ ys)) (back x (All-head P x xs all))
    ∙ ap (λ (o : Option (List A)). o >>= λ ys. Some (x ∷ ys)) (each-spelled P read spell back xs (All-tail P x xs all))

-- what holds of each holds of each word
pub each-word : {A : Type 0} (P : A → Type 0) (spell : A → List ℕ) → ((x : A) → P x → HasNoSpace (spell x)) → (xs : List A) → All P xs → All HasNoSpace (map spell xs)
each-word P spell none [] all = All-nil HasNoSpace
each-word P spell none (x ∷ xs) all = All-cons HasNoSpace (spell x) (map spell xs) (none x (All-head P x xs all)) (each-word P spell none xs (All-tail P x xs all))
