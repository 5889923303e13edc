-- Paths, numbers and hexadecimal digits can stand in a line.
use Rattle.std.proofs.Common.{rules, ◌≡◌, ℕ, ◌^◌, ◌<◌, Bool, true, false, not, ◌&&◌, cond, List, [], ◌∷◌, decimal, refl, arith, Option, Some, None}
use Rattle.std.specs.List.{list_all}
use Rattle.std.specs.Prelude.{All}
use Rattle.std.proofs.lemmas.Bool.{or_parts}
use Rattle.std.proofs.lemmas.Bool.Decides.{nat_tests}
use Rattle.std.proofs.lemmas.Fmt.{digits_decimal}
use Rattle.std.proofs.lemmas.Str.Parse.{IsNumeralModel, numerals_by_fold}
use Rattle.std.proofs.lemmas.List.Elements.{All-weaker}
use Rattle.std.proofs.lemmas.List.Sums.{AllPass-from_list_all, list_all-from_AllPass}
use Rattle.hex.specs.Hex.{IsBytes, is_hex_digit, encode_lower}
use Rattle.hex.proofs.HexLemmas.{decode_of-encode_lower, decode_of-ok}
use Rattle.wtf_path.specs.Grammar.{IsPath}
use Rattle.wtf_path.specs.declared.error.PathError.{PathError}
use Rattle.wtf_path.specs.declared.error.PathError.TheVariants as path_error
use Rattle.wtf_path.specs.Refusals.{is_empty, begins_with_slash, is_graphic, has_bad_byte}
use Rattle.wtf_path.proofs.Refused.{refused_none}
use Rattle.wtf_lex.specs.Numbers.{is_digit, value_from}
use Rattle.wtf_script.specs.Grammar.{is_printable}

abbrev pub CanStand : List ℕ → Type 0
CanStand text = list_all is_printable text ≡ true

both : (a b : Bool) → a ≡ true → b ≡ true → (a && b) ≡ true
both a b p q = rw (p, q) refl

from_each : (bs : List ℕ) → All (λ b. is_printable b ≡ true) bs → CanStand bs
from_each bs all = list_all-from_AllPass is_printable bs all

-- ---- numbers

digits : IsNumeralModel (λ ds. list_all is_digit ds ≡ true) (value_from 0)
digits = numerals_by_fold _ (search rules) value_from (search rules)

digit-stands : (b : ℕ) → is_digit b ≡ true → is_printable b ≡ true
digit-stands b h = grind (arith, nat_tests)

pub number-stands : (n : ℕ) → n < 2 ^ 64 → CanStand (decimal n)
number-stands n h = from_each (decimal n) (All-weaker (λ b. is_digit b ≡ true) (λ b. is_printable b ≡ true) digit-stands (decimal n)
    (AllPass-from_list_all is_digit (decimal n) (digits_decimal digits n h)))

-- ---- bytes

hex_digit-stands : (b : ℕ) → is_hex_digit b ≡ true → is_printable b ≡ true
hex_digit-stands b h = grind (arith, nat_tests)

pub hex-stands : (bytes : List ℕ) → IsBytes bytes → CanStand (encode_lower bytes)
hex-stands bytes are =
    from_each (encode_lower bytes) (All-weaker (λ b. is_hex_digit b ≡ true) (λ b. is_printable b ≡ true) hex_digit-stands (encode_lower bytes)
    (decode_of-ok (encode_lower bytes) bytes (decode_of-encode_lower bytes are)).1)

-- ---- paths

no_bad_byte : (a b c : Bool) (o : Option PathError)
    → cond a (Some path_error.Empty) (cond (not b) (Some path_error.NotAbsolute) (cond c (Some path_error.BadByte) o)) ≡ None → c ≡ false
no_bad_byte true b c o h = absurd cc
no_bad_byte false false c o h = absurd cc
no_bad_byte false true true o h = absurd cc
no_bad_byte false true false o h = refl

graphic-stands : (b : ℕ) → not (is_graphic b) ≡ false → is_printable b ≡ true
graphic-stands b h = grind (arith, nat_tests)

graphic_bytes-stand : (bs : List ℕ) → has_bad_byte bs ≡ false → CanStand bs
graphic_bytes-stand [] h = refl
graphic_bytes-stand (b ∷ bs) h =
    let here = or_parts (not (is_graphic b)) (has_bad_byte bs) h in
    both (is_printable b) (list_all is_printable bs) (graphic-stands b here.0) (graphic_bytes-stand bs here.1)

pub path-stands : (p : List ℕ) → IsPath p → CanStand p
path-stands p path = graphic_bytes-stand p (no_bad_byte (is_empty p) (begins_with_slash p) (has_bad_byte p) _ (refused_none p path))
