-- The grammar of scripts takes each line that carries a file as the event that it is to ask for.
use Rattle.std.proofs.Common.{
  rules,
  ◌≡◌,
  ℕ,
  ◌^◌,
  ◌<◌,
  ◌≤◌,
  ◌==◌,
  Bool,
  true,
  false,
  not,
  ◌&&◌,
  nat_le,
  List,
  [],
  ◌∷◌,
  ◌++◌,
  length,
  codes,
  decimal,
  refl,
  ap,
  ◌∙◌,
  arith,
  Option,
  Some,
  Result,
  Ok,
}
use Rattle.std.specs.List.{list_all, list_any, onto_first}
use Rattle.std.proofs.lemmas.Bool.{le-leb, false_from_ne_true, eqb-true}
use Rattle.std.proofs.lemmas.Fmt.{decimal_nonempty}
use Rattle.std.proofs.lemmas.List.{length-append}
use Rattle.std.proofs.lemmas.Fmt.{length-decimal-le}
use Rattle.hex.specs.Hex.{IsBytes, encode_lower}
use Rattle.hex.proofs.HexLemmas.{decode_of-encode_lower, length-encode_with}
use Rattle.hex.specs.Hex.{lower_digits}
use Rattle.wtf_path.specs.Grammar.{IsPath}
use Rattle.wtf_path.specs.declared.error.PathError.{PathError}
use Rattle.wtf_path.proofs.Refused.{refused_none}
use Rattle.wtf_model.specs.declared.answer.Kind.{Kind}
use Rattle.wtf_model.specs.declared.answer.Kind.TheVariants as kind
use Rattle.wtf_model.specs.declared.op.Op.TheVariants as op
use Rattle.wtf_model.specs.declared.op.Seek.TheVariants as to
use Rattle.wtf_model.specs.declared.event.Verb.TheVariants as verb
use Rattle.wtf_model.specs.declared.event.Event.{Event}
use Rattle.wtf_model.specs.declared.event.Event.TheVariants as event
use Rattle.wtf_model.specs.declared.limits.TheConstants.{MAX_NUMBER, MAX_SHOWN, MAX_WRITTEN}
use Rattle.wtf_lex.specs.Words.{words_of}
use Rattle.wtf_print.proofs.Spelled.{one-word, number-no_space, number-spelled, hex-no_space, path-no_space}
use Rattle.wtf_script.specs.declared.limits.TheConstants.{LINE_BYTES}
use Rattle.wtf_script.specs.Hex.{hex_bytes, hex_decoded}
use Rattle.wtf_script.specs.Arguments.{◌>>=◌, demand, or_wrong, number_of_word, number_from_to, client_of, handle_of, path_unless, path_of, data_of}
use Rattle.wtf_script.specs.Grammar.{
  path_alone,
  handle_data,
  open_call,
  offset_of,
  place_of,
  seek_call,
  read_call,
  bytes_call,
  handle_call,
  paths_call,
  path_call,
  alone,
  verb_of,
  event_asked,
  words_event,
  is_printable,
  is_empty_word,
  spelled,
  event_of,
}
use Rattle.wtf_carry.specs.Asked.{Asks, begin_line, try_line, abort_line, mkdir_line, create_line, open_line, seek_line, write_line, read_line}
use Rattle.wtf_carry.proofs.Printed.{CanStand, number-stands, hex-stands, path-stands}

-- ---- lines and words

spelled_by : (long empty byte space : Bool) → long ≡ true → empty ≡ true → byte ≡ true → space ≡ true
    → (demand long kind.Long >>= λ _. demand empty kind.Empty >>= λ _. demand byte kind.Byte >>= λ _. demand space kind.Space) ≡ Ok tt
spelled_by long empty byte space a b c d = rw (a, b, c, d) refl

not_empty : (n : ℕ) → 0 < n → not (n == 0) ≡ true
not_empty n h = ap not (false_from_ne_true (n == 0) (λ e. absurd (omega (arith, eqb-true n 0 e))))

some_bytes : (n : ℕ) → 0 < n → (n == 0) ≡ false
some_bytes n h = false_from_ne_true (n == 0) (λ e. absurd (omega (arith, eqb-true n 0 e)))

-- a line that can be read as these words asks what they ask
asks : (line : List ℕ) (words : List (List ℕ)) (e : Event) → length line ≤ LINE_BYTES → 0 < length line → CanStand line
    → words_of line ≡ words → list_any is_empty_word words ≡ false → words_event words ≡ Ok e → event_of line ≡ Ok e
unfolding event_of spelled
asks line words e short some stands are full is =
    ap (λ (r : Result (Unit {0}) Kind). r >>= λ _. words_event (words_of line))
    (spelled_by (nat_le (length line) LINE_BYTES) (not (is_empty_word line)) (list_all is_printable line) (not (list_any is_empty_word (words_of line)))
    (le-leb (length line) LINE_BYTES short) (not_empty (length line) some) stands (ap not (ap (list_any is_empty_word) are ∙ full)))
    ∙ (ap words_event are ∙ is)

-- ---- lines of fixed words

pub begin-asks : Asks begin_line
unfolding event_of spelled words_event event_asked client_of verb_of alone
begin-asks = refl

pub try-asks : Asks try_line
unfolding event_of spelled words_event event_asked client_of verb_of alone
try-asks = refl

pub abort-asks : Asks abort_line
unfolding event_of spelled words_event event_asked client_of verb_of alone
abort-asks = refl

-- ---- lines with a path

path-is : (p : List ℕ) → IsPath p → path_of p ≡ Ok p
unfolding path_of
path-is p path = ap (λ (o : Option PathError). path_unless o p) (refused_none p path)

path-some : (p : List ℕ) → IsPath p → 0 < length p
path-some p path = let e = ap length path.spelled in omega (arith, e)

pub mkdir-asks : (p : List ℕ) → IsPath p → Asks (mkdir_line p)
unfolding words_event event_asked client_of verb_of path_call path_alone
mkdir-asks p path =
    asks (codes "c0 mkdir " ++ p) (codes "c0" ∷ codes "mkdir" ∷ p ∷ []) (event.Client 0 (verb.Call (op.Mkdir p)))
    (omega (arith, length-append (codes "c0 mkdir ") p, path.size)) (omega (arith, length-append (codes "c0 mkdir ") p, path-some p path)) (path-stands p path)
    (ap (λ (ws : List (List ℕ)). codes "c0" ∷ codes "mkdir" ∷ ws) (one-word p (path-no_space p path)))
    (rw (some_bytes (length p) (path-some p path)) refl)
    (ap (λ (r : Result (List ℕ) Kind). r >>= (λ q. Ok (op.Mkdir q)) >>= (λ o. Ok (verb.Call o)) >>= (λ v. Ok (event.Client 0 v))) (path-is p path))

pub create-asks : (p : List ℕ) → IsPath p → Asks (create_line p)
unfolding words_event event_asked client_of verb_of path_call path_alone
create-asks p path =
    asks (codes "c0 create " ++ p) (codes "c0" ∷ codes "create" ∷ p ∷ []) (event.Client 0 (verb.Call (op.Create p)))
    (omega (arith, length-append (codes "c0 create ") p, path.size)) (omega (arith, length-append (codes "c0 create ") p, path-some p path))
    (path-stands p path)
    (ap (λ (ws : List (List ℕ)). codes "c0" ∷ codes "create" ∷ ws) (one-word p (path-no_space p path)))
    (rw (some_bytes (length p) (path-some p path)) refl)
    (ap (λ (r : Result (List ℕ) Kind). r >>= (λ q. Ok (op.Create q)) >>= (λ o. Ok (verb.Call o)) >>= (λ v. Ok (event.Client 0 v))) (path-is p path))

pub open-asks : (p : List ℕ) → IsPath p → Asks (open_line p)
unfolding words_event event_asked client_of verb_of path_call paths_call handle_call open_call handle_of
open-asks p path =
    asks (codes "c0 open f0 " ++ p) (codes "c0" ∷ codes "open" ∷ codes "f0" ∷ p ∷ []) (event.Client 0 (verb.Call (op.Open 0 p)))
    (omega (arith, length-append (codes "c0 open f0 ") p, path.size)) (omega (arith, length-append (codes "c0 open f0 ") p, path-some p path))
    (path-stands p path)
    (ap (λ (ws : List (List ℕ)). codes "c0" ∷ codes "open" ∷ codes "f0" ∷ ws) (one-word p (path-no_space p path)))
    (rw (some_bytes (length p) (path-some p path)) refl)
    (ap (λ (r : Result (List ℕ) Kind). (r >>= λ q. Ok (op.Open 0 q)) >>= (λ o. Ok (verb.Call o)) >>= (λ v. Ok (event.Client 0 v))) (path-is p path))

-- ---- lines with a number

number-is : (n : ℕ) → n ≤ MAX_NUMBER → number_of_word (decimal n) ≡ Ok n
unfolding number_of_word
number-is n h = ap (or_wrong kind.Number) (number-spelled MAX_NUMBER n (omega arith) h)

number-within : (most n : ℕ) → n ≤ most → n ≤ MAX_NUMBER → number_from_to 0 most (decimal n) ≡ Ok n
unfolding number_from_to
number-within most n h k =
    ap (λ (r : Result ℕ Kind). r >>= λ m. demand (nat_le 0 m && nat_le m most) kind.Limit >>= λ _. Ok m) (number-is n k)
    ∙ rw (le-leb 0 n (omega arith), le-leb n most h) refl

number-short : (n : ℕ) → n < 2 ^ 64 → length (decimal n) ≤ 20
number-short n h = search (rules, length-decimal-le 20)

number-some : (n : ℕ) → n < 2 ^ 64 → 0 < length (decimal n)
number-some n h = decimal_nonempty n h

pub seek-asks : (n : ℕ) → n ≤ MAX_NUMBER → Asks (seek_line n)
unfolding words_event event_asked client_of verb_of path_call paths_call handle_call seek_call place_of offset_of handle_of
seek-asks n h =
    let fits : n < 2 ^ 64 = omega arith in
    asks (codes "c0 seek f0 set " ++ decimal n) (codes "c0" ∷ codes "seek" ∷ codes "f0" ∷ codes "set" ∷ decimal n ∷ [])
    (event.Client 0 (verb.Call (op.Seek 0 (to.Set n))))
    (omega (arith, length-append (codes "c0 seek f0 set ") (decimal n), number-short n fits))
    (omega (arith, length-append (codes "c0 seek f0 set ") (decimal n))) (number-stands n fits)
    (ap (λ (ws : List (List ℕ)). codes "c0" ∷ codes "seek" ∷ codes "f0" ∷ codes "set" ∷ ws) (one-word (decimal n) (number-no_space n fits)))
    (rw (some_bytes (length (decimal n)) (number-some n fits)) refl)
    (ap (λ (r : Result ℕ Kind). (r >>= λ m. Ok (to.Set m)) >>= (λ place. Ok (op.Seek 0 place)) >>= (λ o. Ok (verb.Call o)) >>= (λ v. Ok (event.Client 0 v)))
    (number-is n h))

pub read-asks : (n : ℕ) → n ≤ MAX_SHOWN → Asks (read_line n)
unfolding words_event event_asked client_of verb_of path_call paths_call handle_call bytes_call read_call handle_of
read-asks n h =
    let fits : n < 2 ^ 64 = omega arith in
    asks (codes "c0 read f0 " ++ decimal n) (codes "c0" ∷ codes "read" ∷ codes "f0" ∷ decimal n ∷ []) (event.Client 0 (verb.Call (op.Read 0 n)))
    (omega (arith, length-append (codes "c0 read f0 ") (decimal n), number-short n fits)) (omega (arith, length-append (codes "c0 read f0 ") (decimal n)))
    (number-stands n fits)
    (ap (λ (ws : List (List ℕ)). codes "c0" ∷ codes "read" ∷ codes "f0" ∷ ws) (one-word (decimal n) (number-no_space n fits)))
    (rw (some_bytes (length (decimal n)) (number-some n fits)) refl)
    (ap (λ (r : Result ℕ Kind). (r >>= λ m. Ok (op.Read 0 m)) >>= (λ o. Ok (verb.Call o)) >>= (λ v. Ok (event.Client 0 v)))
    (number-within MAX_SHOWN n h (omega arith)))

-- ---- lines with bytes

bytes-are : (bytes : List ℕ) → IsBytes bytes → hex_bytes (encode_lower bytes) ≡ Some bytes
unfolding hex_bytes
bytes-are bytes are = ap hex_decoded (decode_of-encode_lower bytes are)

data-is : (bytes : List ℕ) → IsBytes bytes → length bytes ≤ MAX_WRITTEN → data_of (codes "x:" ++ encode_lower bytes) ≡ Ok bytes
unfolding data_of
data-is bytes are h =
    ap (λ (o : Option (List ℕ)). or_wrong kind.DataForm o >>= λ bs. demand (nat_le (length bs) MAX_WRITTEN) kind.Limit >>= λ _. Ok bs) (bytes-are bytes are)
    ∙ rw (le-leb (length bytes) MAX_WRITTEN h) refl

abbrev with_handle : List ℕ → Result (ℕ × List ℕ) Kind
with_handle bytes = Ok (0, bytes)

pub write-asks : (bytes : List ℕ) → IsBytes bytes → length bytes ≤ MAX_WRITTEN → Asks (write_line bytes)
unfolding words_event event_asked client_of verb_of path_call paths_call handle_call bytes_call handle_data handle_of
write-asks bytes are h =
    let hex = encode_lower bytes in
    asks (codes "c0 write f0 x:" ++ hex) (codes "c0" ∷ codes "write" ∷ codes "f0" ∷ (codes "x:" ++ hex) ∷ []) (event.Client 0 (verb.Call (op.Write 0 bytes)))
    (omega (arith, length-append (codes "c0 write f0 x:") hex, length-encode_with lower_digits bytes))
    (omega (arith, length-append (codes "c0 write f0 x:") hex)) (hex-stands bytes are)
    (ap (λ (ws : List (List ℕ)). codes "c0" ∷ codes "write" ∷ codes "f0" ∷ onto_first 120 (onto_first 58 ws)) (one-word hex (hex-no_space bytes are)))
    (rw (some_bytes (length (codes "x:" ++ hex)) (omega (arith, length-append (codes "x:") hex))) refl)
    (ap (λ (r : Result (List ℕ) Kind). (r >>= with_handle) >>= (λ w. Ok (op.Write w.0 w.1)) >>= (λ o. Ok (verb.Call o)) >>= (λ v. Ok (event.Client 0 v)))
    (data-is bytes are h))
