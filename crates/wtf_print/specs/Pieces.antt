-- The pieces of an answer's text, read: numbers, bytes, labels, names and the rows of a tree.
use Rattle.std.specs.Prelude.{◌≡◌, ℕ, ◌-◌, ◌^◌, ◌==◌, Bool, not, ◌&&◌, if◌then◌else◌, List, [], ◌∷◌, take, drop, codes, bytes_eq, Option, Some, None, Result, Ok, Err}
use Rattle.std.specs.List.{list_all}
use Rattle.hex.specs.Hex.{decode_of}
use Rattle.hex.specs.declared.error.FromHexError.{FromHexError}
use Rattle.wtf_path.specs.declared.error.PathError.{PathError}
use Rattle.wtf_path.specs.Parts.{is_slash}
use Rattle.wtf_path.specs.Refusals.{refusal, is_graphic, is_dot_name}
use Rattle.wtf_model.specs.declared.event.Holder.{Holder}
use Rattle.wtf_model.specs.declared.event.Holder.TheVariants as holder
use Rattle.wtf_model.specs.declared.lists.Row.{Row}
use Rattle.wtf_model.specs.declared.limits.TheConstants.{MAX_CLIENTS, MAX_JOBS}
use Rattle.wtf_lex.specs.Numbers.{number_within}
use Rattle.wtf_print.specs.declared.error.TextError.{TextError}
use Rattle.wtf_print.specs.declared.error.TextError.TheVariants as text_error

-- one after another, as long as there is something
infixl 10 ◌>>=◌
abbrev pub ◌>>=◌ : {A B : Type 0} → Option A → (A → Option B) → Option B
Some x >>= f = f x
None >>= f = None

-- nothing, unless the test holds
abbrev pub only_if : Bool → Option (Unit {0})
only_if holds = if holds then Some tt else None

-- what a function answered is what was meant, unless memory ran out
abbrev pub ReadsAs : {A : Type 0} → Result A TextError → Option A → Type 0
ReadsAs (Ok x) meant = meant ≡ Some x
ReadsAs (Err text_error.NotAnAnswer) meant = meant ≡ None
ReadsAs (Err text_error.Memory) meant = Unit {0}

-- what a function answered, seen by `view`, is what was meant
abbrev pub TellsAs : {A B : Type 0} → (A → B) → Result A TextError → Option B → Type 0
TellsAs view (Ok x) meant = meant ≡ Some (view x)
TellsAs view (Err text_error.NotAnAnswer) meant = meant ≡ None
TellsAs view (Err text_error.Memory) meant = ⊥

-- the words, where there are just so many
abbrev pub none_of : List (List ℕ) → Option (Unit {0})
none_of [] = Some tt
none_of (a ∷ more) = None

abbrev pub one_of : List (List ℕ) → Option (List ℕ)
one_of (a ∷ []) = Some a
one_of words = None

abbrev pub two_of : List (List ℕ) → Option (List ℕ × List ℕ)
two_of (a ∷ b ∷ []) = Some (a, b)
two_of words = None

-- one number
unfoldable pub number_word : ℕ → List (List ℕ) → Option ℕ
number_word most words = do
  w ← one_of words
  number_within most w

-- two numbers
unfoldable pub numbers_of : ℕ → List (List ℕ) → Option (ℕ × ℕ)
numbers_of most words = do
  w ← two_of words
  a ← number_within most w.0
  b ← number_within most w.1
  Some (a, b)

abbrev pub hex_decoded : Result (List ℕ) FromHexError → Option (List ℕ)
hex_decoded (Ok bytes) = Some bytes
hex_decoded (Err why) = None

-- `x:` and two digits for each byte
unfoldable pub data_word : List (List ℕ) → Option (List ℕ)
data_word words = do
  w ← one_of words
  _ ← only_if (bytes_eq (take 2 w) (codes "x:"))
  hex_decoded (decode_of (drop 2 w))

-- `c0` to `c31`, `j0` to `j7`, by the letter and what stands behind it
abbrev pub holder_by : List ℕ → List ℕ → Option Holder
holder_by letter digits =
    if bytes_eq letter (codes "c") then (number_within (MAX_CLIENTS - 1) digits >>= λ n. Some (holder.Client n))
    else (if bytes_eq letter (codes "j") then (number_within (MAX_JOBS - 1) digits >>= λ n. Some (holder.Job n))
    else None)

unfoldable pub holder_of : List (List ℕ) → Option Holder
holder_of words = do
  w ← one_of words
  holder_by (take 1 w) (drop 1 w)

-- a byte of a name
abbrev pub is_name_byte : ℕ → Bool
is_name_byte b = is_graphic b && not (is_slash b)

-- a name that a path may have
unfoldable pub name_of : List ℕ → Option (List ℕ)
name_of word = if not (is_dot_name word) && list_all is_name_byte word then Some word else None

-- a path, where nothing is refused of it
abbrev pub path_unless : Option PathError → List ℕ → Option (List ℕ)
path_unless None word = Some word
path_unless (Some why) word = None

unfoldable pub path_of : List ℕ → Option (List ℕ)
path_of word = path_unless (refusal word) word

-- one byte more before a text that was cut
abbrev pub cut_behind : ℕ → List ℕ → Option (List ℕ × List ℕ) → Option (List ℕ × List ℕ)
cut_behind b bs (Some cut) = Some (b ∷ cut.0, cut.1)
cut_behind b bs None = if b == 58 then Some ([], bs) else None

-- a text cut at its last `:`, which has the code 58
abbrev pub cut_last : List ℕ → Option (List ℕ × List ℕ)
cut_last [] = None
cut_last (b ∷ bs) = cut_behind b bs (cut_last bs)

-- `PATH:LEN`
unfoldable pub file_row_of : List ℕ → Option Row
file_row_of text = do
  cut ← cut_last text
  p ← path_of cut.0
  n ← number_within (2 ^ 64 - 1) cut.1
  Some (record { path = p; len = Some n })

-- `d:PATH`, `f:PATH:LEN`
unfoldable pub row_of : List ℕ → Option Row
row_of word =
    if bytes_eq (take 2 word) (codes "d:") then (path_of (drop 2 word) >>= λ p. Some (record { path = p; len = None }))
    else (if bytes_eq (take 2 word) (codes "f:") then file_row_of (drop 2 word)
    else None)

-- each word read in the same way
abbrev pub each_of : {A : Type 0} → (List ℕ → Option A) → List (List ℕ) → Option (List A)
each_of read [] = Some []
each_of read (word ∷ words) = read word >>= λ x. each_of read words >>= λ xs. Some (x ∷ xs)
