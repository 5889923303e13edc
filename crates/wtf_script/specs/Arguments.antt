-- The forms of a line's arguments, and what is wrong with a word that has no such form.
use Rattle.std.specs.Prelude.{◌≡◌, ℕ, ◌-◌, Bool, ◌&&◌, nat_le, if◌then◌else◌, List, [], ◌∷◌, length, take, drop, codes, bytes_eq, unwrap_or, Option, Some, None, Result, Ok, Err}
use Rattle.wtf_path.specs.declared.error.PathError.{PathError}
use Rattle.wtf_path.specs.Refusals.{refusal, number_of}
use Rattle.wtf_model.specs.declared.answer.Kind.{Kind}
use Rattle.wtf_model.specs.declared.answer.Kind.TheVariants as kind
use Rattle.wtf_lex.specs.Numbers.{number_within}
use Rattle.wtf_script.specs.declared.error.LineError.{LineError}
use Rattle.wtf_script.specs.declared.error.LineError.TheVariants as line_error
use Rattle.wtf_model.specs.declared.limits.TheConstants.{MAX_NUMBER, MAX_CLIENTS, MAX_HANDLES, MAX_SLICES, MAX_JOBS, MAX_WRITTEN}
use Rattle.wtf_script.specs.Hex.{hex_bytes}

-- one after another: the first that is wrong is what is wrong
infixl 10 ◌>>=◌
abbrev pub ◌>>=◌ : {A B : Type 0} → Result A Kind → (A → Result B Kind) → Result B Kind
Ok x >>= f = f x
Err k >>= f = Err k

-- wrong in this way, unless the test holds
abbrev pub demand : Bool → Kind → Result (Unit {0}) Kind
demand holds k = if holds then Ok tt else Err k

-- what a function answered is what was meant, unless memory ran out
abbrev pub AnswersAs : {A : Type 0} → Result A LineError → Result A Kind → Type 0
AnswersAs (Ok x) meant = meant ≡ Ok x
AnswersAs (Err (line_error.Bad k)) meant = meant ≡ Err k
AnswersAs (Err line_error.Memory) meant = Unit {0}

-- what a function answered, seen by `view`, is what was meant
abbrev pub AsksAs : {A B : Type 0} → (A → B) → Result A Kind → Result B Kind → Type 0
AsksAs view (Ok x) meant = meant ≡ Ok (view x)
AsksAs view (Err k) meant = meant ≡ Err k

abbrev pub or_wrong : {A : Type 0} → Kind → Option A → Result A Kind
or_wrong k (Some x) = Ok x
or_wrong k None = Err k

-- any number of the language
unfoldable pub number_of_word : List ℕ → Result ℕ Kind
number_of_word word = or_wrong kind.Number (number_within MAX_NUMBER word)

-- a number, and within the limits of its verb
unfoldable pub number_from_to : ℕ → ℕ → List ℕ → Result ℕ Kind
number_from_to least most word = do
  n ← number_of_word word
  _ ← demand (nat_le least n && nat_le n most) kind.Limit
  Ok n

-- a letter and the number of one of so many, counted from 0
abbrev pub label_of : List ℕ → ℕ → List ℕ → Option ℕ
label_of letter count word = if bytes_eq (take 1 word) letter then number_within (count - 1) (drop 1 word) else None

-- `c0` to `c31`
unfoldable pub client_of : List ℕ → Result ℕ Kind
client_of word = or_wrong kind.Actor (label_of (codes "c") MAX_CLIENTS word)

-- `f0` to `f15`
unfoldable pub handle_of : List ℕ → Result ℕ Kind
handle_of word = or_wrong kind.Handle (label_of (codes "f") MAX_HANDLES word)

-- `s0` to `s15`
unfoldable pub slice_of : List ℕ → Result ℕ Kind
slice_of word = or_wrong kind.Slice (label_of (codes "s") MAX_SLICES word)

-- `j0` to `j7`
unfoldable pub job_of : List ℕ → Result ℕ Kind
job_of word = or_wrong kind.Job (label_of (codes "j") MAX_JOBS word)

-- a path, or its first refusal
abbrev pub path_unless : Option PathError → List ℕ → Result (List ℕ) Kind
path_unless None word = Ok word
path_unless (Some why) word = Err (kind.Path (unwrap_or (number_of why) 0))

unfoldable pub path_of : List ℕ → Result (List ℕ) Kind
path_of word = path_unless (refusal word) word

unfoldable pub paths_of : List (List ℕ) → Result (List (List ℕ)) Kind
paths_of [] = Ok []
paths_of (word ∷ words) = do
  path ← path_of word
  paths ← paths_of words
  Ok (path ∷ paths)

-- `x:` and two digits for each byte, or `t:` and the bytes themselves
abbrev pub data_form : List ℕ → List ℕ → Option (List ℕ)
data_form form behind =
    if bytes_eq form (codes "x:") then hex_bytes behind
    else (if bytes_eq form (codes "t:") then Some behind
    else None)

unfoldable pub data_of : List ℕ → Result (List ℕ) Kind
data_of word = do
  bytes ← or_wrong kind.DataForm (data_form (take 2 word) (drop 2 word))
  _ ← demand (nat_le (length bytes) MAX_WRITTEN) kind.Limit
  Ok bytes
