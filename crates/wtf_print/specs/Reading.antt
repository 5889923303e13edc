-- The answer that the words of a line spell: one row an answer.
use Rattle.std.specs.Prelude.{◌≡◌, ℕ, ◌-◌, ◌^◌, nat_le, if◌then◌else◌, List, [], ◌∷◌, codes, bytes_eq, Option, Some, None, Result, Ok, Err}
use Rattle.wtf_model.specs.declared.answer.Word.{Word}
use Rattle.wtf_model.specs.declared.answer.Word.TheVariants as word
use Rattle.wtf_model.specs.declared.answer.Kind.{Kind}
use Rattle.wtf_model.specs.declared.answer.Kind.TheVariants as kind
use Rattle.wtf_model.specs.declared.answer.Answer.{Answer, Aborted'}
use Rattle.wtf_model.specs.declared.answer.Answer.TheVariants as answer
use Rattle.wtf_model.specs.Same.{IsAbortedAt}
use Rattle.wtf_lex.specs.Words.{words_of}
use Rattle.wtf_lex.specs.Numbers.{number_within}
use Rattle.wtf_print.specs.declared.error.TextError.{TextError}
use Rattle.wtf_print.specs.declared.error.TextError.TheVariants as text_error
use Rattle.wtf_print.specs.Pieces.{◌>>=◌, only_if, none_of, one_of, number_word, numbers_of, data_word, holder_of, name_of, row_of, each_of}

-- the refusals of a call
unfoldable pub call_word_of : List ℕ → Option Word
call_word_of w =
    if bytes_eq w (codes "exists") then Some word.Exists
    else (if bytes_eq w (codes "noparent") then Some word.NoParent
    else (if bytes_eq w (codes "noent") then Some word.NoEnt
    else (if bytes_eq w (codes "notdir") then Some word.NotDir
    else (if bytes_eq w (codes "root") then Some word.Root
    else (if bytes_eq w (codes "notempty") then Some word.NotEmpty
    else (if bytes_eq w (codes "isdir") then Some word.IsDir
    else (if bytes_eq w (codes "busy") then Some word.Busy
    else (if bytes_eq w (codes "inuse") then Some word.InUse
    else (if bytes_eq w (codes "nohandle") then Some word.NoHandle
    else (if bytes_eq w (codes "range") then Some word.Range
    else (if bytes_eq w (codes "toobig") then Some word.TooBig
    else (if bytes_eq w (codes "noslice") then Some word.NoSlice
    else None))))))))))))

-- all other refusals
unfoldable pub other_word_of : List ℕ → Option Word
other_word_of w =
    if bytes_eq w (codes "replaying") then Some word.Replaying
    else (if bytes_eq w (codes "full") then Some word.Full
    else (if bytes_eq w (codes "intx") then Some word.InTx
    else (if bytes_eq w (codes "notx") then Some word.NoTx
    else (if bytes_eq w (codes "nojob") then Some word.NoJob
    else (if bytes_eq w (codes "jobinuse") then Some word.JobInUse
    else (if bytes_eq w (codes "noregion") then Some word.NoRegion
    else (if bytes_eq w (codes "noserver") then Some word.NoServer
    else (if bytes_eq w (codes "scanbusy") then Some word.ScanBusy
    else (if bytes_eq w (codes "noscan") then Some word.NoScan
    else (if bytes_eq w (codes "live") then Some word.Live
    else (if bytes_eq w (codes "long") then Some word.Long
    else None)))))))))))

-- any refusal
abbrev pub or_else : {A : Type 0} → Option A → Option A → Option A
or_else (Some x) o = Some x
or_else None o = o

unfoldable pub word_of : List ℕ → Option Word
word_of w = or_else (call_word_of w) (other_word_of w)

-- what is wrong with a line, in one word
unfoldable pub kind_of : List ℕ → Option Kind
kind_of w =
    if bytes_eq w (codes "long") then Some kind.Long
    else (if bytes_eq w (codes "empty") then Some kind.Empty
    else (if bytes_eq w (codes "byte") then Some kind.Byte
    else (if bytes_eq w (codes "space") then Some kind.Space
    else (if bytes_eq w (codes "actor") then Some kind.Actor
    else (if bytes_eq w (codes "verb") then Some kind.Verb
    else (if bytes_eq w (codes "count") then Some kind.Count
    else (if bytes_eq w (codes "handle") then Some kind.Handle
    else (if bytes_eq w (codes "slice") then Some kind.Slice
    else (if bytes_eq w (codes "job") then Some kind.Job
    else (if bytes_eq w (codes "number") then Some kind.Number
    else (if bytes_eq w (codes "limit") then Some kind.Limit
    else (if bytes_eq w (codes "data") then Some kind.DataForm
    else (if bytes_eq w (codes "word") then Some kind.Word
    else None)))))))))))))

-- `path 1` to `path 6`
unfoldable pub path_kind_of : List (List ℕ) → Option Kind
path_kind_of args = do
  n ← number_word 6 args
  _ ← only_if (nat_le 1 n)
  Some (kind.Path n)

-- an answer that is one word
abbrev pub alone : Answer → List (List ℕ) → Option Answer
alone a args = none_of args >>= λ _. Some a

-- an answer with a number
abbrev pub with_number : (ℕ → Answer) → List (List ℕ) → Option Answer
with_number make args = number_word (2 ^ 64 - 1) args >>= λ n. Some (make n)

-- what is wrong with a line
unfoldable pub bad_of : List (List ℕ) → Option Answer
bad_of [] = None
bad_of (w ∷ args) =
    if bytes_eq w (codes "path") then (path_kind_of args >>= λ k. Some (answer.Bad k))
    else (none_of args >>= λ _. kind_of w >>= λ k. Some (answer.Bad k))

-- the faults of servers and of the image
unfoldable pub fault_of : List (List ℕ) → Option Answer
fault_of [] = None
fault_of (w ∷ args) =
    if bytes_eq w (codes "read") then (number_word (2 ^ 8 - 1) args >>= λ k. Some (answer.FaultRead k))
    else (if bytes_eq w (codes "write") then alone answer.FaultWrite args
    else (if bytes_eq w (codes "punch") then (number_word (2 ^ 8 - 1) args >>= λ k. Some (answer.FaultPunch k))
    else (if bytes_eq w (codes "save") then alone answer.FaultSave args
    else None)))

-- the refusals of a call
abbrev pub call_refused_of : List (List ℕ) → Option Answer
call_refused_of args = one_of args >>= λ w. call_word_of w >>= λ r. Some (answer.Refused r)

-- any refusal
abbrev pub refused_of : List (List ℕ) → Option Answer
refused_of args = one_of args >>= λ w. word_of w >>= λ r. Some (answer.Refused r)

-- `links C`, where a file has two or more paths; one that says nothing of them has one
unfoldable pub links_of : List (List ℕ) → Option ℕ
links_of [] = Some 1
links_of (w ∷ args) = do
  _ ← only_if (bytes_eq w (codes "links"))
  links ← number_word (2 ^ 64 - 1) args
  _ ← only_if (nat_le 2 links)
  Some links

-- a file: its length, and how many paths it has
unfoldable pub file_of : List (List ℕ) → Option Answer
file_of [] = None
file_of (w ∷ args) = do
  len ← number_within (2 ^ 64 - 1) w
  links ← links_of args
  Some (answer.File len links)

-- the answers of a call
unfoldable pub call_answer_of : List ℕ → List (List ℕ) → Option Answer
call_answer_of w args =
    if bytes_eq w (codes "ok") then alone answer.Okay args
    else (if bytes_eq w (codes "data") then (data_word args >>= λ bytes. Some (answer.Shown bytes))
    else (if bytes_eq w (codes "at") then with_number answer.At args
    else (if bytes_eq w (codes "len") then with_number answer.Len args
    else (if bytes_eq w (codes "dir") then alone answer.Dir args
    else (if bytes_eq w (codes "file") then file_of args
    else (if bytes_eq w (codes "names") then (each_of name_of args >>= λ names. Some (answer.Names names))
    else (if bytes_eq w (codes "refused") then call_refused_of args
    else None)))))))

-- `scanning 64`
unfoldable pub scanning_of : List (List ℕ) → Option Answer
scanning_of args = do
  w ← one_of args
  _ ← only_if (bytes_eq w (codes "64"))
  Some answer.Scanning

-- the answers to what is asked of files and scans as a whole; any other word is a call's answer
unfoldable pub scan_answer_of : List ℕ → List (List ℕ) → Option Answer
scan_answer_of w args =
    if bytes_eq w (codes "scanning") then scanning_of args
    else (if bytes_eq w (codes "held") then (holder_of args >>= λ h. Some (answer.Held h))
    else (if bytes_eq w (codes "more") then (number_word (2 ^ 8 - 1) args >>= λ n. Some (answer.More n))
    else (if bytes_eq w (codes "done") then alone answer.Done args
    else (if bytes_eq w (codes "collected") then with_number answer.Collected args
    else (if bytes_eq w (codes "saved") then with_number answer.Saved args
    else (if bytes_eq w (codes "tree") then (each_of row_of args >>= λ rows. Some (answer.Tree rows))
    else call_answer_of w args))))))

-- refusals, faults and what is wrong with a line; other words are as above
unfoldable pub wrong_answer_of : List ℕ → List (List ℕ) → Option Answer
wrong_answer_of w args =
    if bytes_eq w (codes "refused") then refused_of args
    else (if bytes_eq w (codes "fault") then fault_of args
    else (if bytes_eq w (codes "damaged") then (number_word (2 ^ 8 - 1) args >>= λ k. Some (answer.Damaged k))
    else (if bytes_eq w (codes "bad") then bad_of args
    else scan_answer_of w args)))

-- the answers that hold no other
unfoldable pub plain_answer_of : List ℕ → List (List ℕ) → Option Answer
plain_answer_of w args =
    if bytes_eq w (codes "begun") then with_number answer.Begun args
    else (if bytes_eq w (codes "committed") then with_number answer.Committed args
    else (if bytes_eq w (codes "retry") then (numbers_of (2 ^ 64 - 1) args >>= λ n. Some (answer.Retry n.0 n.1))
    else (if bytes_eq w (codes "replayed") then (number_word (2 ^ 32 - 1) args >>= λ i. Some (answer.Replayed i))
    else (if bytes_eq w (codes "planned") then alone answer.Planned args
    else (if bytes_eq w (codes "installed") then with_number answer.Installed args
    else (if bytes_eq w (codes "stale") then (numbers_of (2 ^ 64 - 1) args >>= λ n. Some (answer.Stale n.0 n.1))
    else wrong_answer_of w args))))))

-- what a line says: an answer, and where it stands behind `aborted`, the call that answered it
abbrev pub Meant : Type 0
Meant = Option ℕ × Answer

-- `aborted I A`
unfoldable pub aborted_of : List (List ℕ) → Option Meant
aborted_of [] = None
aborted_of (i ∷ []) = None
aborted_of (i ∷ w ∷ args) = number_within (2 ^ 32 - 1) i >>= λ call. call_answer_of w args >>= λ a. Some (Some call, a)

-- a line has a first word always
unfoldable pub said_by : List (List ℕ) → Option Meant
said_by [] = None
said_by (w ∷ args) = if bytes_eq w (codes "aborted") then aborted_of args else (plain_answer_of w args >>= λ a. Some (None, a))

-- what a line says
abbrev pub meant_of : List ℕ → Option Meant
meant_of line = said_by (words_of line)

-- an answer says what was meant
abbrev pub SaysMeant : Meant → Answer → Type 0
SaysMeant (None, a) b = b ≡ a
SaysMeant (Some call, a) b = IsAbortedAt b call a

-- what a function answered says what was meant, unless memory ran out
abbrev pub ReadsAnswer : Result Answer TextError → Option Meant → Type 0
ReadsAnswer (Ok b) (Some m) = SaysMeant m b
ReadsAnswer (Ok b) None = ⊥
ReadsAnswer (Err text_error.NotAnAnswer) m = m ≡ None
ReadsAnswer (Err text_error.Memory) m = Unit {0}

-- what the text of an answer says
abbrev pub meant_by : Answer → Meant
meant_by (Aborted' call box a) = (Some call, a)
meant_by a = (None, a)
