-- What a script's line asks, or the first thing that is wrong with it: one row a verb.
use Rattle.std.specs.Prelude.{ℕ, ◌==◌, Bool, not, ◌&&◌, nat_le, if◌then◌else◌, List, [], ◌∷◌, length, codes, bytes_eq, Result, Ok, Err}
use Rattle.std.specs.List.{list_all, list_any}
use Rattle.wtf_model.specs.declared.answer.Kind.{Kind}
use Rattle.wtf_model.specs.declared.answer.Kind.TheVariants as kind
use Rattle.wtf_model.specs.declared.op.JobKind.{JobKind}
use Rattle.wtf_model.specs.declared.op.JobKind.TheVariants as job
use Rattle.wtf_model.specs.declared.op.Op.{Op}
use Rattle.wtf_model.specs.declared.op.Op.TheVariants as op
use Rattle.wtf_model.specs.declared.op.Seek.{Seek}
use Rattle.wtf_model.specs.declared.op.Seek.TheVariants as to
use Rattle.wtf_model.specs.declared.event.Verb.{Verb}
use Rattle.wtf_model.specs.declared.event.Verb.TheVariants as verb
use Rattle.wtf_model.specs.declared.event.Event.{Event}
use Rattle.wtf_model.specs.declared.event.Event.TheVariants as event
use Rattle.wtf_model.specs.declared.limits.TheConstants.{MAX_SHOWN, SCAN_PARTS}
use Rattle.wtf_script.specs.declared.limits.TheConstants.{LINE_BYTES}
use Rattle.wtf_lex.specs.Words.{words_of}
use Rattle.wtf_script.specs.Counts.{none_of, one_of, two_of, three_of, four_of, two_and_maybe_one, one_and_many}
use Rattle.wtf_script.specs.Arguments.{◌>>=◌, demand, number_of_word, number_from_to, client_of, handle_of, slice_of, job_of, path_of, paths_of, data_of}

-- the arguments of a verb: P
unfoldable pub path_alone : List (List ℕ) → Result (List ℕ) Kind
path_alone args = do
  p ← one_of args
  path_of p

-- P Q
unfoldable pub two_paths : List (List ℕ) → Result (List ℕ × List ℕ) Kind
two_paths args = do
  w ← two_of args
  p ← path_of w.0
  q ← path_of w.1
  Ok (p, q)

-- F
unfoldable pub handle_alone : List (List ℕ) → Result ℕ Kind
handle_alone args = do
  f ← one_of args
  handle_of f

-- F N
unfoldable pub handle_number : List (List ℕ) → Result (ℕ × ℕ) Kind
handle_number args = do
  w ← two_of args
  f ← handle_of w.0
  n ← number_of_word w.1
  Ok (f, n)

-- F DATA
unfoldable pub handle_data : List (List ℕ) → Result (ℕ × List ℕ) Kind
handle_data args = do
  w ← two_of args
  f ← handle_of w.0
  bytes ← data_of w.1
  Ok (f, bytes)

-- F S
unfoldable pub handle_slice : List (List ℕ) → Result (ℕ × ℕ) Kind
handle_slice args = do
  w ← two_of args
  f ← handle_of w.0
  s ← slice_of w.1
  Ok (f, s)

-- open F P
unfoldable pub open_call : List (List ℕ) → Result (Op (List ℕ)) Kind
open_call args = do
  w ← two_of args
  f ← handle_of w.0
  p ← path_of w.1
  Ok (op.Open f p)

-- the third argument of a seek that takes one
unfoldable pub offset_of : List (List ℕ) → Result ℕ Kind
offset_of more = do
  n ← one_of more
  number_of_word n

-- `set N`, `fwd N`, `back N`, `end`
unfoldable pub place_of : List ℕ → List (List ℕ) → Result Seek Kind
place_of way more =
    if bytes_eq way (codes "set") then (offset_of more >>= λ n. Ok (to.Set n))
    else (if bytes_eq way (codes "fwd") then (offset_of more >>= λ n. Ok (to.Fwd n))
    else (if bytes_eq way (codes "back") then (offset_of more >>= λ n. Ok (to.Back n))
    else (if bytes_eq way (codes "end") then (none_of more >>= λ _. Ok to.End)
    else Err kind.Word)))

-- seek F set N, seek F fwd N, seek F back N, seek F end
unfoldable pub seek_call : List (List ℕ) → Result (Op (List ℕ)) Kind
seek_call args = do
  w ← two_and_maybe_one args
  f ← handle_of w.0
  place ← place_of w.1 w.2
  Ok (op.Seek f place)

-- read F N
unfoldable pub read_call : List (List ℕ) → Result (Op (List ℕ)) Kind
read_call args = do
  w ← two_of args
  f ← handle_of w.0
  n ← number_from_to 0 MAX_SHOWN w.1
  Ok (op.Read f n)

-- yank F N S
unfoldable pub yank_call : List (List ℕ) → Result (Op (List ℕ)) Kind
yank_call args = do
  w ← three_of args
  f ← handle_of w.0
  n ← number_of_word w.1
  s ← slice_of w.2
  Ok (op.Yank f n s)

-- peek S OFF N
unfoldable pub peek_call : List (List ℕ) → Result (Op (List ℕ)) Kind
peek_call args = do
  w ← three_of args
  s ← slice_of w.0
  off ← number_of_word w.1
  n ← number_from_to 0 MAX_SHOWN w.2
  Ok (op.Peek s off n)

-- cut S OFF N T
unfoldable pub cut_call : List (List ℕ) → Result (Op (List ℕ)) Kind
cut_call args = do
  w ← four_of args
  s ← slice_of w.0
  off ← number_of_word w.1
  n ← number_of_word w.2
  t ← slice_of w.3
  Ok (op.Cut s off n t)

-- concat Q P, with 1 to 16 paths P
unfoldable pub concat_call : List (List ℕ) → Result (Op (List ℕ)) Kind
concat_call args = do
  w ← one_and_many args
  q ← path_of w.0
  ps ← paths_of w.1
  Ok (op.Concat q ps)

-- the calls on slices; any other word is no verb
unfoldable pub slice_call : List ℕ → List (List ℕ) → Result (Op (List ℕ)) Kind
slice_call word args =
    if bytes_eq word (codes "yank") then yank_call args
    else (if bytes_eq word (codes "peek") then peek_call args
    else (if bytes_eq word (codes "cut") then cut_call args
    else (if bytes_eq word (codes "paste") then (handle_slice args >>= λ w. Ok (op.Paste w.0 w.1))
    else (if bytes_eq word (codes "glue") then (handle_slice args >>= λ w. Ok (op.Glue w.0 w.1))
    else Err kind.Verb))))

-- the calls on the bytes of an open file
unfoldable pub bytes_call : List ℕ → List (List ℕ) → Result (Op (List ℕ)) Kind
bytes_call word args =
    if bytes_eq word (codes "read") then read_call args
    else (if bytes_eq word (codes "write") then (handle_data args >>= λ w. Ok (op.Write w.0 w.1))
    else (if bytes_eq word (codes "append") then (handle_data args >>= λ w. Ok (op.Append w.0 w.1))
    else (if bytes_eq word (codes "truncate") then (handle_number args >>= λ w. Ok (op.Truncate w.0 w.1))
    else (if bytes_eq word (codes "punch") then (handle_number args >>= λ w. Ok (op.Punch w.0 w.1))
    else slice_call word args))))

-- the calls on handles
unfoldable pub handle_call : List ℕ → List (List ℕ) → Result (Op (List ℕ)) Kind
handle_call word args =
    if bytes_eq word (codes "open") then open_call args
    else (if bytes_eq word (codes "close") then (handle_alone args >>= λ f. Ok (op.Close f))
    else (if bytes_eq word (codes "seek") then seek_call args
    else (if bytes_eq word (codes "tell") then (handle_alone args >>= λ f. Ok (op.Tell f))
    else bytes_call word args)))

-- the calls on several paths
unfoldable pub paths_call : List ℕ → List (List ℕ) → Result (Op (List ℕ)) Kind
paths_call word args =
    if bytes_eq word (codes "rename") then (two_paths args >>= λ w. Ok (op.Rename w.0 w.1))
    else (if bytes_eq word (codes "link") then (two_paths args >>= λ w. Ok (op.Link w.0 w.1))
    else (if bytes_eq word (codes "copy") then (two_paths args >>= λ w. Ok (op.Copy w.0 w.1))
    else (if bytes_eq word (codes "concat") then concat_call args
    else handle_call word args)))

-- the calls on one path
unfoldable pub path_call : List ℕ → List (List ℕ) → Result (Op (List ℕ)) Kind
path_call word args =
    if bytes_eq word (codes "mkdir") then (path_alone args >>= λ p. Ok (op.Mkdir p))
    else (if bytes_eq word (codes "rmdir") then (path_alone args >>= λ p. Ok (op.Rmdir p))
    else (if bytes_eq word (codes "create") then (path_alone args >>= λ p. Ok (op.Create p))
    else (if bytes_eq word (codes "unlink") then (path_alone args >>= λ p. Ok (op.Unlink p))
    else (if bytes_eq word (codes "list") then (path_alone args >>= λ p. Ok (op.List p))
    else (if bytes_eq word (codes "stat") then (path_alone args >>= λ p. Ok (op.Stat p))
    else paths_call word args)))))

-- a verb without arguments
unfoldable pub alone : Verb → List (List ℕ) → Result Verb Kind
alone v args = do
  _ ← none_of args
  Ok v

-- the verbs of a client
unfoldable pub verb_of : List ℕ → List (List ℕ) → Result Verb Kind
verb_of word args =
    if bytes_eq word (codes "begin") then alone verb.Begin args
    else (if bytes_eq word (codes "try") then alone verb.Try args
    else (if bytes_eq word (codes "step") then alone verb.Step args
    else (if bytes_eq word (codes "commit") then alone verb.Commit args
    else (if bytes_eq word (codes "abort") then alone verb.Abort args
    else (path_call word args >>= λ o. Ok (verb.Call o))))))

-- `compact`, `spill`
unfoldable pub job_kind_of : List ℕ → Result JobKind Kind
job_kind_of word =
    if bytes_eq word (codes "compact") then Ok job.Compact
    else (if bytes_eq word (codes "spill") then Ok job.Spill
    else Err kind.Word)

-- plan J C P R
unfoldable pub plan_event : List (List ℕ) → Result Event Kind
plan_event args = do
  w ← four_of args
  j ← job_of w.0
  c ← job_kind_of w.1
  p ← path_of w.2
  r ← number_of_word w.3
  Ok (event.Plan j c p r)

-- J
unfoldable pub job_alone : List (List ℕ) → Result ℕ Kind
job_alone args = do
  j ← one_of args
  job_of j

-- K
unfoldable pub number_alone : List (List ℕ) → Result ℕ Kind
number_alone args = do
  k ← one_of args
  number_of_word k

-- piece K
unfoldable pub piece_event : List (List ℕ) → Result Event Kind
piece_event args = do
  k ← one_of args
  n ← number_from_to 1 SCAN_PARTS k
  Ok (event.Piece n)

-- an event without arguments
unfoldable pub event_alone : Event → List (List ℕ) → Result Event Kind
event_alone e args = do
  _ ← none_of args
  Ok e

-- what the system is asked of servers and of all files; any other word is no verb
unfoldable pub system_event : List ℕ → List (List ℕ) → Result Event Kind
system_event word args =
    if bytes_eq word (codes "down") then (number_alone args >>= λ k. Ok (event.Down k))
    else (if bytes_eq word (codes "up") then (number_alone args >>= λ k. Ok (event.Up k))
    else (if bytes_eq word (codes "save") then event_alone event.Save args
    else (if bytes_eq word (codes "dump") then (path_alone args >>= λ p. Ok (event.Dump p))
    else (if bytes_eq word (codes "tree") then event_alone event.Tree args
    else Err kind.Verb))))

-- what the system is asked of jobs and scans
unfoldable pub job_event : List ℕ → List (List ℕ) → Result Event Kind
job_event word args =
    if bytes_eq word (codes "plan") then plan_event args
    else (if bytes_eq word (codes "put") then (job_alone args >>= λ j. Ok (event.Put j))
    else (if bytes_eq word (codes "drop") then (job_alone args >>= λ j. Ok (event.DropJob j))
    else (if bytes_eq word (codes "scan") then event_alone event.Scan args
    else (if bytes_eq word (codes "piece") then piece_event args
    else (if bytes_eq word (codes "collect") then (number_alone args >>= λ k. Ok (event.Collect k))
    else system_event word args)))))

-- what the actor asks: the verb, and its arguments behind it
unfoldable pub event_asked : List ℕ → List (List ℕ) → Result Event Kind
event_asked actor [] = if bytes_eq actor (codes "sys") then Err kind.Verb else (client_of actor >>= λ c. Err kind.Verb)
event_asked actor (word ∷ args) =
    if bytes_eq actor (codes "sys") then job_event word args
    else (client_of actor >>= λ c. verb_of word args >>= λ v. Ok (event.Client c v))

-- a line has a first word always
unfoldable pub words_event : List (List ℕ) → Result Event Kind
words_event [] = Err kind.Actor
words_event (actor ∷ behind) = event_asked actor behind

-- a space or a byte that can be seen, ` ` to `~`
abbrev pub is_printable : ℕ → Bool
is_printable b = nat_le 32 b && nat_le b 126

abbrev pub is_empty_word : List ℕ → Bool
is_empty_word word = length word == 0

-- a line that can be read as words: no space stands at its front, at its end or behind another
unfoldable pub spelled : List ℕ → Result (Unit {0}) Kind
spelled line = do
  _ ← demand (nat_le (length line) LINE_BYTES) kind.Long
  _ ← demand (not (is_empty_word line)) kind.Empty
  _ ← demand (list_all is_printable line) kind.Byte
  demand (not (list_any is_empty_word (words_of line))) kind.Space

-- the event of a line, or the first thing that is wrong with it
unfoldable pub event_of : List ℕ → Result Event Kind
event_of line = do
  _ ← spelled line
  words_event (words_of line)
