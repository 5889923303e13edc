-- The event of a line is in form: each limit of the language holds of it.
use Rattle.std.proofs.Common.{◌≡◌, ℕ, ◌-◌, ◌<◌, ◌≤◌, Bool, true, false, ◌&&◌, nat_le, cond, List, [], ◌∷◌, length, take, drop, codes, bytes_eq, Option, Some, None, Result, Ok, Err, IfSome, IfOk, refl, subst, arith, leb-true}
use Rattle.std.specs.Prelude.{All}
use Rattle.std.proofs.lemmas.Bool.{and_parts}
use Rattle.std.proofs.lemmas.List.Elements.{All-nil, All-cons}
use Rattle.wtf_path.specs.declared.error.PathError.{PathError}
use Rattle.wtf_path.specs.Grammar.{IsPath}
use Rattle.wtf_path.specs.Refusals.{refusal}
use Rattle.wtf_path.proofs.Refused.{path-from_none}
use Rattle.wtf_model.specs.declared.answer.Kind.{Kind}
use Rattle.wtf_model.specs.declared.answer.Kind.TheVariants as kind
use Rattle.wtf_model.specs.declared.op.Op.{Op}
use Rattle.wtf_model.specs.declared.op.Op.TheVariants as op
use Rattle.wtf_model.specs.declared.op.Seek.TheVariants as to
use Rattle.wtf_model.specs.declared.event.Verb.{Verb}
use Rattle.wtf_model.specs.declared.event.Verb.TheVariants as verb
use Rattle.wtf_model.specs.declared.event.Event.{Event}
use Rattle.wtf_model.specs.declared.event.Event.TheVariants as event
use Rattle.wtf_model.specs.declared.limits.TheConstants.{MAX_CLIENTS, MAX_HANDLES, MAX_SLICES, MAX_JOBS, MAX_SHOWN, MAX_WRITTEN, MAX_NUMBER, MAX_SOURCES, SCAN_PARTS}
use Rattle.wtf_model.specs.Form.{IsHandle, IsSlice, IsJob, IsNumber, IsData, IsFormSeek, AreSources, IsFormOp, IsFormVerb, IsFormEvent}
use Rattle.wtf_lex.specs.Numbers.{number_within, value_from, is_numeral}
use Rattle.wtf_script.specs.Counts.{none_of, one_of, two_of, three_of, four_of, two_and_maybe_one, one_and_many}
use Rattle.wtf_script.specs.declared.error.LineError.{LineError}
use Rattle.wtf_lex.specs.Words.{words_of}
use Rattle.wtf_script.specs.Arguments.{AnswersAs, ◌>>=◌, demand, or_wrong, number_of_word, number_from_to, label_of, client_of, handle_of, slice_of, job_of, path_unless, path_of, paths_of, data_form, data_of}
use Rattle.wtf_script.specs.Grammar.{path_alone, two_paths, handle_alone, handle_number, handle_data, handle_slice, open_call, offset_of, place_of, seek_call, read_call, yank_call, peek_call, cut_call, concat_call, slice_call, bytes_call, handle_call, paths_call, path_call, alone, verb_of, job_kind_of, plan_event, job_alone, number_alone, piece_event, event_alone, system_event, job_event, event_asked, words_event, spelled, event_of}

abbrev Form : Op (List ℕ) → Type 0
Form o = IsFormOp IsData o

-- what is made of a value holds to Q, where it does for each value that holds to P
made : {A B : Type 0} (P : A → Type 0) (Q : B → Type 0) (r : Result A Kind) (f : A → Result B Kind) → IfOk r P → ((a : A) → P a → IfOk (f a) Q) → IfOk (r >>= f) Q
made P Q (Err k) f holds each = tt
made P Q (Ok a) f holds each = each a holds

-- the same, for any value
made_of_any : {A B : Type 0} (Q : B → Type 0) (r : Result A Kind) (f : A → Result B Kind) → ((a : A) → IfOk (f a) Q) → IfOk (r >>= f) Q
made_of_any Q (Err k) f each = tt
made_of_any Q (Ok a) f each = each a

either : {A : Type 0} (P : A → Type 0) (t : Bool) (o p : Result A Kind) → IfOk o P → IfOk p P → IfOk (cond t o p) P
either P true o p first second = first
either P false o p first second = second

found : {A : Type 0} (P : A → Type 0) (k : Kind) (o : Option A) → IfSome o P → IfOk (or_wrong k o) P
found P k (Some x) holds = holds
found P k None holds = tt

-- a test that was passed
passed : {B : Type 0} (Q : B → Type 0) (t : Bool) (k : Kind) (f : Unit {0} → Result B Kind) → (t ≡ true → IfOk (f tt) Q) → IfOk (demand t k >>= f) Q
passed Q true k f holds = holds refl
passed Q false k f holds = tt

kept : {A : Type 0} (P : A → Type 0) (t : Bool) (x : A) → (t ≡ true → P x) → IfSome (cond t (Some x) None) P
kept P true x holds = holds refl
kept P false x holds = tt

number_form : (most : ℕ) (word : List ℕ) → IfSome (number_within most word) (λ n. n ≤ most)
number_form most word = kept (λ n. n ≤ most) (is_numeral word && nat_le (value_from 0 word) most) (value_from 0 word)
    (λ e. leb-true (value_from 0 word) most (and_parts (is_numeral word) (nat_le (value_from 0 word) most) e).1)

any_number : (word : List ℕ) → IfOk (number_of_word word) IsNumber
unfolding number_of_word
any_number word = found IsNumber kind.Number (number_within MAX_NUMBER word) (number_form MAX_NUMBER word)

-- a number within limits
within : (least most : ℕ) (word : List ℕ) → IfOk (number_from_to least most word) (λ n. (least ≤ n) × (n ≤ most))
unfolding number_from_to
within least most word = made_of_any (λ n. (least ≤ n) × (n ≤ most)) (number_of_word word) _ (λ n.
    passed (λ n. (least ≤ n) × (n ≤ most)) (nat_le least n && nat_le n most) kind.Limit (λ _. Ok n) (λ e.
    let parts = and_parts (nat_le least n) (nat_le n most) e in (leb-true least n parts.0, leb-true n most parts.1)))

below : (count n : ℕ) → 0 < count → n ≤ count - 1 → n < count
below count n some h = omega arith

either_option : {A : Type 0} (P : A → Type 0) (t : Bool) (o p : Option A) → IfSome o P → IfSome p P → IfSome (cond t o p) P
either_option P true o p first second = first
either_option P false o p first second = second

weaker : {A : Type 0} (P Q : A → Type 0) (o : Option A) → IfSome o P → ((a : A) → P a → Q a) → IfSome o Q
weaker P Q (Some a) holds then = then a holds
weaker P Q None holds then = tt

label_form : (letter : List ℕ) (count : ℕ) (word : List ℕ) → 0 < count → IfSome (label_of letter count word) (λ n. n < count)
label_form letter count word some = either_option (λ n. n < count) (bytes_eq (take 1 word) letter) (number_within (count - 1) (drop 1 word)) None
    (weaker (λ n. n ≤ count - 1) (λ n. n < count) (number_within (count - 1) (drop 1 word)) (number_form (count - 1) (drop 1 word)) (λ n h. below count n some h)) tt

client_form : (word : List ℕ) → IfOk (client_of word) (λ c. c < MAX_CLIENTS)
unfolding client_of
client_form word = found (λ c. c < MAX_CLIENTS) kind.Actor _ (label_form (codes "c") MAX_CLIENTS word (omega arith))

handle_form : (word : List ℕ) → IfOk (handle_of word) IsHandle
unfolding handle_of
handle_form word = found IsHandle kind.Handle _ (label_form (codes "f") MAX_HANDLES word (omega arith))

slice_form : (word : List ℕ) → IfOk (slice_of word) IsSlice
unfolding slice_of
slice_form word = found IsSlice kind.Slice _ (label_form (codes "s") MAX_SLICES word (omega arith))

job_form : (word : List ℕ) → IfOk (job_of word) IsJob
unfolding job_of
job_form word = found IsJob kind.Job _ (label_form (codes "j") MAX_JOBS word (omega arith))

unless_form : (o : Option PathError) (word : List ℕ) → (o ≡ None → IsPath word) → IfOk (path_unless o word) IsPath
unless_form None word holds = holds refl
unless_form (Some why) word holds = tt

path_form : (word : List ℕ) → IfOk (path_of word) IsPath
unfolding path_of
path_form word = unless_form (refusal word) word (path-from_none word)

abbrev ArePaths : ℕ → List (List ℕ) → Type 0
ArePaths n paths = (length paths ≡ n) × All IsPath paths

paths_form : (words : List (List ℕ)) → IfOk (paths_of words) (ArePaths (length words))
unfolding paths_of
paths_form [] = (refl, All-nil IsPath)
paths_form (word ∷ words) =
    made IsPath (ArePaths (length (word ∷ words))) (path_of word) _ (path_form word) (λ path is_path.
    made (ArePaths (length words)) (ArePaths (length (word ∷ words))) (paths_of words) (λ paths. Ok (path ∷ paths)) (paths_form words) (λ paths are.
    (omega (arith, are.0), All-cons IsPath path paths is_path are.1)))

data_limit : (word : List ℕ) → IfOk (data_of word) IsData
unfolding data_of
data_limit word = made_of_any IsData (or_wrong kind.DataForm (data_form (take 2 word) (drop 2 word))) _ (λ bytes.
    passed IsData (nat_le (length bytes) MAX_WRITTEN) kind.Limit (λ _. Ok bytes) (λ e. leb-true (length bytes) MAX_WRITTEN e))

-- the arguments of verbs
path_alone_form : (args : List (List ℕ)) → IfOk (path_alone args) IsPath
unfolding path_alone
path_alone_form args = made_of_any IsPath (one_of args) _ (λ p. path_form p)

two_paths_form : (args : List (List ℕ)) → IfOk (two_paths args) (λ w. IsPath w.0 × IsPath w.1)
unfolding two_paths
two_paths_form args = made_of_any (λ w. IsPath w.0 × IsPath w.1) (two_of args) _ (λ w.
    made IsPath (λ w. IsPath w.0 × IsPath w.1) (path_of w.0) _ (path_form w.0) (λ p p_is.
    made IsPath (λ w. IsPath w.0 × IsPath w.1) (path_of w.1) (λ q. Ok (p, q)) (path_form w.1) (λ q q_is. (p_is, q_is))))

handle_alone_form : (args : List (List ℕ)) → IfOk (handle_alone args) IsHandle
unfolding handle_alone
handle_alone_form args = made_of_any IsHandle (one_of args) _ (λ f. handle_form f)

handle_number_form : (args : List (List ℕ)) → IfOk (handle_number args) (λ w. IsHandle w.0 × IsNumber w.1)
unfolding handle_number
handle_number_form args = made_of_any (λ w. IsHandle w.0 × IsNumber w.1) (two_of args) _ (λ w.
    made IsHandle (λ w. IsHandle w.0 × IsNumber w.1) (handle_of w.0) _ (handle_form w.0) (λ f f_is.
    made IsNumber (λ w. IsHandle w.0 × IsNumber w.1) (number_of_word w.1) (λ n. Ok (f, n)) (any_number w.1) (λ n n_is. (f_is, n_is))))

handle_data_form : (args : List (List ℕ)) → IfOk (handle_data args) (λ w. IsHandle w.0 × IsData w.1)
unfolding handle_data
handle_data_form args = made_of_any (λ w. IsHandle w.0 × IsData w.1) (two_of args) _ (λ w.
    made IsHandle (λ w. IsHandle w.0 × IsData w.1) (handle_of w.0) _ (handle_form w.0) (λ f f_is.
    made IsData (λ w. IsHandle w.0 × IsData w.1) (data_of w.1) (λ bytes. Ok (f, bytes)) (data_limit w.1) (λ bytes is. (f_is, is))))

handle_slice_form : (args : List (List ℕ)) → IfOk (handle_slice args) (λ w. IsHandle w.0 × IsSlice w.1)
unfolding handle_slice
handle_slice_form args = made_of_any (λ w. IsHandle w.0 × IsSlice w.1) (two_of args) _ (λ w.
    made IsHandle (λ w. IsHandle w.0 × IsSlice w.1) (handle_of w.0) _ (handle_form w.0) (λ f f_is.
    made IsSlice (λ w. IsHandle w.0 × IsSlice w.1) (slice_of w.1) (λ s. Ok (f, s)) (slice_form w.1) (λ s s_is. (f_is, s_is))))

open_form : (args : List (List ℕ)) → IfOk (open_call args) Form
unfolding open_call
open_form args = made_of_any Form (two_of args) _ (λ w.
    made IsHandle Form (handle_of w.0) _ (handle_form w.0) (λ f f_is.
    made IsPath Form (path_of w.1) (λ p. Ok (op.Open f p)) (path_form w.1) (λ p p_is. (f_is, p_is))))

offset_form : (more : List (List ℕ)) → IfOk (offset_of more) IsNumber
unfolding offset_of
offset_form more = made_of_any IsNumber (one_of more) _ (λ n. any_number n)

place_form : (way : List ℕ) (more : List (List ℕ)) → IfOk (place_of way more) IsFormSeek
unfolding place_of
place_form way more =
    either IsFormSeek (bytes_eq way (codes "set")) _ _ (made IsNumber IsFormSeek (offset_of more) (λ n. Ok (to.Set n)) (offset_form more) (λ n is. is))
    (either IsFormSeek (bytes_eq way (codes "fwd")) _ _ (made IsNumber IsFormSeek (offset_of more) (λ n. Ok (to.Fwd n)) (offset_form more) (λ n is. is))
    (either IsFormSeek (bytes_eq way (codes "back")) _ _ (made IsNumber IsFormSeek (offset_of more) (λ n. Ok (to.Back n)) (offset_form more) (λ n is. is))
    (either IsFormSeek (bytes_eq way (codes "end")) _ (Err kind.Word) (made_of_any IsFormSeek (none_of more) (λ _. Ok to.End) (λ _. tt)) tt)))

seek_form : (args : List (List ℕ)) → IfOk (seek_call args) Form
unfolding seek_call
seek_form args = made_of_any Form (two_and_maybe_one args) _ (λ w.
    made IsHandle Form (handle_of w.0) _ (handle_form w.0) (λ f f_is.
    made IsFormSeek Form (place_of w.1 w.2) (λ place. Ok (op.Seek f place)) (place_form w.1 w.2) (λ place is. (f_is, is))))

read_form : (args : List (List ℕ)) → IfOk (read_call args) Form
unfolding read_call
read_form args = made_of_any Form (two_of args) _ (λ w.
    made IsHandle Form (handle_of w.0) _ (handle_form w.0) (λ f f_is.
    made (λ n. (0 ≤ n) × (n ≤ MAX_SHOWN)) Form (number_from_to 0 MAX_SHOWN w.1) (λ n. Ok (op.Read f n)) (within 0 MAX_SHOWN w.1) (λ n is. (f_is, is.1))))

yank_form : (args : List (List ℕ)) → IfOk (yank_call args) Form
unfolding yank_call
yank_form args = made_of_any Form (three_of args) _ (λ w.
    made IsHandle Form (handle_of w.0) _ (handle_form w.0) (λ f f_is.
    made IsNumber Form (number_of_word w.1) _ (any_number w.1) (λ n n_is.
    made IsSlice Form (slice_of w.2) (λ s. Ok (op.Yank f n s)) (slice_form w.2) (λ s s_is. (f_is, n_is, s_is)))))

peek_form : (args : List (List ℕ)) → IfOk (peek_call args) Form
unfolding peek_call
peek_form args = made_of_any Form (three_of args) _ (λ w.
    made IsSlice Form (slice_of w.0) _ (slice_form w.0) (λ s s_is.
    made IsNumber Form (number_of_word w.1) _ (any_number w.1) (λ off off_is.
    made (λ n. (0 ≤ n) × (n ≤ MAX_SHOWN)) Form (number_from_to 0 MAX_SHOWN w.2) (λ n. Ok (op.Peek s off n)) (within 0 MAX_SHOWN w.2) (λ n is. (s_is, off_is, is.1)))))

cut_form : (args : List (List ℕ)) → IfOk (cut_call args) Form
unfolding cut_call
cut_form args = made_of_any Form (four_of args) _ (λ w.
    made IsSlice Form (slice_of w.0) _ (slice_form w.0) (λ s s_is.
    made IsNumber Form (number_of_word w.1) _ (any_number w.1) (λ off off_is.
    made IsNumber Form (number_of_word w.2) _ (any_number w.2) (λ n n_is.
    made IsSlice Form (slice_of w.3) (λ t. Ok (op.Cut s off n t)) (slice_form w.3) (λ t t_is. (s_is, off_is, n_is, t_is))))))

abbrev AreMany : List ℕ × List (List ℕ) → Type 0
AreMany w = (1 ≤ length w.1) × (length w.1 ≤ MAX_SOURCES)

many_of : (t : Bool) (a : List ℕ) (more : List (List ℕ)) → (t ≡ true → AreMany (a, more)) → IfOk (cond t (Ok (a, more)) (Err kind.Count)) AreMany
many_of true a more holds = holds refl
many_of false a more holds = tt

many_form : (args : List (List ℕ)) → IfOk (one_and_many args) AreMany
many_form [] = tt
many_form (a ∷ more) = many_of (nat_le 1 (length more) && nat_le (length more) MAX_SOURCES) a more (λ e.
    let parts = and_parts (nat_le 1 (length more)) (nat_le (length more) MAX_SOURCES) e in
    (leb-true 1 (length more) parts.0, leb-true (length more) MAX_SOURCES parts.1))

sources : (n : ℕ) (paths : List (List ℕ)) → 1 ≤ n → n ≤ MAX_SOURCES → ArePaths n paths → AreSources paths
sources n paths some most are = (omega (arith, are.0), omega (arith, are.0), are.1)

concat_form : (args : List (List ℕ)) → IfOk (concat_call args) Form
unfolding concat_call
concat_form args = made AreMany Form (one_and_many args) _ (many_form args) (λ w many.
    made IsPath Form (path_of w.0) _ (path_form w.0) (λ q q_is.
    made (ArePaths (length w.1)) Form (paths_of w.1) (λ ps. Ok (op.Concat q ps)) (paths_form w.1) (λ ps are.
    (q_is, sources (length w.1) ps many.0 many.1 are))))

slice_call_form : (word : List ℕ) (args : List (List ℕ)) → IfOk (slice_call word args) Form
unfolding slice_call
slice_call_form word args =
    either Form (bytes_eq word (codes "yank")) _ _ (yank_form args)
    (either Form (bytes_eq word (codes "peek")) _ _ (peek_form args)
    (either Form (bytes_eq word (codes "cut")) _ _ (cut_form args)
    (either Form (bytes_eq word (codes "paste")) _ _ (made (λ w. IsHandle w.0 × IsSlice w.1) Form (handle_slice args) (λ w. Ok (op.Paste w.0 w.1)) (handle_slice_form args) (λ w is. (is.0, is.1)))
    (either Form (bytes_eq word (codes "glue")) _ (Err kind.Verb) (made (λ w. IsHandle w.0 × IsSlice w.1) Form (handle_slice args) (λ w. Ok (op.Glue w.0 w.1)) (handle_slice_form args) (λ w is. (is.0, is.1)))
    tt))))

bytes_call_form : (word : List ℕ) (args : List (List ℕ)) → IfOk (bytes_call word args) Form
unfolding bytes_call
bytes_call_form word args =
    either Form (bytes_eq word (codes "read")) _ _ (read_form args)
    (either Form (bytes_eq word (codes "write")) _ _ (made (λ w. IsHandle w.0 × IsData w.1) Form (handle_data args) (λ w. Ok (op.Write w.0 w.1)) (handle_data_form args) (λ w is. (is.0, is.1)))
    (either Form (bytes_eq word (codes "append")) _ _ (made (λ w. IsHandle w.0 × IsData w.1) Form (handle_data args) (λ w. Ok (op.Append w.0 w.1)) (handle_data_form args) (λ w is. (is.0, is.1)))
    (either Form (bytes_eq word (codes "truncate")) _ _ (made (λ w. IsHandle w.0 × IsNumber w.1) Form (handle_number args) (λ w. Ok (op.Truncate w.0 w.1)) (handle_number_form args) (λ w is. (is.0, is.1)))
    (either Form (bytes_eq word (codes "punch")) _ (slice_call word args) (made (λ w. IsHandle w.0 × IsNumber w.1) Form (handle_number args) (λ w. Ok (op.Punch w.0 w.1)) (handle_number_form args) (λ w is. (is.0, is.1)))
    (slice_call_form word args)))))

handle_call_form : (word : List ℕ) (args : List (List ℕ)) → IfOk (handle_call word args) Form
unfolding handle_call
handle_call_form word args =
    either Form (bytes_eq word (codes "open")) _ _ (open_form args)
    (either Form (bytes_eq word (codes "close")) _ _ (made IsHandle Form (handle_alone args) (λ f. Ok (op.Close f)) (handle_alone_form args) (λ f is. is))
    (either Form (bytes_eq word (codes "seek")) _ _ (seek_form args)
    (either Form (bytes_eq word (codes "tell")) _ (bytes_call word args) (made IsHandle Form (handle_alone args) (λ f. Ok (op.Tell f)) (handle_alone_form args) (λ f is. is))
    (bytes_call_form word args))))

paths_call_form : (word : List ℕ) (args : List (List ℕ)) → IfOk (paths_call word args) Form
unfolding paths_call
paths_call_form word args =
    either Form (bytes_eq word (codes "rename")) _ _ (made (λ w. IsPath w.0 × IsPath w.1) Form (two_paths args) (λ w. Ok (op.Rename w.0 w.1)) (two_paths_form args) (λ w is. (is.0, is.1)))
    (either Form (bytes_eq word (codes "link")) _ _ (made (λ w. IsPath w.0 × IsPath w.1) Form (two_paths args) (λ w. Ok (op.Link w.0 w.1)) (two_paths_form args) (λ w is. (is.0, is.1)))
    (either Form (bytes_eq word (codes "copy")) _ _ (made (λ w. IsPath w.0 × IsPath w.1) Form (two_paths args) (λ w. Ok (op.Copy w.0 w.1)) (two_paths_form args) (λ w is. (is.0, is.1)))
    (either Form (bytes_eq word (codes "concat")) _ (handle_call word args) (concat_form args)
    (handle_call_form word args))))

path_call_form : (word : List ℕ) (args : List (List ℕ)) → IfOk (path_call word args) Form
unfolding path_call
path_call_form word args =
    either Form (bytes_eq word (codes "mkdir")) _ _ (made IsPath Form (path_alone args) (λ p. Ok (op.Mkdir p)) (path_alone_form args) (λ p is. is))
    (either Form (bytes_eq word (codes "rmdir")) _ _ (made IsPath Form (path_alone args) (λ p. Ok (op.Rmdir p)) (path_alone_form args) (λ p is. is))
    (either Form (bytes_eq word (codes "create")) _ _ (made IsPath Form (path_alone args) (λ p. Ok (op.Create p)) (path_alone_form args) (λ p is. is))
    (either Form (bytes_eq word (codes "unlink")) _ _ (made IsPath Form (path_alone args) (λ p. Ok (op.Unlink p)) (path_alone_form args) (λ p is. is))
    (either Form (bytes_eq word (codes "list")) _ _ (made IsPath Form (path_alone args) (λ p. Ok (op.List p)) (path_alone_form args) (λ p is. is))
    (either Form (bytes_eq word (codes "stat")) _ (paths_call word args) (made IsPath Form (path_alone args) (λ p. Ok (op.Stat p)) (path_alone_form args) (λ p is. is))
    (paths_call_form word args))))))

alone_form : (v : Verb) (args : List (List ℕ)) → IsFormVerb v → IfOk (alone v args) IsFormVerb
unfolding alone
alone_form v args holds = made_of_any IsFormVerb (none_of args) (λ _. Ok v) (λ _. holds)

verb_form : (word : List ℕ) (args : List (List ℕ)) → IfOk (verb_of word args) IsFormVerb
unfolding verb_of
verb_form word args =
    either IsFormVerb (bytes_eq word (codes "begin")) _ _ (alone_form verb.Begin args tt)
    (either IsFormVerb (bytes_eq word (codes "try")) _ _ (alone_form verb.Try args tt)
    (either IsFormVerb (bytes_eq word (codes "step")) _ _ (alone_form verb.Step args tt)
    (either IsFormVerb (bytes_eq word (codes "commit")) _ _ (alone_form verb.Commit args tt)
    (either IsFormVerb (bytes_eq word (codes "abort")) _ _ (alone_form verb.Abort args tt)
    (made Form IsFormVerb (path_call word args) (λ o. Ok (verb.Call o)) (path_call_form word args) (λ o is. is))))))

plan_form : (args : List (List ℕ)) → IfOk (plan_event args) IsFormEvent
unfolding plan_event
plan_form args = made_of_any IsFormEvent (four_of args) _ (λ w.
    made IsJob IsFormEvent (job_of w.0) _ (job_form w.0) (λ j j_is.
    made_of_any IsFormEvent (job_kind_of w.1) _ (λ c.
    made IsPath IsFormEvent (path_of w.2) _ (path_form w.2) (λ p p_is.
    made IsNumber IsFormEvent (number_of_word w.3) (λ r. Ok (event.Plan j c p r)) (any_number w.3) (λ r r_is. (j_is, p_is, r_is))))))

job_alone_form : (args : List (List ℕ)) → IfOk (job_alone args) IsJob
unfolding job_alone
job_alone_form args = made_of_any IsJob (one_of args) _ (λ j. job_form j)

number_alone_form : (args : List (List ℕ)) → IfOk (number_alone args) IsNumber
unfolding number_alone
number_alone_form args = made_of_any IsNumber (one_of args) _ (λ k. any_number k)

piece_form : (args : List (List ℕ)) → IfOk (piece_event args) IsFormEvent
unfolding piece_event
piece_form args = made_of_any IsFormEvent (one_of args) _ (λ k.
    made (λ n. (1 ≤ n) × (n ≤ SCAN_PARTS)) IsFormEvent (number_from_to 1 SCAN_PARTS k) (λ n. Ok (event.Piece n)) (within 1 SCAN_PARTS k) (λ n is. (is.0, is.1)))

event_alone_form : (e : Event) (args : List (List ℕ)) → IsFormEvent e → IfOk (event_alone e args) IsFormEvent
unfolding event_alone
event_alone_form e args holds = made_of_any IsFormEvent (none_of args) (λ _. Ok e) (λ _. holds)

system_event_form : (word : List ℕ) (args : List (List ℕ)) → IfOk (system_event word args) IsFormEvent
unfolding system_event
system_event_form word args =
    either IsFormEvent (bytes_eq word (codes "down")) _ _ (made IsNumber IsFormEvent (number_alone args) (λ k. Ok (event.Down k)) (number_alone_form args) (λ k is. is))
    (either IsFormEvent (bytes_eq word (codes "up")) _ _ (made IsNumber IsFormEvent (number_alone args) (λ k. Ok (event.Up k)) (number_alone_form args) (λ k is. is))
    (either IsFormEvent (bytes_eq word (codes "save")) _ _ (event_alone_form event.Save args tt)
    (either IsFormEvent (bytes_eq word (codes "dump")) _ _ (made IsPath IsFormEvent (path_alone args) (λ p. Ok (event.Dump p)) (path_alone_form args) (λ p is. is))
    (either IsFormEvent (bytes_eq word (codes "tree")) _ (Err kind.Verb) (event_alone_form event.Tree args tt)
    tt))))

job_event_form : (word : List ℕ) (args : List (List ℕ)) → IfOk (job_event word args) IsFormEvent
unfolding job_event
job_event_form word args =
    either IsFormEvent (bytes_eq word (codes "plan")) _ _ (plan_form args)
    (either IsFormEvent (bytes_eq word (codes "put")) _ _ (made IsJob IsFormEvent (job_alone args) (λ j. Ok (event.Put j)) (job_alone_form args) (λ j is. is))
    (either IsFormEvent (bytes_eq word (codes "drop")) _ _ (made IsJob IsFormEvent (job_alone args) (λ j. Ok (event.DropJob j)) (job_alone_form args) (λ j is. is))
    (either IsFormEvent (bytes_eq word (codes "scan")) _ _ (event_alone_form event.Scan args tt)
    (either IsFormEvent (bytes_eq word (codes "piece")) _ _ (piece_form args)
    (either IsFormEvent (bytes_eq word (codes "collect")) _ (system_event word args) (made IsNumber IsFormEvent (number_alone args) (λ k. Ok (event.Collect k)) (number_alone_form args) (λ k is. is))
    (system_event_form word args))))))

pub asked_form : (actor : List ℕ) (behind : List (List ℕ)) → IfOk (event_asked actor behind) IsFormEvent
unfolding event_asked
asked_form actor [] =
    either IsFormEvent (bytes_eq actor (codes "sys")) (Err kind.Verb) _ tt (made_of_any IsFormEvent (client_of actor) (λ c. Err kind.Verb) (λ c. tt))
asked_form actor (word ∷ args) =
    either IsFormEvent (bytes_eq actor (codes "sys")) (job_event word args) _ (job_event_form word args)
    (made (λ c. c < MAX_CLIENTS) IsFormEvent (client_of actor) _ (client_form actor) (λ c c_is.
    made IsFormVerb IsFormEvent (verb_of word args) (λ v. Ok (event.Client c v)) (verb_form word args) (λ v is. (c_is, is))))

words_event_form : (words : List (List ℕ)) → IfOk (words_event words) IsFormEvent
unfolding words_event
words_event_form [] = tt
words_event_form (actor ∷ behind) = asked_form actor behind

-- the event of each line is in form
pub event_form : (line : List ℕ) → IfOk (event_of line) IsFormEvent
unfolding event_of
event_form line = made_of_any IsFormEvent (spelled line) (λ _. words_event (words_of line)) (λ _. words_event_form (words_of line))

-- what was answered to such a line is in form too
pub given_form : (r : Result Event LineError) (meant : Result Event Kind) → AnswersAs r meant → IfOk meant IsFormEvent → IfOk r IsFormEvent
given_form (Ok e) (Ok f) same holds = subst IsFormEvent (cc) holds
given_form (Ok e) (Err k) same holds = cc
given_form (Err e) meant same holds = tt
