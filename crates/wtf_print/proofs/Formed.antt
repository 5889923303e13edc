-- What a line says is in form.
use Rattle.std.proofs.Common.{◌≡◌, ◌≢◌, ℕ, ◌-◌, ◌^◌, ◌<◌, ◌≤◌, Bool, true, false, not, ◌&&◌, nat_le, cond, List, [], ◌∷◌, take, drop, codes, bytes_eq, refl, sym, subst, arith, leb-true, Option, Some, None, Result, Ok, Err, IfSome}
use Rattle.std.specs.Prelude.{All}
use Rattle.std.specs.List.{list_all}
use Rattle.std.specs.Bool.{MatchBool}
use Rattle.std.proofs.lemmas.Bool.{and_parts}
use Rattle.std.proofs.lemmas.Bool.Decides.{nat_tests}
use Rattle.std.proofs.lemmas.List.Elements.{All-nil, All-cons, All-weaker}
use Rattle.std.proofs.lemmas.List.Sums.{AllPass-from_list_all}
use Rattle.hex.specs.Hex.{IsBytes, decode_of}
use Rattle.hex.specs.declared.error.FromHexError.{FromHexError}
use Rattle.hex.proofs.HexLemmas.{decode_of-ok}
use Rattle.wtf_path.specs.Grammar.{IsName, IsPath}
use Rattle.wtf_path.specs.Parts.{is_slash}
use Rattle.wtf_path.specs.declared.error.PathError.{PathError}
use Rattle.wtf_path.specs.Refusals.{refusal, is_graphic, is_dot_name}
use Rattle.wtf_path.proofs.Refused.{path-from_none}
use Rattle.wtf_lex.specs.Words.{words_of}
use Rattle.wtf_lex.specs.Numbers.{is_numeral, value_from, number_within}
use Rattle.wtf_model.specs.declared.answer.Word.{Word}
use Rattle.wtf_model.specs.declared.answer.Kind.TheVariants as kind
use Rattle.wtf_model.specs.declared.event.Holder.TheVariants as holder
use Rattle.wtf_model.specs.declared.limits.TheConstants.{MAX_CLIENTS, MAX_JOBS}
use Rattle.wtf_model.specs.declared.answer.Answer.{Answer, Aborted'}
use Rattle.wtf_model.specs.declared.answer.Answer.TheVariants as answer
use Rattle.wtf_model.specs.Steps.{is_call_refusal, IsLogged}
use Rattle.wtf_print.specs.Forms.{IsRow, IsHolder, IsKind, IsPlain, IsWritable}
use Rattle.wtf_print.specs.Pieces.{◌>>=◌, only_if, none_of, one_of, two_of, number_word, numbers_of, hex_decoded, data_word, holder_by, holder_of, is_name_byte, name_of, path_unless, path_of, cut_last, file_row_of, row_of, each_of}
use Rattle.wtf_print.specs.Reading.{call_word_of, word_of, kind_of, path_kind_of, bad_of, fault_of, alone, call_refused_of, refused_of, links_of, file_of}
use Rattle.wtf_print.specs.Reading.{call_answer_of, scanning_of, scan_answer_of, wrong_answer_of, plain_answer_of, Meant, aborted_of, said_by, meant_of}
use Rattle.wtf_print.specs.Reading.{SaysMeant, ReadsAnswer}
use Rattle.wtf_print.proofs.Plain.{plain-writable}

-- what is made of a value holds to Q, where it does for each value that holds to P
made : {A B : Type 0} (P : A → Type 0) (Q : B → Type 0) (o : Option A) (f : A → Option B) → IfSome o P → ((a : A) → P a → IfSome (f a) Q) → IfSome (o >>= f) Q
made P Q None f holds each = tt
made P Q (Some a) f holds each = each a holds

-- the same, for any value
made_of_any : {A B : Type 0} (Q : B → Type 0) (o : Option A) (f : A → Option B) → ((a : A) → IfSome (f a) Q) → IfSome (o >>= f) Q
made_of_any Q None f each = tt
made_of_any Q (Some a) f each = each a

either : {A : Type 0} (P : A → Type 0) (t : Bool) (o p : Option A) → IfSome o P → IfSome p P → IfSome (cond t o p) P
either P true o p first second = first
either P false o p first second = second

kept : {A : Type 0} (P : A → Type 0) (t : Bool) (x : A) → (t ≡ true → P x) → IfSome (cond t (Some x) None) P
kept P true x holds = holds refl
kept P false x holds = tt

-- a test that was passed
passed : {B : Type 0} (Q : B → Type 0) (t : Bool) (f : Unit {0} → Option B) → (t ≡ true → IfSome (f tt) Q) → IfSome (only_if t >>= f) Q
passed Q true f holds = holds refl
passed Q false f holds = tt

-- ---- pieces

within : (most : ℕ) (word : List ℕ) → IfSome (number_within most word) (λ n. n ≤ most)
within most word = kept (λ n. n ≤ most) (is_numeral word && nat_le (value_from 0 word) most) (value_from 0 word)
    (λ e. leb-true (value_from 0 word) most (and_parts (is_numeral word) (nat_le (value_from 0 word) most) e).1)

number_form : (most : ℕ) (words : List (List ℕ)) → IfSome (number_word most words) (λ n. n ≤ most)
unfolding number_word
number_form most words = made_of_any (λ n. n ≤ most) (one_of words) _ (λ w. within most w)

numbers_form : (most : ℕ) (words : List (List ℕ)) → IfSome (numbers_of most words) (λ n. (n.0 ≤ most) × (n.1 ≤ most))
unfolding numbers_of
numbers_form most words = made_of_any (λ n. (n.0 ≤ most) × (n.1 ≤ most)) (two_of words) _ (λ w.
    made (λ a. a ≤ most) (λ n. (n.0 ≤ most) × (n.1 ≤ most)) (number_within most w.0) _ (within most w.0) (λ a a_is.
    made (λ b. b ≤ most) (λ n. (n.0 ≤ most) × (n.1 ≤ most)) (number_within most w.1) (λ b. Some (a, b)) (within most w.1) (λ b b_is. (a_is, b_is))))

decoded_form : (digits : List ℕ) (r : Result (List ℕ) FromHexError) → decode_of digits ≡ r → IfSome (hex_decoded r) IsBytes
decoded_form digits (Ok bytes) e = (decode_of-ok digits bytes e).3
decoded_form digits (Err why) e = tt

bytes_form : (words : List (List ℕ)) → IfSome (data_word words) IsBytes
unfolding data_word
bytes_form words = made_of_any IsBytes (one_of words) _ (λ w.
    passed IsBytes (bytes_eq (take 2 w) (codes "x:")) _ (λ e. decoded_form (drop 2 w) (decode_of (drop 2 w)) refl))

holder_by_form : (letter digits : List ℕ) → IfSome (holder_by letter digits) IsHolder
holder_by_form letter digits =
    either IsHolder (bytes_eq letter (codes "c")) _ _
    (made (λ n. n ≤ MAX_CLIENTS - 1) IsHolder (number_within (MAX_CLIENTS - 1) digits) (λ n. Some (holder.Client n)) (within (MAX_CLIENTS - 1) digits) (λ n h. omega (arith, h)))
    (either IsHolder (bytes_eq letter (codes "j")) _ None
    (made (λ n. n ≤ MAX_JOBS - 1) IsHolder (number_within (MAX_JOBS - 1) digits) (λ n. Some (holder.Job n)) (within (MAX_JOBS - 1) digits) (λ n h. omega (arith, h)))
    tt)

holder_form : (words : List (List ℕ)) → IfSome (holder_of words) IsHolder
unfolding holder_of
holder_form words = made_of_any IsHolder (one_of words) _ (λ w. holder_by_form (take 1 w) (drop 1 w))

abbrev IsNameByte : ℕ → Type 0
IsNameByte b = (33 ≤ b) × (b ≤ 126) × (b ≢ 47)

range-from_graphic : (b : ℕ) → is_graphic b ≡ true → (33 ≤ b) × (b ≤ 126)
range-from_graphic b h = grind (arith, nat_tests)

name_byte-from_test : (b : ℕ) → is_name_byte b ≡ true → IsNameByte b
name_byte-from_test b h =
    let parts = and_parts (is_graphic b) (not (is_slash b)) h in
    let range = range-from_graphic b parts.0 in
    (range.0, range.1, λ e. let k : not (is_slash 47) ≡ true = rw e at parts.1 in cc)

name-from_test : (n : List ℕ) → not (is_dot_name n) && list_all is_name_byte n ≡ true → IsName n
name-from_test n h =
    let parts = and_parts (not (is_dot_name n)) (list_all is_name_byte n) h in
    record {
      some = λ e. let k : not (is_dot_name []) ≡ true = rw e at parts.0 in cc;
      not_dot = λ e. let k : not (is_dot_name (codes ".")) ≡ true = rw e at parts.0 in cc;
      not_dot_dot = λ e. let k : not (is_dot_name (codes "..")) ≡ true = rw e at parts.0 in cc;
      bytes = All-weaker (λ b. is_name_byte b ≡ true) IsNameByte name_byte-from_test n (AllPass-from_list_all is_name_byte n parts.1);
    }

name_form : (word : List ℕ) → IfSome (name_of word) IsName
unfolding name_of
name_form word = kept IsName (not (is_dot_name word) && list_all is_name_byte word) word (name-from_test word)

unless_form : (o : Option PathError) (word : List ℕ) → refusal word ≡ o → IfSome (path_unless o word) IsPath
unless_form None word e = path-from_none word e
unless_form (Some why) word e = tt

path_form : (word : List ℕ) → IfSome (path_of word) IsPath
unfolding path_of
path_form word = unless_form (refusal word) word refl

file_row_form : (text : List ℕ) → IfSome (file_row_of text) IsRow
unfolding file_row_of
file_row_form text = made_of_any IsRow (cut_last text) _ (λ cut.
    made IsPath IsRow (path_of cut.0) _ (path_form cut.0) (λ p p_is.
    made (λ n. n ≤ 2 ^ 64 - 1) IsRow (number_within (2 ^ 64 - 1) cut.1) _ (within (2 ^ 64 - 1) cut.1) (λ n n_is. (p_is, omega (arith, n_is)))))

row_form : (word : List ℕ) → IfSome (row_of word) IsRow
unfolding row_of
row_form word =
    either IsRow (bytes_eq (take 2 word) (codes "d:")) _ _ (made IsPath IsRow (path_of (drop 2 word)) _ (path_form (drop 2 word)) (λ p p_is. (p_is, tt)))
    (either IsRow (bytes_eq (take 2 word) (codes "f:")) (file_row_of (drop 2 word)) None (file_row_form (drop 2 word)) tt)

each_form : {A : Type 0} (P : A → Type 0) (read : List ℕ → Option A) → ((w : List ℕ) → IfSome (read w) P) → (ws : List (List ℕ)) → IfSome (each_of read ws) (All P)
each_form P read one [] = All-nil P
each_form P read one (w ∷ ws) =
    made P (All P) (read w) _ (one w) (λ x x_is.
    made (All P) (All P) (each_of read ws) (λ xs. Some (x ∷ xs)) (each_form P read one ws) (λ xs xs_are. All-cons P x xs x_is xs_are))

-- ---- refusals and what is wrong with a line

abbrev IsCallWord : Word → Type 0
IsCallWord w = is_call_refusal w ≡ true

call_word_form : (w : List ℕ) → IfSome (call_word_of w) IsCallWord
unfolding call_word_of
call_word_form w =
    either IsCallWord (bytes_eq w (codes "exists")) _ _ refl
    (either IsCallWord (bytes_eq w (codes "noparent")) _ _ refl
    (either IsCallWord (bytes_eq w (codes "noent")) _ _ refl
    (either IsCallWord (bytes_eq w (codes "notdir")) _ _ refl
    (either IsCallWord (bytes_eq w (codes "root")) _ _ refl
    (either IsCallWord (bytes_eq w (codes "notempty")) _ _ refl
    (either IsCallWord (bytes_eq w (codes "isdir")) _ _ refl
    (either IsCallWord (bytes_eq w (codes "busy")) _ _ refl
    (either IsCallWord (bytes_eq w (codes "inuse")) _ _ refl
    (either IsCallWord (bytes_eq w (codes "nohandle")) _ _ refl
    (either IsCallWord (bytes_eq w (codes "range")) _ _ refl
    (either IsCallWord (bytes_eq w (codes "toobig")) _ _ refl
    (either IsCallWord (bytes_eq w (codes "noslice")) _ None refl
    tt))))))))))))

kind_form : (w : List ℕ) → IfSome (kind_of w) IsKind
unfolding kind_of
kind_form w =
    either IsKind (bytes_eq w (codes "long")) _ _ tt
    (either IsKind (bytes_eq w (codes "empty")) _ _ tt
    (either IsKind (bytes_eq w (codes "byte")) _ _ tt
    (either IsKind (bytes_eq w (codes "space")) _ _ tt
    (either IsKind (bytes_eq w (codes "actor")) _ _ tt
    (either IsKind (bytes_eq w (codes "verb")) _ _ tt
    (either IsKind (bytes_eq w (codes "count")) _ _ tt
    (either IsKind (bytes_eq w (codes "handle")) _ _ tt
    (either IsKind (bytes_eq w (codes "slice")) _ _ tt
    (either IsKind (bytes_eq w (codes "job")) _ _ tt
    (either IsKind (bytes_eq w (codes "number")) _ _ tt
    (either IsKind (bytes_eq w (codes "limit")) _ _ tt
    (either IsKind (bytes_eq w (codes "data")) _ _ tt
    (either IsKind (bytes_eq w (codes "word")) _ None tt
    tt)))))))))))))

path_kind_form : (args : List (List ℕ)) → IfSome (path_kind_of args) IsKind
unfolding path_kind_of
path_kind_form args = made (λ n. n ≤ 6) IsKind (number_word 6 args) _ (number_form 6 args) (λ n n_is.
    passed IsKind (nat_le 1 n) (λ _. Some (kind.Path n)) (λ e. (leb-true 1 n e, n_is)))

bad_form : (args : List (List ℕ)) → IfSome (bad_of args) IsPlain
unfolding bad_of
bad_form [] = tt
bad_form (w ∷ args) =
    either IsPlain (bytes_eq w (codes "path")) _ _ (made IsKind IsPlain (path_kind_of args) (λ k. Some (answer.Bad k)) (path_kind_form args) (λ k is. is))
    (made_of_any IsPlain (none_of args) _ (λ _. made IsKind IsPlain (kind_of w) (λ k. Some (answer.Bad k)) (kind_form w) (λ k is. is)))

-- ---- answers

alone_form : (P : Answer → Type 0) (a : Answer) (args : List (List ℕ)) → P a → IfSome (alone a args) P
alone_form P a args holds = made_of_any P (none_of args) (λ _. Some a) (λ _. holds)

-- an answer with a number of so many bits
numbered : (P : Answer → Type 0) (most : ℕ) (make : ℕ → Answer) (args : List (List ℕ)) → ((n : ℕ) → n ≤ most → P (make n)) → IfSome (number_word most args >>= λ n. Some (make n)) P
numbered P most make args holds = made (λ n. n ≤ most) P (number_word most args) (λ n. Some (make n)) (number_form most args) holds

wide : (n : ℕ) → n ≤ 2 ^ 64 - 1 → n < 2 ^ 64
wide n h = omega (arith, h)

small : (n : ℕ) → n ≤ 2 ^ 8 - 1 → n < 2 ^ 8
small n h = omega (arith, h)

fault_form : (args : List (List ℕ)) → IfSome (fault_of args) IsPlain
unfolding fault_of
fault_form [] = tt
fault_form (w ∷ args) =
    either IsPlain (bytes_eq w (codes "read")) _ _ (numbered IsPlain (2 ^ 8 - 1) answer.FaultRead args small)
    (either IsPlain (bytes_eq w (codes "write")) _ _ (alone_form IsPlain answer.FaultWrite args tt)
    (either IsPlain (bytes_eq w (codes "punch")) _ _ (numbered IsPlain (2 ^ 8 - 1) answer.FaultPunch args small)
    (either IsPlain (bytes_eq w (codes "save")) _ None (alone_form IsPlain answer.FaultSave args tt)
    tt)))

-- the answer of a call, and in form
abbrev IsCallAnswer : Answer → Type 0
IsCallAnswer a = IsLogged a × IsPlain a

refusal_logged : (t : Bool) → t ≡ true → MatchBool t (Unit {0}) ⊥
refusal_logged true h = tt
refusal_logged false h = cc

call_refused_form : (args : List (List ℕ)) → IfSome (call_refused_of args) IsCallAnswer
call_refused_form args = made_of_any IsCallAnswer (one_of args) _ (λ w.
    made IsCallWord IsCallAnswer (call_word_of w) (λ r. Some (answer.Refused r)) (call_word_form w) (λ r is. (refusal_logged (is_call_refusal r) is, tt)))

refused_form : (args : List (List ℕ)) → IfSome (refused_of args) IsPlain
refused_form args = made_of_any IsPlain (one_of args) _ (λ w. made_of_any IsPlain (word_of w) (λ r. Some (answer.Refused r)) (λ r. tt))

-- how many paths a file has
abbrev IsCount : ℕ → Type 0
IsCount n = (1 ≤ n) × (n < 2 ^ 64)

links_form : (args : List (List ℕ)) → IfSome (links_of args) IsCount
unfolding links_of
links_form [] = (omega arith, omega arith)
links_form (w ∷ args) =
    passed IsCount (bytes_eq w (codes "links")) _ (λ _.
    made (λ n. n ≤ 2 ^ 64 - 1) IsCount (number_word (2 ^ 64 - 1) args) _ (number_form (2 ^ 64 - 1) args) (λ n fits.
    passed IsCount (nat_le 2 n) (λ _. Some n) (λ e. let two = leb-true 2 n e in (omega arith, wide n fits))))

file_form : (args : List (List ℕ)) → IfSome (file_of args) IsCallAnswer
unfolding file_of
file_form [] = tt
file_form (w ∷ args) = made (λ n. n ≤ 2 ^ 64 - 1) IsCallAnswer (number_within (2 ^ 64 - 1) w) _ (within (2 ^ 64 - 1) w) (λ n fits.
    made IsCount IsCallAnswer (links_of args) _ (links_form args) (λ c some. (tt, (wide n fits, some.0, some.1))))

call_answer_form : (w : List ℕ) (args : List (List ℕ)) → IfSome (call_answer_of w args) IsCallAnswer
unfolding call_answer_of
call_answer_form w args =
    either IsCallAnswer (bytes_eq w (codes "ok")) _ _ (alone_form IsCallAnswer answer.Okay args (tt, tt))
    (either IsCallAnswer (bytes_eq w (codes "data")) _ _ (made IsBytes IsCallAnswer (data_word args) (λ bytes. Some (answer.Shown bytes)) (bytes_form args) (λ bytes are. (tt, are)))
    (either IsCallAnswer (bytes_eq w (codes "at")) _ _ (numbered IsCallAnswer (2 ^ 64 - 1) answer.At args (λ n h. (tt, wide n h)))
    (either IsCallAnswer (bytes_eq w (codes "len")) _ _ (numbered IsCallAnswer (2 ^ 64 - 1) answer.Len args (λ n h. (tt, wide n h)))
    (either IsCallAnswer (bytes_eq w (codes "dir")) _ _ (alone_form IsCallAnswer answer.Dir args (tt, tt))
    (either IsCallAnswer (bytes_eq w (codes "file")) _ _ (file_form args)
    (either IsCallAnswer (bytes_eq w (codes "names")) _ _ (made (All IsName) IsCallAnswer (each_of name_of args) (λ names. Some (answer.Names names)) (each_form IsName name_of name_form args) (λ names are. (tt, are)))
    (either IsCallAnswer (bytes_eq w (codes "refused")) _ None (call_refused_form args)
    tt)))))))

weaker : (o : Option Answer) → IfSome o IsCallAnswer → IfSome o IsPlain
weaker (Some a) h = h.1
weaker None h = tt

scanning_form : (args : List (List ℕ)) → IfSome (scanning_of args) IsPlain
unfolding scanning_of
scanning_form args = made_of_any IsPlain (one_of args) _ (λ w. passed IsPlain (bytes_eq w (codes "64")) (λ _. Some answer.Scanning) (λ e. tt))

scan_answer_form : (w : List ℕ) (args : List (List ℕ)) → IfSome (scan_answer_of w args) IsPlain
unfolding scan_answer_of
scan_answer_form w args =
    either IsPlain (bytes_eq w (codes "scanning")) _ _ (scanning_form args)
    (either IsPlain (bytes_eq w (codes "held")) _ _ (made IsHolder IsPlain (holder_of args) (λ h. Some (answer.Held h)) (holder_form args) (λ h is. is))
    (either IsPlain (bytes_eq w (codes "more")) _ _ (numbered IsPlain (2 ^ 8 - 1) answer.More args small)
    (either IsPlain (bytes_eq w (codes "done")) _ _ (alone_form IsPlain answer.Done args tt)
    (either IsPlain (bytes_eq w (codes "collected")) _ _ (numbered IsPlain (2 ^ 64 - 1) answer.Collected args wide)
    (either IsPlain (bytes_eq w (codes "saved")) _ _ (numbered IsPlain (2 ^ 64 - 1) answer.Saved args wide)
    (either IsPlain (bytes_eq w (codes "tree")) _ (call_answer_of w args) (made (All IsRow) IsPlain (each_of row_of args) (λ rows. Some (answer.Tree rows)) (each_form IsRow row_of row_form args) (λ rows are. are))
    (weaker (call_answer_of w args) (call_answer_form w args))))))))

wrong_answer_form : (w : List ℕ) (args : List (List ℕ)) → IfSome (wrong_answer_of w args) IsPlain
unfolding wrong_answer_of
wrong_answer_form w args =
    either IsPlain (bytes_eq w (codes "refused")) _ _ (refused_form args)
    (either IsPlain (bytes_eq w (codes "fault")) _ _ (fault_form args)
    (either IsPlain (bytes_eq w (codes "damaged")) _ _ (numbered IsPlain (2 ^ 8 - 1) answer.Damaged args small)
    (either IsPlain (bytes_eq w (codes "bad")) _ (scan_answer_of w args) (bad_form args)
    (scan_answer_form w args))))

plain_answer_form : (w : List ℕ) (args : List (List ℕ)) → IfSome (plain_answer_of w args) IsPlain
unfolding plain_answer_of
plain_answer_form w args =
    either IsPlain (bytes_eq w (codes "begun")) _ _ (numbered IsPlain (2 ^ 64 - 1) answer.Begun args wide)
    (either IsPlain (bytes_eq w (codes "committed")) _ _ (numbered IsPlain (2 ^ 64 - 1) answer.Committed args wide)
    (either IsPlain (bytes_eq w (codes "retry")) _ _ (made (λ n. (n.0 ≤ 2 ^ 64 - 1) × (n.1 ≤ 2 ^ 64 - 1)) IsPlain (numbers_of (2 ^ 64 - 1) args) (λ n. Some (answer.Retry n.0 n.1)) (numbers_form (2 ^ 64 - 1) args) (λ n h. (wide n.0 h.0, wide n.1 h.1)))
    (either IsPlain (bytes_eq w (codes "replayed")) _ _ (numbered IsPlain (2 ^ 32 - 1) answer.Replayed args (λ n h. omega (arith, h)))
    (either IsPlain (bytes_eq w (codes "planned")) _ _ (alone_form IsPlain answer.Planned args tt)
    (either IsPlain (bytes_eq w (codes "installed")) _ _ (numbered IsPlain (2 ^ 64 - 1) answer.Installed args wide)
    (either IsPlain (bytes_eq w (codes "stale")) _ (wrong_answer_of w args) (made (λ n. (n.0 ≤ 2 ^ 64 - 1) × (n.1 ≤ 2 ^ 64 - 1)) IsPlain (numbers_of (2 ^ 64 - 1) args) (λ n. Some (answer.Stale n.0 n.1)) (numbers_form (2 ^ 64 - 1) args) (λ n h. (wide n.0 h.0, wide n.1 h.1)))
    (wrong_answer_form w args)))))))

-- ---- lines

-- what a line says, in form
abbrev IsFormed : Meant → Type 0
IsFormed (None, a) = IsPlain a
IsFormed (Some call, a) = (call < 2 ^ 32) × IsLogged a × IsPlain a

aborted_form : (args : List (List ℕ)) → IfSome (aborted_of args) IsFormed
unfolding aborted_of
aborted_form [] = tt
aborted_form (i ∷ []) = tt
aborted_form (i ∷ w ∷ args) =
    made (λ n. n ≤ 2 ^ 32 - 1) IsFormed (number_within (2 ^ 32 - 1) i) _ (within (2 ^ 32 - 1) i) (λ call call_is.
    made IsCallAnswer IsFormed (call_answer_of w args) _ (call_answer_form w args) (λ a a_is. (omega (arith, call_is), a_is.0, a_is.1)))

said_form : (words : List (List ℕ)) → IfSome (said_by words) IsFormed
unfolding said_by
said_form [] = tt
said_form (w ∷ args) =
    either IsFormed (bytes_eq w (codes "aborted")) (aborted_of args) _ (aborted_form args)
    (made IsPlain IsFormed (plain_answer_of w args) _ (plain_answer_form w args) (λ a is. is))

-- an answer that says what is in form, is in form
says_form : (m : Meant) (b : Answer) → IsFormed m → SaysMeant m b → IsWritable b
says_form (None, a) b h s = subst IsWritable (sym s) (plain-writable a h)
says_form (Some call, a) (Aborted' i box b) h s =
    (subst (λ (n : ℕ). n < 2 ^ 32) (sym s.0) h.0, subst (λ (x : Answer). IsLogged x) (sym s.1) h.1, subst (λ (x : Answer). IsPlain x) (sym s.1) h.2)
says_form (Some call, a) b h s = absurd s

read_form : (o : Option Meant) (b : Answer) → IfSome o IsFormed → ReadsAnswer (Ok b) o → IsWritable b
read_form (Some m) b h r = says_form m b h r
read_form None b h r = absurd r

-- what a line was read as is in form
pub form-ok : (b : Answer) (line : List ℕ) → ReadsAnswer (Ok b) (meant_of line) → IsWritable b
form-ok b line r = read_form (meant_of line) b (said_form (words_of line)) r
