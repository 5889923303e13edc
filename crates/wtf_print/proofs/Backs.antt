-- The text of an answer in form says that answer.
use Rattle.std.proofs.Common.{◌≡◌, ℕ, ◌-◌, ◌^◌, ◌<◌, ◌≤◌, Bool, true, false, not, nat_le, List, [], ◌∷◌, ◌++◌, codes, decimal, refl, sym, ap, ◌∙◌, subst}
use Rattle.std.proofs.Common.{arith, map, append_assoc, append-nil, leb-false, if◌then◌else◌, Option, Some, None, Result, Ok, Err}
use Rattle.std.specs.Prelude.{All}
use Rattle.std.specs.List.{list_all}
use Rattle.std.specs.Bool.{MatchBool}
use Rattle.std.proofs.lemmas.Bool.{le-leb}
use Rattle.std.proofs.lemmas.List.Elements.{All-nil, All-cons, All-append, All-weaker, All-head, All-tail}
use Rattle.std.proofs.lemmas.List.Sums.{AllPass-from_list_all}
use Rattle.hex.specs.Hex.{IsBytes, encode_lower}
use Rattle.hex.specs.declared.error.FromHexError.{FromHexError}
use Rattle.hex.proofs.HexLemmas.{decode_of-encode_lower}
use Rattle.wtf_path.specs.Grammar.{IsName}
use Rattle.wtf_lex.specs.Words.{words_of, is_space}
use Rattle.wtf_lex.specs.Numbers.{number_within}
use Rattle.wtf_model.specs.declared.answer.Word.{Word}
use Rattle.wtf_model.specs.declared.answer.Word.TheVariants as word
use Rattle.wtf_model.specs.declared.answer.Kind.{Kind}
use Rattle.wtf_model.specs.declared.answer.Kind.TheVariants as kind
use Rattle.wtf_model.specs.declared.event.Holder.{Holder}
use Rattle.wtf_model.specs.declared.event.Holder.TheVariants as holder
use Rattle.wtf_model.specs.declared.limits.TheConstants.{MAX_CLIENTS, MAX_JOBS}
use Rattle.wtf_model.specs.declared.answer.Answer.{Answer, Aborted'}
use Rattle.wtf_model.specs.declared.answer.Answer.TheVariants as answer
use Rattle.wtf_model.specs.Same.{AreSame}
use Rattle.wtf_model.specs.Steps.{is_call_refusal, IsLogged}
use Rattle.wtf_print.specs.Texts.{word_text, kind_text, holder_text, links_text, text_of}
use Rattle.wtf_print.specs.Forms.{IsRow, IsHolder, IsKind, IsPlain, IsWritable, GivesBack}
use Rattle.wtf_print.specs.Pieces.{◌>>=◌, only_if, number_word, numbers_of, hex_decoded, data_word, holder_of, name_of, row_of, each_of}
use Rattle.wtf_print.specs.Reading.{call_word_of, other_word_of, word_of, kind_of, path_kind_of, bad_of, fault_of, links_of, file_of, call_answer_of}
use Rattle.wtf_print.specs.Reading.{scanning_of, scan_answer_of, wrong_answer_of, plain_answer_of, Meant, aborted_of, said_by, meant_of, meant_by, SaysMeant}
use Rattle.wtf_print.specs.Reading.{ReadsAnswer}
use Rattle.wtf_print.specs.declared.error.TextError.{TextError}
use Rattle.wtf_print.specs.declared.error.TextError.TheVariants as text_error
use Rattle.wtf_print.proofs.Plain.{plain-same}
use Rattle.wtf_print.proofs.Spelled.{HasNoSpace, one-word, first-word, number-no_space, number-spelled, hex-no_space, name-no_space, name-spelled, row_word, row-no_space, row-spelled, rows-text, listed, each-spelled, each-word}

-- a text that begins with a word and a space
keyed : (text key : List ℕ) → ((l : List ℕ) → words_of (text ++ l) ≡ key ∷ words_of l) → (l : List ℕ) (ws : List (List ℕ)) → words_of l ≡ ws → words_of (text ++ l) ≡ key ∷ ws
keyed text key opens l ws e = opens l ∙ ap (λ (w : List (List ℕ)). key ∷ w) e

-- the words of a number
number : (n : ℕ) → n < 2 ^ 64 → words_of (decimal n) ≡ decimal n ∷ []
number n h = one-word (decimal n) (number-no_space n h)

-- the words of two numbers
two_numbers : (a b : ℕ) → a < 2 ^ 64 → b < 2 ^ 64 → words_of (decimal a ++ 32 ∷ decimal b) ≡ decimal a ∷ decimal b ∷ []
two_numbers a b h k = first-word (decimal a) (decimal b) (number-no_space a h) ∙ ap (λ (ws : List (List ℕ)). decimal a ∷ ws) (number b k)

-- what was read becomes an answer
made : {A B : Type 0} (make : A → B) (o : Option A) (x : A) → o ≡ Some x → (o >>= λ y. Some (make y)) ≡ Some (make x)
made make o x e = rw e refl

one_number : (most n : ℕ) → n < 2 ^ 64 → n ≤ most → number_word most (decimal n ∷ []) ≡ Some n
unfolding number_word
one_number most n h k = number-spelled most n h k

both_numbers : (a b : ℕ) → a < 2 ^ 64 → b < 2 ^ 64 → numbers_of (2 ^ 64 - 1) (decimal a ∷ decimal b ∷ []) ≡ Some (a, b)
unfolding numbers_of
both_numbers a b h k =
    ap (λ (o : Option ℕ). o >>= λ x. number_within (2 ^ 64 - 1) (decimal b) >>= λ y. Some (x, y)) (number-spelled (2 ^ 64 - 1) a h (omega arith))
    ∙ ap (λ (o : Option ℕ). o >>= λ y. Some (a, y)) (number-spelled (2 ^ 64 - 1) b k (omega arith))

-- ---- the words of refusals and of what is wrong with a line

pub record IsWordText (w : Word) : Type 0 where
  one : words_of (word_text w) ≡ word_text w ∷ []
  read : word_of (word_text w) ≡ Some w

word-said : (w : Word) → IsWordText w
unfolding word_text word_of call_word_of other_word_of
word-said word.Exists = record { one = refl; read = refl }
word-said word.NoParent = record { one = refl; read = refl }
word-said word.NoEnt = record { one = refl; read = refl }
word-said word.NotDir = record { one = refl; read = refl }
word-said word.Root = record { one = refl; read = refl }
word-said word.NotEmpty = record { one = refl; read = refl }
word-said word.IsDir = record { one = refl; read = refl }
word-said word.Busy = record { one = refl; read = refl }
word-said word.InUse = record { one = refl; read = refl }
word-said word.NoHandle = record { one = refl; read = refl }
word-said word.Range = record { one = refl; read = refl }
word-said word.TooBig = record { one = refl; read = refl }
word-said word.NoSlice = record { one = refl; read = refl }
word-said word.Replaying = record { one = refl; read = refl }
word-said word.Full = record { one = refl; read = refl }
word-said word.InTx = record { one = refl; read = refl }
word-said word.NoTx = record { one = refl; read = refl }
word-said word.NoJob = record { one = refl; read = refl }
word-said word.JobInUse = record { one = refl; read = refl }
word-said word.NoRegion = record { one = refl; read = refl }
word-said word.NoServer = record { one = refl; read = refl }
word-said word.ScanBusy = record { one = refl; read = refl }
word-said word.NoScan = record { one = refl; read = refl }
word-said word.Live = record { one = refl; read = refl }
word-said word.Long = record { one = refl; read = refl }

call_word-said : (w : Word) → is_call_refusal w ≡ true → call_word_of (word_text w) ≡ Some w
unfolding word_text call_word_of
call_word-said word.Exists h = refl
call_word-said word.NoParent h = refl
call_word-said word.NoEnt h = refl
call_word-said word.NotDir h = refl
call_word-said word.Root h = refl
call_word-said word.NotEmpty h = refl
call_word-said word.IsDir h = refl
call_word-said word.Busy h = refl
call_word-said word.InUse h = refl
call_word-said word.NoHandle h = refl
call_word-said word.Range h = refl
call_word-said word.TooBig h = refl
call_word-said word.NoSlice h = refl
call_word-said w h = absurd cc

pub record IsKindText (k : Kind) : Type 0 where
  words : List (List ℕ)
  is : words_of (kind_text k) ≡ words
  read : bad_of words ≡ Some (answer.Bad k)

kind-said : (k : Kind) → IsKind k → IsKindText k
unfolding kind_text bad_of kind_of path_kind_of
kind-said kind.Long h = record { words = kind_text kind.Long ∷ []; is = refl; read = refl }
kind-said kind.Empty h = record { words = kind_text kind.Empty ∷ []; is = refl; read = refl }
kind-said kind.Byte h = record { words = kind_text kind.Byte ∷ []; is = refl; read = refl }
kind-said kind.Space h = record { words = kind_text kind.Space ∷ []; is = refl; read = refl }
kind-said kind.Actor h = record { words = kind_text kind.Actor ∷ []; is = refl; read = refl }
kind-said kind.Verb h = record { words = kind_text kind.Verb ∷ []; is = refl; read = refl }
kind-said kind.Count h = record { words = kind_text kind.Count ∷ []; is = refl; read = refl }
kind-said kind.Handle h = record { words = kind_text kind.Handle ∷ []; is = refl; read = refl }
kind-said kind.Slice h = record { words = kind_text kind.Slice ∷ []; is = refl; read = refl }
kind-said kind.Job h = record { words = kind_text kind.Job ∷ []; is = refl; read = refl }
kind-said kind.Number h = record { words = kind_text kind.Number ∷ []; is = refl; read = refl }
kind-said kind.Limit h = record { words = kind_text kind.Limit ∷ []; is = refl; read = refl }
kind-said kind.DataForm h = record { words = kind_text kind.DataForm ∷ []; is = refl; read = refl }
kind-said kind.Word h = record { words = kind_text kind.Word ∷ []; is = refl; read = refl }
kind-said (kind.Path n) h = record {
  words = codes "path" ∷ decimal n ∷ [];
  is = keyed (codes "path ") (codes "path") (λ l. refl) (decimal n) (decimal n ∷ []) (number n (omega (arith, h.1)));
  read = ap (λ (o : Option ℕ). o >>= (λ n. only_if (nat_le 1 n) >>= λ _. Some (kind.Path n)) >>= λ k. Some (answer.Bad k)) (one_number 6 n (omega (arith, h.1)) h.1)
      ∙ ap (λ (t : Bool). only_if t >>= (λ _. Some (kind.Path n)) >>= λ k. Some (answer.Bad k)) (le-leb 1 n h.0);
}

-- ---- labels

pub record IsHolderText (h : Holder) : Type 0 where
  one : words_of (holder_text h) ≡ holder_text h ∷ []
  read : holder_of (holder_text h ∷ []) ≡ Some h

-- a letter before a number
lettered : (text : List ℕ) (n : ℕ) → n < 2 ^ 64 → HasNoSpace text → words_of (text ++ decimal n) ≡ (text ++ decimal n) ∷ []
lettered text n h none = one-word (text ++ decimal n) (All-append (λ b. is_space b ≡ false) text (decimal n) none (number-no_space n h))

client_by : (l : List ℕ) (c : ℕ) → number_within (MAX_CLIENTS - 1) l ≡ Some c → holder_of ((codes "c" ++ l) ∷ []) ≡ Some (holder.Client c)
unfolding holder_of
client_by l c e = made holder.Client (number_within (MAX_CLIENTS - 1) l) c e

job_by : (l : List ℕ) (j : ℕ) → number_within (MAX_JOBS - 1) l ≡ Some j → holder_of ((codes "j" ++ l) ∷ []) ≡ Some (holder.Job j)
unfolding holder_of
job_by l j e = made holder.Job (number_within (MAX_JOBS - 1) l) j e

one_letter : (b : ℕ) → is_space b ≡ false → HasNoSpace (b ∷ [])
one_letter b h = All-cons (λ b. is_space b ≡ false) b [] h (All-nil (λ b. is_space b ≡ false))

pub holder-said : (h : Holder) → IsHolder h → IsHolderText h
unfolding holder_text
holder-said (holder.Client c) h = record {
  one = lettered (codes "c") c (omega (arith, h)) (one_letter 99 refl);
  read = client_by (decimal c) c (number-spelled (MAX_CLIENTS - 1) c (omega (arith, h)) (omega (arith, h)));
}
holder-said (holder.Job j) h = record {
  one = lettered (codes "j") j (omega (arith, h)) (one_letter 106 refl);
  read = job_by (decimal j) j (number-spelled (MAX_JOBS - 1) j (omega (arith, h)) (omega (arith, h)));
}

-- ---- answers

-- the text of a call's answer
pub record IsCallText (a : Answer) : Type 0 where
  word : List ℕ
  args : List (List ℕ)
  words : words_of (text_of a) ≡ word ∷ args
  read : call_answer_of word args ≡ Some a

-- the text of an answer that holds no other
pub record IsPlainText (a : Answer) : Type 0 where
  words : List (List ℕ)
  is : words_of (text_of a) ≡ words
  read : said_by words ≡ Some (None, a)

-- an answer with a number of at most `most`
counted : (make : ℕ → Answer) (most n : ℕ) → n < 2 ^ 64 → n ≤ most → (number_word most (decimal n ∷ []) >>= λ n. Some (make n)) ≡ Some (make n)
counted make most n h k = made make (number_word most (decimal n ∷ [])) n (one_number most n h k)

-- what was read is plain
abbrev plain : Answer → Option Meant
plain a = Some (None, a)

plainly : (o : Option Answer) (a : Answer) → o ≡ Some a → (o >>= plain) ≡ plain a
plainly o a e = rw e refl

bytes-said : (bytes : List ℕ) → IsBytes bytes → data_word ((codes "x:" ++ encode_lower bytes) ∷ []) ≡ Some bytes
unfolding data_word
bytes-said bytes are = ap (λ (r : Result (List ℕ) FromHexError). hex_decoded r) (decode_of-encode_lower bytes are)

bytes-one : (bytes : List ℕ) → IsBytes bytes → words_of (codes "x:" ++ encode_lower bytes) ≡ (codes "x:" ++ encode_lower bytes) ∷ []
bytes-one bytes are =
    let P : ℕ → Type 0 = λ b. is_space b ≡ false in
    one-word (codes "x:" ++ encode_lower bytes) (All-cons P 120 (58 ∷ encode_lower bytes) refl (All-cons P 58 (encode_lower bytes) refl (hex-no_space bytes are)))

-- no space, by a test
no_space_by : (t : Bool) → not t ≡ true → t ≡ false
no_space_by true h = cc
no_space_by false h = refl

no_space-from_test : (key : List ℕ) → list_all (λ b. not (is_space b)) key ≡ true → HasNoSpace key
no_space-from_test key h =
    All-weaker (λ b. not (is_space b) ≡ true) (λ b. is_space b ≡ false) (λ b. no_space_by (is_space b)) key (AllPass-from_list_all (λ b. not (is_space b)) key h)

names_key : HasNoSpace (codes "names")
names_key = no_space-from_test (codes "names") refl

tree_key : HasNoSpace (codes "tree")
tree_key = no_space-from_test (codes "tree") refl

-- names are read one by one
names-said : (names : List (List ℕ)) → All IsName names → each_of name_of names ≡ Some names
names-said [] all = refl
names-said (n ∷ ns) all =
    ap (λ (o : Option (List ℕ)). o >>= λ y. each_of name_of ns >>= λ ys. Some (y ∷ ys)) (name-spelled n (All-head IsName n ns all))
    ∙ ap (λ (o : Option (List (List ℕ))). o >>= λ ys. Some (n ∷ ys)) (names-said ns (All-tail IsName n ns all))

refusal_logged : (t : Bool) → MatchBool t (Unit {0}) ⊥ → t ≡ true
refusal_logged true h = refl
refusal_logged false h = absurd h

-- the words behind a file's length
links_words : ℕ → List (List ℕ)
links_words n = if nat_le 2 n then codes "links" ∷ decimal n ∷ [] else []

file-words : (n links : ℕ) → n < 2 ^ 64 → links < 2 ^ 64 → words_of (decimal n ++ links_text links) ≡ decimal n ∷ links_words links
unfolding links_text links_words
file-words n links h k = by_count (nat_le 2 links)
  where
    by_count : (b : Bool) → words_of (decimal n ++ (if b then codes " links " ++ decimal links else []))
        ≡ decimal n ∷ (if b then codes "links" ∷ decimal links ∷ [] else [])
    by_count true =
        first-word (decimal n) (codes "links " ++ decimal links) (number-no_space n h)
        ∙ ap (λ (ws : List (List ℕ)). decimal n ∷ ws) (keyed (codes "links ") (codes "links") (λ l. refl) (decimal links) (decimal links ∷ []) (number links k))
    by_count false = ap words_of (append-nil (decimal n)) ∙ number n h

links-read : (n : ℕ) → 1 ≤ n → n < 2 ^ 64 → links_of (links_words n) ≡ Some n
unfolding links_of links_words
links-read n some h = by_count (nat_le 2 n) refl
  where
    by_count : (b : Bool) → nat_le 2 n ≡ b → links_of (if b then codes "links" ∷ decimal n ∷ [] else []) ≡ Some n
    by_count true e =
        ap (λ (o : Option ℕ). o >>= λ c. only_if (nat_le 2 c) >>= λ _. Some c) (one_number (2 ^ 64 - 1) n h (omega arith))
        ∙ ap (λ (t : Bool). only_if t >>= λ _. Some n) e
    by_count false e = let fewer = leb-false 2 n e in ap Some (omega arith)

file-read : (n links : ℕ) → n < 2 ^ 64 → 1 ≤ links → links < 2 ^ 64 → file_of (decimal n ∷ links_words links) ≡ Some (answer.File n links)
unfolding file_of
file-read n links h some k =
    ap (λ (o : Option ℕ). o >>= λ len. links_of (links_words links) >>= λ c. Some (answer.File len c)) (number-spelled (2 ^ 64 - 1) n h (omega arith))
    ∙ ap (λ (o : Option ℕ). o >>= λ c. Some (answer.File n c)) (links-read links some k)

-- the answers of a call
call-said : (a : Answer) → IsLogged a → IsPlain a → IsCallText a
unfolding text_of call_answer_of
call-said answer.Okay logged h = record { word = codes "ok"; args = []; words = refl; read = refl }
call-said (answer.Shown bytes) logged h = record {
  word = codes "data";
  args = (codes "x:" ++ encode_lower bytes) ∷ [];
  words = keyed (codes "data ") (codes "data") (λ l. refl) (codes "x:" ++ encode_lower bytes) ((codes "x:" ++ encode_lower bytes) ∷ []) (bytes-one bytes h);
  read = made answer.Shown (data_word ((codes "x:" ++ encode_lower bytes) ∷ [])) bytes (bytes-said bytes h);
}
call-said (answer.At n) logged h = record {
  word = codes "at";
  args = decimal n ∷ [];
  words = keyed (codes "at ") (codes "at") (λ l. refl) (decimal n) (decimal n ∷ []) (number n h);
  read = counted answer.At (2 ^ 64 - 1) n h (omega arith);
}
call-said (answer.Len n) logged h = record {
  word = codes "len";
  args = decimal n ∷ [];
  words = keyed (codes "len ") (codes "len") (λ l. refl) (decimal n) (decimal n ∷ []) (number n h);
  read = counted answer.Len (2 ^ 64 - 1) n h (omega arith);
}
call-said (answer.File n links) logged h = record {
  word = codes "file";
  args = decimal n ∷ links_words links;
  words = keyed (codes "file ") (codes "file") (λ l. refl) (decimal n ++ links_text links) (decimal n ∷ links_words links) (file-words n links h.0 h.2);
  read = file-read n links h.0 h.1 h.2;
}
call-said answer.Dir logged h = record { word = codes "dir"; args = []; words = refl; read = refl }
call-said (answer.Names names) logged h = record {
  word = codes "names";
  args = names;
  words = listed (codes "names") names names_key (All-weaker IsName HasNoSpace name-no_space names h);
  read = made answer.Names (each_of name_of names) names (names-said names h);
}
call-said (answer.Refused w) logged h = record {
  word = codes "refused";
  args = word_text w ∷ [];
  words = keyed (codes "refused ") (codes "refused") (λ l. refl) (word_text w) (word_text w ∷ []) (word-said w).one;
  read = made answer.Refused (call_word_of (word_text w)) w (call_word-said w (refusal_logged (is_call_refusal w) logged));
}
call-said a logged h = absurd logged

-- the answers that hold no other
plain-said : (a : Answer) → IsPlain a → IsPlainText a
unfolding text_of said_by plain_answer_of wrong_answer_of scan_answer_of scanning_of fault_of call_answer_of call-said
plain-said (answer.Begun n) h = record {
  words = codes "begun" ∷ decimal n ∷ [];
  is = keyed (codes "begun ") (codes "begun") (λ l. refl) (decimal n) (decimal n ∷ []) (number n h);
  read = plainly _ (answer.Begun n) (counted answer.Begun (2 ^ 64 - 1) n h (omega (arith, h)));
}
plain-said (answer.Committed n) h = record {
  words = codes "committed" ∷ decimal n ∷ [];
  is = keyed (codes "committed ") (codes "committed") (λ l. refl) (decimal n) (decimal n ∷ []) (number n h);
  read = plainly _ (answer.Committed n) (counted answer.Committed (2 ^ 64 - 1) n h (omega (arith, h)));
}
plain-said (answer.Retry base now) h = record {
  words = codes "retry" ∷ decimal base ∷ decimal now ∷ [];
  is = ap words_of (append_assoc (codes "retry " ++ decimal base) (codes " ") (decimal now))
      ∙ keyed (codes "retry ") (codes "retry") (λ l. refl) (decimal base ++ 32 ∷ decimal now) (decimal base ∷ decimal now ∷ []) (two_numbers base now h.0 h.1);
  read = plainly _ (answer.Retry base now) (made (λ n. answer.Retry n.0 n.1) (numbers_of (2 ^ 64 - 1) (decimal base ∷ decimal now ∷ [])) (base, now) (both_numbers base now h.0 h.1));
}
plain-said (answer.Stale base now) h = record {
  words = codes "stale" ∷ decimal base ∷ decimal now ∷ [];
  is = ap words_of (append_assoc (codes "stale " ++ decimal base) (codes " ") (decimal now))
      ∙ keyed (codes "stale ") (codes "stale") (λ l. refl) (decimal base ++ 32 ∷ decimal now) (decimal base ∷ decimal now ∷ []) (two_numbers base now h.0 h.1);
  read = plainly _ (answer.Stale base now) (made (λ n. answer.Stale n.0 n.1) (numbers_of (2 ^ 64 - 1) (decimal base ∷ decimal now ∷ [])) (base, now) (both_numbers base now h.0 h.1));
}
plain-said (answer.Replayed n) h = record {
  words = codes "replayed" ∷ decimal n ∷ [];
  is = keyed (codes "replayed ") (codes "replayed") (λ l. refl) (decimal n) (decimal n ∷ []) (number n (omega (arith, h)));
  read = plainly _ (answer.Replayed n) (counted answer.Replayed (2 ^ 32 - 1) n (omega (arith, h)) (omega (arith, h)));
}
plain-said answer.Planned h = record { words = codes "planned" ∷ []; is = refl; read = refl }
plain-said (answer.Installed n) h = record {
  words = codes "installed" ∷ decimal n ∷ [];
  is = keyed (codes "installed ") (codes "installed") (λ l. refl) (decimal n) (decimal n ∷ []) (number n h);
  read = plainly _ (answer.Installed n) (counted answer.Installed (2 ^ 64 - 1) n h (omega (arith, h)));
}
plain-said answer.Scanning h = record { words = codes "scanning" ∷ codes "64" ∷ []; is = refl; read = refl }
plain-said (answer.Held l) h = record {
  words = codes "held" ∷ holder_text l ∷ [];
  is = keyed (codes "held ") (codes "held") (λ l. refl) (holder_text l) (holder_text l ∷ []) (holder-said l h).one;
  read = plainly _ (answer.Held l) (made answer.Held (holder_of (holder_text l ∷ [])) l (holder-said l h).read);
}
plain-said (answer.More n) h = record {
  words = codes "more" ∷ decimal n ∷ [];
  is = keyed (codes "more ") (codes "more") (λ l. refl) (decimal n) (decimal n ∷ []) (number n (omega (arith, h)));
  read = plainly _ (answer.More n) (counted answer.More (2 ^ 8 - 1) n (omega (arith, h)) (omega (arith, h)));
}
plain-said answer.Done h = record { words = codes "done" ∷ []; is = refl; read = refl }
plain-said (answer.Collected n) h = record {
  words = codes "collected" ∷ decimal n ∷ [];
  is = keyed (codes "collected ") (codes "collected") (λ l. refl) (decimal n) (decimal n ∷ []) (number n h);
  read = plainly _ (answer.Collected n) (counted answer.Collected (2 ^ 64 - 1) n h (omega (arith, h)));
}
plain-said (answer.Saved n) h = record {
  words = codes "saved" ∷ decimal n ∷ [];
  is = keyed (codes "saved ") (codes "saved") (λ l. refl) (decimal n) (decimal n ∷ []) (number n h);
  read = plainly _ (answer.Saved n) (counted answer.Saved (2 ^ 64 - 1) n h (omega (arith, h)));
}
plain-said (answer.Tree rows) h = record {
  words = codes "tree" ∷ map row_word rows;
  is = ap (λ (l : List ℕ). words_of (codes "tree" ++ l)) (rows-text rows) ∙ listed (codes "tree") (map row_word rows) tree_key (each-word IsRow row_word row-no_space rows h);
  read = plainly _ (answer.Tree rows) (made answer.Tree (each_of row_of (map row_word rows)) rows (each-spelled IsRow row_of row_word row-spelled rows h));
}
plain-said (answer.Refused w) h = record {
  words = codes "refused" ∷ word_text w ∷ [];
  is = keyed (codes "refused ") (codes "refused") (λ l. refl) (word_text w) (word_text w ∷ []) (word-said w).one;
  read = plainly _ (answer.Refused w) (made answer.Refused (word_of (word_text w)) w (word-said w).read);
}
plain-said (answer.FaultRead n) h = record {
  words = codes "fault" ∷ codes "read" ∷ decimal n ∷ [];
  is = keyed (codes "fault ") (codes "fault") (λ l. refl) (codes "read " ++ decimal n) (codes "read" ∷ decimal n ∷ []) (keyed (codes "read ") (codes "read") (λ l. refl) (decimal n) (decimal n ∷ []) (number n (omega (arith, h))));
  read = plainly _ (answer.FaultRead n) (counted answer.FaultRead (2 ^ 8 - 1) n (omega (arith, h)) (omega (arith, h)));
}
plain-said answer.FaultWrite h = record { words = codes "fault" ∷ codes "write" ∷ []; is = refl; read = refl }
plain-said (answer.FaultPunch n) h = record {
  words = codes "fault" ∷ codes "punch" ∷ decimal n ∷ [];
  is = keyed (codes "fault ") (codes "fault") (λ l. refl) (codes "punch " ++ decimal n) (codes "punch" ∷ decimal n ∷ []) (keyed (codes "punch ") (codes "punch") (λ l. refl) (decimal n) (decimal n ∷ []) (number n (omega (arith, h))));
  read = plainly _ (answer.FaultPunch n) (counted answer.FaultPunch (2 ^ 8 - 1) n (omega (arith, h)) (omega (arith, h)));
}
plain-said answer.FaultSave h = record { words = codes "fault" ∷ codes "save" ∷ []; is = refl; read = refl }
plain-said (answer.Damaged n) h = record {
  words = codes "damaged" ∷ decimal n ∷ [];
  is = keyed (codes "damaged ") (codes "damaged") (λ l. refl) (decimal n) (decimal n ∷ []) (number n (omega (arith, h)));
  read = plainly _ (answer.Damaged n) (counted answer.Damaged (2 ^ 8 - 1) n (omega (arith, h)) (omega (arith, h)));
}
plain-said (answer.Bad k) h = record {
  words = codes "bad" ∷ (kind-said k h).words;
  is = keyed (codes "bad ") (codes "bad") (λ l. refl) (kind_text k) (kind-said k h).words (kind-said k h).is;
  read = plainly _ (answer.Bad k) (kind-said k h).read;
}
plain-said answer.Okay h = let t = call-said answer.Okay tt h in record { words = t.word ∷ t.args; is = t.words; read = plainly _ answer.Okay t.read }
plain-said answer.Dir h = let t = call-said answer.Dir tt h in record { words = t.word ∷ t.args; is = t.words; read = plainly _ answer.Dir t.read }
plain-said (answer.Shown x) h = let t = call-said (answer.Shown x) tt h in record { words = t.word ∷ t.args; is = t.words; read = plainly _ (answer.Shown x) t.read }
plain-said (answer.At x) h = let t = call-said (answer.At x) tt h in record { words = t.word ∷ t.args; is = t.words; read = plainly _ (answer.At x) t.read }
plain-said (answer.Len x) h = let t = call-said (answer.Len x) tt h in record { words = t.word ∷ t.args; is = t.words; read = plainly _ (answer.Len x) t.read }
plain-said (answer.File x links) h = let t = call-said (answer.File x links) tt h in
    record { words = t.word ∷ t.args; is = t.words; read = plainly _ (answer.File x links) t.read }
plain-said (answer.Names x) h = let t = call-said (answer.Names x) tt h in record { words = t.word ∷ t.args; is = t.words; read = plainly _ (answer.Names x) t.read }
plain-said (Aborted' i box a) h = absurd h

-- what a line says of an answer behind `aborted`
abbrev after : ℕ → Answer → Option Meant
after call a = Some (Some call, a)

aborted-read : (i : ℕ) (a : Answer) (w : List ℕ) (args : List (List ℕ)) → i < 2 ^ 32 → call_answer_of w args ≡ Some a
    → said_by (codes "aborted" ∷ decimal i ∷ w ∷ args) ≡ Some (Some i, a)
unfolding said_by aborted_of
aborted-read i a w args h e =
    ap (λ (o : Option ℕ). o >>= λ call. call_answer_of w args >>= λ a. after call a) (number-spelled (2 ^ 32 - 1) i (omega (arith, h)) (omega (arith, h)))
    ∙ ap (λ (o : Option Answer). o >>= λ a. after i a) e

aborted-words : (i : ℕ) (text w : List ℕ) (args : List (List ℕ)) → i < 2 ^ 32 → words_of text ≡ w ∷ args
    → words_of (codes "aborted " ++ decimal i ++ codes " " ++ text) ≡ codes "aborted" ∷ decimal i ∷ w ∷ args
aborted-words i text w args h e =
    ap words_of (append_assoc (codes "aborted " ++ decimal i) (codes " ") text)
    ∙ keyed (codes "aborted ") (codes "aborted") (λ l. refl) (decimal i ++ 32 ∷ text) (decimal i ∷ w ∷ args)
    (first-word (decimal i) text (number-no_space i (omega (arith, h))) ∙ ap (λ (ws : List (List ℕ)). decimal i ∷ ws) e)

-- what the text of an answer in form says is that answer
pub writable-said : (a : Answer) → IsWritable a → meant_of (text_of a) ≡ Some (meant_by a)
unfolding text_of
writable-said (Aborted' i box a) h =
    let t = call-said a h.1 h.2 in
    ap said_by (aborted-words i (text_of a) t.word t.args h.0 t.words) ∙ aborted-read i a t.word t.args h.0 t.read
writable-said a h = let t = plain-said a h in ap said_by t.is ∙ t.read

-- an answer that says what another's text does, says what that answer does
pub says-same : (a b : Answer) → IsWritable a → SaysMeant (meant_by a) b → AreSame a b
says-same (Aborted' i box a) (Aborted' j other b) h s = (sym s.0, subst (λ (x : Answer). AreSame a x) (sym s.1) (plain-same a h.2))
says-same (Aborted' i box a) b h s = absurd s
says-same a b h s = sym s

-- an answer says what its text does
says-itself : (b : Answer) → IsWritable b → SaysMeant (meant_by b) b
says-itself (Aborted' i box a) h = (refl, refl)
says-itself b h = refl

-- and has its text
pub says-text : (a b : Answer) → SaysMeant (meant_by a) b → text_of b ≡ text_of a
unfolding text_of
says-text (Aborted' i box a) (Aborted' j other b) s =
    ap (λ (k : ℕ). codes "aborted " ++ decimal k ++ codes " " ++ text_of b) s.0
    ∙ ap (λ (x : Answer). codes "aborted " ++ decimal i ++ codes " " ++ text_of x) s.1
says-text (Aborted' i box a) b s = absurd s
says-text a b s = ap text_of s

-- what a line was read as, where it is the text of an answer in form
read-back : (o : Option Meant) (m : Meant) (b : Answer) → o ≡ Some m → ReadsAnswer (Ok b) o → SaysMeant m b
read-back (Some x) m b e r = let same : x ≡ m = cc in subst (λ (y : Meant). SaysMeant y b) same r
read-back None m b e r = absurd r

pub back-ok : (b : Answer) (line : List ℕ) → ReadsAnswer (Ok b) (meant_of line) → (a : Answer) → IsWritable a → text_of a ≡ line → AreSame a b × (text_of b ≡ line)
back-ok b line r a h e =
    let says = read-back (meant_of line) (meant_by a) b (ap meant_of (sym e) ∙ writable-said a h) r in
    (says-same a b h says, says-text a b says ∙ e)

read-none : (o : Option Meant) (m : Meant) → o ≡ Some m → o ≡ None → ⊥
read-none o m e n = let k : Some m ≡ None = sym e ∙ n in cc

pub back-err : (why : TextError) (line : List ℕ) → ReadsAnswer (Err why) (meant_of line) → (a : Answer) → IsWritable a → text_of a ≡ line → GivesBack a (Err why)
back-err text_error.NotAnAnswer line r a h e = read-none (meant_of line) (meant_by a) (ap meant_of (sym e) ∙ writable-said a h) r
back-err text_error.Memory line r a h e = tt

-- two answers in form of one text say the same
pub text-one : (a b : Answer) → IsWritable a → IsWritable b → text_of b ≡ text_of a → AreSame a b
text-one a b h k e =
    let same : Some (meant_by a) ≡ Some (meant_by b) = sym (writable-said a h) ∙ ap meant_of (sym e) ∙ writable-said b k in
    let meant : meant_by b ≡ meant_by a = cc in
    says-same a b h (subst (λ (m : Meant). SaysMeant m b) meant (says-itself b k))
