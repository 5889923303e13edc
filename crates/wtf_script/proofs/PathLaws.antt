-- Paths of a line.
use Rattle.std.proofs.Common.{◌≡◌, ℕ, List, [], ◌∷◌, ◌++◌, refl, sym, ap, ◌∙◌, append_assoc, Option, Some, None, Result, Ok, Err, IfSome, IsNone, MatchOption}
use Rattle.std.proofs.lemmas.List.{append-nil}
use Rattle.wtf_path.specs.declared.error.PathError.{PathError}
use Rattle.wtf_path.specs.declared.error.PathError.TheVariants as path_error
use Rattle.wtf_path.specs.Refusals.{number_of}
use Rattle.wtf_model.specs.declared.answer.Kind.{Kind}
use Rattle.wtf_model.specs.declared.answer.Kind.TheVariants as kind
use Rattle.wtf_script.specs.declared.error.LineError.{LineError}
use Rattle.wtf_script.specs.declared.error.LineError.TheVariants as line_error
use Rattle.wtf_script.specs.Arguments.{AnswersAs, ◌>>=◌, path_of, path_unless, paths_of}

-- the kind of a refusal, where its number is known
refused : (why : PathError) (word : List ℕ) (e : LineError) (o : Option ℕ) → o ≡ number_of why → MatchOption o (e ≡ line_error.Memory) (λ n. e ≡ line_error.Bad (kind.Path n))
    → AnswersAs {A = List ℕ} (Err e) (path_unless (Some why) word)
refused why word e (Some n) is is_bad = rw (is_bad, sym is) refl
refused why word e None is is_memory = rw is_memory tt

pub path_refused : (o : Option PathError) (word : List ℕ) (why : PathError) (e : LineError) (r : Result (List ℕ) PathError) → r ≡ Err why
    → IfSome o (λ w. r ≡ Err w) → (IsNone o → why ≡ path_error.Memory) → MatchOption (number_of why) (e ≡ line_error.Memory) (λ n. e ≡ line_error.Bad (kind.Path n))
    → AnswersAs {A = List ℕ} (Err e) (path_unless o word)
path_refused (Some w) word why e r is first memory bad =
    let same : w ≡ why = cc in
    rw same (refused why word e (number_of why) refl bad)
path_refused None word why e r is first memory bad =
    let is_memory : e ≡ line_error.Memory = rw (memory refl) at bad in
    rw is_memory tt

-- paths in front of those that are read
abbrev pub with_front : List (List ℕ) → Result (List (List ℕ)) Kind → Result (List (List ℕ)) Kind
with_front front read = read >>= λ paths. Ok (front ++ paths)

pub front-nil : (r : Result (List (List ℕ)) Kind) → with_front [] r ≡ r
front-nil (Ok paths) = refl
front-nil (Err k) = refl

front-push : (front : List (List ℕ)) (path : List ℕ) (r : Result (List (List ℕ)) Kind) → with_front (front ++ path ∷ []) r ≡ with_front front (r >>= λ paths. Ok (path ∷ paths))
front-push front path (Ok paths) = ap (λ (ps : List (List ℕ)). Ok ps) (append_assoc front (path ∷ []) paths)
front-push front path (Err k) = refl

-- one path more was read
pub paths-more : (front : List (List ℕ)) (word path : List ℕ) (words : List (List ℕ)) → path_of word ≡ Ok path → with_front (front ++ path ∷ []) (paths_of words) ≡ with_front front (paths_of (word ∷ words))
unfolding paths_of
paths-more front word path words e = front-push front path (paths_of words) ∙ ap (λ (r : Result (List ℕ) Kind). with_front front (r >>= λ p. paths_of words >>= λ ps. Ok (p ∷ ps))) (sym e)

-- a word was no path
pub paths-wrong : (front : List (List ℕ)) (word : List ℕ) (words : List (List ℕ)) (k : Kind) → path_of word ≡ Err k → with_front front (paths_of (word ∷ words)) ≡ Err k
unfolding paths_of
paths-wrong front word words k e = ap (λ (r : Result (List ℕ) Kind). with_front front (r >>= λ p. paths_of words >>= λ ps. Ok (p ∷ ps))) e

pub paths-none : (front : List (List ℕ)) → with_front front (paths_of []) ≡ Ok front
unfolding paths_of
paths-none front = ap (λ (ps : List (List ℕ)). Ok ps) (append-nil front)

pub paths-err : (front : List (List ℕ)) (word : List ℕ) (words : List (List ℕ)) (all : Result (List (List ℕ)) Kind) (e : LineError) → with_front front (paths_of (word ∷ words)) ≡ all
    → AnswersAs {A = List ℕ} (Err e) (path_of word) → AnswersAs {A = List (List ℕ)} (Err e) all
paths-err front word words all (line_error.Bad k) same wrong = sym same ∙ paths-wrong front word words k wrong
paths-err front word words all line_error.Memory same wrong = tt
