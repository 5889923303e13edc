-- A word that is no path.
use Rattle.std.proofs.Common.{◌≡◌, ℕ, List, refl, Option, Some, None, Result, Err, IfSome, IsNone, MatchOption}
use Rattle.wtf_path.specs.declared.error.PathError.{PathError}
use Rattle.wtf_path.specs.declared.error.PathError.TheVariants as path_error
use Rattle.wtf_path.specs.Refusals.{number_of}
use Rattle.wtf_print.specs.declared.error.TextError.{TextError}
use Rattle.wtf_print.specs.declared.error.TextError.TheVariants as text_error
use Rattle.wtf_print.specs.Pieces.{ReadsAs, path_unless}

-- where a rule is broken, the word is no path
refused : (why : PathError) (word : List ℕ) (e : TextError) (o : Option ℕ) → o ≡ number_of why → MatchOption o (e ≡ text_error.Memory) (λ n. e ≡ text_error.NotAnAnswer)
    → ReadsAs {A = List ℕ} (Err e) (path_unless (Some why) word)
refused why word e (Some n) is is_bad = rw is_bad refl
refused why word e None is is_memory = rw is_memory tt

pub path_refused : (o : Option PathError) (word : List ℕ) (why : PathError) (e : TextError) (r : Result (List ℕ) PathError) → r ≡ Err why
    → IfSome o (λ w. r ≡ Err w) → (IsNone o → why ≡ path_error.Memory) → MatchOption (number_of why) (e ≡ text_error.Memory) (λ n. e ≡ text_error.NotAnAnswer)
    → ReadsAs {A = List ℕ} (Err e) (path_unless o word)
path_refused (Some w) word why e r is first memory bad = refused why word e (number_of why) refl bad
path_refused None word why e r is first memory bad =
    let is_memory : e ≡ text_error.Memory = rw (memory refl) at bad in
    rw is_memory tt
