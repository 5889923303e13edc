-- A text that is no path.
use Rattle.std.proofs.Common.{◌≡◌, ℕ, List, refl, cond, Option, Some, None, Result, Err, IfSome, IsNone, MatchOption, is_none}
use Rattle.wtf_path.specs.declared.error.PathError.{PathError}
use Rattle.wtf_path.specs.declared.error.PathError.TheVariants as path_error
use Rattle.wtf_path.specs.Refusals.{number_of}
use Rattle.wtf_spillfmt.specs.declared.error.ListError.{ListError}
use Rattle.wtf_spillfmt.specs.declared.error.ListError.TheVariants as error
use Rattle.wtf_spillfmt.specs.Parses.{Parses}

-- where a rule is broken, the text is no path
refused : (why : PathError) (e : ListError) (o : Option ℕ) → o ≡ number_of why → MatchOption o (e ≡ error.Memory) (λ n. e ≡ error.NotAList)
    → Parses {A = List ℕ} {B = List ℕ} (λ p. p) (Err e) None
refused why e (Some n) is is_bad = rw is_bad refl
refused why e None is is_memory = rw is_memory tt

pub path_refused : (o : Option PathError) (text : List ℕ) (why : PathError) (e : ListError) (r : Result (List ℕ) PathError) → r ≡ Err why
    → IfSome o (λ w. r ≡ Err w) → (IsNone o → why ≡ path_error.Memory) → MatchOption (number_of why) (e ≡ error.Memory) (λ n. e ≡ error.NotAList)
    → Parses {A = List ℕ} {B = List ℕ} (λ p. p) (Err e) (cond (is_none o) (Some text) None)
path_refused (Some w) text why e r is first memory bad = refused why e (number_of why) refl bad
path_refused None text why e r is first memory bad =
    let is_memory : e ≡ error.Memory = rw (memory refl) at bad in
    rw is_memory tt
