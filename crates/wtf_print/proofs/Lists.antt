-- Words that are read one by one.
use Rattle.std.proofs.Common.{◌≡◌, ℕ, List, [], ◌∷◌, ◌++◌, refl, sym, ap, ◌∙◌, append_assoc, Option, Some, None, Err}
use Rattle.std.proofs.lemmas.List.{append-nil}
use Rattle.wtf_print.specs.declared.error.TextError.{TextError}
use Rattle.wtf_print.specs.declared.error.TextError.TheVariants as text_error
use Rattle.wtf_print.specs.Pieces.{◌>>=◌, ReadsAs, each_of}

-- what was read so far, in front of what is read yet
abbrev pub with_front : {A : Type 0} → List A → Option (List A) → Option (List A)
with_front front read = read >>= λ xs. Some (front ++ xs)

pub front-nil : {A : Type 0} (o : Option (List A)) → with_front [] o ≡ o
front-nil (Some xs) = refl
front-nil None = refl

front-push : {A : Type 0} (front : List A) (x : A) (o : Option (List A)) → with_front (front ++ x ∷ []) o ≡ with_front front (o >>= λ xs. Some (x ∷ xs))
front-push {A} front x (Some xs) = ap (λ (l : List A). Some l) (append_assoc front (x ∷ []) xs)
front-push front x None = refl

-- one word more was read
pub each-more : {A : Type 0} (read : List ℕ → Option A) (front : List A) (word : List ℕ) (x : A) (words : List (List ℕ)) → read word ≡ Some x
    → with_front (front ++ x ∷ []) (each_of read words) ≡ with_front front (each_of read (word ∷ words))
each-more {A} read front word x words e =
    front-push front x (each_of read words) ∙ ap (λ (o : Option A). with_front front (o >>= λ y. each_of read words >>= λ ys. Some (y ∷ ys))) (sym e)

-- a word could not be read
each-wrong : {A : Type 0} (read : List ℕ → Option A) (front : List A) (word : List ℕ) (words : List (List ℕ)) → read word ≡ None → with_front front (each_of read (word ∷ words)) ≡ None
each-wrong {A} read front word words e = ap (λ (o : Option A). with_front front (o >>= λ y. each_of read words >>= λ ys. Some (y ∷ ys))) e

pub each-err : {A : Type 0} (read : List ℕ → Option A) (front : List A) (word : List ℕ) (words : List (List ℕ)) (all : Option (List A)) (e : TextError)
    → with_front front (each_of read (word ∷ words)) ≡ all → ReadsAs {A = A} (Err e) (read word) → ReadsAs {A = List A} (Err e) all
each-err read front word words all text_error.NotAnAnswer same wrong = sym same ∙ each-wrong read front word words wrong
each-err read front word words all text_error.Memory same wrong = tt

pub each-none : {A : Type 0} (read : List ℕ → Option A) (front : List A) → with_front front (each_of read []) ≡ Some front
each-none {A} read front = ap (λ (l : List A). Some l) (append-nil front)
