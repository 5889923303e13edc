-- Writing many things one after the other, as a loop does.
use Rattle.std.proofs.Common.{◌≡◌, ℕ, ◌+◌, ◌<◌, ◌≤◌, List, [], ◌∷◌, ◌++◌, length, map, take, get_or, sym, ap, subst, ◌∙◌, append_assoc}
use Rattle.std.specs.List.{flat_map, AllByRecursion}
use Rattle.std.specs.Int.{Width, to_be_bytes}
use Rattle.std.proofs.lemmas.List.{append-nil, take_more, take_all, length-map}
use Rattle.std.proofs.lemmas.List.Concat.{flat_map-cons}
use Rattle.std.proofs.lemmas.List.Folds.{flat_map-map}
use Rattle.std.proofs.lemmas.Grind.{flat_map-append}
use Rattle.wtf_spillfmt.specs.Writing.{Writes}

All-append : {A : Type 0} (F : A → Type 0) (xs ys : List A) → AllByRecursion F xs → AllByRecursion F ys → AllByRecursion F (xs ++ ys)
All-append F [] ys h k = k
All-append F (x ∷ xs) ys h k = (h.0, All-append F xs ys h.1 k)

-- the first i things were written behind what stood there
pub record Wrote {A : Type 0} (t : A → List ℕ) (F : A → Type 0) (old new : List ℕ) (xs : List A) (i : ℕ) : Type 0 where
  pub text_is : new ≡ old ++ flat_map t (take i xs)
  pub form : AllByRecursion F (take i xs)

module _ {A : Type 0} (t : A → List ℕ) (F : A → Type 0) where
  pub wrote_more : (old mid new : List ℕ) (xs : List A) (i : ℕ) (x : A) → i < length xs → x ≡ get_or xs i x → Wrote t F old mid xs i → Writes mid new (t x) (F x) → Wrote t F old new xs (i + 1)
  wrote_more old mid new xs i x lt is so_far one =
      let more : take (i + 1) xs ≡ take i xs ++ x ∷ [] = take_more xs i x lt ∙ ap (λ (y : A). take i xs ++ y ∷ []) (sym is) in
      record {
        text_is = one.text_is ∙ ap (λ (m : List ℕ). m ++ t x) so_far.text_is ∙ append_assoc old (flat_map t (take i xs)) (t x)
            ∙ ap (λ (m : List ℕ). old ++ m) (sym (ap (flat_map t) more ∙ flat_map-append t (take i xs) (x ∷ []) ∙ ap (λ (m : List ℕ). flat_map t (take i xs) ++ m) (flat_map-cons t x [] ∙ append-nil (t x))));
        form = subst (λ (ys : List A). AllByRecursion F ys) (sym more) (All-append F (take i xs) (x ∷ []) so_far.form (one.form, tt));
      }

  pub wrote_all : (old new : List ℕ) (xs : List A) (i : ℕ) → length xs ≤ i → Wrote t F old new xs i → Writes old new (flat_map t xs) (AllByRecursion F xs)
  wrote_all old new xs i le so_far =
      let all : take i xs ≡ xs = take_all i xs le in
      record { text_is = subst (λ (ys : List A). new ≡ old ++ flat_map t ys) all so_far.text_is; form = subst (λ (ys : List A). AllByRecursion F ys) all so_far.form }

-- one text after another
pub writes_then : (a b c s t : List ℕ) {P Q : Type 0} → Writes a b s P → Writes b c t Q → Writes a c (s ++ t) (P × Q)
writes_then a b c s t one two = record {
  text_is = two.text_is ∙ ap (λ (m : List ℕ). m ++ t) one.text_is ∙ append_assoc a s t;
  form = (one.form, two.form);
}

All-map : {A B : Type 0} (v : A → B) (F : B → Type 0) (xs : List A) → AllByRecursion (λ x. F (v x)) xs → AllByRecursion F (map v xs)
All-map v F [] h = tt
All-map v F (x ∷ xs) h = (h.0, All-map v F xs h.1)

-- a count, and then so many
pub counted_then : {A B : Type 0} (w : Width) (limit : ℕ) (v : A → B) (t : B → List ℕ) (F : B → Type 0) (a b c : List ℕ) (xs : List A)
    → Writes a b (to_be_bytes w (length xs)) (length xs < limit) → Writes b c (flat_map (λ x. t (v x)) xs) (AllByRecursion (λ x. F (v x)) xs)
    → Writes a c (to_be_bytes w (length (map v xs)) ++ flat_map t (map v xs)) ((length (map v xs) < limit) × AllByRecursion F (map v xs))
counted_then w limit v t F a b c xs one two =
    let both = writes_then a b c (to_be_bytes w (length xs)) (flat_map (λ x. t (v x)) xs) one two in
    let len : length xs ≡ length (map v xs) = sym (length-map xs v) in
    record {
      text_is = both.text_is ∙ ap (λ (m : List ℕ). a ++ (to_be_bytes w (length xs) ++ m)) (sym (flat_map-map t v xs)) ∙ ap (λ (n : ℕ). a ++ (to_be_bytes w n ++ flat_map t (map v xs))) len;
      form = (subst (λ (n : ℕ). n < limit) len both.form.0, All-map v F xs both.form.1);
    }

-- five texts one after another
pub five_texts : (o m n p q r a b c d e : List ℕ) → m ≡ o ++ a → n ≡ m ++ b → p ≡ n ++ c → q ≡ p ++ d → r ≡ q ++ e → r ≡ o ++ (a ++ (b ++ (c ++ (d ++ e))))
five_texts o m n p q r a b c d e h1 h2 h3 h4 h5 = rw (h5, h4, h3, h2, h1) (simp append_assoc)

-- the same, with what is in form said of the things themselves
pub counted_rows : {A B : Type 0} (w : Width) (limit : ℕ) (v : A → B) (t : B → List ℕ) (F : A → Type 0) (a b c : List ℕ) (xs : List A)
    → Writes a b (to_be_bytes w (length xs)) (length xs < limit) → Writes b c (flat_map (λ x. t (v x)) xs) (AllByRecursion F xs)
    → Writes a c (to_be_bytes w (length (map v xs)) ++ flat_map t (map v xs)) ((length xs < limit) × AllByRecursion F xs)
counted_rows w limit v t F a b c xs one two =
    let both = writes_then a b c (to_be_bytes w (length xs)) (flat_map (λ x. t (v x)) xs) one two in
    let len : length xs ≡ length (map v xs) = sym (length-map xs v) in
    record {
      text_is = both.text_is ∙ ap (λ (m : List ℕ). a ++ (to_be_bytes w (length xs) ++ m)) (sym (flat_map-map t v xs)) ∙ ap (λ (n : ℕ). a ++ (to_be_bytes w n ++ flat_map t (map v xs))) len;
      form = both.form;
    }
