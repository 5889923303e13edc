-- Readers and texts that belong together: what is read stood there as its text, and a text is read as what has it.
use Rattle.std.proofs.Common.{◌≡◌, ℕ, zero, suc, ◌+◌, ◌^◌, ◌<◌, ◌≤◌, Bool, true, false, cond, ltb, List, [], ◌∷◌, ◌++◌, length, get_or, take, drop, Option, Some, None, refl, sym, ap, subst, ◌∙◌, append_assoc, arith, inl, inr}
use Rattle.std.specs.List.{flat_map, AllByRecursion}
use Rattle.std.specs.Int.{Width, w16, w32, w64, byte_len, from_be_bytes, to_be_bytes}
use Rattle.std.proofs.lemmas.Bool.{cases_lt, ltb-false, le-ltb}
use Rattle.std.proofs.lemmas.List.{take_at, drop_at, take-append-drop, length-append, length-take, get_or-drop, get_or-take, get_or_past}
use Rattle.std.proofs.lemmas.List.Concat.{flat_map-cons}
use Rattle.std.proofs.lemmas.Nat.{be_bytes_2, be_bytes_4, be_bytes_8, from_be_bytes-to_be_bytes_2, from_be_bytes-to_be_bytes_4, from_be_bytes-to_be_bytes_8}
use Rattle.wtf_overlay.specs.Reading.{◌>>=◌, Reader, then_at, as_at, only_at, many_at, counted_at, byte_at, number_at, text_at}

abbrev pub IsBytes : List ℕ → Type 0
IsBytes bytes = (i : ℕ) → get_or bytes i 0 < 256

IsBytes-drop : (n : ℕ) (bytes : List ℕ) → IsBytes bytes → IsBytes (drop n bytes)
IsBytes-drop n bytes h i = rw get_or-drop (h (n + i))

IsBytes-take : (n : ℕ) (bytes : List ℕ) → IsBytes bytes → IsBytes (take n bytes)
IsBytes-take n bytes h i =
    elim (cases_lt i n) [
      | inl lt ↦ rw (get_or-take n bytes i 0 lt) (h i)
      | inr le ↦ rw (get_or_past (take n bytes) i 0 (omega (arith, length-take n bytes))) (omega arith)
    ]

pub IsBytes-rest : (b : ℕ) (bytes : List ℕ) → IsBytes (b ∷ bytes) → IsBytes bytes
IsBytes-rest b bytes h i = h (suc i)

-- what was taken from the front of bytes
pub record Takes (bytes text rest : List ℕ) : Type 0 where
  pub parts : bytes ≡ text ++ rest
  pub rest_fits : IsBytes rest

Takes-then : (a x b y c : List ℕ) → Takes a x b → Takes b y c → Takes a (x ++ y) c
Takes-then a x b y c p q = record { parts = p.parts ∙ ap (λ (t : List ℕ). x ++ t) q.parts ∙ sym (append_assoc x y c); rest_fits = q.rest_fits }

pub record Codec {A : Type 0} (text : A → List ℕ) (Form : A → Type 0) (read : Reader A) : Type 0 where
  pub takes : (bytes : List ℕ) (x : A × List ℕ) → IsBytes bytes → read bytes ≡ Some x → Takes bytes (text x.0) x.1 × Form x.0
  pub again : (x : A) (rest : List ℕ) → Form x → read (text x ++ rest) ≡ Some (x, rest)

-- what one step after another gave
pub bind_some : {A B : Type 0} (o : Option A) (f : A → Option B) (y : B) → (o >>= f) ≡ Some y → (x : A) × (o ≡ Some x) × (f x ≡ Some y)
bind_some (Some x) f y e = (x, refl, e)
bind_some None f y e = absurd cc

pub some_is : {A : Type 0} (x y : A) → Some x ≡ Some y → x ≡ y
some_is x y e = cc

pub passed : {A : Type 0} (b : Bool) (x y : A) → cond b (Some x) None ≡ Some y → (b ≡ true) × (x ≡ y)
passed true x y e = (refl, cc)
passed false x y e = absurd cc

pub passed_not : {A : Type 0} (b : Bool) (x y : A) → cond b None (Some x) ≡ Some y → (b ≡ false) × (x ≡ y)
passed_not true x y e = absurd cc
passed_not false x y e = (refl, cc)

-- ---- ways to put readers together

module _ {A B : Type 0} {ta : A → List ℕ} {Fa : A → Type 0} {ra : Reader A} {tb : B → List ℕ} {Fb : A → B → Type 0} {rb : A → Reader B} where
  then_takes : Codec ta Fa ra → ((a : A) → Fa a → Codec tb (Fb a) (rb a)) → (bytes : List ℕ) (x : (A × B) × List ℕ) → IsBytes bytes → then_at ra rb bytes ≡ Some x
      → Takes bytes (ta x.0.0 ++ tb x.0.1) x.1 × (Fa x.0.0 × Fb x.0.0 x.0.1)
  then_takes ca cb bytes x fits e =
      let a = bind_some (ra bytes) (λ a. rb a.0 a.1 >>= λ b. Some ((a.0, b.0), b.1)) x e in
      let b = bind_some (rb a.0.0 a.0.1) (λ b. Some ((a.0.0, b.0), b.1)) x a.2 in
      let first = ca.takes bytes a.0 fits a.1 in
      let second = (cb a.0.0 first.1).takes a.0.1 b.0 first.0.rest_fits b.1 in
      let made : (A × B) × List ℕ = ((a.0.0, b.0.0), b.0.1) in
      subst (λ (y : (A × B) × List ℕ). Takes bytes (ta y.0.0 ++ tb y.0.1) y.1 × (Fa y.0.0 × Fb y.0.0 y.0.1)) (some_is made x b.2)
      (Takes-then bytes (ta a.0.0) a.0.1 (tb b.0.0) b.0.1 first.0 second.0, (first.1, second.1))

  then_again : Codec ta Fa ra → ((a : A) → Fa a → Codec tb (Fb a) (rb a)) → (x : A × B) (rest : List ℕ) → Fa x.0 × Fb x.0 x.1 → then_at ra rb ((ta x.0 ++ tb x.1) ++ rest) ≡ Some (x, rest)
  then_again ca cb x rest form =
      ap (then_at ra rb) (append_assoc (ta x.0) (tb x.1) rest)
      ∙ ap (λ o. o >>= λ a. rb a.0 a.1 >>= λ b. Some ((a.0, b.0), b.1)) (ca.again x.0 (tb x.1 ++ rest) form.0)
      ∙ ap (λ o. o >>= λ b. Some ((x.0, b.0), b.1)) ((cb x.0 form.0).again x.1 rest form.1)

  pub codec_then : Codec ta Fa ra → ((a : A) → Fa a → Codec tb (Fb a) (rb a)) → Codec (λ (p : A × B). ta p.0 ++ tb p.1) (λ p. Fa p.0 × Fb p.0 p.1) (then_at ra rb)
  codec_then ca cb = record { takes = then_takes ca cb; again = then_again ca cb }

-- the same as something else, of which the parts are told
pub record IsMade {A B : Type 0} (ta : A → List ℕ) (Fa : A → Type 0) (tb : B → List ℕ) (Fb : B → Type 0) (make : A → B) (parts : B → A) : Type 0 where
  pub text : (a : A) → Fa a → tb (make a) ≡ ta a
  pub form : (a : A) → Fa a → Fb (make a)
  pub back : (b : B) → Fb b → Fa (parts b)
  pub same : (b : B) → Fb b → make (parts b) ≡ b

module _ {A B : Type 0} {ta : A → List ℕ} {Fa : A → Type 0} {tb : B → List ℕ} {Fb : B → Type 0} {make : A → B} {parts : B → A} {ra : Reader A} where
  as_takes : IsMade ta Fa tb Fb make parts → Codec ta Fa ra → (bytes : List ℕ) (x : B × List ℕ) → IsBytes bytes → as_at make ra bytes ≡ Some x → Takes bytes (tb x.0) x.1 × Fb x.0
  as_takes m ca bytes x fits e =
      let a = bind_some (ra bytes) (λ a. Some (make a.0, a.1)) x e in
      let first = ca.takes bytes a.0 fits a.1 in
      let made : B × List ℕ = (make a.0.0, a.0.1) in
      subst (λ (y : B × List ℕ). Takes bytes (tb y.0) y.1 × Fb y.0) (some_is made x a.2)
      (subst (λ (t : List ℕ). Takes bytes t a.0.1) (sym (m.text a.0.0 first.1)) first.0, m.form a.0.0 first.1)

  as_again : IsMade ta Fa tb Fb make parts → Codec ta Fa ra → (b : B) (rest : List ℕ) → Fb b → as_at make ra (tb b ++ rest) ≡ Some (b, rest)
  as_again m ca b rest form =
      let is : tb b ≡ ta (parts b) = ap tb (sym (m.same b form)) ∙ m.text (parts b) (m.back b form) in
      ap (λ (t : List ℕ). as_at make ra (t ++ rest)) is
      ∙ ap (λ o. o >>= λ a. Some (make a.0, a.1)) (ca.again (parts b) rest (m.back b form))
      ∙ ap (λ (x : B). Some (x, rest)) (m.same b form)

  pub codec_as : IsMade ta Fa tb Fb make parts → Codec ta Fa ra → Codec tb Fb (as_at make ra)
  codec_as m ca = record { takes = as_takes m ca; again = as_again m ca }

module _ {A : Type 0} {t : A → List ℕ} {F : A → Type 0} {read : Reader A} where
  -- the same form in other words
  pub codec_form : {G : A → Type 0} → ((x : A) → F x → G x) → ((x : A) → G x → F x) → Codec t F read → Codec t G read
  codec_form to from c = record {
    takes = λ bytes x fits e. let taken = c.takes bytes x fits e in (taken.0, to x.0 taken.1);
    again = λ x rest g. c.again x rest (from x g);
  }

  only_takes : (test : A → Bool) → Codec t F read → (bytes : List ℕ) (x : A × List ℕ) → IsBytes bytes → only_at test read bytes ≡ Some x → Takes bytes (t x.0) x.1 × (F x.0 × (test x.0 ≡ true))
  only_takes test c bytes x fits e =
      let a = bind_some (read bytes) (λ a. cond (test a.0) (Some a) None) x e in
      let p = passed (test a.0.0) a.0 x a.2 in
      let first = c.takes bytes a.0 fits a.1 in
      subst (λ (y : A × List ℕ). Takes bytes (t y.0) y.1 × (F y.0 × (test y.0 ≡ true))) p.1 (first.0, (first.1, p.0))

  pub codec_only : (test : A → Bool) → Codec t F read → Codec t (λ x. F x × (test x ≡ true)) (only_at test read)
  codec_only test c = record {
    takes = only_takes test c;
    again = λ x rest form. ap (λ o. o >>= λ a. cond (test a.0) (Some a) None) (c.again x rest form.0) ∙ ap (λ b. cond b (Some (x, rest)) None) form.1;
  }

  many_takes : Codec t F read → (n : ℕ) (bytes : List ℕ) (x : List A × List ℕ) → IsBytes bytes → many_at read n bytes ≡ Some x → Takes bytes (flat_map t x.0) x.1 × ((length x.0 ≡ n) × AllByRecursion F x.0)
  many_takes c zero bytes x fits e =
      subst (λ (y : List A × List ℕ). Takes bytes (flat_map t y.0) y.1 × ((length y.0 ≡ 0) × AllByRecursion F y.0)) (some_is ([], bytes) x e) (record { parts = refl; rest_fits = fits }, (refl, tt))
  many_takes c (suc n) bytes x fits e =
      let a = bind_some (read bytes) (λ first. many_at read n first.1 >>= λ others. Some (first.0 ∷ others.0, others.1)) x e in
      let b = bind_some (many_at read n a.0.1) (λ others. Some (a.0.0 ∷ others.0, others.1)) x a.2 in
      let first = c.takes bytes a.0 fits a.1 in
      let second = many_takes c n a.0.1 b.0 first.0.rest_fits b.1 in
      let both = Takes-then bytes (t a.0.0) a.0.1 (flat_map t b.0.0) b.0.1 first.0 second.0 in
      let made : List A × List ℕ = (a.0.0 ∷ b.0.0, b.0.1) in
      subst (λ (y : List A × List ℕ). Takes bytes (flat_map t y.0) y.1 × ((length y.0 ≡ suc n) × AllByRecursion F y.0)) (some_is made x b.2)
      (rw flat_map-cons both, (ap suc second.1.0, (first.1, second.1.1)))

  many_again : Codec t F read → (xs : List A) (rest : List ℕ) → AllByRecursion F xs → many_at read (length xs) (flat_map t xs ++ rest) ≡ Some (xs, rest)
  many_again c [] rest form = refl
  many_again c (x ∷ xs) rest form =
      let regrouped : flat_map t (x ∷ xs) ++ rest ≡ t x ++ (flat_map t xs ++ rest) = ap (λ (y : List ℕ). y ++ rest) (flat_map-cons t x xs) ∙ append_assoc (t x) (flat_map t xs) rest in
      ap (many_at read (suc (length xs))) regrouped
      ∙ ap (λ o. o >>= λ first. many_at read (length xs) first.1 >>= λ others. Some (first.0 ∷ others.0, others.1)) (c.again x (flat_map t xs ++ rest) form.0)
      ∙ ap (λ o. o >>= λ others. Some (x ∷ others.0, others.1)) (many_again c xs rest form.1)

  pub codec_many : Codec t F read → (n : ℕ) → Codec (flat_map t) (λ xs. (length xs ≡ n) × AllByRecursion F xs) (many_at read n)
  codec_many c n = record {
    takes = many_takes c n;
    again = λ xs rest form. subst (λ (k : ℕ). many_at read k (flat_map t xs ++ rest) ≡ Some (xs, rest)) form.0 (many_again c xs rest form.1);
  }

-- ---- bytes, numbers and texts

byte_takes : (bytes : List ℕ) (x : ℕ × List ℕ) → IsBytes bytes → byte_at bytes ≡ Some x → Takes bytes (x.0 ∷ []) x.1 × (x.0 < 2 ^ 8)
byte_takes [] x fits e = absurd cc
byte_takes (b ∷ bytes) x fits e =
    subst (λ (y : ℕ × List ℕ). Takes (b ∷ bytes) (y.0 ∷ []) y.1 × (y.0 < 2 ^ 8)) (some_is (b, bytes) x e) (record { parts = refl; rest_fits = IsBytes-rest b bytes fits }, fits 0)

pub byte_codec : Codec (λ (b : ℕ). b ∷ []) (λ b. b < 2 ^ 8) byte_at
byte_codec = record { takes = byte_takes; again = λ b rest form. refl }

pub record IsWide (w : Width) (limit : ℕ) : Type 0 where
  pub len : (n : ℕ) → length (to_be_bytes w n) ≡ byte_len w
  pub back : (bytes : List ℕ) → length bytes ≡ byte_len w → IsBytes bytes → to_be_bytes w (from_be_bytes w bytes) ≡ bytes
  pub again : (n : ℕ) → n < limit → from_be_bytes w (to_be_bytes w n) ≡ n
  pub below : (bytes : List ℕ) → IsBytes bytes → from_be_bytes w bytes < limit

wide16 : IsWide w16 (2 ^ 16)
wide16 = record {
  len = λ n. refl;
  back = λ bytes len fits. be_bytes_2 bytes _ len fits refl;
  again = λ n lt. from_be_bytes-to_be_bytes_2 n lt;
  below = λ bytes fits. omega (arith, fits 0, fits 1);
}

wide32 : IsWide w32 (2 ^ 32)
wide32 = record {
  len = λ n. refl;
  back = λ bytes len fits. be_bytes_4 bytes _ len fits refl;
  again = λ n lt. from_be_bytes-to_be_bytes_4 n lt;
  below = λ bytes fits. omega (arith, fits 0, fits 1, fits 2, fits 3);
}

wide64 : IsWide w64 (2 ^ 64)
wide64 = record {
  len = λ n. refl;
  back = λ bytes len fits. be_bytes_8 bytes _ len fits refl;
  again = λ n lt. from_be_bytes-to_be_bytes_8 n lt;
  below = λ bytes fits. omega (arith, fits 0, fits 1, fits 2, fits 3, fits 4, fits 5, fits 6, fits 7);
}

module _ (w : Width) (limit : ℕ) (wide : IsWide w limit) where
  number_takes : (bytes : List ℕ) (x : ℕ × List ℕ) → IsBytes bytes → number_at w bytes ≡ Some x → Takes bytes (to_be_bytes w x.0) x.1 × (x.0 < limit)
  unfolding number_at
  number_takes bytes x fits e =
      let g = passed_not (ltb (length bytes) (byte_len w)) (from_be_bytes w (take (byte_len w) bytes), drop (byte_len w) bytes) x e in
      let long : byte_len w ≤ length bytes = ltb-false _ _ g.0 in
      let n-is : from_be_bytes w (take (byte_len w) bytes) ≡ x.0 = ap (λ (p : ℕ × List ℕ). p.0) g.1 in
      let rest-is : drop (byte_len w) bytes ≡ x.1 = ap (λ (p : ℕ × List ℕ). p.1) g.1 in
      let front : to_be_bytes w x.0 ≡ take (byte_len w) bytes = rw (← n-is) (wide.back (take (byte_len w) bytes) (omega (arith, length-take (byte_len w) bytes)) (IsBytes-take (byte_len w) bytes fits)) in
      (record { parts = rw (front, ← rest-is) (sym (take-append-drop (byte_len w) bytes)); rest_fits = rw (← rest-is) (IsBytes-drop (byte_len w) bytes fits) }, rw (← n-is) (wide.below (take (byte_len w) bytes) (IsBytes-take (byte_len w) bytes fits)))

  number_again : (n : ℕ) (rest : List ℕ) → n < limit → number_at w (to_be_bytes w n ++ rest) ≡ Some (n, rest)
  unfolding number_at
  number_again n rest lt =
      let len = wide.len n in
      let long : ltb (length (to_be_bytes w n ++ rest)) (byte_len w) ≡ false = le-ltb _ _ (omega (arith, length-append (to_be_bytes w n) rest)) in
      rw (long, take_at (to_be_bytes w n) rest (byte_len w) len, drop_at (to_be_bytes w n) rest (byte_len w) len, wide.again n lt) refl

  number_codec : Codec (to_be_bytes w) (λ n. n < limit) (number_at w)
  number_codec = record { takes = number_takes; again = number_again }

pub codec16 : Codec (to_be_bytes w16) (λ n. n < 2 ^ 16) (number_at w16)
codec16 = number_codec w16 (2 ^ 16) wide16

pub codec32 : Codec (to_be_bytes w32) (λ n. n < 2 ^ 32) (number_at w32)
codec32 = number_codec w32 (2 ^ 32) wide32

pub codec64 : Codec (to_be_bytes w64) (λ n. n < 2 ^ 64) (number_at w64)
codec64 = number_codec w64 (2 ^ 64) wide64

text_takes : (n : ℕ) (bytes : List ℕ) (x : List ℕ × List ℕ) → IsBytes bytes → text_at n bytes ≡ Some x → Takes bytes x.0 x.1 × (length x.0 ≡ n)
unfolding text_at
text_takes n bytes x fits e =
    let g = passed_not (ltb (length bytes) n) (take n bytes, drop n bytes) x e in
    let long : n ≤ length bytes = ltb-false _ _ g.0 in
    subst (λ (p : List ℕ × List ℕ). Takes bytes p.0 p.1 × (length p.0 ≡ n)) g.1
    (record { parts = sym (take-append-drop n bytes); rest_fits = IsBytes-drop n bytes fits }, omega (arith, length-take n bytes))

text_again : (n : ℕ) (text rest : List ℕ) → length text ≡ n → text_at n (text ++ rest) ≡ Some (text, rest)
unfolding text_at
text_again n text rest len =
    let long : ltb (length (text ++ rest)) n ≡ false = le-ltb _ _ (omega (arith, length-append text rest)) in
    rw (long, take_at text rest n len, drop_at text rest n len) refl

pub text_codec : (n : ℕ) → Codec (λ (t : List ℕ). t) (λ t. length t ≡ n) (text_at n)
text_codec n = record { takes = text_takes n; again = text_again n }

-- a count, and then so many
counted_made : {A : Type 0} (t : A → List ℕ) (F : A → Type 0) (w : Width) (limit : ℕ)
    → IsMade (λ (p : ℕ × List A). to_be_bytes w p.0 ++ flat_map t p.1) (λ p. (p.0 < limit) × ((length p.1 ≡ p.0) × AllByRecursion F p.1))
    (λ (xs : List A). to_be_bytes w (length xs) ++ flat_map t xs) (λ xs. (length xs < limit) × AllByRecursion F xs) (λ x. x.1) (λ xs. (length xs, xs))
counted_made t F w limit = record {
  text = λ p form. ap (λ (n : ℕ). to_be_bytes w n ++ flat_map t p.1) form.1.0;
  form = λ p form. (subst (λ (n : ℕ). n < limit) (sym form.1.0) form.0, form.1.1);
  back = λ xs form. (form.0, (refl, form.1));
  same = λ xs form. refl;
}

pub counted_codec : {A : Type 0} {t : A → List ℕ} {F : A → Type 0} {read : Reader A} (w : Width) (limit : ℕ) → Codec (to_be_bytes w) (λ n. n < limit) (number_at w) → Codec t F read
    → Codec (λ (xs : List A). to_be_bytes w (length xs) ++ flat_map t xs) (λ xs. (length xs < limit) × AllByRecursion F xs) (counted_at w read)
counted_codec {A} {t} {F} {read} w limit number c = codec_as (counted_made t F w limit) (codec_then number (λ n lt. codec_many c n))
