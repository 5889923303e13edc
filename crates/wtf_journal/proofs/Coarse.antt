-- What is made of the records, seen more coarsely.
use Rattle.std.proofs.Common.{◌≡◌, ◌∙◌, ℕ, List, [], ◌∷◌, Option, None, Some, ⊎_elim, inl, inr, refl, sym, ap, subst}
use Rattle.std.specs.Option.{option_map}
use Rattle.wtf_dev.specs.Disk.{DiskContent, DiskView, DiskKind}
use Rattle.wtf_journal.specs.Scan.{BodyMakes, make_on, held_after, JournalGives, KeepsMeaning, IsBadAt, OpensTo}

abbrev some_or : {A : Type 0} → A → Option A → A
some_or x None = x
some_or x (Some y) = y

some_of : {M N : Type 0} (f : M → N) (o : Option M) (y : N) → option_map f o ≡ Some y → (x : M) × (o ≡ Some x) × (f x ≡ y)
some_of f None y is = absurd (cc (is))
some_of f (Some x) y is = (x, refl, ap (some_or y) is)

none_of : {M N : Type 0} (f : M → N) (o : Option M) → option_map f o ≡ None → o ≡ None
none_of f None is = refl
none_of f (Some x) is = absurd (cc (is))

module _ {M N : Type 0} (makes : BodyMakes M) (coarse : BodyMakes N) (f : M → N)
    (same : (held : M) (body : List ℕ) → option_map f (makes held body) ≡ coarse (f held) body) where
  step : (o : Option M) (body : List ℕ) → option_map f (make_on makes o body) ≡ make_on coarse (option_map f o) body
  step None body = refl
  step (Some held) body = same held body

  fold_seen : (o : Option M) (bodies : List (List ℕ)) → option_map f (held_after makes o bodies) ≡ held_after coarse (option_map f o) bodies
  fold_seen o [] = refl
  fold_seen o (body ∷ bodies) = fold_seen (make_on makes o body) bodies ∙ ap (λ (p : Option N). held_after coarse p bodies) (step o body)

  pub after_seen : (start : M) (bodies : List (List ℕ)) (held : M) → held_after makes (Some start) bodies ≡ Some held
      → held_after coarse (Some (f start)) bodies ≡ Some (f held)
  after_seen start bodies held is = sym (fold_seen (Some start) bodies) ∙ ap (λ (o : Option M). option_map f o) is

  after_back : (start : M) (bodies : List (List ℕ)) (y : N) → held_after coarse (Some (f start)) bodies ≡ Some y
      → (x : M) × (held_after makes (Some start) bodies ≡ Some x) × (f x ≡ y)
  after_back start bodies y is = some_of f (held_after makes (Some start) bodies) y (fold_seen (Some start) bodies ∙ is)

  module _ (start : M) (c : List ℕ) where
    gives_seen : (x : M) → JournalGives makes start c x → JournalGives coarse (f start) c (f x)
    gives_seen x gives = record { bodies = gives.bodies; has = gives.has; held_is = after_seen start gives.bodies x gives.held_is }

    pub gives_back : (y : N) → JournalGives coarse (f start) c y → (x : M) × JournalGives makes start c x × (f x ≡ y)
    gives_back y gives =
        let x = after_back start gives.bodies y gives.held_is in
        (x.0, record { bodies = gives.bodies; has = gives.has; held_is = x.1 }, x.2)

    pub bad_seen : (n : ℕ) → IsBadAt makes start c n → IsBadAt coarse (f start) c n
    bad_seen n bad = record {
      long = bad.long;
      bodies = bad.bodies;
      rest = bad.rest;
      held = f bad.held;
      split = bad.split;
      short = bad.short;
      at_is = bad.at_is;
      held_is = after_seen start bad.bodies bad.held bad.held_is;
      bad = λ body more short is. ⊎_elim (λ none. inl none)
          (λ none. inr (sym (same bad.held body) ∙ ap (λ (o : Option M). option_map f o) none)) (bad.bad body more short is);
    }

    pub bad_back : (n : ℕ) → IsBadAt coarse (f start) c n → IsBadAt makes start c n
    bad_back n bad =
        let x = after_back start bad.bodies bad.held bad.held_is in
        record {
          long = bad.long;
          bodies = bad.bodies;
          rest = bad.rest;
          held = x.0;
          split = bad.split;
          short = bad.short;
          at_is = bad.at_is;
          held_is = x.1;
          bad = λ body more short is. ⊎_elim (λ none. inl none)
              (λ none. inr (none_of f (makes x.0 body) (same x.0 body ∙ ap (λ (y : N). coarse y body) x.2 ∙ none))) (bad.bad body more short is);
        }

  gives_on : (start : M) (c d : List ℕ) → ((x : M) → JournalGives makes start c x → JournalGives makes start d x) → (y : N)
      → JournalGives coarse (f start) c y → JournalGives coarse (f start) d y
  gives_on start c d keeps y gives =
      let x = gives_back start c y gives in
      subst (λ (z : N). JournalGives coarse (f start) d z) x.2 (gives_seen start d x.0 (keeps x.0 x.1))

  pub keeps_seen : (start : M) (old : DiskView) (c : DiskContent) → KeepsMeaning makes start old c → KeepsMeaning coarse (f start) old c
  keeps_seen start old c (c0, image, keeps) = (
    c0,
    image,
    record {
      same = λ y. (gives_on start c0 (c 0) (λ x. (keeps.same x).0) y, gives_on start (c 0) c0 (λ x. (keeps.same x).1) y);
      bad = λ none. keeps.bad (λ x gives. none (f x) (gives_seen start c0 x gives));
    },
  )

  abbrev pub opens_seen : {D : Type 0} (kind : DiskKind D) (old new : D) (end : ℕ) (start held : M) → OpensTo makes kind old new end start held
      → OpensTo coarse kind old new end (f start) (f held)
  opens_seen kind old new end start held o = record {
    bodies = o.bodies;
    has = o.has;
    rests = o.rests;
    held_is = after_seen start o.bodies held o.held_is;
    only = λ other gives.
        let x = gives_back start ((kind.view old).file 0).seen other gives in
        sym x.2 ∙ ap f (o.only x.0 x.1);
  }
