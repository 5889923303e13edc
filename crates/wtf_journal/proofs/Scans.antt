-- Reading the records of a journal one by one.
use Rattle.std.proofs.Common.{◌≡◌, ◌≢◌, ◌⊎◌, ◌<◌, ◌≤◌, ◌-◌, ◌^◌, ◌∙◌, ℕ, List, [], ◌∷◌, ◌++◌, length, get_or, take, drop, inl, inr, ⊎_elim, refl, sym, ap}
use Rattle.std.proofs.Common.{subst, arith, append_assoc, length-append}
use Rattle.std.specs.Prelude.{Option, None, Some, Result, Ok, Err, IsErrOf}
use Rattle.std.specs.Int.{w64, to_be_bytes, from_be_bytes}
use Rattle.std.proofs.lemmas.Nat.{from_be_bytes-to_be_bytes_8}
use Rattle.std.proofs.lemmas.List.{take_at, drop_at}
use Rattle.std.proofs.lemmas.List.Elements.{All-nil, All-head, All-tail}
use Rattle.wtf_dev.specs.Disk.{DiskContent, DiskView}
use Rattle.wtf_journal.specs.Records.{framed, records, AreShort, HasBodies}
use Rattle.wtf_journal.specs.Scan.{BodyMakes, make_on, held_after, JournalGives, KeepsJournal, KeepsMeaning, SameMeaning, ReadsTo, EndsInside, IsBadAt}
use Rattle.wtf_journal.proofs.Bytes.{records-push, short-push}

-- what a loop over the records knows: they were read up to `rest`
pub record SoFar {M : Type 0} (makes : BodyMakes M) (start : M) (c : List ℕ) (held : M) (rest : List ℕ) : Type 0 where
  pub bodies : List (List ℕ)
  pub split : c ≡ records bodies ++ rest
  pub short : AreShort bodies
  pub held_is : held_after makes (Some start) bodies ≡ Some held
  pub some : 0 < length rest

pub none_short : AreShort []
none_short = All-nil (λ (body : List ℕ). length body < 2 ^ 64)

first_short : (body : List ℕ) (bodies : List (List ℕ)) → AreShort (body ∷ bodies) → length body < 2 ^ 64
first_short body bodies all = All-head (λ (b : List ℕ). length b < 2 ^ 64) body bodies all

rest_short : (body : List ℕ) (bodies : List (List ℕ)) → AreShort (body ∷ bodies) → AreShort bodies
rest_short body bodies all = All-tail (λ (b : List ℕ). length b < 2 ^ 64) body bodies all

-- what stands at the front has one reading
pub one_front : (a b xs ys : List ℕ) → length a < 2 ^ 64 → length b < 2 ^ 64 → framed a ++ xs ≡ framed b ++ ys → (a ≡ b) × (xs ≡ ys)
one_front a b xs ys ha hb is =
    let left = append_assoc (to_be_bytes w64 (length a)) a xs in
    let right = append_assoc (to_be_bytes w64 (length b)) b ys in
    let both : to_be_bytes w64 (length a) ++ (a ++ xs) ≡ to_be_bytes w64 (length b) ++ (b ++ ys) = sym left ∙ is ∙ right in
    let front : to_be_bytes w64 (length a) ≡ to_be_bytes w64 (length b) =
    sym (take_at (to_be_bytes w64 (length a)) (a ++ xs) 8 refl) ∙ ap (λ (l : List ℕ). take 8 l) both
    ∙ take_at (to_be_bytes w64 (length b)) (b ++ ys) 8 refl in
    let same : length a ≡ length b = sym (from_be_bytes-to_be_bytes_8 (length a) ha) ∙ ap (λ (l : List ℕ). from_be_bytes w64 l) front
    ∙ from_be_bytes-to_be_bytes_8 (length b) hb in
    let back : a ++ xs ≡ b ++ ys =
    sym (drop_at (to_be_bytes w64 (length a)) (a ++ xs) 8 refl) ∙ ap (λ (l : List ℕ). drop 8 l) both
    ∙ drop_at (to_be_bytes w64 (length b)) (b ++ ys) 8 refl in (
      sym (take_at a xs (length b) same) ∙ ap (λ (l : List ℕ). take (length b) l) back ∙ take_at b ys (length b) refl,
      sym (drop_at a xs (length b) same) ∙ ap (λ (l : List ℕ). drop (length b) l) back ∙ drop_at b ys (length b) refl,
    )

same_tail : (x y : ℕ) (xs ys : List ℕ) → x ∷ xs ≡ y ∷ ys → xs ≡ ys
same_tail x y xs ys is = ap (λ (l : List ℕ). drop 1 l) is

same_head : (x y : ℕ) (xs ys : List ℕ) → x ∷ xs ≡ y ∷ ys → x ≡ y
same_head x y xs ys is = ap (λ (l : List ℕ). get_or l 0 0) is

-- the first records of two readings
both_fronts : (a b : List ℕ) (ps qs : List (List ℕ)) (xs ys : List ℕ) → length a < 2 ^ 64 → length b < 2 ^ 64
    → records (a ∷ ps) ++ xs ≡ records (b ∷ qs) ++ ys → (a ≡ b) × (records ps ++ xs ≡ records qs ++ ys)
both_fronts a b ps qs xs ys ha hb is =
    one_front a b (records ps ++ xs) (records qs ++ ys) ha hb
    (sym (append_assoc (framed a) (records ps) xs) ∙ same_tail 1 1 _ _ is ∙ append_assoc (framed b) (records qs) ys)

-- two readings up to a closed gate are the same
same_bodies : (ps qs : List (List ℕ)) (g h : ℕ) (xs ys : List ℕ) → AreShort ps → AreShort qs → g ≢ 1 → h ≢ 1
    → records ps ++ (g ∷ xs) ≡ records qs ++ (h ∷ ys) → ps ≡ qs
same_bodies [] [] g h xs ys sa sb cg ch is = refl
same_bodies [] (b ∷ qs) g h xs ys sa sb cg ch is = absurd (cg (same_head g 1 _ _ is))
same_bodies (a ∷ ps) [] g h xs ys sa sb cg ch is = absurd (ch (sym (same_head 1 h _ _ is)))
same_bodies (a ∷ ps) (b ∷ qs) g h xs ys sa sb cg ch is =
    let first = both_fronts a b ps qs (g ∷ xs) (h ∷ ys) (first_short a ps sa) (first_short b qs sb) is in
    ap (λ (l : List ℕ). l ∷ ps) first.0 ∙ ap (λ (l : List (List ℕ)). b ∷ l)
    (same_bodies ps qs g h xs ys (rest_short a ps sa) (rest_short b qs sb) cg ch first.1)

-- a journal of at most one byte has no record
pub short_none : (bodies : List (List ℕ)) (c : List ℕ) → length c ≤ 1 → HasBodies bodies c → bodies ≡ []
short_none bodies c short (inr is) = is.0
short_none [] c short (inl has) = refl
short_none (body ∷ bodies) c short (inl has) =
    absurd (omega (
      arith,
      short,
      ap length has.split,
      length-append (records (body ∷ bodies)) (has.gate ∷ has.rest),
      length-append (framed body)
          (records bodies),
      length-append (to_be_bytes w64 (length body)) body,
    ))

-- a journal has one list of bodies
pub one_list : (ps qs : List (List ℕ)) (c : List ℕ) → HasBodies ps c → HasBodies qs c → ps ≡ qs
one_list ps qs c (inl p) (inl q) = same_bodies ps qs p.gate q.gate p.rest q.rest p.short q.short p.closed q.closed (sym p.split ∙ q.split)
one_list ps qs c (inr p) q = p.0 ∙ sym (short_none qs c p.1 q)
one_list ps qs c (inl p) (inr q) = short_none ps c q.1 (inl p) ∙ sym q.0

abbrev held_or : {M : Type 0} → M → Option M → M
held_or held None = held
held_or held (Some x) = x

module _ {M : Type 0} (makes : BodyMakes M) where
  pub held_after-push : (held : Option M) (bodies : List (List ℕ)) (body : List ℕ)
      → held_after makes held (bodies ++ body ∷ []) ≡ make_on makes (held_after makes held bodies) body
  held_after-push held [] body = refl
  held_after-push held (b ∷ bodies) body = held_after-push (make_on makes held b) bodies body

  pub held_after-none : (bodies : List (List ℕ)) → held_after makes None bodies ≡ None
  held_after-none [] = refl
  held_after-none (b ∷ bodies) = held_after-none bodies

  module _ (start : M) where
    -- and so it stands for one thing
    pub means_one : (c : List ℕ) (g h : M) → JournalGives makes start c g → JournalGives makes start c h → g ≡ h
    means_one c g h p q = ap (held_or g)
        (sym p.held_is ∙ ap (λ (bodies : List (List ℕ)). held_after makes (Some start) bodies) (one_list p.bodies q.bodies c p.has q.has) ∙ q.held_is)

    -- one of at most one byte stands for the start
    pub short_gives : (c : List ℕ) → length c ≤ 1 → JournalGives makes start c start
    short_gives c short = record { bodies = []; has = inr (refl, short); held_is = refl }

    module _ (before now : List ℕ) where
      -- the bytes are the same
      pub same_bytes : now ≡ before → SameMeaning makes start before now
      same_bytes is = record {
        same = λ held. (subst (λ (l : List ℕ). JournalGives makes start l held) (sym is), subst (λ (l : List ℕ). JournalGives makes start l held) is);
        bad = λ none. is;
      }

      -- both stand for this
      pub same_meaning : (held : M) → JournalGives makes start before held → JournalGives makes start now held → SameMeaning makes start before now
      same_meaning held was is = record {
        same = λ other. (
          λ gives. subst (λ (h : M). JournalGives makes start now h) (means_one before held other was gives) is,
          λ gives. subst (λ (h : M). JournalGives makes start before h) (means_one now held other is gives) was,
        );
        bad = λ none. absurd (none held was);
      }

    pub keeps_meaning : (old : DiskView) (c : DiskContent) → KeepsJournal old c → KeepsMeaning makes start old c
    keeps_meaning old c (c0, image, inl same) = (c0, image, same_bytes c0 (c 0) same)
    keeps_meaning old c (c0, image, inr short) =
        (c0, image, same_meaning c0 (c 0) start (short_gives c0 short.0) (short_gives (c 0) short.1))

    pub so_far_none : (c : List ℕ) → 0 < length c → SoFar makes start c start c
    so_far_none c some = record { bodies = []; split = refl; short = none_short; held_is = refl; some = some }

    module _ (c : List ℕ) where
      -- one record more
      pub so_far_more : (held next : M) (body rest after : List ℕ) → SoFar makes start c held (1 ∷ rest) → rest ≡ framed body ++ after → 0 < length after
          → length body < 2 ^ 64 → makes held body ≡ Some next → SoFar makes start c next after
      so_far_more held next body rest after s is some one made = record {
        bodies = s.bodies ++ body ∷ [];
        split = s.split ∙ ap (λ (l : List ℕ). records s.bodies ++ (1 ∷ l)) is ∙ sym (records-push s.bodies body after);
        short = short-push s.bodies body s.short one;
        held_is = held_after-push (Some start) s.bodies body ∙ ap (λ (o : Option M). make_on makes o body) s.held_is ∙ made;
        some = some;
      }

      place : (rest : List ℕ) (bodies : List (List ℕ)) → c ≡ records bodies ++ rest → length c - length rest ≡ length (records bodies)
      place rest bodies is = omega (arith, ap length is, length-append (records bodies) rest)

      pub read_to : (held : M) (gate : ℕ) (rest : List ℕ) → gate ≢ 1 → SoFar makes start c held (gate ∷ rest)
          → ReadsTo makes start c (length c - length (gate ∷ rest)) held
      read_to held gate rest closed s = record {
        bodies = s.bodies;
        ends = record { gate = gate; rest = rest; closed = closed; split = s.split; short = s.short };
        end_is = place (gate ∷ rest) s.bodies s.split;
        held_is = s.held_is;
      }

      pub cut_at : (held : M) (rest : List ℕ) → 1 < length c → SoFar makes start c held (1 ∷ rest) → EndsInside rest
          → IsBadAt makes start c (length c - length (1 ∷ rest))
      cut_at held rest long s cut = record {
        long = long;
        bodies = s.bodies;
        rest = rest;
        held = held;
        split = s.split;
        short = s.short;
        at_is = place (1 ∷ rest) s.bodies s.split;
        held_is = s.held_is;
        bad = λ body more short is. inl (cut body more short is);
      }

      pub refused_at : (held : M) (body rest after : List ℕ) → 1 < length c → SoFar makes start c held (1 ∷ rest) → rest ≡ framed body ++ after
          → length body < 2 ^ 64
          → makes held body ≡ None → IsBadAt makes start c (length c - length (1 ∷ rest))
      refused_at held body rest after long s is short none = record {
        long = long;
        bodies = s.bodies;
        rest = rest;
        held = held;
        split = s.split;
        short = s.short;
        at_is = place (1 ∷ rest) s.bodies s.split;
        held_is = s.held_is;
        bad = λ other more small reads. inr (ap (λ (b : List ℕ). makes held b) (sym (one_front body other after more short small (sym is ∙ reads)).0) ∙ none);
      }

      pub reads_inside : (end : ℕ) (held : M) → ReadsTo makes start c end held → end < length c
      reads_inside end held r = omega (arith, r.end_is, ap length r.ends.split, length-append (records r.bodies) (r.ends.gate ∷ r.ends.rest))

  -- what was read to a closed gate has no bad record
  not_bad : (ps qs : List (List ℕ)) (o : Option M) (x y : M) (g : ℕ) (xs ys : List ℕ) → AreShort ps → AreShort qs → g ≢ 1
      → records ps ++ (g ∷ xs) ≡ records qs ++ (1 ∷ ys) → held_after makes o ps ≡ Some x → held_after makes o qs ≡ Some y
      → ((body more : List ℕ) → length body < 2 ^ 64 → ys ≡ framed body ++ more → (more ≡ []) ⊎ (makes y body ≡ None)) → ⊥
  not_bad [] [] o x y g xs ys sa sb closed is hx hy bad = closed (same_head g 1 xs ys is)
  not_bad [] (b ∷ qs) o x y g xs ys sa sb closed is hx hy bad = closed (same_head g 1 xs _ is)
  not_bad (a ∷ ps) [] o x y g xs ys sa sb closed is hx hy bad =
      let behind : ys ≡ framed a ++ (records ps ++ (g ∷ xs)) = sym (same_tail 1 1 _ ys is) ∙ append_assoc (framed a) (records ps) (g ∷ xs) in
      ⊎_elim
      (λ none. absurd (omega (arith, ap length none, length-append (records ps) (g ∷ xs))))
      (λ none.
      let made : held_after makes (make_on makes o a) ps ≡ None =
      ap (λ (p : Option M). held_after makes (make_on makes p a) ps) hy ∙ ap (λ (p : Option M). held_after makes p ps) none ∙ held_after-none ps in
      absurd (cc (made, hx)))
      (bad a (records ps ++ (g ∷ xs)) (first_short a ps sa) behind)
  not_bad (a ∷ ps) (b ∷ qs) o x y g xs ys sa sb closed is hx hy bad =
      let first = both_fronts a b ps qs (g ∷ xs) (1 ∷ ys) (first_short a ps sa) (first_short b qs sb) is in
      not_bad ps qs (make_on makes o a) x y g xs ys (rest_short a ps sa) (rest_short b qs sb) closed first.1 hx
      (ap (λ (l : List ℕ). held_after makes (make_on makes o l) qs) first.0 ∙ hy) bad

  pub read_exact : (start : M) (c : List ℕ) (end n : ℕ) (held : M) → ReadsTo makes start c end held → IsBadAt makes start c n → ⊥
  read_exact start c end n held r b = not_bad r.bodies b.bodies (Some start) held b.held r.ends.gate r.ends.rest b.rest r.ends.short b.short r.ends.closed
      (sym r.ends.split ∙ b.split) r.held_is b.held_is b.bad

abbrev err_part : {T E : Type 0} → E → Result T E → E
err_part d (Ok x) = d
err_part d (Err e) = e

-- an error handed on is the same
pub err_of : {T U E : Type 0} (e x : E) → IsErrOf {T = T} (Err e) x → IsErrOf {T = U} (Err e) x
err_of e x is = ap (λ (y : _). Err y) (ap (err_part e) is)
