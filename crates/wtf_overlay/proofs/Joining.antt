-- Slices and entries that are joined.
use Rattle.std.proofs.Common.{◌≡◌, ℕ, ◌+◌, ◌-◌, ◌≤◌, true, List, [], ◌∷◌, map, refl, ap, sym, ◌∙◌, arith, nat_eq, ◌&&◌}
use Rattle.std.proofs.lemmas.Bool.{and_parts, and_from, eqb-true, eq-eqb}
use Rattle.wtf_base.specs.declared.pointer.Pointer.{Pointer}
use Rattle.wtf_base.specs.declared.slice.Slice.{Slice}
use Rattle.wtf_base.specs.declared.slice.Extents.{Extents}
use Rattle.wtf_base.specs.declared.slice.Extents.TheVariants.{One, Two, Three}
use Rattle.wtf_base.specs.Extents.{pointers_to}
use Rattle.wtf_base.specs.Pointers.{lengthened, follows_on, all_follow_on}
use Rattle.wtf_base.specs.Slices.{len_of, pointers_of}
use Rattle.wtf_overlay.specs.declared.part.Part.{Part}
use Rattle.wtf_overlay.specs.declared.part.Part.TheVariants.{Zero, Held}
use Rattle.wtf_overlay.specs.declared.part.Entry.{Entry}
use Rattle.wtf_overlay.specs.Origin.{place_in, part_origin}
use Rattle.wtf_overlay.specs.Compact.{could_be_one, follows_part, is_held}
use Rattle.wtf_overlay.specs.Joins.{IsJoin}

-- all pointers have n bytes
abbrev HaveLen : ℕ → List Pointer → Type 0
HaveLen n [] = Unit {0}
HaveLen n (p ∷ ps) = (p.len ≡ n) × HaveLen n ps

have_len : (m : ℕ) (e : Extents) → HaveLen m (pointers_to m e)
have_len m (One a) = (refl, tt)
have_len m (Two a b) = (refl, (refl, tt))
have_len m (Three a b c) = (refl, (refl, (refl, tt)))

-- the first bytes are those of the first slice
joined_first : (n i : ℕ) (ps : List Pointer) → map (place_in i) (map (lengthened n) ps) ≡ map (place_in i) ps
joined_first n i [] = refl
joined_first n i (p ∷ ps) = ap (λ l. place_in i p ∷ l) (joined_first n i ps)

joined_place : (n a i : ℕ) (p q : Pointer) → a ≤ i → p.len ≡ a → follows_on p q ≡ true → place_in i (lengthened n p) ≡ place_in (i - a) q
joined_place n a i p q h len follows =
    let k = and_parts (nat_eq p.server.0 q.server.0 && nat_eq p.file q.file) (nat_eq (p.at + p.len) q.at) follows in
    let m = and_parts (nat_eq p.server.0 q.server.0) (nat_eq p.file q.file) k.0 in
    let server = eqb-true p.server.0 q.server.0 m.0 in
    let file = eqb-true p.file q.file m.1 in
    let at : p.at + i ≡ q.at + (i - a) = omega (arith, eqb-true (p.at + p.len) q.at k.1) in
    λ j. record { server = server j; file = file j; at = at j }

-- and the others those of the second
joined_second : (n a i : ℕ) (ps qs : List Pointer) → a ≤ i → HaveLen a ps → all_follow_on ps qs ≡ true
    → map (place_in i) (map (lengthened n) ps) ≡ map (place_in (i - a)) qs
joined_second n a i [] [] h lens follow = refl
joined_second n a i [] (q ∷ qs) h lens follow = absurd (cc)
joined_second n a i (p ∷ ps) [] h lens follow = absurd (cc)
joined_second n a i (p ∷ ps) (q ∷ qs) h lens follow =
    let k = and_parts (follows_on p q) (all_follow_on ps qs) follow in
    let first = joined_place n a i p q h lens.0 k.0 in
    let rest = joined_second n a i ps qs h lens.1 k.1 in
    λ j. first j ∷ rest j

follow_lengthened : (n : ℕ) (ps qs : List Pointer) → all_follow_on ps (map (lengthened n) qs) ≡ all_follow_on ps qs
follow_lengthened n [] [] = refl
follow_lengthened n [] (q ∷ qs) = refl
follow_lengthened n (p ∷ ps) [] = refl
follow_lengthened n (p ∷ ps) (q ∷ qs) = ap (λ b. follows_on p q && b) (follow_lengthened n ps qs)

follows_joined : (p : Part) (s t : Slice) (n : ℕ) → pointers_of t ≡ map (lengthened n) (pointers_of s) → follows_part p (Held t) ≡ follows_part p (Held s)
follows_joined Zero s t n is = refl
follows_joined (Held r) s t n is = ap (all_follow_on (pointers_of r)) is ∙ follow_lengthened n (pointers_of r) (pointers_of s)

before_joined : (x e both : Entry) (s t : Slice) (n : ℕ) → both.off ≡ e.off → e.part ≡ Held s → both.part ≡ Held t
    → pointers_of t ≡ map (lengthened n) (pointers_of s) → could_be_one x both ≡ could_be_one x e
before_joined x e both s t n off first part is =
    ap (λ o. nat_eq (x.off + x.len) o && follows_part x.part both.part) off
    ∙ ap (λ p. nat_eq (x.off + x.len) e.off && p) (ap (follows_part x.part) part ∙ follows_joined x.part s t n is ∙ sym (ap (follows_part x.part) first))

-- two entries of slices that were joined
pub IsJoin-of : (e f both : Entry) (s r t : Slice) → e.part ≡ Held s → f.part ≡ Held r → both.part ≡ Held t → e.off + e.len ≡ f.off
    → both.off ≡ e.off → both.len ≡ e.len + f.len → all_follow_on (pointers_of s) (pointers_of r) ≡ true
    → pointers_of t ≡ map (lengthened (len_of s + len_of r)) (pointers_of s) → len_of s ≡ e.len → IsJoin e f both
IsJoin-of e f both s r t first second part met off len follow is whole =
    let n = len_of s + len_of r in
    record {
      off = off;
      end = omega arith;
      met = met;
      one = and_from (nat_eq (e.off + e.len) f.off) (follows_part e.part f.part) (eq-eqb (e.off + e.len) f.off met)
          (ap (λ p. follows_part p f.part) first ∙ ap (follows_part (Held s)) second ∙ follow);
      held = ap is_held part;
      first = λ i. ap (λ p. part_origin p i) part ∙ ap (map (place_in i)) is ∙ joined_first n i (pointers_of s) ∙ sym (ap (λ p. part_origin p i) first);
      second = λ i h. ap (λ p. part_origin p i) part ∙ ap (map (place_in i)) is
          ∙ joined_second n (len_of s) i (pointers_of s) (pointers_of r) (omega arith) (have_len s.len s.extents) follow
          ∙ ap (λ k. map (place_in (i - k)) (pointers_of r)) whole
          ∙ sym (ap (λ p. part_origin p (i - e.len)) second);
      before = λ x. before_joined x e both s t n off first part is;
    }
