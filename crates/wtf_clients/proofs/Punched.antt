-- Ranges that were punched: what lies apart from them, and that stores tell what they told but in these.
use Rattle.wtf_clients.proofs.Common.{not, list_any, and_parts, and_from, or_left, or_right, cases_Bool, cases_eq, cases_lt, eq-eqb, ne_eqb, le-leb, lt-ltb}
use Rattle.wtf_clients.proofs.Common.{Range, Outside, StoreKind, KindLaws, on_server, EachFollows, Place, byte_at, punched_on, byte_at-kept, are_in, Told}
use Rattle.wtf_clients.proofs.Common.{lies_in, lies_apart, are_apart, with_ranges, TablesView, ListedBytes, TellsWhere, ◌≡◌, ℕ, ◌+◌, ◌≤◌, ◌&&◌, ◌||◌, ◌++◌}
use Rattle.wtf_clients.proofs.Common.{Bool, true, false, cond, nat_eq, nat_le, nat_lt, List, [], ◌∷◌, refl, sym, ap, ◌∙◌, subst, inl, inr}
use Rattle.wtf_clients.proofs.OffStanding.{listed_where}

-- a place that does not lie in a range of its server and file lies before or behind it
missed : (p : Place) (r : ℕ × Range) → not (lies_in p r) ≡ true → p.server ≡ r.0 → p.file ≡ r.1.file → r.1.at ≤ p.at → r.1.at + r.1.len ≤ p.at
missed p r h server file from = elim (cases_lt p.at (r.1.at + r.1.len)) [
  | inl within ↦
      let there : lies_in p r ≡ true =
      and_from (nat_eq p.server r.0) (nat_eq p.file r.1.file && (nat_le r.1.at p.at && nat_lt p.at (r.1.at + r.1.len))) (eq-eqb p.server r.0 server)
      (and_from (nat_eq p.file r.1.file) (nat_le r.1.at p.at && nat_lt p.at (r.1.at + r.1.len)) (eq-eqb p.file r.1.file file)
      (and_from (nat_le r.1.at p.at) (nat_lt p.at (r.1.at + r.1.len)) (le-leb r.1.at p.at from) (lt-ltb p.at (r.1.at + r.1.len) within))) in
      let bad : false ≡ true = sym (ap not there) ∙ h in absurd (cc)
  | inr past ↦ past
]

-- a place apart from ranges lies outside of those of its server
pub outside_from : (p : Place) (ranges : List (ℕ × Range)) → lies_apart ranges p ≡ true → Outside p.file p.at (on_server p.server ranges)
outside_from p [] h = tt
outside_from p (r ∷ rs) h =
    let both = and_parts (not (lies_in p r)) (lies_apart rs p) h in
    elim (cases_eq r.0 p.server) [
      | inl is ↦ subst (λ b. Outside p.file p.at (cond b (r.1 ∷ on_server p.server rs) (on_server p.server rs))) (sym (eq-eqb r.0 p.server is))
          ((λ same from. missed p r both.0 (sym is) same from), outside_from p rs both.1)
      | inr ne ↦ subst (λ b. Outside p.file p.at (cond b (r.1 ∷ on_server p.server rs) (on_server p.server rs))) (sym (ne_eqb r.0 p.server ne))
          (outside_from p rs both.1)
    ]

-- a place apart from ranges and from those that were punched before lies apart from all of them
place_with : (before ranges : List (ℕ × Range)) (p : Place) → lies_apart before p ≡ true → lies_apart ranges p ≡ true
    → lies_apart (with_ranges before ranges) p ≡ true
place_with before [] p h here = h
place_with before (r ∷ rs) p h here =
    let both = and_parts (not (lies_in p r)) (lies_apart rs p) here in
    place_with (r ∷ before) rs p (and_from (not (lies_in p r)) (lies_apart before p) both.0 h) both.1

pub apart_with : (before ranges : List (ℕ × Range)) (qs : List Place) → are_apart before qs ≡ true → are_apart ranges qs ≡ true
    → are_apart (with_ranges before ranges) qs ≡ true
apart_with before ranges [] h here = refl
apart_with before ranges (q ∷ qs) h here =
    let was = and_parts (lies_apart before q) (are_apart before qs) h in
    let is = and_parts (lies_apart ranges q) (are_apart ranges qs) here in
    and_from (lies_apart (with_ranges before ranges) q) (are_apart (with_ranges before ranges) qs) (place_with before ranges q was.0 is.0)
    (apart_with before ranges qs was.1 is.1)

-- ranges of which each lies in a set: what names no byte of the set lies apart from them
lies_out : (X : Place → Bool) (ranges : List (ℕ × Range)) (p : Place) → (list_any (λ r. lies_in p r) ranges ≡ true → X p ≡ true) → not (X p) ≡ true
    → lies_apart ranges p ≡ true
lies_out X [] p within h = refl
lies_out X (r ∷ rs) p within h = elim (cases_Bool (lies_in p r)) [
  | inl here ↦
      let is : X p ≡ true = within (or_left (lies_in p r) (list_any (λ q. lies_in p q) rs) here) in
      let bad : false ≡ true = sym (ap not is) ∙ h in absurd (cc)
  | inr past ↦
      and_from (not (lies_in p r)) (lies_apart rs p) (ap not past)
      (lies_out X rs p (λ there. within (or_right (lies_in p r) (list_any (λ q. lies_in p q) rs) there)) h)
]

pub out_apart : (X : Place → Bool) (ranges : List (ℕ × Range)) → ((p : Place) → list_any (λ r. lies_in p r) ranges ≡ true → X p ≡ true)
    → (qs : List Place) → are_in (λ p. not (X p)) qs ≡ true → are_apart ranges qs ≡ true
out_apart X ranges within [] h = refl
out_apart X ranges within (q ∷ qs) h =
    let both = and_parts (not (X q)) (are_in (λ p. not (X p)) qs) h in
    and_from (lies_apart ranges q) (are_apart ranges qs) (lies_out X ranges q (within q) both.0) (out_apart X ranges within qs both.1)

pub listed_apart : (X : Place → Bool) (ranges : List (ℕ × Range)) → ((p : Place) → list_any (λ r. lies_in p r) ranges ≡ true → X p ≡ true)
    → (size : ℕ) (told : Told) (tables : TablesView) → ListedBytes size told (are_in (λ p. not (X p))) tables → ListedBytes size told (are_apart ranges) tables
listed_apart X ranges within size told tables h =
    listed_where (λ p. not (X p)) told told (λ p byte out is. is) size (are_in (λ p. not (X p))) (are_apart ranges)
    (λ qs out in_it. out_apart X ranges within qs out) tables h h

-- of ranges the first, and the next one unless its server is down: each of these lies in one of all
pub tried_among : (down : Bool) (rs rest : List (ℕ × Range)) (k : ℕ) (r : Range) (p : Place) → list_any (λ q. lies_in p q) (rs ++ punched_on down k r) ≡ true
    → list_any (λ q. lies_in p q) (rs ++ (k, r) ∷ rest) ≡ true
tried_among true [] rest k r p h = absurd (cc)
tried_among false [] rest k r p h = elim (cases_Bool (lies_in p (k, r))) [
  | inl here ↦ or_left (lies_in p (k, r)) (list_any (λ q. lies_in p q) rest) here
  | inr past ↦ let bad : false ≡ true = sym (ap (λ b. b || false) past) ∙ h in absurd (cc)
]
tried_among down (q ∷ qs) rest k r p h = elim (cases_Bool (lies_in p q)) [
  | inl here ↦ or_left (lies_in p q) (list_any (λ x. lies_in p x) (qs ++ (k, r) ∷ rest)) here
  | inr past ↦
      or_right (lies_in p q) (list_any (λ x. lies_in p x) (qs ++ (k, r) ∷ rest))
      (tried_among down qs rest k r p (sym (ap (λ b. b || list_any (λ x. lies_in p x) (qs ++ punched_on down k r)) past) ∙ h))
]

-- ---- stores of which ranges were punched
-- they tell what they told, but in the ranges
pub tells_punched : {S : Type 0} {kind : StoreKind S} → KindLaws kind → {old new : List S} {punched : List (ℕ × Range)} → EachFollows kind old new punched
    → TellsWhere (lies_apart punched) (byte_at kind old) (byte_at kind new)
tells_punched laws {punched = punched} follows p byte apart h = byte_at-kept laws follows p byte (outside_from p punched apart) h
