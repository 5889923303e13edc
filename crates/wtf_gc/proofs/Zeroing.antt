-- Ranges that were made zeros, and that go on to be.
use Rattle.std.proofs.Common.{◌≡◌, ◌⊎◌, ℕ, ◌+◌, ◌<◌, ◌≤◌, Bool, true, false, ◌||◌, ◌&&◌, nat_eq, nat_le, nat_lt, List, [], ◌∷◌, ◌++◌, get_or, length, Some}
use Rattle.std.proofs.Common.{inl, inr, sym, ap, ◌∙◌, subst, arith}
use Rattle.std.specs.Prelude.{◌≢◌, OnOk}
use Rattle.std.specs.declared.result.Result.{Result}
use Rattle.std.specs.declared.result.Result.TheVariants.{Ok, Err}
use Rattle.std.proofs.lemmas.Bool.{true≢false, and_parts, and_from, or_parts, cases_Bool, cases_eq, cases_lt}
use Rattle.std.proofs.lemmas.Bool.{eqb-true, eq-eqb, leb-true, le-leb, ltb-true, lt-ltb}
use Rattle.std.proofs.lemmas.List.Folds.{list_any-append}
use Rattle.wtf_base.specs.Places.{Place}
use Rattle.wtf_dev.specs.Each.{EachFollows}
use Rattle.wtf_dev.specs.Store.{Range, StoreKind, KindLaws}
use Rattle.wtf_dev.specs.Sums.{TellsAll}
use Rattle.wtf_dev.proofs.Sums.{tells_all-kept}
use Rattle.wtf_replica.specs.Downs.{is_down}
use Rattle.wtf_replica.specs.Bytes.{byte_at}
use Rattle.wtf_replica.specs.Faults.{punched_on}
use Rattle.wtf_replica.specs.Outs.{IsLeftDown}
use Rattle.wtf_replica.proofs.Spans.{lows_on}
use Rattle.wtf_replica.proofs.Bytes.{byte_at-told, other_server, other_file, before_range, behind_range}
use Rattle.wtf_region.specs.declared.dev.Dev.{Dev}
use Rattle.wtf_region.specs.Apart.{lies_in}
use Rattle.wtf_region.specs.Devs.{GoesOn, between, is_down_in, stores, told_in}
use Rattle.wtf_gc.specs.Frees.{AreApart, AreZeroed, lie_in, tried_on}
use Rattle.wtf_gc.proofs.Adding.{or_none}
use Rattle.wtf_gc.proofs.Freeing.{some_store}

pub both_ok : {T E : Type 0} (P Q : Type 0) (r : Result T E) → OnOk r P → OnOk r Q → OnOk r (P × Q)
both_ok P Q (Ok x) p q = (p, q)
both_ok P Q (Err why) p q = tt

-- where a place lies that lies in a range
abbrev LiesAt : Place → ℕ × Range → Type 0
LiesAt p r = (p.server ≡ r.0) × (p.file ≡ r.1.file) × (r.1.at ≤ p.at) × (p.at < r.1.at + r.1.len)

lies_at : (p : Place) (r : ℕ × Range) → lies_in p r ≡ true → LiesAt p r
lies_at p r h =
    let one = and_parts (nat_eq p.server r.0) (nat_eq p.file r.1.file && (nat_le r.1.at p.at && nat_lt p.at (r.1.at + r.1.len))) h in
    let two = and_parts (nat_eq p.file r.1.file) (nat_le r.1.at p.at && nat_lt p.at (r.1.at + r.1.len)) one.1 in
    let three = and_parts (nat_le r.1.at p.at) (nat_lt p.at (r.1.at + r.1.len)) two.1 in
    (eqb-true p.server r.0 one.0, eqb-true p.file r.1.file two.0, leb-true r.1.at p.at three.0, ltb-true p.at (r.1.at + r.1.len) three.1)

lies_from : (p : Place) (r : ℕ × Range) → LiesAt p r → lies_in p r ≡ true
lies_from p r h =
    and_from (nat_eq p.server r.0) (nat_eq p.file r.1.file && (nat_le r.1.at p.at && nat_lt p.at (r.1.at + r.1.len))) (eq-eqb p.server r.0 h.0)
    (and_from (nat_eq p.file r.1.file) (nat_le r.1.at p.at && nat_lt p.at (r.1.at + r.1.len)) (eq-eqb p.file r.1.file h.1)
    (and_from (nat_le r.1.at p.at) (nat_lt p.at (r.1.at + r.1.len)) (le-leb r.1.at p.at h.2) (lt-ltb p.at (r.1.at + r.1.len) h.3)))

-- in one range
lie_one : (p : Place) (r : ℕ × Range) → lie_in (r ∷ []) p ≡ true → lies_in p r ≡ true
lie_one p r h = sym (or_none (lies_in p r)) ∙ h

-- in some ranges, and one behind them
lie_more : (p : Place) (rs : List (ℕ × Range)) (r : ℕ × Range) → lie_in (rs ++ r ∷ []) p ≡ true → lies_in p r ≡ false → lie_in rs p ≡ true
lie_more p rs r h out = by (cases_Bool (lie_in rs p))
  where
    by : (lie_in rs p ≡ true) ⊎ (lie_in rs p ≡ false) → lie_in rs p ≡ true
    by (inl t) = t
    by (inr f) = absurd (true≢false (sym h ∙ list_any-append (λ q. lies_in p q) rs (r ∷ []) ∙ (λ i. f i || (out i || false))))

-- a byte that the range of a punch does not hold is told still
told_beside : {S : Type 0} {kind : StoreKind S} → KindLaws kind → (old new : List S) (down : Bool) (r : ℕ × Range)
    → EachFollows kind old new (punched_on down r.0 r.1)
    → (p : Place) (b : ℕ) → lies_in p r ≡ false → byte_at kind old p ≡ Some b → byte_at kind new p ≡ Some b
told_beside laws old new down r e p b out told = elim (cases_eq p.server r.0) [
  | inr other ↦ other_server laws down r.0 r.1.file r.1.at r.1.len e p b other told
  | inl server ↦ elim (cases_eq p.file r.1.file) [
    | inr other ↦ other_file laws down r.0 r.1.file r.1.at r.1.len e p b other told
    | inl file ↦ elim (cases_lt p.at r.1.at) [
      | inl low ↦ before_range laws down r.0 r.1.file r.1.at r.1.len e p b low told
      | inr from ↦ elim (cases_lt p.at (r.1.at + r.1.len)) [
        | inl below ↦ absurd (true≢false (sym (lies_from p r (server, file, from, below)) ∙ out))
        | inr past ↦ behind_range laws down r.0 r.1.file r.1.at r.1.len e p b past told
      ]
    ]
  ]
]

-- what a store tells of a range that reads as zeros
abbrev pub ReadsZeros : {S : Type 0} → StoreKind S → List S → List S → ℕ × Range → Type 0
ReadsZeros {S} kind old new r =
    (d : S) → (kind.view (get_or old r.0 d)).tells ≡ true → (i : ℕ) → r.1.at ≤ i → i < r.1.at + r.1.len
    → (kind.view (get_or new r.0 d)).told r.1.file i ≡ Some 0

-- one range was made zeros
pub zeroed_one : {S : Type 0} (kind : StoreKind S) (old new : Dev S) (r : ℕ × Range) → r.0 < length (stores old) → length (stores new) ≡ length (stores old)
    → is_down_in old r.0 ≡ false → ReadsZeros kind (stores old) (stores new) r → AreZeroed kind old new (r ∷ [])
zeroed_one {S} kind old new r there same up zeros = record {
  up = λ p h. subst (λ (k : ℕ). is_down_in old k ≡ false) (sym (lies_at p r (lie_one p r h)).0) up;
  zeros = λ tells p h.
      let at = lies_at p r (lie_one p r h) in
      let d : S = some_store (stores old) r.0 there in
      let server = at.0 in
      let later : p.server < length (stores new) = omega (arith, server, there, same) in
      byte_at-told kind (stores new) p d later
      ∙ (λ i. (kind.view (get_or (stores new) (at.0 i) d)).told (at.1 i) p.at)
      ∙ zeros d (tells r.0 d there) p.at at.2 at.3;
}

pub zeroed_none : {S : Type 0} (kind : StoreKind S) (old new : Dev S) → AreZeroed kind old new []
zeroed_none kind old new = record { up = λ p h. absurd (true≢false (sym h)); zeros = λ tells p h. absurd (true≢false (sym h)) }

-- ranges that were, and then one more
pub zeroed_more : {S : Type 0} {kind : StoreKind S} → KindLaws kind → (old mid new : Dev S) (rs : List (ℕ × Range)) (r : ℕ × Range)
    → GoesOn kind old mid rs → GoesOn kind mid new (r ∷ []) → AreZeroed kind old mid rs → AreZeroed kind mid new (r ∷ [])
    → AreZeroed kind old new (rs ++ r ∷ [])
zeroed_more {kind = kind} laws old mid new rs r goes last was is = record {
  up = λ p h. by_up p h (cases_Bool (lies_in p r));
  zeros = λ tells p h. by_zeros tells p h (cases_Bool (lies_in p r));
}
  where
    here : (p : Place) → lies_in p r ≡ true → lie_in (r ∷ []) p ≡ true
    here p h = or_none (lies_in p r) ∙ h

    by_up : (p : Place) → lie_in (rs ++ r ∷ []) p ≡ true → (lies_in p r ≡ true) ⊎ (lies_in p r ≡ false) → is_down_in old p.server ≡ false
    by_up p h (inl t) = ap (λ x. is_down x.now p.server) (sym goes.replicas) ∙ is.up p (here p t)
    by_up p h (inr f) = was.up p (lie_more p rs r h f)

    by_zeros : TellsAll kind (stores old) → (p : Place) → lie_in (rs ++ r ∷ []) p ≡ true → (lies_in p r ≡ true) ⊎ (lies_in p r ≡ false)
        → told_in kind new p ≡ Some 0
    by_zeros tells p h (inl t) = is.zeros (tells_all-kept laws goes.each tells) p (here p t)
    by_zeros tells p h (inr f) = told_beside laws (stores mid) (stores new) false r last.each p 0 f (was.zeros tells p (lie_more p rs r h f))

-- a range that shares no byte with ranges before it
apart_behind : (p : Place) (rs : List (ℕ × Range)) (r : ℕ × Range) (rest : List (ℕ × Range)) → AreApart (rs ++ r ∷ rest) → lie_in rs p ≡ true
    → lies_in p r ≡ false
apart_behind p [] r rest apart h = absurd (true≢false (sym h))
apart_behind p (q ∷ rs) r rest apart h = elim (cases_Bool (lies_in p q)) [
  | inl there ↦ (or_parts (lies_in p r) (lie_in rest p)
      (or_parts (lie_in rs p) (lie_in (r ∷ rest) p) (sym (list_any-append (λ x. lies_in p x) rs (r ∷ rest)) ∙ apart.1 p there)).1).0
  | inr out ↦ apart_behind p rs r rest apart.2 (sym (ap (λ b. b || lie_in rs p) out) ∙ h)
]

-- they are zeros still where the punch of one that shares no byte with them failed
pub zeroed_still : {S : Type 0} {kind : StoreKind S} → KindLaws kind → (old mid new : Dev S) (rs : List (ℕ × Range)) (r : ℕ × Range) (rest : List (ℕ × Range))
    → AreApart (rs ++ r ∷ rest) → GoesOn kind mid new (tried_on mid r) → AreZeroed kind old mid rs → AreZeroed kind old new rs
zeroed_still {kind = kind} laws old mid new rs r rest apart last was = record {
  up = was.up;
  zeros = λ tells p h. told_beside laws (stores mid) (stores new) (is_down_in mid r.0) r last.each p 0 (apart_behind p rs r rest apart h) (was.zeros tells p h);
}

-- servers that are down are left as they were, also by one more punch
pub left_on : {S : Type 0} {kind : StoreKind S} → KindLaws kind → (old mid new : Dev S) {rs : List (ℕ × Range)} (r : ℕ × Range) → GoesOn kind old mid rs
    → IsLeftDown (between old mid) → (is_down_in mid r.0 ≡ true → stores new ≡ stores mid)
    → ((j : ℕ) (d : S) → j ≢ r.0 → get_or (stores new) j d ≡ get_or (stores mid) j d) → IsLeftDown (between old new)
left_on laws old mid new r goes was same elsewhere =
    lows_on (is_down_in old) (stores old) (stores mid) (stores new) r.0 was (λ low. same (ap (λ x. is_down x.now r.0) goes.replicas ∙ low)) elsewhere
