-- Laws of what the stores of a shelf hold.
use Rattle.std.proofs.Common.{◌≡◌, ◌≢◌, ℕ, ◌+◌, ◌-◌, ◌<◌, ◌≤◌, ◌⊎◌, Bool, true, false, cond, inl, inr, List, [], ◌∷◌, length, get_or, Option, Some, None, refl, sym, ◌∙◌, ap, subst, arith}
use Rattle.std.specs.Prelude.{slice_get}
use Rattle.std.specs.List.{All}
use Rattle.std.proofs.lemmas.Bool.{cases_eq, eq-eqb, false≢true, ne_eqb}
use Rattle.std.proofs.lemmas.Option.{slice_get_cases, slice_get-get_or, slice_get_within, get_or_from_slice_get}
use Rattle.std.proofs.lemmas.List.Elements.{All-map, All-weaker}
use Rattle.wtf_base.specs.declared.pointer.Pointer.{Pointer}
use Rattle.wtf_base.specs.declared.slice.Slice.{Slice}
use Rattle.wtf_base.specs.Slices.{pointers_of, len_of}
use Rattle.wtf_base.specs.Places.{Place, place_in, places_of}
use Rattle.wtf_base.proofs.Elements.{element, All-unmap}
use Rattle.wtf_base.proofs.Pointers.{pointers-len}
use Rattle.wtf_dev.specs.Store.{Range, Outside, StoreKind, KindLaws}
use Rattle.wtf_dev.specs.Each.{on_server, EachFollows}
use Rattle.wtf_dev.specs.Sums.{TellsAll}
use Rattle.wtf_ring.specs.Points.{PlaceView}
use Rattle.wtf_replica.specs.Spans.{Span}
use Rattle.wtf_replica.specs.Bytes.{told_by, byte_at, shown_by, shown_byte, IsPlaceInside, HoldsSlice, ShowsSlice, ShowsUp}
use Rattle.wtf_replica.specs.Faults.{punched_on}
use Rattle.wtf_replica.specs.Copies.{IsInside, IsStored, IsFetched}

-- the byte at a place is the one that its store tells
pub byte_at-told : {S : Type 0} (kind : StoreKind S) (shelf : List S) (p : Place) (d : S) → p.server < length shelf
    → byte_at kind shelf p ≡ (kind.view (get_or shelf p.server d)).told p.file p.at
byte_at-told {S} kind shelf p d below = ap (λ (s : Option S). told_by kind s p) (slice_get-get_or shelf p.server d below)

-- a byte that is told is one of a store that is there
none_past : {S : Type 0} (kind : StoreKind S) (shelf : List S) (p : Place) (b : ℕ) (s : Option S) → s ≡ None → told_by kind s p ≡ Some b → ⊥
none_past kind shelf p b None is told = absurd (cc)
none_past kind shelf p b (Some s) is told = absurd (cc)

pub byte_at-within : {S : Type 0} (kind : StoreKind S) (shelf : List S) (p : Place) (b : ℕ) → byte_at kind shelf p ≡ Some b → p.server < length shelf
byte_at-within kind shelf p b told = elim (slice_get_cases shelf p.server).1 [
  | inl here ↦ here.1
  | inr past ↦ absurd (none_past kind shelf p b (slice_get shelf p.server) past.1 told)
]

-- a byte that is told outside the punched ranges stays told
pub byte_at-kept : {S : Type 0} {kind : StoreKind S} → KindLaws kind → {old new : List S} {punched : List (ℕ × Range)} → EachFollows kind old new punched
    → (p : Place) (b : ℕ) → Outside p.file p.at (on_server p.server punched) → byte_at kind old p ≡ Some b → byte_at kind new p ≡ Some b
byte_at-kept {S} {kind} laws {old} {new} e p b out told =
    let below : p.server < length old = byte_at-within kind old p b told in
    let d : S = element old p.server below in
    let later : p.server < length new = omega (arith, below, e.same_length) in
    byte_at-told kind new p d later
    ∙ (laws.keeps _ _ _ (e.each p.server d below)).bytes p.file p.at b out (sym (byte_at-told kind old p d below) ∙ told)

-- the place of a byte that is told lies inside the stores
pub told_inside : {S : Type 0} {kind : StoreKind S} → KindLaws kind → (shelf : List S) (p : Place) (b : ℕ) → byte_at kind shelf p ≡ Some b
    → IsPlaceInside kind shelf p
told_inside {S} {kind} laws shelf p b told =
    let below : p.server < length shelf = byte_at-within kind shelf p b told in
    let here : (d : S) → (p.file < 8) × (p.at < (kind.view (get_or shelf p.server d)).size p.file) =
    λ d. laws.within (get_or shelf p.server d) p.file p.at b (laws.shows (get_or shelf p.server d) p.file p.at b (sym (byte_at-told kind shelf p d below) ∙ told)) in
    (below, (here (element shelf p.server below)).0, λ d. (here d).1)

some_or_none : (o : Option ℕ) → (o ≡ None) ⊎ ((b : ℕ) × (o ≡ Some b))
some_or_none None = inl refl
some_or_none (Some b) = inr (b, refl)

-- what a read gives at a place is what its store gives
pub shown_byte-store : {S : Type 0} (kind : StoreKind S) (shelf : List S) (p : Place) (d : S) → p.server < length shelf
    → shown_byte kind shelf p ≡ (kind.view (get_or shelf p.server d)).shown p.file p.at
shown_byte-store {S} kind shelf p d below = ap (λ (s : Option S). shown_by kind s p) (slice_get-get_or shelf p.server d below)

-- and where a byte is told it gives that
pub shown_byte-told : {S : Type 0} {kind : StoreKind S} → KindLaws kind → (shelf : List S) (p : Place) (b : ℕ) → byte_at kind shelf p ≡ Some b
    → shown_byte kind shelf p ≡ Some b
shown_byte-told {S} {kind} laws shelf p b told =
    let below : p.server < length shelf = byte_at-within kind shelf p b told in
    let d : S = element shelf p.server below in
    shown_byte-store kind shelf p d below
    ∙ laws.shows (get_or shelf p.server d) p.file p.at b (sym (byte_at-told kind shelf p d below) ∙ told)

-- a read gives at a place inside the stores and outside the punched ranges what it gave, or is as little known
pub shown_byte-same : {S : Type 0} {kind : StoreKind S} → KindLaws kind → {old new : List S} {punched : List (ℕ × Range)} → EachFollows kind old new punched
    → (p : Place) → Outside p.file p.at (on_server p.server punched) → IsPlaceInside kind old p → shown_byte kind new p ≡ shown_byte kind old p
shown_byte-same {S} {kind} laws {old} {new} e p out inside =
    let d : S = element old p.server inside.0 in
    let later : p.server < length new = omega (arith, inside.0, e.same_length) in
    let kept = laws.keeps _ _ _ (e.each p.server d inside.0) in
    let was = shown_byte-store kind old p d inside.0 in
    let is = shown_byte-store kind new p d later in
    elim (some_or_none (shown_byte kind old p)) [
      | inl none ↦ is ∙ kept.unshown p.file p.at out (inside.2 d) (sym was ∙ none) ∙ sym none
      | inr some ↦ is ∙ kept.shown p.file p.at some.0 out (sym was ∙ some.1) ∙ sym some.1
    ]

-- a call that punches one range, or nothing on a server that is down, leaves each told byte that the range does not hold
outside_punched : (down : Bool) (k : ℕ) (r : Range) (p : Place) → (p.server ≡ k → Outside p.file p.at (r ∷ []))
    → Outside p.file p.at (on_server p.server (punched_on down k r))
outside_punched true k r p out = tt
outside_punched false k r p out = elim (cases_eq k p.server) [
  | inl is ↦ subst (λ b. Outside p.file p.at (cond b (r ∷ []) [])) (sym (eq-eqb k p.server is)) (out (sym is))
  | inr ne ↦ subst (λ b. Outside p.file p.at (cond b (r ∷ []) [])) (sym (ne_eqb k p.server ne)) tt
]

module _ {S : Type 0} {kind : StoreKind S} (laws : KindLaws kind) {old new : List S} (down : Bool) (k file at len : ℕ)
    (e : EachFollows kind old new (punched_on down k (record { file = file; at = at; len = len }))) (p : Place) (b : ℕ) where
  beside : (p.server ≡ k → Outside p.file p.at (record { file = file; at = at; len = len } ∷ []))
      → byte_at kind old p ≡ Some b → byte_at kind new p ≡ Some b
  beside out = byte_at-kept laws e p b (outside_punched down k (record { file = file; at = at; len = len }) p out)

  pub other_server : p.server ≢ k → byte_at kind old p ≡ Some b → byte_at kind new p ≡ Some b
  other_server ne = beside (λ is. absurd (ne is))

  pub other_file : p.file ≢ file → byte_at kind old p ≡ Some b → byte_at kind new p ≡ Some b
  other_file ne = beside (λ is. (λ same. absurd (ne same), tt))

  pub before_range : p.at < at → byte_at kind old p ≡ Some b → byte_at kind new p ≡ Some b
  before_range low = beside (λ is. (λ same past. absurd (omega (arith, low, past)), tt))

  pub behind_range : at + len ≤ p.at → byte_at kind old p ≡ Some b → byte_at kind new p ≡ Some b
  behind_range high = beside (λ is. (λ same past. high, tt))

-- a place that lies inside the stores goes on to do so, whatever is punched
pub place_inside_stays : {S : Type 0} {kind : StoreKind S} → KindLaws kind → {old new : List S} {punched : List (ℕ × Range)} → EachFollows kind old new punched
    → (p : Place) → IsPlaceInside kind old p → IsPlaceInside kind new p
place_inside_stays laws e p h =
    (omega (arith, h.0, e.same_length), h.1, λ d. omega (arith, h.2 d, (laws.keeps _ _ _ (e.each p.server d h.0)).size p.file))

-- the places of each byte of a slice that lies inside the stores lie inside them
pub places_inside : {S : Type 0} (kind : StoreKind S) (shelf : List S) (s : Slice) (i : ℕ) → IsInside kind shelf s → i < len_of s
    → All (IsPlaceInside kind shelf) (places_of s i)
places_inside kind shelf s i inside below =
    All-map (IsPlaceInside kind shelf) (place_in i) (pointers_of s)
    (λ k d h. let here = inside k d h in (here.0, here.1, λ e. omega (arith, here.2 e, pointers-len s k d h, below)))

-- and a slice of which each byte does lies inside them
pub inside_places : {S : Type 0} (kind : StoreKind S) (shelf : List S) (s : Slice) → 0 < len_of s
    → ((i : ℕ) → i < len_of s → All (IsPlaceInside kind shelf) (places_of s i)) → IsInside kind shelf s
inside_places kind shelf s some inside =
    λ k d h.
    let here = All-unmap (IsPlaceInside kind shelf) (place_in (len_of s - 1)) (pointers_of s) (inside (len_of s - 1) (omega (arith, some))) k d h in
    (here.0, here.1, λ e. omega (arith, here.2 e, pointers-len s k d h, some))

-- what was stored is held by every copy, where the stores tell what they hold
pub stored_bytes : {S : Type 0} {kind : StoreKind S} {t : Span S} {replicas : ℕ} {place : PlaceView} {bytes : List ℕ} {s : Slice}
    → IsStored kind t replicas place bytes s → length t.after ≡ length t.before → TellsAll kind t.before → HoldsSlice (byte_at kind t.after) s bytes
stored_bytes {S} {kind} {t = t} {place = place} {bytes = bytes} {s = s} stored same tells i below =
    All-map (λ (q : Place). byte_at kind t.after q ≡ Some (get_or bytes i 0)) (place_in i) (pointers_of s)
    (λ k d h.
    let p : Pointer = get_or (pointers_of s) k d in
    let c = stored.copies k d h in
    let x : S = element t.before p.server.0 c.server in
    let later : p.server.0 < length t.after = omega (arith, c.server, same) in
    byte_at-told kind t.after (place_in i p) x later
    ∙ subst (λ (f : ℕ). (kind.view (get_or t.after p.server.0 x)).told f (p.at + i) ≡ Some (get_or bytes i 0)) (sym c.file)
    (c.holds x (tells p.server.0 x c.server) i below))

-- and stays held where nothing is punched
pub slice_kept : {S : Type 0} {kind : StoreKind S} → KindLaws kind → {old new : List S} → EachFollows kind old new [] → (s : Slice) (bytes : List ℕ)
    → HoldsSlice (byte_at kind old) s bytes → HoldsSlice (byte_at kind new) s bytes
slice_kept {kind = kind} laws {old} {new} e s bytes holds i below =
    let b : ℕ = get_or bytes i 0 in
    All-weaker (λ (q : Place). byte_at kind old q ≡ Some b) (λ (q : Place). byte_at kind new q ≡ Some b)
    (λ q told. byte_at-kept laws e q b tt told) (places_of s i) (holds i below)

-- what was read is what every copy on a server that is up held
pub fetched_shown : {S : Type 0} {kind : StoreKind S} {t : Span S} {s : Slice} {off : ℕ} {out : List ℕ} {k : ℕ}
    → IsFetched kind t s off out k → ShowsUp t.down (shown_byte kind t.before) s off out
fetched_shown {S} {kind} {t = t} {s = s} {off = off} {out = out} {k = k} fetched i b below held =
    let Held : Place → Type 0 = λ q. (t.down q.server ≡ true) ⊎ (shown_byte kind t.before q ≡ Some b) in
    let here : fetched.copy < length (pointers_of s) = slice_get_within (pointers_of s) fetched.copy fetched.pointer fetched.is_copy in
    let d : S = element t.before k fetched.known in
    let at = All-unmap Held (place_in (off + i)) (pointers_of s) held fetched.copy fetched.pointer here in
    let it : Held (place_in (off + i) fetched.pointer) =
    subst (λ (p : Pointer). Held (place_in (off + i) p)) (get_or_from_slice_get (pointers_of s) fetched.copy fetched.pointer fetched.pointer fetched.is_copy) at in
    let told : shown_byte kind t.before (place_in (off + i) fetched.pointer) ≡ Some b = elim it [
      | inl is_down ↦ absurd (false≢true (sym fetched.up ∙ ap t.down (sym fetched.server) ∙ is_down))
      | inr is ↦ is
    ] in
    let low : fetched.pointer.server.0 < length t.before = omega (arith, fetched.known, fetched.server) in
    let spot : (kind.view (get_or t.before fetched.pointer.server.0 d)).shown fetched.pointer.file (fetched.pointer.at + (off + i)) ≡ Some b =
    sym (shown_byte-store kind t.before (place_in (off + i) fetched.pointer) d low) ∙ told in
    fetched.bytes d i b below
    (subst (λ (n : ℕ). (kind.view (get_or t.before n d)).shown fetched.pointer.file (fetched.pointer.at + off + i) ≡ Some b) fetched.server
    (ap (λ (n : ℕ). (kind.view (get_or t.before fetched.pointer.server.0 d)).shown fetched.pointer.file n) (omega arith) ∙ spot))

-- and so what every copy told
pub shows_up-told : {S : Type 0} {kind : StoreKind S} → KindLaws kind → (down : ℕ → Bool) (shelf : List S) (s : Slice) (off : ℕ) (bytes : List ℕ)
    → ShowsUp down (shown_byte kind shelf) s off bytes → ShowsUp down (byte_at kind shelf) s off bytes
shows_up-told {kind = kind} laws down shelf s off bytes shows i b below held =
    let Told : Place → Type 0 = λ q. (down q.server ≡ true) ⊎ (byte_at kind shelf q ≡ Some b) in
    let Shown : Place → Type 0 = λ q. (down q.server ≡ true) ⊎ (shown_byte kind shelf q ≡ Some b) in
    shows i b below (All-weaker Told Shown (λ q is. elim is [ inl out ↦ inl out | inr told ↦ inr (shown_byte-told laws shelf q b told) ]) (places_of s (off + i)) held)

pub fetched_up : {S : Type 0} {kind : StoreKind S} → KindLaws kind → {t : Span S} {s : Slice} {off : ℕ} {out : List ℕ} {k : ℕ}
    → IsFetched kind t s off out k → ShowsUp t.down (byte_at kind t.before) s off out
fetched_up {kind = kind} laws {t = t} {s = s} {off = off} {out = out} fetched = shows_up-told laws t.down t.before s off out (fetched_shown fetched)

-- and so what every copy held
pub shows_up-shows : (down : ℕ → Bool) (bytes_at : Place → Option ℕ) (s : Slice) (off : ℕ) (bytes : List ℕ) → ShowsUp down bytes_at s off bytes → ShowsSlice bytes_at s off bytes
shows_up-shows down bytes_at s off bytes shows i b below held =
    shows i b below (All-weaker (λ (q : Place). bytes_at q ≡ Some b) (λ (q : Place). (down q.server ≡ true) ⊎ (bytes_at q ≡ Some b)) (λ q is. inr is) (places_of s (off + i)) held)

pub fetched_bytes : {S : Type 0} {kind : StoreKind S} → KindLaws kind → {t : Span S} {s : Slice} {off : ℕ} {out : List ℕ} {k : ℕ}
    → IsFetched kind t s off out k → ShowsSlice (byte_at kind t.before) s off out
fetched_bytes {kind = kind} laws {t = t} {s = s} {off = off} {out = out} fetched = shows_up-shows t.down (byte_at kind t.before) s off out (fetched_up laws fetched)
