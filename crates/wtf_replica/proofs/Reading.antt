-- One turn of the loops of `fetch`, `sync_all` and `sync_up`.
use Rattle.std.proofs.Common.{◌≡◌, ◌⊎◌, ℕ, zero, suc, ◌+◌, ◌-◌, ◌^◌, ◌<◌, ◌≢◌, Bool, true, false, List, [], ◌∷◌, ◌++◌, length, get_or, take, Option, Some, None, refl, sym, ◌∙◌, ap, subst, arith, inl, inr}
use Rattle.std.specs.Prelude.{slice_get}
use Rattle.std.specs.List.{All}
use Rattle.std.proofs.lemmas.Bool.{false≢true}
use Rattle.std.proofs.lemmas.List.{take_more}
use Rattle.std.proofs.lemmas.List.Elements.{All-cons, All-more, All-nil, All-pop, All-take, All-weaker}
use Rattle.std.proofs.lemmas.Option.{slice_get_within, get_or_from_slice_get}
use Rattle.wtf_base.specs.declared.pointer.Pointer.{Pointer}
use Rattle.wtf_base.specs.declared.slice.Slice.{Slice}
use Rattle.wtf_base.specs.declared.slice.Extents.{Extents}
use Rattle.wtf_base.specs.declared.slice.Extents.TheVariants.{One, Two, Three}
use Rattle.wtf_base.specs.Extents.{IsSound, pointers_to}
use Rattle.wtf_base.specs.Slices.{pointers_of}
use Rattle.wtf_dev.specs.Store.{StoreKind, Agrees}
use Rattle.wtf_replica.specs.Spans.{Span, span}
use Rattle.wtf_replica.specs.Outs.{IsOut, SameFrom, SameSyncs, HasSynced}
use Rattle.wtf_replica.specs.Copies.{IsCopyInside, IsReadable, SameBeside, IsFetched}
use Rattle.wtf_replica.specs.Faults.{last_server}
use Rattle.wtf_replica.proofs.Spans.{EachKept, out_on, out_since}
use Rattle.wtf_replica.proofs.Writing.{Above, Ascends}

-- one copy more
next_holds : (P : Pointer → Type 0) (ps : List Pointer) (j : ℕ) (p : Pointer) → slice_get ps j ≡ Some p → All P (take j ps) → P p → All P (take (j + 1) ps)
next_holds P ps j p is all one =
    All-more P ps j p (slice_get_within ps j p is) all (subst P (sym (get_or_from_slice_get ps j p p is)) one)

last_server-push : (ps : List Pointer) (p : Pointer) (k : ℕ) → last_server (ps ++ p ∷ []) k ≡ p.server.0
last_server-push [] p k = refl
last_server-push (q ∷ ps) p k = last_server-push ps p q.server.0

pub next_last : (ps : List Pointer) (j : ℕ) (p : Pointer) (k : ℕ) → slice_get ps j ≡ Some p → last_server (take (j + 1) ps) k ≡ p.server.0
next_last ps j p k is =
    ap (λ (xs : List Pointer). last_server xs k) (take_more ps j p (slice_get_within ps j p is))
    ∙ last_server-push (take j ps) (get_or ps j p) k
    ∙ ap (λ (q : Pointer). q.server.0) (get_or_from_slice_get ps j p p is)

-- a copy on a server that is up lies inside its store
copy_inside : {S : Type 0} (kind : StoreKind S) (down : ℕ → Bool) (shelf : List S) (s : Slice) (j : ℕ) (p : Pointer) → slice_get (pointers_of s) j ≡ Some p
    → IsReadable kind down shelf s → down p.server.0 ≡ false → IsCopyInside kind shelf p
copy_inside kind down shelf s j p is readable up =
    let Readable : Pointer → Type 0 = λ q. (down q.server.0 ≡ true) ⊎ IsCopyInside kind shelf q in
    let here : Readable p = subst Readable (get_or_from_slice_get (pointers_of s) j p p is) (readable j p (slice_get_within (pointers_of s) j p is)) in
    elim here [ inl is_down ↦ absurd (false≢true (sym up ∙ is_down)) | inr fits ↦ fits ]

-- one copy more was tried
pub next_beside : {S : Type 0} (old mid new : List S) (ps : List Pointer) (j : ℕ) (p : Pointer) → slice_get ps j ≡ Some p
    → SameBeside (take j ps) old mid → ((k : ℕ) (d : S) → k ≢ p.server.0 → get_or new k d ≡ get_or mid k d) → SameBeside (take (j + 1) ps) old new
next_beside old mid new ps j p is was elsewhere k d none =
    let Other : Pointer → Type 0 = λ q. q.server.0 ≢ k in
    let below : j < length ps = slice_get_within ps j p is in
    let parts = All-pop Other (take (j + 1) ps) (take j ps) (Some (get_or ps j p)) (take_more ps j p below) none in
    let here : p.server.0 ≢ k = subst Other (get_or_from_slice_get ps j p p is) parts.1 in
    elsewhere k d (λ same. here (sym same)) ∙ was k d parts.0

-- the servers that have none of the copies have none of the first
pub beside_all : {S : Type 0} (old new : List S) (ps : List Pointer) (n : ℕ) → SameBeside (take n ps) old new → SameBeside ps old new
beside_all old new ps n first k d none = first k d (All-take (λ (q : Pointer). q.server.0 ≢ k) n ps none)

abbrev server_of : Option Pointer → ℕ
server_of None = 0
server_of (Some p) = p.server.0

-- the servers of a slice's copies ascend
extents_ascend : (n : ℕ) (e : Extents) → IsSound n e → Ascends (pointers_to n e)
extents_ascend n (One a) s = (tt, tt)
extents_ascend n (Two a b) s = ((s.3, tt), (tt, tt))
extents_ascend n (Three a b c) s = ((s.4, (omega (arith, s.4, s.5), tt)), ((s.5, tt), (tt, tt)))

above_at : (k : ℕ) (ps : List Pointer) (i : ℕ) (p : Pointer) → Above k ps → slice_get ps i ≡ Some p → k < p.server.0
above_at k [] i p a is = absurd (cc)
above_at k (q ∷ ps) zero p a is =
    let here : Some q ≡ Some p = is in omega (arith, a.0, ap (λ (o : Option Pointer). server_of o) here)
above_at k (q ∷ ps) (suc i) p a is = above_at k ps i p a.1 is

none_up_to : (ps : List Pointer) (i : ℕ) (p : Pointer) (k : ℕ) → Ascends ps → slice_get ps i ≡ Some p → p.server.0 < k
    → All (λ (q : Pointer). q.server.0 ≢ k) (take (suc i) ps)
none_up_to [] i p k a is low = absurd (cc)
none_up_to (q ∷ ps) zero p k a is low =
    let here : Some q ≡ Some p = is in
    let same : q.server.0 ≡ p.server.0 = ap (λ (o : Option Pointer). server_of o) here in
    All-cons (λ (r : Pointer). r.server.0 ≢ k) q [] (λ e. omega (arith, e, same, low)) (All-nil (λ (r : Pointer). r.server.0 ≢ k))
none_up_to (q ∷ ps) (suc i) p k a is low =
    let before : q.server.0 < p.server.0 = above_at q.server.0 ps i p a.0 is in
    All-cons (λ (r : Pointer). r.server.0 ≢ k) q (take (suc i) ps) (λ e. omega (arith, e, before, low)) (none_up_to ps i p k a.1 is low)

-- so the servers behind that of a copy have none of the copies up to it
pub past_copy : {S : Type 0} (old new : List S) (s : Slice) (i : ℕ) (p : Pointer) → slice_get (pointers_of s) i ≡ Some p
    → SameBeside (take (i + 1) (pointers_of s)) old new → SameFrom (p.server.0 + 1) old new
past_copy old new s i p is beside k d low =
    let on : suc i ≡ i + 1 = omega arith in
    beside k d
    (subst (λ (n : ℕ). All (λ (q : Pointer). q.server.0 ≢ k) (take n (pointers_of s))) on
    (none_up_to (pointers_of s) i p k (extents_ascend s.len s.extents s.sound) is (omega (arith, low))))

-- The copy that was read is the one that is answered: what it tells at the begin it still told when it was read.
pub fetched : {S : Type 0} (kind : StoreKind S) (down : ℕ → Bool) (old mid new : List S) → length mid ≡ length old → EachKept kind old mid → EachKept kind mid new
    → (s : Slice) (j : ℕ) (p : Pointer) (off : ℕ) (out : List ℕ)
    → slice_get (pointers_of s) j ≡ Some p → IsReadable kind down old s → down p.server.0 ≡ false
    → ((d : S) → Agrees (kind.view (get_or mid p.server.0 d)) p.file (p.at + off) out)
    → All (λ (q : Pointer). IsOut kind (span down old mid) q.server.0) (take j (pointers_of s))
    → IsFetched kind (span down old new) s off out p.server.0
fetched {S} kind down old mid new same before after s j p off out is readable up agrees earlier =
    let below : p.server.0 < length old = (copy_inside kind down old s j p is readable up).0 in
    record {
      copy = j;
      pointer = p;
      is_copy = is;
      server = refl;
      known = below;
      up = up;
      bytes = λ d k b h told. agrees d k b h ((before p.server.0 d below).shown p.file (p.at + off + k) b tt told);
      earlier = All-weaker (λ (q : Pointer). IsOut kind (span down old mid) q.server.0) (λ (q : Pointer). IsOut kind (span down old new) q.server.0)
          (λ q. out_on kind down old mid new same after q.server.0) (take j (pointers_of s)) earlier;
    }

-- one copy more is out
pub next_out : {S : Type 0} (kind : StoreKind S) (down : ℕ → Bool) (old mid new : List S) → length mid ≡ length old → EachKept kind old mid → EachKept kind mid new
    → (ps : List Pointer) (j : ℕ) (p : Pointer) → slice_get ps j ≡ Some p
    → All (λ (q : Pointer). IsOut kind (span down old mid) q.server.0) (take j ps) → IsOut kind (span down mid new) p.server.0
    → All (λ (q : Pointer). IsOut kind (span down old new) q.server.0) (take (j + 1) ps)
next_out kind down old mid new same before after ps j p is earlier out = next_holds (λ (q : Pointer). IsOut kind (span down old new) q.server.0) ps j p is
    (All-weaker (λ (q : Pointer). IsOut kind (span down old mid) q.server.0) (λ (q : Pointer). IsOut kind (span down old new) q.server.0)
    (λ q. out_on kind down old mid new same after q.server.0) (take j ps) earlier)
    (out_since kind down old mid new same before p.server.0 out)

-- a server was synced in a part of a span, so it was in the whole
pub synced_on : {S : Type 0} (kind : StoreKind S) (old mid new : List S) → length mid ≡ length old → EachKept kind mid new
    → (k : ℕ) → HasSynced kind old mid k → HasSynced kind old new k
synced_on kind old mid new same kept k h =
    (h.0, λ d low. let below : k < length mid = omega (arith, h.0, same) in omega (arith, h.1 d, (kept k d below).syncs))

pub synced_since : {S : Type 0} (kind : StoreKind S) (old mid new : List S) → length mid ≡ length old → EachKept kind old mid
    → (k : ℕ) → HasSynced kind mid new k → HasSynced kind old new k
synced_since kind old mid new same kept k h =
    let below : k < length old = omega (arith, h.0, same) in
    (below, λ d low. omega (arith, h.1 d, (kept k d below).syncs))

-- where no store was synced, none counts as synced
pub none_synced : {S : Type 0} (kind : StoreKind S) (old new : List S) (k : ℕ) (d : S) → (kind.view (get_or old k d)).syncs < 2 ^ 64 - 1
    → SameSyncs kind old new → HasSynced kind old new k → ⊥
none_synced kind old new k d below same synced =
    let still = same k d synced.0 in omega (arith, still, synced.1 d (omega (arith, still, below)))

from_first : {S : Type 0} (kind : StoreKind S) (t : Span S) (ps : List Pointer) (copy : ℕ) (read : Pointer) (k : ℕ) (p : Pointer)
    → slice_get ps 0 ≡ Some p → (IsOut kind t p.server.0 → ⊥) → slice_get ps copy ≡ Some read → read.server.0 ≡ k
    → All (λ q. IsOut kind t q.server.0) (take copy ps) → k ≡ p.server.0
from_first kind t [] copy read k p first up is server earlier = absurd (cc)
from_first kind t (q ∷ ps) zero read k p first up is server earlier =
    let same : Some p ≡ Some read = sym first ∙ is in
    sym server ∙ ap (λ (o : Option Pointer). server_of o) (sym same)
from_first kind t (q ∷ ps) (suc n) read k p first up is server earlier =
    let here : Some q ≡ Some p = first in
    absurd (up (subst (λ (m : ℕ). IsOut kind t m) (ap (λ (o : Option Pointer). server_of o) here) (earlier 0 q (omega arith))))

-- a slice whose first copy can be read is read from it
pub read_from_first : {S : Type 0} (kind : StoreKind S) (t : Span S) (s : Slice) (off : ℕ) (out : List ℕ) (k : ℕ) (p : Pointer)
    → slice_get (pointers_of s) 0 ≡ Some p → (IsOut kind t p.server.0 → ⊥) → IsFetched kind t s off out k → k ≡ p.server.0
read_from_first kind t s off out k p first up fetched =
    from_first kind t (pointers_of s) fetched.copy fetched.pointer k p first up fetched.is_copy fetched.server fetched.earlier
