-- Laws of showing: a walk over pieces, what is shown part by part, and what later states of the stores tell.
use Rattle.std.proofs.Common.{◌≡◌, ◌≢◌, ℕ, ◌+◌, ◌-◌, ◌<◌, ◌≤◌, ◌⊎◌, ◌++◌, min, Bool, true, false, cond, nat_eq, nat_le, List, [], ◌∷◌, length, get_or, take}
use Rattle.std.proofs.Common.{Option, None, Some, is_some, refl, sym, ap, ◌∙◌, subst, arith, inl, inr, length-append, append_assoc}
use Rattle.std.specs.Prelude.{not}
use Rattle.std.specs.List.{All, filter}
use Rattle.std.proofs.lemmas.Bool.{cond-true, cond-false, lt-ltb, le-ltb, lt-leb, ne_eqb, cases_lt}
use Rattle.std.proofs.lemmas.List.{take_all, take_at, get_or_append_left, get_or-append_right}
use Rattle.std.proofs.lemmas.List.Elements.{All-nil, All-cons, All-head, All-tail, All-push, All-weaker}
use Rattle.wtf_base.specs.declared.pointer.Pointer.{Pointer}
use Rattle.wtf_base.specs.declared.settings.Settings.{Settings}
use Rattle.wtf_base.specs.declared.slice.Slice.{Slice}
use Rattle.wtf_base.specs.declared.fault.Fault.{Fault}
use Rattle.wtf_base.specs.declared.fault.Fault.TheVariants as fault
use Rattle.wtf_base.specs.Slices.{pointers_of}
use Rattle.wtf_base.specs.Places.{places_of}
use Rattle.wtf_dev.specs.Each.{EachFollows}
use Rattle.wtf_dev.specs.Store.{StoreKind, KindLaws}
use Rattle.wtf_overlay.specs.declared.part.Part.{Part}
use Rattle.wtf_overlay.specs.declared.part.Part.TheVariants.{Zero, Held}
use Rattle.wtf_overlay.specs.declared.part.Piece.{Piece}
use Rattle.wtf_overlay.specs.Origin.{Place, part_origin, pieces_len, pieces_origin}
use Rattle.wtf_overlay.specs.Meaning.{meaning}
use Rattle.wtf_overlay.proofs.Meanings.{All-meaning, meaning-All}
use Rattle.wtf_replica.specs.Spans.{Span, span}
use Rattle.wtf_replica.specs.Downs.{is_down}
use Rattle.wtf_replica.specs.Bytes.{byte_at, ShowsUp}
use Rattle.wtf_replica.specs.Copies.{IsCopyInside, IsReadable, IsFetched}
use Rattle.wtf_replica.specs.Faults.{AreAllOut, IsReadFault}
use Rattle.wtf_replica.proofs.Bytes.{byte_at-kept, fetched_bytes}
use Rattle.wtf_replica.proofs.Spans.{each_kept, same_lengths_on, same_syncs_on, all_out_since}
use Rattle.wtf_meta.specs.Contents.{TellBytes, is_told}
use Rattle.wtf_region.specs.declared.dev.Dev.{Dev}
use Rattle.wtf_region.specs.Devs.{GoesOn, stores, is_down_in, between}
use Rattle.wtf_region.specs.Inside.{IsOnServers}
use Rattle.wtf_region.specs.Showing.{IsReadablePart, IsUpPart, Reading, GivesBytes, Gives, ShowsBytes, Shown, ShownBoth, told_by_some, meaning_up, pieces_in}
use Rattle.wtf_region.specs.Showing.{IsPartFault, IsShowFault, OnlyRead}

-- what places mean they still mean where each of them still tells its byte
meaning_kept : (f g : Place → Option ℕ) (b : ℕ) (qs : List Place) → ((q : Place) → f q ≡ Some b → g q ≡ Some b) → meaning f qs ≡ Some b → meaning g qs ≡ Some b
meaning_kept f g b [] step h = h
meaning_kept f g b (q ∷ qs) step h =
    meaning-All g q qs b (All-weaker (λ p. f p ≡ Some b) (λ p. g p ≡ Some b) step (q ∷ qs) (All-meaning f (q ∷ qs) b h))

-- told places stay told while nothing is punched
pub told_stays : {S : Type 0} {kind : StoreKind S} → KindLaws kind → {old new : List S} → EachFollows kind old new [] → (places : List Place) (b : ℕ)
    → meaning (byte_at kind old) places ≡ Some b → meaning (byte_at kind new) places ≡ Some b
told_stays {kind = kind} laws {old = old} {new = new} e places b =
    meaning_kept (byte_at kind old) (byte_at kind new) b places (λ q. byte_at-kept laws e q b tt)

-- the copies of a byte on servers that are up, where they tell it
all_filtered : (down : ℕ → Bool) (P : Place → Type 0) (qs : List Place) → All P (filter (λ (q : Place). not (down q.server)) qs)
    → All (λ (q : Place). (down q.server ≡ true) ⊎ P q) qs
all_filtered down P [] h = All-nil (λ (q : Place). (down q.server ≡ true) ⊎ P q)
all_filtered down P (q ∷ qs) h =
    let Q : Place → Type 0 = λ p. (down p.server ≡ true) ⊎ P p in
    let rest : List Place = filter (λ (p : Place). not (down p.server)) qs in
    (elim (down q.server) as (λ y. down q.server ≡ y → All Q (q ∷ qs)) [
      | true ↦ λ t. All-cons Q q qs (inl t) (all_filtered down P qs (subst (λ (b : Bool). All P (cond (not b) (q ∷ rest) rest)) t h))
      | false ↦ λ t.
          let here : All P (q ∷ rest) = subst (λ (b : Bool). All P (cond (not b) (q ∷ rest) rest)) t h in
          All-cons Q q qs (inr (All-head P q rest here)) (all_filtered down P qs (All-tail P q rest here))
    ]) refl

some_told : (told : Place → Option ℕ) (b : ℕ) (qs : List Place) → told_by_some told qs ≡ Some b → All (λ (q : Place). told q ≡ Some b) qs
some_told told b [] h = absurd (cc)
some_told told b (q ∷ qs) h = All-meaning told (q ∷ qs) b h

-- each copy on a server that is up tells the byte that is read of them
pub up_tells : (down : ℕ → Bool) (told : Place → Option ℕ) (b : ℕ) (qs : List Place) → meaning_up down told qs ≡ Some b
    → All (λ (q : Place). (down q.server ≡ true) ⊎ (told q ≡ Some b)) qs
up_tells down told b [] h = All-nil (λ (q : Place). (down q.server ≡ true) ⊎ (told q ≡ Some b))
up_tells down told b (p ∷ ps) h =
    all_filtered down (λ (q : Place). told q ≡ Some b) (p ∷ ps) (some_told told b (filter (λ (q : Place). not (down q.server)) (p ∷ ps)) h)

some_kept : (f g : Place → Option ℕ) (b : ℕ) (qs : List Place) → ((q : Place) → f q ≡ Some b → g q ≡ Some b) → told_by_some f qs ≡ Some b
    → told_by_some g qs ≡ Some b
some_kept f g b [] step h = h
some_kept f g b (q ∷ qs) step h = meaning_kept f g b (q ∷ qs) step h

up_kept : (down : ℕ → Bool) (f g : Place → Option ℕ) (b : ℕ) (qs : List Place) → ((q : Place) → f q ≡ Some b → g q ≡ Some b)
    → meaning_up down f qs ≡ Some b → meaning_up down g qs ≡ Some b
up_kept down f g b [] step h = h
up_kept down f g b (q ∷ qs) step h = some_kept f g b (filter (λ (p : Place). not (down p.server)) (q ∷ qs)) step h

-- what they tell stays so too
up_stays : {S : Type 0} {kind : StoreKind S} → KindLaws kind → {old new : List S} → EachFollows kind old new []
    → (down : ℕ → Bool) (places : List Place) (b : ℕ)
    → meaning_up down (byte_at kind old) places ≡ Some b → meaning_up down (byte_at kind new) places ≡ Some b
up_stays {kind = kind} laws {old = old} {new = new} e down places b =
    up_kept down (byte_at kind old) (byte_at kind new) b places (λ q. byte_at-kept laws e q b tt)

-- where the stores tell each of the bytes, they are those that were shown
pub ShowsBytes-tell : (told : Place → Option ℕ) (n : ℕ) (f : ℕ → List Place) (bytes : List ℕ) → ((i : ℕ) → i < n → is_told told (f i) ≡ true)
    → ShowsBytes told n f bytes → TellBytes told n f bytes
ShowsBytes-tell told n f bytes tells h = record { len = sym h.len; tells = λ i below. here i below (meaning told (f i)) refl (tells i below) }
  where
    here : (i : ℕ) → i < n → (o : Option ℕ) → meaning told (f i) ≡ o → is_some o ≡ true → meaning told (f i) ≡ Some (get_or bytes i 0)
    here i below None is some = absurd (cc)
    here i below (Some b) is some = is ∙ ap Some (sym (h.shows i b below is))

-- what was read from a copy is what the slice's places tell
pub copy_shows : {S : Type 0} {kind : StoreKind S} → KindLaws kind → {t : Span S} {s : Slice} {off : ℕ} {out : List ℕ} {k : ℕ}
    → IsFetched kind t s off out k → (n : ℕ) → length out ≡ n → ShowsBytes (byte_at kind t.before) n (λ i. part_origin (Held s) (off + i)) out
copy_shows {kind = kind} laws {t = t} {s = s} {off = off} f n len = record {
  len = len;
  shows = λ i b below told. fetched_bytes laws f i b (omega (arith, below, len)) (All-meaning (byte_at kind t.before) (places_of s (off + i)) b told);
}

-- and what those on servers that are up tell
pub copy_lives : {S : Type 0} (kind : StoreKind S) (down : ℕ → Bool) (shelf : List S) (s : Slice) (off : ℕ) (out : List ℕ)
    → ShowsUp down (byte_at kind shelf) s off out → (n : ℕ) → length out ≡ n → GivesBytes (meaning_up down (byte_at kind shelf)) n
    (λ i. part_origin (Held s) (off + i)) out
copy_lives kind down shelf s off out shows n len = record {
  len = len;
  shows = λ i b below told. shows i b (omega (arith, below, len)) (up_tells down (byte_at kind shelf) b (places_of s (off + i)) told);
}

-- a slice that was not read is why its part was not shown
pub part_fault : {S : Type 0} (kind : StoreKind S) (t : Span S) (part : Part) (s : Slice) → part ≡ Held s → (f : Fault) → IsReadFault kind t s f
    → IsPartFault kind t part f
part_fault kind t part s held (fault.Read k) h = record { slice = s; held = held; out = h }
part_fault kind t part s held fault.Write h = absurd h
part_fault kind t part s held (fault.Punch k) h = absurd h
part_fault kind t part s held (fault.Damaged k) h = absurd h
part_fault kind t part s held fault.Memory h = absurd h

-- what was read, and more
gives_more : (reading : Reading) (n m k : ℕ) (f g : ℕ → List Place) (old mid new : List ℕ) → k ≡ n + m → Gives reading n f old mid → Gives reading m g mid new
    → ((i : ℕ) → i < m → g i ≡ f (n + i)) → Gives reading k f old new
gives_more reading n m k f g old mid new e first next follows =
    let a : length first.bytes ≡ n = first.are.len in
    let b : length next.bytes ≡ m = next.are.len in
    record {
      bytes = first.bytes ++ next.bytes;
      more = next.more ∙ ap (λ (l : List ℕ). l ++ next.bytes) first.more ∙ append_assoc old first.bytes next.bytes;
      are = record {
        len = omega (arith, length-append first.bytes next.bytes, a, b, e);
        shows = λ i x below tells. elim (cases_lt i n) [
          | inl l ↦ get_or_append_left first.bytes next.bytes 0 i (omega (arith, a, l)) ∙ first.are.shows i x l tells
          | inr p ↦
              let j : ℕ = i - n in
              let at : n + j ≡ i = omega (arith, p) in
              let within : j < m = omega (arith, e, below, p) in
              get_or-append_right first.bytes next.bytes n i 0 a p
              ∙ next.are.shows j x within (ap reading (follows j within ∙ ap f at) ∙ tells)
        ];
      };
    }

-- what a reading gives, one that gives no more does
gives_since : (was now : Reading) → ((qs : List Place) (b : ℕ) → was qs ≡ Some b → now qs ≡ Some b) → (n : ℕ) (f : ℕ → List Place) (old new : List ℕ)
    → Gives now n f old new → Gives was n f old new
gives_since was now step n f old new h = record {
  bytes = h.bytes;
  more = h.more;
  are = record { len = h.are.len; shows = λ i b below tells. h.are.shows i b below (step (f i) b tells) };
}

-- what was shown, and more
pub shown_more : (down : ℕ → Bool) (told : Place → Option ℕ) (n m k : ℕ) (f g : ℕ → List Place) (old mid new : List ℕ) → k ≡ n + m
    → ShownBoth down told n f old mid → ShownBoth down told m g mid new → ((i : ℕ) → i < m → g i ≡ f (n + i)) → ShownBoth down told k f old new
shown_more down told n m k f g old mid new e first next follows = record {
  shown = gives_more (meaning told) n m k f g old mid new e first.shown next.shown follows;
  live = gives_more (meaning_up down told) n m k f g old mid new e first.live next.live follows;
}

-- what a later state of the stores shows an earlier one does
pub shown_since : {S : Type 0} {kind : StoreKind S} → KindLaws kind → {before mid : List S} → EachFollows kind before mid []
    → (n : ℕ) (f : ℕ → List Place) (old new : List ℕ)
    → Shown (byte_at kind mid) n f old new → Shown (byte_at kind before) n f old new
shown_since {kind = kind} laws {before = before} {mid = mid} e n f old new h =
    gives_since (meaning (byte_at kind before)) (meaning (byte_at kind mid)) (told_stays laws e) n f old new h

pub both_since : {S : Type 0} {kind : StoreKind S} → KindLaws kind → {before mid : List S} → EachFollows kind before mid [] → (down : ℕ → Bool) (n : ℕ)
    (f : ℕ → List Place) (old new : List ℕ) → ShownBoth down (byte_at kind mid) n f old new → ShownBoth down (byte_at kind before) n f old new
both_since {kind = kind} laws {before = before} {mid = mid} e down n f old new h = record {
  shown = shown_since laws e n f old new h.shown;
  live = gives_since (meaning_up down (byte_at kind before)) (meaning_up down (byte_at kind mid)) (up_stays laws e down) n f old new h.live;
}

-- a slice that can be read can be read later
copies_stay : {S : Type 0} {kind : StoreKind S} → KindLaws kind → (down : ℕ → Bool) {old new : List S} → EachFollows kind old new [] → (s : Slice)
    → IsReadable kind down old s → IsReadable kind down new s
copies_stay {kind = kind} laws down {old = old} {new = new} e s h =
    All-weaker (λ (p : Pointer). (down p.server.0 ≡ true) ⊎ IsCopyInside kind old p) (λ (p : Pointer). (down p.server.0 ≡ true) ⊎ IsCopyInside kind new p)
    (λ p was. elim was [
      | inl low ↦ inl low
      | inr inside ↦ inr (
        omega (arith, inside.0, e.same_length),
        inside.1,
        λ d. omega (
          arith,
          inside.2 d,
          (laws.keeps _ _ _ (e.each p.server.0 d inside.0)).size p.file,
        ),
      )
    ]) (pointers_of s) h

pub readable_stays : {S : Type 0} {kind : StoreKind S} → KindLaws kind → {old new : Dev S} → GoesOn kind old new [] → (part : Part)
    → IsReadablePart kind old part → IsReadablePart kind new part
readable_stays laws g Zero h = tt
readable_stays {kind = kind} laws {old = old} {new = new} g (Held s) h = (
  subst (λ (down : ℕ → Bool). IsReadable kind down (stores new) s) (sym (ap (λ r. is_down r.now) g.replicas))
      (copies_stay laws (is_down_in old) g.each s h.0),
  subst (λ (st : Settings). IsOnServers st.servers s) (sym g.settings) h.1,
)

-- reads one after another
pub reads_on : {S : Type 0} (kind : StoreKind S) (down : ℕ → Bool) (old mid new : List S) → length mid ≡ length old → OnlyRead kind (span down old mid)
    → OnlyRead kind (span down mid new)
    → OnlyRead kind (span down old new)
reads_on kind down old mid new same first next = record {
  down = λ k d low. next.down k d low ∙ first.down k d low;
  lengths = same_lengths_on kind old mid new same first.lengths next.lengths;
  syncs = same_syncs_on kind old mid new same first.syncs next.syncs;
}

pub reads_nothing : {S : Type 0} (kind : StoreKind S) (down : ℕ → Bool) (old : List S) → OnlyRead kind (span down old old)
reads_nothing kind down old = record { down = λ k d low. refl; lengths = λ k d h f. refl; syncs = λ k d h. refl }

pub reads_over : {S : Type 0} (kind : StoreKind S) (old mid new : Dev S) → GoesOn kind old mid [] → OnlyRead kind (between old mid)
    → OnlyRead kind (between mid new) → OnlyRead kind (between old new)
reads_over kind old mid new each first next = reads_on kind (is_down_in old) (stores old) (stores mid) (stores new) each.each.same_length first
    (subst (λ (down : ℕ → Bool). OnlyRead kind (span down (stores mid) (stores new))) (ap (λ r. is_down r.now) each.replicas) next)

-- how far a walk over pieces has come that is to show `len` bytes from `off` on: so many are to be skipped of the pieces that
-- are left, and so many to be shown
pub record Walk (ps : List Piece) (off len : ℕ) (rest : List Piece) (skip left : ℕ) : Type 0 where
  pub within : left ≤ len
  pub short : skip + left ≤ pieces_len rest
  pub origin : (i : ℕ) → i < left → pieces_origin ps (off + (len - left + i)) ≡ pieces_origin rest (skip + i)

-- and a part of one is shown
pub walk_part : (ps : List Piece) (off len : ℕ) (p : Piece) (rest : List Piece) (skip left n : ℕ) → Walk ps off len (p ∷ rest) skip left → skip < p.len
    → n ≡ min left (p.len - skip)
    → Walk ps off len rest 0 (left - n)
walk_part ps off len p rest skip left n w before is = record {
  within = omega (arith, w.within);
  short = omega (arith, w.short, is, before);
  origin = λ i below.
      ap (pieces_origin ps) (let e : off + (len - (left - n) + i) ≡ off + (len - left + (n + i)) = omega (arith, w.within, is, before, below) in e)
      ∙ w.origin (n + i) (omega (arith, below)) ∙ cond-false _ _ _ (le-ltb (skip + (n + i)) p.len (omega (arith, is, before, below)))
      ∙ ap (pieces_origin rest) (let e : skip + (n + i) - p.len ≡ 0 + i = omega (arith, is, before, below) in e);
}

-- the bytes of that part
pub walk_here : (ps : List Piece) (off len : ℕ) (p : Piece) (rest : List Piece) (skip left n i : ℕ) → Walk ps off len (p ∷ rest) skip left → skip < p.len
    → n ≡ min left (p.len - skip)
    → i < n → part_origin p.part (skip + i) ≡ pieces_origin ps (off + (len - left + i))
walk_here ps off len p rest skip left n i w before is below =
    sym (w.origin i (omega (arith, is, below)) ∙ cond-true _ _ _ (lt-ltb (skip + i) p.len (omega (arith, is, before, below))))

in_part : (p : Piece) (rest : List Piece) (skip left n : ℕ) → left ≢ 0 → skip < p.len → n ≡ min left (p.len - skip)
    → pieces_in skip left (p ∷ rest) ≡ p ∷ pieces_in 0 (left - n) rest
in_part p rest skip left n some before is = cond-false (nat_eq left 0) _ _ (ne_eqb left 0 some) ∙ cond-false (nat_le p.len skip) _ _ (lt-leb p.len skip before)
    ∙ ap (λ (m : ℕ). p ∷ pieces_in 0 m rest) (let e : left - (p.len - skip) ≡ left - n = omega (arith, is) in e)

-- of all the pieces to be shown those before these were, each from a server that is up
pub record Passed (down : ℕ → Bool) (all rest : List Piece) : Type 0 where
  pub done : List Piece
  pub split : all ≡ done ++ rest
  pub up : All (λ (p : Piece). IsUpPart down p.part) done

passed_one : (down : ℕ → Bool) (all : List Piece) (p : Piece) (rest : List Piece) → Passed down all (p ∷ rest) → IsUpPart down p.part → Passed down all rest
passed_one down all p rest h up = record {
  done = h.done ++ p ∷ [];
  split = h.split ∙ sym (append_assoc h.done (p ∷ []) rest);
  up = All-push (λ (q : Piece). IsUpPart down q.part) h.done p h.up up;
}

pub passed_part : (down : ℕ → Bool) (all : List Piece) (p : Piece) (rest : List Piece) (skip left n : ℕ) → left ≢ 0 → skip < p.len → n ≡ min left (p.len - skip)
    → Passed down all (pieces_in skip left (p ∷ rest)) → IsUpPart down p.part → Passed down all (pieces_in 0 (left - n) rest)
passed_part down all p rest skip left n some before is h up =
    passed_one down all p (pieces_in 0 (left - n) rest) (subst (Passed down all) (in_part p rest skip left n some before is) h) up

-- the fault of a piece in a later part of the span, where those before it were shown
pub show_fault : {S : Type 0} (kind : StoreKind S) (laws : KindLaws kind) (old mid new : Dev S) (all : List Piece) (p : Piece) (rest : List Piece)
    → GoesOn kind old mid []
    → Passed (is_down_in old) all (p ∷ rest) → (f : Fault) → IsPartFault kind (between mid new) p.part f → IsShowFault kind (between old new) all f
show_fault kind laws old mid new all p rest each passed (fault.Read k) h = record {
  before = passed.done;
  piece = p;
  after = rest;
  split = passed.split;
  lacks = record {
    slice = h.slice;
    held = h.held;
    out = all_out_since kind (is_down_in old) (stores old) (stores mid) (stores new) each.each.same_length (each_kept laws each.each) h.slice k.0
        (subst (λ (down : ℕ → Bool). AreAllOut kind (span down (stores mid) (stores new)) h.slice k.0) (ap (λ r. is_down r.now) each.replicas) h.out);
  };
  earlier = passed.up;
}
show_fault kind laws old mid new all p rest each passed fault.Write h = absurd h
show_fault kind laws old mid new all p rest each passed (fault.Punch k) h = absurd h
show_fault kind laws old mid new all p rest each passed (fault.Damaged k) h = absurd h
show_fault kind laws old mid new all p rest each passed fault.Memory h = tt

pub show_fault_in : {S : Type 0} (kind : StoreKind S) (laws : KindLaws kind) (old mid new : Dev S) (all : List Piece) (p : Piece) (rest : List Piece)
    (skip left n : ℕ)
    → left ≢ 0 → skip < p.len → n ≡ min left (p.len - skip) → GoesOn kind old mid []
    → Passed (is_down_in old) all (pieces_in skip left (p ∷ rest)) → (f : Fault) → IsPartFault kind (between mid new) p.part f
    → IsShowFault kind (between old new) all f
show_fault_in kind laws old mid new all p rest skip left n some before is each passed f h =
    show_fault kind laws old mid new all p (pieces_in 0 (left - n) rest) each (subst (Passed (is_down_in old) all) (in_part p rest skip left n some before is)
    passed) f h

-- a list that was lengthened, and whose new end was written
pub end_written : (old xs items ys zeros p q : List ℕ) (a n len end : ℕ) → length old ≡ a → xs ≡ items → end ≡ a + n → items ≡ take end old ++ zeros
    → length ys ≡ n → len ≡ end
    → take len (take a xs ++ (ys ++ p) ++ q) ≡ old ++ ys
end_written old xs items ys zeros p q a n len end is_a is_xs is_end is_items is_n is_len =
    let front : take a xs ≡ old =
    ap (λ (l : List ℕ). take a l) (is_xs ∙ is_items ∙ ap (λ (l : List ℕ). l ++ zeros) (take_all end old (omega (arith, is_a, is_end))))
    ∙ take_at old zeros a is_a in
    let parts : take a xs ++ (ys ++ p) ++ q ≡ (old ++ ys) ++ (p ++ q) =
    ap (λ (l : List ℕ). l ++ (ys ++ p) ++ q) front
    ∙ ap (λ (l : List ℕ). l ++ q) (sym (append_assoc old ys p)) ∙ append_assoc (old ++ ys) p q in
    ap (λ (l : List ℕ). take len l) parts ∙ take_at (old ++ ys) (p ++ q) len (omega (arith, length-append old ys, is_a, is_n, is_len, is_end))
