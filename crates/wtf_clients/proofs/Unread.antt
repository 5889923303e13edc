-- A slice that was not read has a byte that was not; and bytes that are no list were so when they were read.
use Rattle.wtf_clients.proofs.Common.{All, eqb-true, eq-eqb, length-map, All-map, All-weaker, Fault, ServerId, Pointer, Settings, Slice, Extents, One, Two}
use Rattle.wtf_clients.proofs.Common.{Three, IsSound, pointers_to, pointers_of, place_in, StoreKind, KindLaws, Part, Held, Piece, Place, part_origin, is_down}
use Rattle.wtf_clients.proofs.Common.{AreAllOut, last_server, IsOut, Span, span, each_kept, out_since, PartBytes, PiecesBytes, Dev, GoesOn, stores, between}
use Rattle.wtf_clients.proofs.Common.{is_inside, LacksPiece, pieces_in, some_bytes, LacksBytes, pieces_in-All, All-middle, servers_known, has_copies}
use Rattle.wtf_clients.proofs.Common.{AscendFrom, last_of, IsLost, IsUnread, IsNoList, ◌≡◌, ℕ, ◌+◌, ◌<◌, ◌≤◌, Bool, true, false, List, [], ◌∷◌, length, map}
use Rattle.wtf_clients.proofs.Common.{take, get_or, refl, ap, ◌∙◌, subst, arith}
use Rattle.wtf_dev.specs.Store.{Kept}
use Rattle.wtf_meta.specs.Bytes.{SliceBytes}

-- the places of a byte of a slice go up by server
ascends : (n i : ℕ) (e : Extents) → IsSound n e → AscendFrom 0 (map (place_in i) (pointers_to n e))
ascends n i (One a) sound = (omega arith, tt)
ascends n i (Two a b) sound = (omega arith, (omega (arith, sound.3), tt))
ascends n i (Three a b c) sound = (omega arith, (omega (arith, sound.4), (omega (arith, sound.5), tt)))

-- there is one
some_place : (n i : ℕ) (e : Extents) → 0 < length (map (place_in i) (pointers_to n e))
some_place n i (One a) = omega arith
some_place n i (Two a b) = omega arith
some_place n i (Three a b c) = omega arith

-- the server of the last place is that of the last copy
last_place : (i k : ℕ) (ps : List Pointer) → last_of (map (place_in i) ps) k ≡ last_server ps k
last_place i k [] = refl
last_place i k (p ∷ ps) = last_place i p.server.0 ps

-- places that are no hole are so many
pub width_of : (n : ℕ) (places : List Place) → 0 < length places → has_copies n places ≡ true → length places ≡ n
width_of n [] some h = absurd (omega arith)
width_of n (p ∷ ps) some h = eqb-true (length (p ∷ ps)) n h

-- and a slice of so many copies has as many places for each byte
pub copies_by : (n : ℕ) (places : List Place) → length places ≡ n → has_copies n places ≡ true
copies_by n [] is = refl
copies_by n (p ∷ ps) is = eq-eqb (length (p ∷ ps)) n is

pub slice_copies : (n : ℕ) (s : Slice) (k : ℕ) → length (pointers_of s) ≡ n → PartBytes (has_copies n) k (Held s)
slice_copies n s k width = λ i below. copies_by n (map (place_in i) (pointers_of s)) (length-map (pointers_of s) (place_in i) ∙ width)

module _ {S : Type 0} (kind : StoreKind S) (t : Span S) (shelf : List S) (settings : Settings) (enough : settings.servers ≤ length shelf) where
  -- a slice all of whose copies are out
  lost : (s : Slice) (k : ℕ) → is_inside kind shelf settings (part_origin (Held s) 0) ≡ true → AreAllOut kind t s k
      → IsLost kind t settings (part_origin (Held s) 0) k
  lost s k inside out = record {
    some = some_place s.len 0 s.extents;
    ascend = ascends s.len 0 s.extents s.sound;
    known = All-map (λ (q : Place). q.server < settings.servers) (place_in 0) (pointers_of s)
        (servers_known kind shelf settings 0 (pointers_of s) enough inside);
    out = All-map (λ (q : Place). IsOut kind t q.server) (place_in 0) (pointers_of s) out.out;
    last = last_place 0 0 (pointers_of s) ∙ out.last;
  }

  -- a piece that was not shown has such a slice
  unread : (ps : List Piece) (n : ℕ) (full : Type 0) (k : ℕ) → PiecesBytes (is_inside kind shelf settings) ps
      → (full → PiecesBytes (has_copies settings.replicas) ps) → LacksPiece kind t (pieces_in 0 n ps) k → IsUnread kind t settings full k
  unread ps n full k inside copies lacks =
      let s : Slice = lacks.lacks.slice in
      let of : (P : List Place → Bool) → PiecesBytes P ps → P (part_origin (Held s) 0) ≡ true = λ P all.
      let Q : Piece → Type 0 = λ p. PartBytes P p.len p.part in
      let part : PartBytes P lacks.piece.len lacks.piece.part = All-middle Q lacks.before lacks.piece lacks.after
      (subst (λ (l : List Piece). All Q l) lacks.split (pieces_in-All Q 0 n ps all)) in
      subst (λ (q : Part). PartBytes P lacks.piece.len q) lacks.lacks.held part 0 lacks.piece.positive in
      record {
        places = part_origin (Held s) 0;
        lost = lost s k (of (is_inside kind shelf settings) inside) lacks.lacks.out;
        width = λ h. width_of settings.replicas (part_origin (Held s) 0) (some_place s.len 0 s.extents) (of (has_copies settings.replicas) (copies h));
      }

  -- a list that was not read has such a slice
  pub unread_list : (s : Slice) (full : Type 0) (k : ℕ) → SliceBytes (is_inside kind shelf settings) s
      → (full → SliceBytes (has_copies settings.replicas) s) → AreAllOut kind t s k → IsUnread kind t settings full k
  unread_list s full k inside copies out = record {
    places = part_origin (Held s) 0;
    lost = lost s k (inside 0 (some_bytes s)) out;
    width = λ h. width_of settings.replicas (part_origin (Held s) 0) (some_place s.len 0 s.extents) (copies h 0 (some_bytes s));
  }

-- what was not read in a later part of a span was not read in it
pub unread_since : {S : Type 0} {kind : StoreKind S} → KindLaws kind → (old mid new : Dev S) (settings : Settings) (full : Type 0) (k : ℕ)
    → GoesOn kind old mid [] → IsUnread kind (between mid new) settings full k → IsUnread kind (between old new) settings full k
unread_since {S} {kind} laws old mid new settings full k goes un = record {
  places = un.places;
  lost = record {
    some = un.lost.some;
    ascend = un.lost.ascend;
    known = un.lost.known;
    out = All-weaker (λ (p : Place). IsOut kind (between mid new) p.server) (λ (p : Place). IsOut kind (between old new) p.server)
        (λ p h. out_since kind (is_down old.replicas.now) (stores old) (stores mid) (stores new) goes.each.same_length (each_kept laws goes.each) p.server
        (subst (λ r. IsOut kind (span (is_down r.now) (stores mid) (stores new)) p.server) goes.replicas h)) un.places un.lost.out;
    last = un.lost.last;
  };
  width = un.width;
}

-- and what was read in a later part of it that is no list was read in it
pub no_list_since : {S : Type 0} {kind : StoreKind S} → KindLaws kind → (old mid new : Dev S) (settings : Settings) (based : (Slice → Bool) → Type 0) (k : ℕ)
    → GoesOn kind old mid [] → IsNoList kind (between mid new) settings based k → IsNoList kind (between old new) settings based k
no_list_since {S} {kind} laws old mid new settings based k goes was =
    let read = was.read in
    let known : k < length (stores old) = let here = read.known in let same = goes.each.same_length in omega (arith, here, same) in
    record {
      slice = was.slice;
      bytes = was.bytes;
      whole = was.whole;
      read = record {
        copy = read.copy;
        pointer = read.pointer;
        is_copy = read.is_copy;
        server = read.server;
        known = known;
        up = subst (λ r. is_down r.now k ≡ false) goes.replicas read.up;
        bytes = λ d j b below shown.
            let kept : Kept (kind.view (get_or (stores old) k d)) (kind.view (get_or (stores mid) k d)) [] = each_kept laws goes.each k d known in
            read.bytes d j b below (kept.shown read.pointer.file (read.pointer.at + 0 + j) b tt shown);
        earlier = All-weaker (λ (p : Pointer). IsOut kind (between mid new) p.server.0) (λ (p : Pointer). IsOut kind (between old new) p.server.0)
            (λ p h. out_since kind (is_down old.replicas.now) (stores old) (stores mid) (stores new) goes.each.same_length (each_kept laws goes.each) p.server.0
            (subst (λ r. IsOut kind (span (is_down r.now) (stores mid) (stores new)) p.server.0) goes.replicas h)) (take read.copy (pointers_of was.slice))
            read.earlier;
      };
      bad = was.bad;
      passes = was.passes;
    }

-- bytes that were not shown have one that was not read, where they have their copies
pub lacks_unread : {S : Type 0} {kind : StoreKind S} → KindLaws kind → (old new : Dev S) (n : ℕ) (Are : List Piece → Type 0) (full : Type 0) (k : ServerId)
    → (full → (ps : List Piece) → Are ps → PiecesBytes (has_copies old.settings.replicas) ps) → LacksBytes kind old new n Are (Fault.Read k) → IsUnread kind
    (between old new) old.settings full k.0
lacks_unread {kind = kind} laws old new n Are full k copies lacks =
    let same = lacks.goes.settings in
    let few = ap (λ (st : Settings). st.servers) same in
    let there = lacks.goes.sound.shelf in
    unread_since laws old lacks.mid new old.settings full k.0 lacks.goes
    (unread kind (between lacks.mid new) (stores lacks.mid) old.settings (omega (arith, there, few)) lacks.pieces n full k.0
    (subst (λ (st : Settings). PiecesBytes (is_inside kind (stores lacks.mid) st) lacks.pieces) same lacks.inside)
    (λ h. copies h lacks.pieces lacks.are) lacks.fault)
