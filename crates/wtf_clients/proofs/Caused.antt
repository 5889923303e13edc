-- Why a fault was answered, and what a line added to the stores.
use Rattle.wtf_clients.proofs.Common.{option_map, cond-false, LacksSlice, file_bytes, IsSoundDev, file_later, ShowPlaces, SliceBytes, IsPutFault, IsCallPlace}
use Rattle.wtf_clients.proofs.Common.{IsSome, cond-true, StoreKind, PlaceView, AreTooFew, PartBytes, grown_place, has_copies, IsPlacedBy, RegionList}
use Rattle.wtf_clients.proofs.Common.{data_of_op}
use Rattle.wtf_clients.proofs.Common.{Bool, part_origin, IsYankFault, SameLengths, PiecesBytes, SessionView, plans_bytes, IsReadCause, IsPeekCause, IsCallFault}
use Rattle.wtf_clients.proofs.Common.{true, Place, Fault, Kept, Slice, Three, Span, Answer, Handle, stores, OwnBy, Asked, Frees, length, Option, subst, arith}
use Rattle.wtf_clients.proofs.Common.{nat_lt, lt-ltb, le-ltb, InodeId, Extents, IsSound, len_of, is_down, between, file_of, IsOwnOf, no_load, HasCause, IsPlain}
use Rattle.wtf_clients.proofs.Common.{◌-◌, One, Two, Op, Map, Dev, Load, Data, ◌≡◌, ◌⊎◌, ◌+◌, ◌<◌, List, [], ◌∷◌, None, Some, refl, sym, ap, ◌∙◌, inl, inr}
use Rattle.wtf_clients.proofs.Common.{cases_lt, FileBytes, any_slice, handle_in, inside_of, IsRefusal, place_at, place_at_end, data_len, GrowsOnce, LacksData}
use Rattle.wtf_clients.proofs.Common.{HasFailed, AddsBytes}
use Rattle.wtf_clients.proofs.Common.{AddsOnce, ℕ, ⊤}
use Rattle.wtf_clients.proofs.Common.{All-head, All-tail, Settings, KindLaws, IsLogged, MapBytes, slice_in, OnlyRead, found_in, any_byte, IsStored, IsPlaced}
use Rattle.wtf_clients.proofs.Common.{LeavesStores, Piece, pieces_origin, IsConcatFault, SessionBytes, reads_nothing, StoresNothing, IsAgainFault, fault_answer}
use Rattle.wtf_clients.specs.Outcomes.{HasLength}
use Rattle.wtf_clients.proofs.{Staying.IsFault, Staying.fault_is, Unread.slice_copies, Lacking.AreFullLists, Lacking.memory_none, Lacking.cause_since}
use Rattle.wtf_clients.proofs.{Lacking.file_caused, Lacking.shown_caused, Lacking.read_caused}

-- the answers of calls are no faults
pub logged_plain : (a : Answer) → IsLogged a → IsPlain a
logged_plain (Answer.FaultRead k) h = absurd h
logged_plain Answer.FaultWrite h = absurd h
logged_plain (Answer.FaultPunch k) h = absurd h
logged_plain Answer.FaultSave h = absurd h
logged_plain (Answer.Damaged k) h = absurd h
logged_plain a h = tt

-- they need no cause
pub plain_failed : (fails : Fault → Type 0) (a : Answer) → IsPlain a → HasFailed fails a
plain_failed fails (Answer.FaultRead k) h = absurd h
plain_failed fails Answer.FaultWrite h = absurd h
plain_failed fails (Answer.FaultPunch k) h = absurd h
plain_failed fails Answer.FaultSave h = tt
plain_failed fails (Answer.Damaged k) h = absurd h
plain_failed fails a h = tt

-- a fault that has one
pub has_failed : (fails : Fault → Type 0) (why : Fault) (a : Answer) → fault_answer why ≡ Some a → fails why → HasFailed fails a
has_failed fails why (Answer.FaultRead k) is h = (why, is, h)
has_failed fails why Answer.FaultWrite is h = (why, is, h)
has_failed fails why (Answer.FaultPunch k) is h = (why, is, h)
has_failed fails why Answer.FaultSave is h = tt
has_failed fails why (Answer.Damaged k) is h = (why, is, h)
has_failed fails why a is h = tt

-- what was stored for a line that hands nothing in, for one that is refused, and for one that failed
pub none_placed : {S : Type 0} (kind : StoreKind S) (t : Span S) (settings : Settings) (asked : Asked) (a : Answer) → asked.given ≡ no_load
    → IsPlaced kind t settings asked a
none_placed kind t settings asked a none = subst (λ (l : Load). IsPlacedBy kind t settings asked l a) (sym none) (λ is some. absurd (omega (arith, some)))

pub refused_placed : {S : Type 0} (kind : StoreKind S) (t : Span S) (settings : Settings) (asked : Asked) (a : Answer) → IsRefusal a
    → IsPlaced kind t settings asked a
refused_placed kind t settings asked a refusal = by asked.given
  where
    by : (l : Load) → IsPlacedBy kind t settings asked l a
    by (Data bytes) = λ is some. absurd (subst IsRefusal is refusal)
    by RegionList = λ is. absurd (subst IsRefusal is refusal)
    by (Frees k) = tt

pub fault_placed : {S : Type 0} (kind : StoreKind S) (t : Span S) (settings : Settings) (asked : Asked) (why : Fault) (a : Answer)
    → fault_answer why ≡ Some a → IsPlaced kind t settings asked a
fault_placed kind t settings asked why a is = by asked.given
  where
    by : (l : Load) → IsPlacedBy kind t settings asked l a
    by (Data bytes) = λ ok some. absurd (subst IsFault ok (fault_is why a is))
    by RegionList = λ ok. absurd (subst IsFault ok (fault_is why a is))
    by (Frees k) = tt

module _ {S : Type 0} (kind : StoreKind S) (t : Span S) (settings : Settings) where
  -- needs no cause
  pub plain_caused : (saving : Type 0) (based : (Slice → Bool) → Type 0) (full : Type 0) (given : Load) (a : Answer) → IsPlain a
      → HasCause kind t settings saving based full given a
  plain_caused saving based full given (Answer.FaultRead k) h = absurd h
  plain_caused saving based full given Answer.FaultWrite h = absurd h
  plain_caused saving based full given (Answer.FaultPunch k) h = absurd h
  plain_caused saving based full given Answer.FaultSave h = absurd h
  plain_caused saving based full given (Answer.Damaged k) h = absurd h
  plain_caused saving based full given a h = tt

  -- a line that stores nothing
  pub none_added : (a : Answer) → SameLengths kind t.before t.after → AddsBytes kind t settings no_load a
  none_added Answer.FaultWrite h = inl h
  none_added a h = h

  pub refused_adds : (given : Load) (a : Answer) → IsRefusal a → SameLengths kind t.before t.after → AddsBytes kind t settings given a
  refused_adds (Data []) (Answer.Refused w) r h = h
  refused_adds (Data (b ∷ bs)) (Answer.Refused w) r h = h
  refused_adds RegionList (Answer.Refused w) r h = h
  refused_adds (Frees k) (Answer.Refused w) r h = h
  refused_adds given a r h = absurd r

-- no file of a store grew, or but the one of a place that is as Goes says, by the bytes that are to be stored, once
abbrev pub GrowsBy : {S : Type 0} → StoreKind S → Span S → (PlaceView → Type 0) → Load → Type 0
GrowsBy kind t Goes load = SameLengths kind t.before t.after ⊎ ((place : PlaceView) × Goes place × (n : ℕ) × HasLength load n × GrowsOnce kind t place n)

module _ {S : Type 0} (kind : StoreKind S) (t : Span S) where
  -- so they grew once
  pub adds_once : (Goes : PlaceView → Type 0) (load : Load) → GrowsBy kind t Goes load → AddsOnce kind t load
  adds_once Goes load (inl same) = inl same
  adds_once Goes load (inr grew) = inr (grew.0, grew.2, grew.3, grew.4)

  -- as they may where too few servers took the bytes
  pub write_adds : (settings : Settings) (load : Load) → AddsOnce kind t load → AddsBytes kind t settings load Answer.FaultWrite
  write_adds settings (Data []) h = h
  write_adds settings (Data (b ∷ bs)) h = h
  write_adds settings RegionList h = h
  write_adds settings (Frees k) h = h

-- a slice has a byte
some_len : (n : ℕ) (e : Extents) → IsSound n e → 0 < n
some_len n (One a) h = h.0
some_len n (Two a b) h = h.0
some_len n (Three a b c) h = h.0

module _ {S : Type 0} (kind : StoreKind S) (old new : Dev S) where
  -- stores that were not lent
  pub same_lengths : new ≡ old → SameLengths kind (stores old) (stores new)
  same_lengths e = subst (λ (d : Dev S). SameLengths kind (stores old) (stores d)) (sym e) (reads_nothing kind (is_down old.replicas.now) (stores old)).lengths

  own_adds : (o : Option Handle) (place : Handle → PlaceView) (bytes : List ℕ) (own : Option Slice) (a : Answer) → OwnBy kind old new o place bytes own
      → (own ≡ None → (length bytes ≡ 0) ⊎ IsRefusal a) → (IsSome own → a ≡ Answer.Okay) → AddsBytes kind (between old new) old.settings (Data bytes) a
  own_adds None place [] own a h lacks done = none_added kind (between old new) old.settings a (same_lengths h.0)
  own_adds (Some g) place [] None a h lacks done = none_added kind (between old new) old.settings a (same_lengths h)
  own_adds (Some g) place [] (Some s) a h lacks done = absurd (let some = some_len s.len s.extents s.sound in let len = h.0.len in omega (arith, some, len))
  own_adds None place (b ∷ bs) own a h lacks done = elim (lacks h.1) [
    | inl none ↦ absurd (omega (arith, none))
    | inr refusal ↦ refused_adds kind (between old new) old.settings (Data (b ∷ bs)) a refusal (same_lengths h.0)
  ]
  own_adds (Some g) place (b ∷ bs) None a h lacks done = elim (lacks refl) [
    | inl none ↦ absurd (omega (arith, none))
    | inr refusal ↦ refused_adds kind (between old new) old.settings (Data (b ∷ bs)) a refusal (same_lengths h)
  ]
  own_adds (Some g) place (b ∷ bs) (Some s) a h lacks done =
      subst (λ (r : Answer). AddsBytes kind (between old new) old.settings (Data (b ∷ bs)) r) (sym (done refl)) (place g, s, h.0)

  -- what a call that was answered stored
  pub call_adds : (w : Map) (s : SessionView) (o : Op (List ℕ)) (own : Option Slice) (a : Answer) → IsOwnOf kind old new w s o own → LacksData o own a
      → (IsSome own → a ≡ Answer.Okay) → (StoresNothing o → OnlyRead kind (between old new))
      → AddsBytes kind (between old new) old.settings (Data (data_of_op o)) a
  call_adds w s (Op.Write f bytes) own a h lacks done reads = own_adds (handle_in s f) _ bytes own a h lacks done
  call_adds w s (Op.Append f bytes) own a h lacks done reads = own_adds (handle_in s f) _ bytes own a h lacks done
  call_adds w s o own a h lacks done reads = none_added kind (between old new) old.settings a (reads tt).lengths

  own_placed : (o : Option Handle) (place : Handle → PlaceView) (Goes : PlaceView → Type 0) (bytes : List ℕ) (own : Option Slice) (a : Answer)
      → OwnBy kind old new o place bytes own → (own ≡ None → (length bytes ≡ 0) ⊎ IsRefusal a) → ((g : Handle) → o ≡ Some g → Goes (place g))
      → a ≡ Answer.Okay → 0 < length bytes → (p : PlaceView) × Goes p × (slice : Slice) × IsStored kind (between old new) old.settings.replicas p bytes slice
  own_placed None place Goes bytes own a h lacks goes ok some = elim (lacks h.1) [
    | inl none ↦ absurd (omega (arith, none, some))
    | inr refusal ↦ absurd (subst IsRefusal ok refusal)
  ]
  own_placed (Some g) place Goes bytes None a h lacks goes ok some = elim (lacks refl) [
    | inl none ↦ absurd (omega (arith, none, some))
    | inr refusal ↦ absurd (subst IsRefusal ok refusal)
  ]
  own_placed (Some g) place Goes [] (Some s) a h lacks goes ok some = absurd (omega (arith, some))
  own_placed (Some g) place Goes (b ∷ bs) (Some s) a h lacks goes ok some = (place g, goes g refl, s, h.0)

  -- and where
  pub call_placed : (w : Map) (s : SessionView) (o : Op (List ℕ)) (own : Option Slice) (a : Answer) → IsOwnOf kind old new w s o own → LacksData o own a
      → a ≡ Answer.Okay → 0 < length (data_of_op o)
      → (p : PlaceView) × IsCallPlace old w s o p × (slice : Slice) × IsStored kind (between old new) old.settings.replicas p (data_of_op o) slice
  call_placed w s (Op.Write f bytes) own a h lacks ok some =
      own_placed (handle_in s f) (place_at old) (IsCallPlace old w s (Op.Write f bytes)) bytes own a h lacks (λ g is. (g, is, refl)) ok some
  call_placed w s (Op.Append f bytes) own a h lacks ok some =
      own_placed (handle_in s f) (place_at_end old w) (IsCallPlace old w s (Op.Append f bytes)) bytes own a h lacks (λ g is. (g, is, refl)) ok some
  call_placed w s o own a h lacks ok some = absurd (omega (arith, some))

  own_by_full : (o : Option Handle) (place : Handle → PlaceView) (bytes : List ℕ) (own : Option Slice) → OwnBy kind old new o place bytes own
      → SliceBytes (has_copies old.settings.replicas) own
  own_by_full None place bytes own h = subst (SliceBytes (has_copies old.settings.replicas)) (sym h.1) tt
  own_by_full (Some g) place bytes None h = tt
  own_by_full (Some g) place bytes (Some s) h = slice_copies old.settings.replicas s (len_of s) h.0.width

  -- it has as many copies as there are replicas
  pub own_full : (w : Map) (s : SessionView) (o : Op (List ℕ)) (own : Option Slice) → IsOwnOf kind old new w s o own
      → SliceBytes (has_copies old.settings.replicas) own
  own_full w s (Op.Write f bytes) own h = own_by_full (handle_in s f) _ bytes own h
  own_full w s (Op.Append f bytes) own h = own_by_full (handle_in s f) _ bytes own h
  own_full w s (Op.Read f n) own h = subst (SliceBytes (has_copies old.settings.replicas)) (sym h) tt
  own_full w s (Op.Yank f n label) own h = subst (SliceBytes (has_copies old.settings.replicas)) (sym h) tt
  own_full w s (Op.Peek label off n) own h = subst (SliceBytes (has_copies old.settings.replicas)) (sym h) tt
  own_full w s (Op.Concat q paths) own h = subst (SliceBytes (has_copies old.settings.replicas)) (sym h) tt
  own_full w s o own h = subst (SliceBytes (has_copies old.settings.replicas)) (sym h.1) tt

  -- why bytes were not stored
  put_fault : (bytes : List ℕ) (why : Fault) (a : Answer) → fault_answer why ≡ Some a → IsPutFault kind old new bytes why
      → (a ≡ Answer.FaultWrite) × (0 < length bytes) × AreTooFew kind (between old new) old.settings.servers old.settings.replicas
  put_fault [] why a is h = absurd (memory_none why a is h)
  put_fault (b ∷ bs) why a is (inl memory) = absurd (memory_none why a is memory)
  put_fault (b ∷ bs) Fault.Write a is (inr few) = (let e : Answer.FaultWrite ≡ a = cc in sym e, omega arith, few)
  put_fault (b ∷ bs) (Fault.Read k) a is (inr few) = absurd few
  put_fault (b ∷ bs) (Fault.Punch k) a is (inr few) = absurd few
  put_fault (b ∷ bs) (Fault.Damaged k) a is (inr few) = absurd few
  put_fault (b ∷ bs) Fault.Memory a is (inr few) = absurd few

  put_caused : (based : (Slice → Bool) → Type 0) (full : Type 0) (bytes : List ℕ) (why : Fault) (a : Answer) → fault_answer why ≡ Some a
      → IsPutFault kind old new bytes why → HasCause kind (between old new) old.settings ⊥ based full (Data bytes) a
  put_caused based full bytes why a is h =
      let cause = put_fault bytes why a is h in
      subst (λ (r : Answer). HasCause kind (between old new) old.settings ⊥ based full (Data bytes) r) (sym cause.0) (cause.1, cause.2)

  put_adds : (bytes : List ℕ) (why : Fault) (a : Answer) → fault_answer why ≡ Some a → IsPutFault kind old new bytes why
      → AddsOnce kind (between old new) (Data bytes) → AddsBytes kind (between old new) old.settings (Data bytes) a
  put_adds bytes why a is h once =
      subst (λ (r : Answer). AddsBytes kind (between old new) old.settings (Data bytes) r) (sym (put_fault bytes why a is h).0)
      (write_adds kind (between old new) old.settings (Data bytes) once)

  -- whatever comes of it, only the file of the place grows to which its bytes were to go, by them, once
  own_grows : (o : Option Handle) (place : Handle → PlaceView) (Goes : PlaceView → Type 0) (bytes : List ℕ)
      → LeavesStores kind (option_map place o) (length bytes) (between old new) → ((g : Handle) → o ≡ Some g → Goes (place g))
      → GrowsBy kind (between old new) Goes (Data bytes)
  own_grows None place Goes bytes h goes = inl h.files
  own_grows (Some g) place Goes bytes h goes = inr (place g, goes g refl, length bytes, refl, h.files)

  pub call_grows : (w : Map) (s : SessionView) (o : Op (List ℕ)) (Goes : PlaceView → Type 0)
      → LeavesStores kind (grown_place old w s o) (data_len o) (between old new) → ((place : PlaceView) → IsCallPlace old w s o place → Goes place)
      → GrowsBy kind (between old new) Goes (Data (data_of_op o))
  call_grows w s (Op.Write f bytes) Goes h goes =
      own_grows (handle_in s f) (place_at old) Goes bytes h (λ g is. goes (place_at old g) (g, is, refl))
  call_grows w s (Op.Append f bytes) Goes h goes =
      own_grows (handle_in s f) (place_at_end old w) Goes bytes h (λ g is. goes (place_at_end old w g) (g, is, refl))
  call_grows w s o Goes h goes = inl h.files

  -- what a call that failed stored
  pub fault_adds : (w : Map) (s : SessionView) (o : Op (List ℕ)) (why : Fault) (a : Answer) → fault_answer why ≡ Some a → IsCallFault kind old new w s o why
      → LeavesStores kind (grown_place old w s o) (data_len o) (between old new) → (StoresNothing o → OnlyRead kind (between old new))
      → AddsBytes kind (between old new) old.settings (Data (data_of_op o)) a
  fault_adds w s (Op.Write f bytes) why a is h leaves reads = put_adds bytes why a is h
      (adds_once kind (between old new) (λ place. ⊤) (Data bytes) (call_grows w s (Op.Write f bytes) (λ place. ⊤) leaves (λ place at. tt)))
  fault_adds w s (Op.Append f bytes) why a is h leaves reads = put_adds bytes why a is h
      (adds_once kind (between old new) (λ place. ⊤) (Data bytes) (call_grows w s (Op.Append f bytes) (λ place. ⊤) leaves (λ place at. tt)))
  fault_adds w s o why a is h leaves reads = none_added kind (between old new) old.settings a (reads tt).lengths

-- P holds of the bytes of a map, and of those of the slices in hand; and Q of the slices of bases
abbrev pub SeenBytes : (List Place → Bool) → (Slice → Bool) → Map → SessionView → Type 0
SeenBytes P Q w s = MapBytes P Q w × SessionBytes P s

-- and so of each byte of a slice, and of what lies past it
piece_bytes : (P : List Place → Bool) → P [] ≡ true → (ps : List Piece) (i : ℕ) → PiecesBytes P ps → P (pieces_origin ps i) ≡ true
piece_bytes P hole [] i h = hole
piece_bytes P hole (p ∷ ps) i h = elim (cases_lt i p.len) [
  | inl l ↦ ap P (cond-true (nat_lt i p.len) (part_origin p.part i) (pieces_origin ps (i - p.len)) (lt-ltb i p.len l))
      ∙ All-head (λ (q : Piece). PartBytes P q.len q.part) p ps h i l
  | inr g ↦ ap P (cond-false (nat_lt i p.len) (part_origin p.part i) (pieces_origin ps (i - p.len)) (le-ltb i p.len g))
      ∙ piece_bytes P hole ps (i - p.len) (All-tail (λ (q : Piece). PartBytes P q.len q.part) p ps h)
]

-- Why bytes or lists were not read, where each byte of the map and of the slices in hand lies inside the stores. `based` says of a test that
-- each base passes it; where `full` holds each byte has as many copies as there are replicas, O holds of each base, and each byte of a list
-- that was read of such a base has as many.
module _ {S : Type 0} {kind : StoreKind S} (laws : KindLaws kind) (old new : Dev S) (sound : IsSoundDev kind old) (w : Map) (s : SessionView)
    (based : (Slice → Bool) → Type 0) (full : Type 0) (O : Slice → Bool) (inside : SeenBytes (inside_of kind old) any_slice w s)
    (passes : (Q : Slice → Bool) → based Q → SeenBytes any_byte Q w s) (copies : full → SeenBytes (has_copies old.settings.replicas) O w s)
    (lists : (i : InodeId) (off n : ℕ) → AreFullLists kind old new full O (file_of i w) off n) where
  abbrev Caused : Answer → Type 0
  Caused a = HasCause kind (between old new) old.settings ⊥ based full no_load a

  read_by : (handle : Option Handle) (n : ℕ) (why : Fault) (a : Answer) → fault_answer why ≡ Some a → IsReadCause kind old new w handle n why → Caused a
  read_by handle n why a is (inl memory) = absurd (memory_none why a is memory)
  read_by handle n why a is (inr (h, there, lacks)) =
      read_caused laws old new sound based full O why a is (file_of h.inode w) h.off (found_in old.settings.region w h n) any_byte
      (file_bytes (inside_of kind old) any_slice h.inode w inside.0)
      (λ Q c. file_bytes any_byte Q h.inode w (passes Q c).0)
      (λ c. file_bytes (has_copies old.settings.replicas) O h.inode w (copies c).0)
      (lists h.inode h.off (found_in old.settings.region w h n)) lacks

  yank_by : (handle : Option Handle) (n : ℕ) (why : Fault) (a : Answer) → fault_answer why ≡ Some a → IsYankFault kind old new w handle n why → Caused a
  yank_by handle n why a is (inl memory) = absurd (memory_none why a is memory)
  yank_by handle n why a is (inr (h, there, lacks)) =
      file_caused laws old new sound based full O why a is (file_of h.inode w) h.off (found_in old.settings.region w h n) any_byte
      (file_bytes (inside_of kind old) any_slice h.inode w inside.0)
      (λ Q c. file_bytes any_byte Q h.inode w (passes Q c).0)
      (λ c. file_bytes (has_copies old.settings.replicas) O h.inode w (copies c).0) lacks

  slice_by : (o : Option (List Piece)) (off n : ℕ) (why : Fault) (a : Answer) → (full → (ps : List Piece) → o ≡ Some ps → PiecesBytes
      (has_copies old.settings.replicas) ps) → fault_answer why ≡ Some a → LacksSlice kind old new o off n why
      → Caused a
  slice_by None off n why a whole is h = absurd h
  slice_by (Some ps) off n why a whole is (inl memory, left) = absurd (memory_none why a is memory)
  slice_by (Some ps) off n why a whole is (inr lacks, left) =
      shown_caused laws old new sound based full O why a is n (ShowPlaces n (λ i. pieces_origin ps (off + i)))
      (λ c qs plans. plans_bytes (has_copies old.settings.replicas) qs n (λ i. pieces_origin ps (off + i)) plans
      (λ i below. piece_bytes (has_copies old.settings.replicas) refl ps (off + i) (whole c ps refl))) lacks

  peek_by : (label off n : ℕ) (why : Fault) (a : Answer) → fault_answer why ≡ Some a → IsPeekCause kind old new (slice_in s label) off n why → Caused a
  peek_by label off n why a is (inl memory, left) = absurd (memory_none why a is memory)
  peek_by label off n why a is (inr h, left) = slice_by (slice_in s label) off n why a (λ c ps there. (copies c).1 label ps there) is h

  concat_by : (paths : List (List ℕ)) (why : Fault) (a : Answer) → fault_answer why ≡ Some a → IsConcatFault kind old new w paths why → Caused a
  concat_by paths why a is (inl memory) = absurd (memory_none why a is memory)
  concat_by paths why a is (inr (files, sources, lacks)) =
      let file = file_of lacks.inode w in
      cause_since laws old lacks.mid new based full a lacks.goes (file_caused laws lacks.mid new lacks.goes.sound based full O why a is file 0 _ any_byte
      (file_later laws sound lacks.goes file (file_bytes (inside_of kind old) any_slice lacks.inode w inside.0))
      (λ Q c. file_bytes any_byte Q lacks.inode w (passes Q c).0)
      (λ c. subst (λ (st : Settings). FileBytes (has_copies st.replicas) O file) (sym lacks.goes.settings)
      (file_bytes (has_copies old.settings.replicas) O lacks.inode w (copies c).0)) lacks.cause)

  -- why a call failed that was made once more
  pub again_caused : (k : Op Kept) (why : Fault) (a : Answer) → fault_answer why ≡ Some a → IsAgainFault kind old new w s k why → HasCause kind
      (between old new) old.settings ⊥ based full no_load a
  again_caused (Op.Read f n) why a is h = read_by (handle_in s f) n why a is h
  again_caused (Op.Yank f n label) why a is h = yank_by (handle_in s f) n why a is h
  again_caused (Op.Peek label off n) why a is h = peek_by label off n why a is h
  again_caused (Op.Concat q paths) why a is h = concat_by paths why a is h
  again_caused k why a is h = absurd (memory_none why a is h)

  -- or for the first time
  pub call_caused : (o : Op (List ℕ)) (why : Fault) (a : Answer) → fault_answer why ≡ Some a → IsCallFault kind old new w s o why → HasCause kind
      (between old new) old.settings ⊥ based full (Data (data_of_op o)) a
  call_caused (Op.Write f bytes) why a is h = put_caused kind old new based full bytes why a is h
  call_caused (Op.Append f bytes) why a is h = put_caused kind old new based full bytes why a is h
  call_caused (Op.Read f n) why a is h = read_by (handle_in s f) n why a is h
  call_caused (Op.Yank f n label) why a is h = yank_by (handle_in s f) n why a is h
  call_caused (Op.Peek label off n) why a is h = peek_by label off n why a is h
  call_caused (Op.Concat q paths) why a is h = concat_by paths why a is h
  call_caused o why a is h = absurd (memory_none why a is h)
