-- Why the list of a region, or bytes of a file, were not read.
use Rattle.wtf_clients.proofs.Common.{All, false≢true, All-nil, All-cons, Fault, Settings, Slice, StoreKind, KindLaws, Place, Entry, Piece, RegionValue, Spill}
use Rattle.wtf_clients.proofs.Common.{Answer, ListFact, EntryBytes, BaseBytes, MaybeBytes, FileBytes, ListsBytes, PiecesBytes, any_slice, FileView, Dev}
use Rattle.wtf_clients.proofs.Common.{IsSoundDev, GoesOn, stores, inside_of, between, IsFileRead, IsSliceFault, IsBaseFault, IsRegionFault, LacksRegion}
use Rattle.wtf_clients.proofs.Common.{file_later, LacksBytes, LacksRead, fault_answer, any_byte, no_slice, has_copies, no_load, HasCause, ◌≡◌, ℕ, Bool, true}
use Rattle.wtf_clients.proofs.Common.{List, [], ◌∷◌, Option, None, Some, refl, sym, ap, ◌∙◌, subst, inl, inr, arith}
use Rattle.wtf_meta.specs.Bytes.{SliceBytes}
use Rattle.wtf_clients.proofs.Unread.{unread_list, unread_since, no_list_since, lacks_unread}

-- want of memory is answered by no fault
pub memory_none : (why : Fault) (a : Answer) → fault_answer why ≡ Some a → why ≡ Fault.Memory → ⊥
memory_none why a is memory = let e : None ≡ Some a = sym (ap fault_answer memory) ∙ is in cc

-- where no slice may be a base nothing is asked of lists that were read
pub no_lists : (P : List Place → Bool) (fs : List ListFact) → ListsBytes P no_slice fs
no_lists P [] = tt
no_lists P (f ∷ fs) = (λ is. absurd (false≢true is), no_lists P fs)

-- and each byte passes the test that every byte does
pub any_entries : (es : List Entry) → All (EntryBytes any_byte) es
any_entries [] = All-nil (EntryBytes any_byte)
any_entries (e ∷ es) = All-cons (EntryBytes any_byte) e es (λ i below. refl) (any_entries es)

pub any_lists : (Q : Slice → Bool) (fs : List ListFact) → ListsBytes any_byte Q fs
any_lists Q [] = tt
any_lists Q (f ∷ fs) = (λ is. any_entries f.list, any_lists Q fs)

-- what was the cause of a fault in a later part of a span is so in it, where nothing is stored
pub cause_since : {S : Type 0} {kind : StoreKind S} → KindLaws kind → (old mid new : Dev S) (based : (Slice → Bool) → Type 0) (full : Type 0) (a : Answer)
    → GoesOn kind old mid [] → HasCause kind (between mid new) mid.settings ⊥ based full no_load a
    → HasCause kind (between old new) old.settings ⊥ based full no_load a
cause_since {kind = kind} laws old mid new based full a goes h =
    by a (subst (λ (st : Settings). HasCause kind (between mid new) st ⊥ based full no_load a) goes.settings h)
  where
    by : (b : Answer) → HasCause kind (between mid new) old.settings ⊥ based full no_load b
        → HasCause kind (between old new) old.settings ⊥ based full no_load b
    by (Answer.FaultRead k) c = unread_since laws old mid new old.settings full k goes c
    by (Answer.Damaged k) c = no_list_since laws old mid new old.settings based k goes c
    by Answer.FaultWrite c = absurd (let some = c.0 in omega (arith, some))
    by b c = c

-- Where `full` holds, each byte of a list that was read of a base, with bytes of a file that were then not shown, has as many copies as there
-- are replicas, if O holds of the base.
abbrev pub AreFullLists : {S : Type 0} → StoreKind S → (old new : Dev S) → (full : Type 0) → (O : Slice → Bool) → FileView → (off n : ℕ) → Type 0
AreFullLists kind old new full O file off n =
    full → (ps : List Piece) (r : IsFileRead kind old new file off n ps) → ListsBytes (has_copies old.settings.replicas) O r.facts

-- `based` says of a test that each base passes it; where `full` holds each byte has as many copies as there are replicas, and O holds of each
-- base
module _ {S : Type 0} (kind : StoreKind S) (old new : Dev S) (sound : IsSoundDev kind old) (based : (Slice → Bool) → Type 0) (full : Type 0)
    (O : Slice → Bool) (why : Fault) (a : Answer) (is : fault_answer why ≡ Some a) where
  abbrev Caused : Fault → Type 0
  Caused q = fault_answer q ≡ Some a → HasCause kind (between old new) old.settings ⊥ based full no_load a

  -- a list that was not read, or is none
  slice_caused : (s : Slice) (q : Fault) → SliceBytes (inside_of kind old) s → ((Q : Slice → Bool) → based Q → Q s ≡ true)
      → (full → SliceBytes (has_copies old.settings.replicas) s) → IsSliceFault kind old new s q → Caused q
  slice_caused s (Fault.Read k) inside passes whole cause same =
      subst (λ (r : Answer). HasCause kind (between old new) old.settings ⊥ based full no_load r) (let e : Answer.FaultRead k.0 ≡ a = cc in e)
      (unread_list kind (between old new) (stores old) old.settings sound.shelf s full k.0 inside whole cause.out)
  slice_caused s (Fault.Damaged k) inside passes whole cause same =
      subst (λ (r : Answer). HasCause kind (between old new) old.settings ⊥ based full no_load r) (let e : Answer.Damaged k.0 ≡ a = cc in e)
      (record { slice = s; bytes = cause.bytes; whole = cause.whole; read = cause.read; bad = cause.bad; passes = passes })
  slice_caused s Fault.Memory inside passes whole cause same = absurd (memory_none Fault.Memory a same refl)
  slice_caused s Fault.Write inside passes whole cause same = absurd cause
  slice_caused s (Fault.Punch k) inside passes whole cause same = absurd cause

  base_caused : (base : Option Spill) (P : List Place → Bool) → BaseBytes (inside_of kind old) any_slice base
      → ((Q : Slice → Bool) → based Q → BaseBytes P Q base) → (full → BaseBytes (has_copies old.settings.replicas) O base)
      → IsBaseFault kind old new base why → HasCause kind (between old new) old.settings ⊥ based full no_load a
  base_caused None P inside passes whole cause = absurd (memory_none why a is cause)
  base_caused (Some s) P inside passes whole cause = slice_caused s.slice why inside.0 (λ Q h. (passes Q h).1) (λ h. (whole h).0) cause is

  pub region_caused : (now : Option RegionValue) (P : List Place → Bool) → MaybeBytes (inside_of kind old) any_slice now
      → ((Q : Slice → Bool) → based Q → MaybeBytes P Q now) → (full → MaybeBytes (has_copies old.settings.replicas) O now)
      → IsRegionFault kind old new now why → HasCause kind (between old new) old.settings ⊥ based full no_load a
  region_caused None P inside passes whole cause = absurd (memory_none why a is cause)
  region_caused (Some v) P inside passes whole cause = base_caused v.base P inside.base (λ Q h. (passes Q h).base) (λ h. (whole h).base) cause

module _ {S : Type 0} {kind : StoreKind S} (laws : KindLaws kind) (old new : Dev S) (sound : IsSoundDev kind old) (based : (Slice → Bool) → Type 0)
    (full : Type 0) (O : Slice → Bool) (why : Fault) (a : Answer) (is : fault_answer why ≡ Some a) where
  -- of a file
  pub file_caused : (file : FileView) (off n : ℕ) (P : List Place → Bool) → FileBytes (inside_of kind old) any_slice file
      → ((Q : Slice → Bool) → based Q → FileBytes P Q file) → (full → FileBytes (has_copies old.settings.replicas) O file)
      → LacksRegion kind old new file off n why → HasCause kind (between old new) old.settings ⊥ based full no_load a
  file_caused file off n P inside passes whole lacks =
      cause_since laws old lacks.mid new based full a lacks.goes
      (region_caused kind lacks.mid new lacks.goes.sound based full O why a is (file.region lacks.region) P
      (file_later laws sound lacks.goes file inside lacks.region)
      (λ Q h. passes Q h lacks.region)
      (λ h. subst (λ (st : Settings). MaybeBytes (has_copies st.replicas) O (file.region lacks.region)) (sym lacks.goes.settings) (whole h lacks.region))
      lacks.cause)

  -- bytes that were not shown
  pub shown_caused : (n : ℕ) (Are : List Piece → Type 0) → (full → (ps : List Piece) → Are ps → PiecesBytes (has_copies old.settings.replicas) ps) →
      LacksBytes kind old new n Are why
      → HasCause kind (between old new) old.settings ⊥ based full no_load a
  shown_caused n Are whole lacks = by why is lacks
    where
      by : (q : Fault) → fault_answer q ≡ Some a → LacksBytes kind old new n Are q → HasCause kind (between old new) old.settings ⊥ based full no_load a
      by (Fault.Read k) same l = subst (λ (r : Answer). HasCause kind (between old new) old.settings ⊥ based full no_load r)
          (let e : Answer.FaultRead k.0 ≡ a = cc in e) (lacks_unread laws old new n Are full k whole l)
      by Fault.Memory same l = absurd (memory_none Fault.Memory a same refl)
      by Fault.Write same l = absurd l.fault
      by (Fault.Punch k) same l = absurd l.fault
      by (Fault.Damaged k) same l = absurd l.fault

  -- and those of a file
  pub read_caused : (file : FileView) (off n : ℕ) (P : List Place → Bool) → FileBytes (inside_of kind old) any_slice file
      → ((Q : Slice → Bool) → based Q → FileBytes P Q file) → (full → FileBytes (has_copies old.settings.replicas) O file)
      → AreFullLists kind old new full O file off n
      → LacksRead kind old new file off n why → HasCause kind (between old new) old.settings ⊥ based full no_load a
  read_caused file off n P inside passes whole lists (inl lacks) = file_caused file off n P inside passes whole lacks
  read_caused file off n P inside passes whole lists (inr lacks) =
      shown_caused n (λ ps. IsFileRead kind old new file off n ps)
      (λ h ps are. are.reads.names (has_copies old.settings.replicas) O refl (whole h) (lists h ps are)) lacks
