-- What parts of a scan made of the bytes that the tables name, and why one failed.
use Rattle.wtf_clients.proofs.Common.{Fault, Slice, Settings, StoreKind, KindLaws, Place, IsRing, Store, Key, Value, Answer, Event, IsReadFault, MaybeBytes}
use Rattle.wtf_clients.proofs.Common.{any_slice, Dev, IsSoundDev, GoesOn, stores, remembered, told_in, inside_of, between, is_inside, OnlyRead, IsOfServers}
use Rattle.wtf_clients.proofs.Common.{region_fault_known, fault_answer, lists_have, PartLacksBase, IsPrunedFrom, IsPieceFault, AreHeld, next_parts, RunView}
use Rattle.wtf_clients.proofs.Common.{kept_region, BesideView, TablesView, AreSound, all_owned, all_kept, all_seen, TablesBytes, any_byte, no_slice, has_copies}
use Rattle.wtf_clients.proofs.Common.{Asked, line_asked, lent_by, no_load, HasCause, NamesTables, IsPlain, AreBased, AreFull, ServesLine, IsPruned, DoesTurn}
use Rattle.wtf_clients.proofs.Common.{TellsTables, AreWide, ServesTold, ReadsTold, ◌≡◌, ◌+◌, ℕ, Bool, nat_eq, count_by, List, [], Option, None, Some, refl, sym}
use Rattle.wtf_clients.proofs.Common.{ap, ◌∙◌, subst, inl, inr, arith}
use Rattle.wtf_clients.proofs.{Lives.AreInside, Caused.has_failed, Images.kept_enough, Lacking.memory_none, Lacking.region_caused, Lacking.cause_since}
use Rattle.wtf_clients.proofs.{Lists.sets_same, Lives.pinned_live, Naming.value_later, ScanFrames.does_reads, ScanFrames.sound_scanned, ScanLaws.kept_names}
use Rattle.wtf_clients.proofs.{Scanning.pruned_live, Known.lent_to, Serving.from_names, Serving.read_serves, Serving.read_failed, ToldServing.stays_told}

-- a scan that runs has pinned what it has seen
pub held_enough : (tables : TablesView) → AreSound tables → AreHeld tables.beside.gc.running tables.kv
held_enough tables sound = by tables.beside.gc.running refl
  where
    by : (r : Option RunView) → tables.beside.gc.running ≡ r → AreHeld r tables.kv
    by None is = tt
    by (Some r) is = λ n.
        let enough = kept_enough tables sound n in
        let seen : all_seen n tables.beside.gc.running ≡ count_by (nat_eq n) r.seen = ap (all_seen n) is in
        omega (arith, enough, seen)

-- ---- what is seen where versions that no one sees are gone
module _ (old new : TablesView) (pruned : IsPruned old new) where
  pub pruned_sound : AreSound old → AreSound new
  pruned_sound sound =
      sound_scanned old new sound pruned.kv.number (λ n pinned. pruned_live old.kv new.kv pruned.kv pruned.pins n (pinned_live new.kv n pinned)) pruned.kv.maps
      (λ n.
      ap (λ (ps : List ℕ). count_by (nat_eq n) ps) pruned.pins ∙ sound.pins n
      ∙ sym (ap (λ (b : BesideView). all_owned n new.clients + all_kept n b) pruned.beside
      ∙ ap (λ l. all_owned n l + all_kept n old.beside) pruned.clients))
      pruned.clients pruned.next_tx (ap (λ (b : BesideView). b.images) pruned.beside)
      (ap (λ (b : BesideView). b.jobs) pruned.beside)

-- parts that were done name no more
pub does_names : {S : Type 0} (kind : StoreKind S) (before after : Dev S) (old new : TablesView) (n left : ℕ) → AreSound old
    → DoesTurn kind before after old new n left → NamesTables old new
does_names kind before after old new n left sound turn =
    kept_names old new sound (does_reads kind before after old new n left sound turn) turn.prunes.maps turn.keeps.clients
    (ap (λ (b : BesideView). b.jobs) turn.keeps.beside)

-- ---- parts that were not done, with versions that are kept
module _ {S : Type 0} {kind : StoreKind S} (laws : KindLaws kind) (old new : Dev S) (lent : IsSoundDev kind old) (before : TablesView)
    (inside : AreInside kind old before) (k : ℕ) (kept : Store Key Value) (pruned : IsPrunedFrom before.kv kept)
    (why : Fault) (a : Answer) (is : fault_answer why ≡ Some a) where
  -- the region whose base was not read names no more than the tables do
  region_in : (r : RunView) → (P : List Place → Bool) (Q : Slice → Bool) → TablesBytes P Q before
      → (v : PartLacksBase kind old new kept (next_parts r.left k) why) → MaybeBytes P Q (Some v.region)
  region_in r P Q h v = kept_region P Q before.kv kept pruned h.live (next_parts r.left k) v.region v.there

  -- it lies inside the stores still
  region_mid : (r : RunView) → (v : PartLacksBase kind old new kept (next_parts r.left k) why) → MaybeBytes (inside_of kind v.mid) any_slice (Some v.region)
  region_mid r v =
      subst (λ (st : Settings). MaybeBytes (is_inside kind (stores v.mid) st) any_slice (Some v.region)) (sym v.goes.settings)
      (value_later laws v.goes.each old.settings lent.shelf (Some v.region) (region_in r (is_inside kind (stores old) old.settings) any_slice inside v))

  -- the fault is one of a server that is there
  pub piece_known : IsPieceFault kind old new kept before.beside.gc.running k why → IsReadFault old.settings.servers a
  piece_known cause = by before.beside.gc.running cause
    where
      read : (w : Fault) → fault_answer w ≡ Some a → IsOfServers old.settings.servers w → IsReadFault old.settings.servers a
      read (Fault.Read j) same known = subst (IsReadFault old.settings.servers) (let e : Answer.FaultRead j.0 ≡ a = cc in e) known
      read (Fault.Damaged j) same known = subst (IsReadFault old.settings.servers) (let e : Answer.Damaged j.0 ≡ a = cc in e) known
      read Fault.Memory same known = absurd (memory_none Fault.Memory a same refl)
      read Fault.Write same known = absurd known
      read (Fault.Punch j) same known = absurd known

      by : (r : Option RunView) → IsPieceFault kind old new kept r k why → IsReadFault old.settings.servers a
      by None none = absurd none
      by (Some r) (inl memory) = absurd (memory_none why a is memory)
      by (Some r) (inr lacks) =
          read why is
          (subst (λ (st : Settings). IsOfServers st.servers why) lacks.goes.settings
          (region_fault_known kind lacks.mid new (Some lacks.region) why lacks.goes.sound (region_mid r lacks) lacks.cause))

  -- Why it came. Where `full` holds, each byte has as many copies as there are replicas, and O then holds of each base.
  pub piece_by : IsPieceFault kind old new kept before.beside.gc.running k why → (full : Type 0) (O : Slice → Bool)
      → (full → TablesBytes (has_copies old.settings.replicas) O before) → HasCause kind (between old new) old.settings ⊥ (AreBased before) full no_load a
  piece_by cause full O copies = by before.beside.gc.running cause
    where
      by : (r : Option RunView) → IsPieceFault kind old new kept r k why → HasCause kind (between old new) old.settings ⊥ (AreBased before) full no_load a
      by None none = absurd none
      by (Some r) (inl memory) = absurd (memory_none why a is memory)
      by (Some r) (inr lacks) =
          cause_since laws old lacks.mid new (AreBased before) full a lacks.goes
          (region_caused kind lacks.mid new lacks.goes.sound (AreBased before) full O why a is (Some lacks.region) any_byte (region_mid r lacks)
          (λ Q based. region_in r any_byte Q based lacks)
          (λ h. subst (λ (st : Settings). MaybeBytes (has_copies st.replicas) O (Some lacks.region)) (sym lacks.goes.settings)
          (region_in r (has_copies old.settings.replicas) O (copies h) lacks))
          lacks.cause)

module _ {S : Type 0} {kind : StoreKind S} (laws : KindLaws kind) (old new : Dev S) (goes : GoesOn kind old new []) (lent : IsSoundDev kind old)
    (before : TablesView) (sound : AreSound before) (inside : AreInside kind old before) where
  abbrev asked : ℕ → Asked
  asked k = line_asked kind (between old new) (lent_by old new) before (Event.Piece k)

  -- what was read was read, and what is named was named
  pub piece_serves : (k : ℕ) (after : TablesView) (a : Answer) → NamesTables before after → OnlyRead kind (between old new) → IsPlain a
      → ServesLine kind (between old new) (lent_by old new) before after (Event.Piece k) a
  piece_serves k after a names reads plain =
      read_serves laws old new goes lent before sound inside after (asked k).goes_to (asked k).empty (asked k).fails a
      (from_names laws old new goes lent before sound inside after names) reads plain

  -- or was not
  pub piece_fails : (k : ℕ) (after : TablesView) → NamesTables before after → OnlyRead kind (between old new) → IsRing old.settings.servers old.ring.now.points
      → (kept : Store Key Value) → IsPrunedFrom before.kv kept → (why : Fault) (a : Answer) → fault_answer why ≡ Some a
      → IsPieceFault kind old new kept before.beside.gc.running k why → ServesLine kind (between old new) (lent_by old new) before after (Event.Piece k) a
  piece_fails k after names reads ring kept pruned why a is cause =
      read_failed laws old new goes lent before sound inside after (asked k).goes_to (asked k).empty (asked k).fails a
      (from_names laws old new goes lent before sound inside after names) reads
      (piece_by laws old new lent before inside k kept pruned why a is cause (AreFull old.settings before) no_slice (λ h. h))
      (has_failed (asked k).fails why a is (old, new, lent_to old new ring, record { kept = kept; pruned = pruned; cause = cause }))

  -- ---- over stores that tell
  module _ (tells : TellsTables kind (stores old) old.settings (remembered old) before) where
    abbrev Why : Answer → Type 0
    Why a = HasCause kind (between old new) old.settings ⊥ (AreBased before) (AreWide old.settings (told_in kind old) before) no_load a

    read_told : (a : Answer) → Why a → ReadsTold kind (between old new) old.settings before a
    read_told a why =
        let same : ServesTold kind (between old new) old.settings (before, before) a =
        stays_told laws old new goes lent before sound inside tells before 0 no_load a (record {
          clients = sets_same 0 before.clients before.clients refl;
          number = refl;
          maps = λ n le. refl;
          versions = λ q. refl;
          pins = λ n. refl;
          next_tx = refl;
          beside = refl;
        }) why in
        record { undamaged = same.undamaged; unread = same.unread }

    pub piece_failed_told : (k : ℕ) (kept : Store Key Value) → IsPrunedFrom before.kv kept → (why : Fault) (a : Answer) → fault_answer why ≡ Some a
        → IsPieceFault kind old new kept before.beside.gc.running k why → ReadsTold kind (between old new) old.settings before a
    piece_failed_told k kept pruned why a is cause =
        read_told a
        (piece_by laws old new lent before inside k kept pruned why a is cause (AreWide old.settings (told_in kind old) before)
        (lists_have old.settings.region (told_in kind old) (has_copies old.settings.replicas)) (λ h. h))
