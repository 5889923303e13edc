-- A line that leaves all as it was, refused or answered by a fault.
use Rattle.wtf_clients.proofs.Common.{if◌then◌else◌, get, Fault, Store, times_pinned, versions_of, Key, Value, key_cmp, Answer, Machine, Told, metadata_at}
use Rattle.wtf_clients.proofs.Common.{Stands, TellsOn, TxnView, IsFit, KeepsMaps, KeepsVersions, KeepsPins, fault_answer, fit_after, TablesView, of_client}
use Rattle.wtf_clients.proofs.Common.{metadata_now, owned, IsOpen, AreSound, Sets, StandsForSlot, TablesStand, SetsClientAlone, TablesStay, ◌≡◌, ◌≤◌, ◌<◌, ℕ}
use Rattle.wtf_clients.proofs.Common.{◌+◌, nat_eq, [], None, Some, refl, sym, ap, ◌∙◌, subst, inr, arith}
use Rattle.wtf_clients.proofs.{SinceLaws.since_kept, Frames.Turned, Frames.untouched_same, Frames.txn_on, Frames.slot_on, Frames.sound_turned}
use Rattle.wtf_clients.proofs.{Frames.stands_kept, Later.Stands-later}

-- the answers to faults of the stores
abbrev pub IsFault : Answer → Type 0
IsFault (Answer.FaultRead k) = Unit {0}
IsFault Answer.FaultWrite = Unit {0}
IsFault (Answer.FaultPunch k) = Unit {0}
IsFault (Answer.Damaged k) = Unit {0}
IsFault a = ⊥

pub fault_is : (why : Fault) (a : Answer) → fault_answer why ≡ Some a → IsFault a
fault_is (Fault.Read k) a is = subst IsFault (let e : Answer.FaultRead k.0 ≡ a = cc in e) tt
fault_is Fault.Write a is = subst IsFault (let e : Answer.FaultWrite ≡ a = cc in e) tt
fault_is (Fault.Punch k) a is = subst IsFault (let e : Answer.FaultPunch k.0 ≡ a = cc in e) tt
fault_is (Fault.Damaged k) a is = subst IsFault (let e : Answer.Damaged k.0 ≡ a = cc in e) tt
fault_is Fault.Memory a is = absurd (let e : None ≡ Some a = is in cc)

-- the store is what it was
pub keeps_stays : (old new : TablesView) (c : ℕ) → SetsClientAlone old new c (of_client old.clients c) → TablesStay old new c
keeps_stays old new c h = record {
  clients = h.clients;
  number = ap (λ (s : Store Key Value). s.number) h.kv;
  maps = λ n le. ap (λ (s : Store Key Value). metadata_at s n) h.kv;
  versions = λ q. ap (λ (s : Store Key Value). versions_of key_cmp s q) h.kv;
  pins = λ n. ap (λ (s : Store Key Value). times_pinned s n) h.kv;
  next_tx = h.next_tx;
  beside = h.beside;
}

-- the transaction of the client is what it was
pub same_stays : (old new : TablesView) (c : ℕ) (x y : TxnView) → of_client old.clients c ≡ Some x → Sets c (Some y) old.clients new.clients → y ≡ x
    → new.kv.number ≡ old.kv.number → KeepsMaps old.kv new.kv → KeepsVersions old.kv new.kv → KeepsPins old.kv new.kv → new.next_tx ≡ old.next_tx
    → new.beside ≡ old.beside → TablesStay old new c
same_stays old new c x y there sets same number maps versions pins next beside = record {
  clients = subst (λ o. Sets c o old.clients new.clients) (ap Some same ∙ sym there) sets;
  number = number;
  maps = maps;
  versions = versions;
  pins = pins;
  next_tx = next;
  beside = beside;
}

module _ (old new : TablesView) (c : ℕ) (sound : AreSound old) (st : TablesStay old new c) where
  stays_turned : Turned old new c (of_client old.clients c)
  stays_turned =
      let number = st.number in
      let next = st.next_tx in
      record {
        sets = st.clients;
        later = omega (arith, number);
        maps = st.maps;
        more = omega (arith, next);
        pins = λ n. ap (λ k. k + owned n (of_client old.clients c)) (st.pins n);
        own = λ x is.
            let was : IsOpen old.kv old.next_tx x = sound.each c x is in
            let based = was.based in
            let older = was.older in
            record {
              going = was.going;
              fit = fit_after old.kv new.kv x x was.fit refl refl refl based st.maps st.pins;
              based = omega (arith, based, number);
              older = omega (arith, older, next);
            };
        beside = st.beside;
        whose = λ x is. inr (x, is, refl);
      }

  -- the tables stay sound
  pub stays_sound : AreSound new
  stays_sound = sound_turned old new c (of_client old.clients c) sound stays_turned

  -- and they stand for the machine as it was
  pub stays_stand : (size : ℕ) (told later : Told) (m : Machine) → TablesStand size told old m → TellsOn told later → TablesStand size later new m
  stays_stand size told later m stand on =
      let now_is : metadata_now new.kv ≡ metadata_now old.kv = ap (metadata_at new.kv) st.number ∙ st.maps old.kv.number (omega arith) in
      stands_kept size told later old new m m c (of_client old.clients c) sound stand on stays_turned st.number st.versions
      (λ d other. refl) refl refl refl refl
      (subst (λ o. StandsForSlot size later new.kv m.now (of_client old.clients c) o) (sym (untouched_same (get m.transactions c) (get m.transactions c) refl))
      (slot_on size told later old.kv new.kv m.now m.now [] (of_client old.clients c) (get m.transactions c)
      (λ x t is txn. txn_on size told later old.kv new.kv m.now m.now x t [] on (sound.each c x is).based st.maps
      (subst (λ v. Stands size later x.tx 0 v m.now) (sym now_is) (Stands-later told later on size x.tx 0 (metadata_now old.kv) m.now txn.now))
      (since_kept old.kv new.kv x.tx x.at.base t.touched txn.since (sound.each c x is).based st.maps st.number st.versions) txn) (stand.each c)))

-- ---- a transaction that goes on at its base
module _ (old new : TablesView) (c : ℕ) (x y : TxnView) (sound : AreSound old) (here : of_client old.clients c ≡ Some x)
    (keeps : SetsClientAlone old new c (Some y)) (tx : y.tx ≡ x.tx) (base : y.at.base ≡ x.at.base) (going : y.ended ≡ x.ended) (fit : IsFit old.kv y) where
  -- it is open
  goes_open : IsOpen new.kv new.next_tx y
  goes_open =
      let was : IsOpen old.kv old.next_tx x = sound.each c x here in
      let open_y : IsOpen old.kv old.next_tx y = record {
        going = going ∙ was.going;
        fit = fit;
        based = subst (λ b. b ≤ old.kv.number) (sym base) was.based;
        older = subst (λ k. k < old.next_tx) (sym tx) was.older;
      } in
      subst (λ kv. IsOpen kv new.next_tx y) (sym keeps.kv) (subst (λ k. IsOpen old.kv k y) (sym keeps.next_tx) open_y)

  -- the store is what it was, and the pin is its own
  pub goes_turned : Turned old new c (Some y)
  goes_turned = record {
    sets = keeps.clients;
    later = let same : new.kv.number ≡ old.kv.number = ap (λ (s : Store Key Value). s.number) keeps.kv in omega (arith, same);
    maps = λ n le. ap (λ s. metadata_at s n) keeps.kv;
    more = let same = keeps.next_tx in omega (arith, same);
    pins = λ n.
        let was : owned n (of_client old.clients c) ≡ owned n (Some x) = ap (owned n) here in
        let is : owned n (Some y) ≡ owned n (Some x) = ap (λ b. if nat_eq n b then 1 else 0) base in
        let kept : times_pinned new.kv n ≡ times_pinned old.kv n = ap (λ s. times_pinned s n) keeps.kv in
        omega (arith, was, is, kept);
    beside = keeps.beside;
    own = λ z e. let hit : y ≡ z = cc in subst (λ v. IsOpen new.kv new.next_tx v) hit goes_open;
    whose = λ z e. let hit : y ≡ z = cc in inr (x, here, ap (λ (v : TxnView). v.tx) (sym hit) ∙ tx);
  }

  -- the tables stay sound
  pub goes_sound : AreSound new
  goes_sound = sound_turned old new c (Some y) sound goes_turned
