-- Lines of scans and collections over the machine: it allows what they answer, and the tables stand for what it is then.
use Rattle.wtf_clients.proofs.Common.{IsTrue, eq-eqb, ne_eqb, lt-ltb, le-ltb, Store, Answer, NoScan, run_on, GcView, nat_eq, nat_lt, Option, is_some, ⊎_elim}
use Rattle.wtf_clients.proofs.Common.{if◌then◌else◌, entries_sorted, get-entries, list_any-append, piece_answer, collect_refusal, with_finished, slice_index_or}
use Rattle.wtf_clients.proofs.Common.{get, Key, Value, Word, Event, May, Told, Bool, true, false, cond, ◌||◌, ◌==◌, List, None, Some, zero, refl, subst, arith}
use Rattle.wtf_clients.proofs.Common.{entries, nat_cmp, or_left, is_live, Machine, held_by, or_held, scanned, TxnView, RunView, IsPruned, KeepsBut, DoesTurn}
use Rattle.wtf_clients.proofs.Common.{find, option_map, IsReadFault, open_stamps, MayFailPiece, Transaction, metadata_at, TablesStand, StampsStand, CollectTurn}
use Rattle.wtf_clients.proofs.Common.{is_sorted, Contains, list_any, eq_by_cmp, StoreKind, piece_due, of_client, StartsTurn, PieceFails, PieceTurn, KeepsStore}
use Rattle.wtf_clients.proofs.Common.{cases_Bool, true≢false, SCAN_PARTS, MayCollect, piece_more, piece_done, IsSoundDev, TablesView, BesideView, ScansStand, ℕ}
use Rattle.wtf_clients.proofs.Common.{or_cases, or_right, eqb-true, KindLaws, NoServer, ScanBusy, scanning, scan_due, of_label, AreSound, HasKinds, ScanTurn, T}
use Rattle.wtf_clients.proofs.Common.{Job, Map, Dev, ◌≡◌, ◌+◌, ◌-◌, ◌^◌, ◌<◌, ◌≤◌, [], ◌∷◌, map, min, suc, sym, ap, ◌∙◌, inl, inr}
use Rattle.wtf_clients.proofs.{Lives.AreInside, HoldLaws.some_same, HoldLaws.at_front, HoldLaws.tail_of, HoldLaws.behind, HoldLaws.txn_of, HoldLaws.label_of}
use Rattle.wtf_clients.proofs.{HoldLaws.held_is, HoldLaws.none_held, Making.at_none, Making.at_some, PieceServing.piece_known, ScanFrames.start_reads}
use Rattle.wtf_clients.proofs.{ScanFrames.start_maps, ScanFrames.does_reads, Scanning.pruned_live}

-- ---- what stays
-- whoever is open is as old as before
stamps_same : (old new : TablesView) (m : Machine) → StampsStand old m → new.clients ≡ old.clients → new.next_tx ≡ old.next_tx
    → new.beside.jobs ≡ old.beside.jobs → new.beside.scan_tx ≡ old.beside.scan_tx → new.beside.scan_jobs ≡ old.beside.scan_jobs → StampsStand new m
stamps_same old new m st clients next jobs scan_tx scan_jobs =
    let txn : (c : ℕ) (x : TxnView) → of_client new.clients c ≡ Some x → of_client old.clients c ≡ Some x =
    λ c x there. ap (λ l. of_client l c) (sym clients) ∙ there in
    record {
      listed = st.listed;
      begun = let was = st.begun in omega (arith, was, next, scan_tx);
      txns = λ c x t there is.
          let had = st.txns c x t (txn c x there) is in
          (had.0, had.1 ∙ ap (nat_lt x.tx) (sym scan_tx));
      order = λ c d x y t u xc tc yd ud low. st.order c d x y t u (txn c x xc) tc (txn d y yd) ud low;
      jobs = λ j x t there is.
          let had = st.jobs j x t (ap (λ l. of_label l j) (sym jobs) ∙ there) is in
          (had.0, had.1 ∙ ap (λ l. slice_index_or l j false) (sym scan_jobs));
    }

-- where the scans alone have changed
but_stamps : (old new : TablesView) (m : Machine) → StampsStand old m → KeepsBut old new → StampsStand new m
but_stamps old new m st keeps =
    stamps_same old new m st keeps.clients keeps.next_tx (ap (λ (b : BesideView). b.jobs) keeps.beside) (ap (λ (b : BesideView). b.scan_tx) keeps.beside)
    (ap (λ (b : BesideView). b.scan_jobs) keeps.beside)

-- the parts and the number of scans are of no age
with_parts : (tables : TablesView) (m : Machine) (parts : Option ℕ) (scans : ℕ) → StampsStand tables m
    → StampsStand tables (record m { parts_left = parts; scans = scans })
with_parts tables m parts scans st = record { listed = st.listed; begun = st.begun; txns = st.txns; order = st.order; jobs = st.jobs }

-- the scans stay too
same_stands : (old new : TablesView) (m : Machine) → ScansStand old m → StampsStand new m → new.beside.gc.running ≡ old.beside.gc.running
    → new.beside.gc.finished ≡ old.beside.gc.finished → ((n : ℕ) → IsTrue (is_live new.kv n) → IsTrue (is_live old.kv n))
    → ((n : ℕ) → IsTrue (is_live old.kv n) → metadata_at new.kv n ≡ metadata_at old.kv n) → ScansStand new m
same_stands old new m st stamps running finished reads maps = record {
  stamps = stamps;
  parts = st.parts ∙ ap (option_map (λ (r : RunView). r.left)) (sym running);
  some = λ r is. st.some r (sym running ∙ is);
  scans = finished ∙ st.scans;
  kinds = λ n live. let was = reads n live in subst (λ (w : Map). HasKinds w) (sym (maps n was)) (st.kinds n was);
}

pruned_stands : (old new : TablesView) (m : Machine) → ScansStand old m → IsPruned old new → ScansStand new m
pruned_stands old new m st pruned = same_stands old new m st
    (stamps_same old new m st.stamps pruned.clients pruned.next_tx (ap (λ (b : BesideView). b.jobs) pruned.beside)
    (ap (λ (b : BesideView). b.scan_tx) pruned.beside) (ap (λ (b : BesideView). b.scan_jobs) pruned.beside))
    (ap (λ (b : BesideView). b.gc.running) pruned.beside) (ap (λ (b : BesideView). b.gc.finished) pruned.beside)
    (pruned_live old.kv new.kv pruned.kv pruned.pins) pruned.kv.maps

-- ---- the stamps of what is open
any_of : (xs : List ℕ) (s : ℕ) → Contains xs s → list_any (λ x. x == s) xs ≡ true
any_of [] s here = let lt = here.1 in absurd (omega (arith, lt))
any_of (x ∷ xs) s (zero, lt, is) = or_left (x == s) (list_any (λ y. y == s) xs) (eq-eqb x s is)
any_of (x ∷ xs) s (suc k, lt, is) = or_right (x == s) (list_any (λ y. y == s) xs) (any_of xs s (k, omega (arith, lt), is))

module _ {X : Type 0} (f : X → ℕ) where
  abbrev all_of : List (ℕ × X) → List ℕ
  all_of es = map f (map (λ e. e.1) es)

  -- each one has its stamp among them
  any_found : (es : List (ℕ × X)) (c : ℕ) (v : X) → find nat_cmp c es ≡ Some v → list_any (λ s. s == f v) (all_of es) ≡ true
  any_found [] c v is = absurd (cc)
  any_found (e ∷ es) c v is = ⊎_elim
      (λ here.
      let same : e.1 ≡ v = some_same e.1 v (sym (ap (λ b. cond b (Some e.1) (find nat_cmp c es)) here) ∙ is) in
      or_left (f e.1 == f v) (list_any (λ s. s == f v) (all_of es)) (eq-eqb (f e.1) (f v) (ap f same)))
      (λ past.
      or_right (f e.1 == f v) (list_any (λ s. s == f v) (all_of es)) (any_found es c v (sym (ap (λ b. cond b (Some e.1) (find nat_cmp c es)) past) ∙ is)))
      (cases_Bool (eq_by_cmp nat_cmp c e.0))

  -- and there is no other
  upto_found : (es : List (ℕ × X)) → T (is_sorted nat_cmp es) → (n : ℕ) → ((c : ℕ) (v : X) → find nat_cmp c es ≡ Some v → f v < n) → (s : ℕ)
      → list_any (λ x. x == s) (all_of es) ≡ true → s < n
  upto_found [] sorted n low s any = absurd (true≢false (sym any))
  upto_found (e ∷ es) sorted n low s any = ⊎_elim
      (λ here.
      let same : f e.1 ≡ s = eqb-true (f e.1) s here in
      let lt = low e.0 e.1 (at_front e es) in
      omega (arith, lt, same))
      (λ later. upto_found es (tail_of e es sorted) n (λ c v is. low c v (behind e es sorted c v is)) s later)
      (or_cases (f e.1 == s) (list_any (λ x. x == s) (all_of es)) any)

-- ---- a scan
module _ {S : Type 0} (kind : StoreKind S) (shelf : List S) (size : ℕ) (told : Told) (old new : TablesView) (m : Machine) (sound : AreSound old)
    (stand : TablesStand size told old m) (st : ScansStand old m) where
  none_left : old.beside.gc.running ≡ None → m.parts_left ≡ None
  none_left free = st.parts ∙ ap (option_map (λ (r : RunView). r.left)) free

  busy : (o : Option RunView) → is_some o ≡ true → is_some (option_map (λ (r : RunView). r.left) o) ≡ true
  busy None some = some
  busy (Some r) some = refl

  pub scan_may : (a : Answer) → ScanTurn kind shelf old new a → May m Event.Scan a
  scan_may (Answer.Refused ScanBusy) h =
      sym (ap (λ b. if b then Answer.Refused ScanBusy else or_held (held_by m)) (ap is_some st.parts ∙ busy old.beside.gc.running h.1))
  scan_may (Answer.Held x) h = sym (scan_due m (Some x) (none_left h.1) (held_is size told old m stand sound st.stamps x h.2))
  scan_may Answer.Scanning h = sym (scan_due m None (none_left h.free) (none_held size told old m stand sound st.stamps h.no_txn h.no_job))
  scan_may a h = absurd h

  -- ---- one that begins
  module _ (h : StartsTurn kind shelf old new) where
    abbrev noted : List ℕ
    noted = open_stamps m

    abbrev of_txns : List ℕ
    of_txns = all_of (λ (t : Transaction). t.stamp) (entries m.transactions)

    abbrev of_jobs : List ℕ
    of_jobs = all_of (λ (j : Job). j.stamp) (entries m.jobs)

    noted_is : (s : ℕ) → list_any (λ x. x == s) noted ≡ list_any (λ x. x == s) of_txns || list_any (λ x. x == s) of_jobs
    noted_is s = list_any-append (λ x. x == s) of_txns of_jobs

    -- whoever is open is noted
    txn_noted : (c : ℕ) (t : Transaction) → get m.transactions c ≡ Some t → list_any (λ x. x == t.stamp) noted ≡ true
    txn_noted c t is =
        noted_is t.stamp
        ∙ or_left (list_any (λ x. x == t.stamp) of_txns) (list_any (λ x. x == t.stamp) of_jobs)
        (any_found (λ (u : Transaction). u.stamp) (entries m.transactions) c t (sym (get-entries m.transactions c) ∙ is))

    job_noted : (j : ℕ) (t : Job) → get m.jobs j ≡ Some t → list_any (λ x. x == t.stamp) noted ≡ true
    job_noted j t is =
        noted_is t.stamp
        ∙ or_right (list_any (λ x. x == t.stamp) of_txns) (list_any (λ x. x == t.stamp) of_jobs)
        (any_found (λ (u : Job). u.stamp) (entries m.jobs) j t (sym (get-entries m.jobs j) ∙ is))

    -- and nobody else
    noted_upto : (s : ℕ) → Contains noted s → s < m.next_stamp
    noted_upto s there = ⊎_elim
        (λ txn. upto_found (λ (t : Transaction). t.stamp) (entries m.transactions) (entries_sorted m.transactions) m.next_stamp
        (λ c t found.
        let is : get m.transactions c ≡ Some t = get-entries m.transactions c ∙ found in
        let x = txn_of size told old m stand c t is in
        (st.stamps.txns c x.0 t x.1 is).0) s txn)
        (λ job. upto_found (λ (t : Job). t.stamp) (entries m.jobs) (entries_sorted m.jobs) m.next_stamp
        (λ j t found.
        let is : get m.jobs j ≡ Some t = get-entries m.jobs j ∙ found in
        let x = label_of size told old m stand j t is in
        (st.stamps.jobs j x.0 t x.1 is).0) s job)
        (or_cases (list_any (λ x. x == s) of_txns) (list_any (λ x. x == s) of_jobs) (sym (noted_is s) ∙ any_of noted s there))

    txn_was : (c : ℕ) (x : TxnView) → of_client new.clients c ≡ Some x → of_client old.clients c ≡ Some x
    txn_was c x there = ap (λ l. of_client l c) (sym h.clients) ∙ there

    started_stamps : StampsStand new (scanning m Answer.Scanning)
    started_stamps = record {
      listed = noted_upto;
      begun = let scan = h.scan_tx in let next = h.next_tx in omega (arith, scan, next);
      txns = λ c x t there is.
          let was = txn_was c x there in
          let older = (sound.each c x was).older in
          let bound = h.scan_tx in
          ((st.stamps.txns c x t was is).0, txn_noted c t is ∙ sym (lt-ltb x.tx new.beside.scan_tx (omega (arith, older, bound))));
      order = λ c d x y t u xc tc yd ud low. st.stamps.order c d x y t u (txn_was c x xc) tc (txn_was d y yd) ud low;
      jobs = λ j x t there is.
          let was : of_label old.beside.jobs j ≡ Some x = ap (λ (b : BesideView). of_label b.jobs j) (sym h.beside) ∙ there in
          ((st.stamps.jobs j x t was is).0, job_noted j t is ∙ sym (h.scan_jobs j ∙ ap is_some was));
    }

    pub started_stands : ScansStand new (scanning m Answer.Scanning)
    started_stands =
        let left : SCAN_PARTS ≡ h.starts.run.left = sym h.starts.left in
        record {
          stamps = started_stamps;
          parts = ap (λ k. Some k) left ∙ sym (ap (λ (g : GcView). option_map (λ (r : RunView). r.left) g.running) h.starts.is);
          some = λ r is.
              let same : h.starts.run ≡ r = some_same h.starts.run r (sym (ap (λ (g : GcView). g.running) h.starts.is) ∙ is) in
              let of : h.starts.run.left ≡ r.left = ap (λ (q : RunView). q.left) same in
              let all = h.starts.left in
              omega (arith, of, all);
          scans = ap (λ (g : GcView). g.finished) h.starts.is ∙ st.scans;
          kinds = λ n live.
              subst (λ (w : Map). HasKinds w) (sym (start_maps kind shelf old new sound h n)) (st.kinds n (start_reads kind shelf old new sound h n live));
        }

  pub scan_stands : (a : Answer) → ScanTurn kind shelf old new a → ScansStand new (scanning m a)
  scan_stands (Answer.Refused ScanBusy) h = subst (λ (t : TablesView). ScansStand t m) (sym h.0) st
  scan_stands (Answer.Held x) h = subst (λ (t : TablesView). ScansStand t m) (sym h.0) st
  scan_stands Answer.Scanning h = started_stands h
  scan_stands a h = absurd h

-- ---- parts of a scan
module _ {S : Type 0} (kind : StoreKind S) (before after : Dev S) (old new : TablesView) (k : ℕ) where
  module _ (m : Machine) (st : ScansStand old m) where
    parts_of : (o : Option RunView) → old.beside.gc.running ≡ o → m.parts_left ≡ option_map (λ (r : RunView). r.left) o
    parts_of o is = st.parts ∙ ap (option_map (λ (r : RunView). r.left)) is

    may_fail : (a : Answer) → IsReadFault m.settings.servers a → (b : Bool) (left : ℕ)
        → MayFailPiece m.settings.servers (if b then Answer.More left else Answer.Done) a
    may_fail a fault true left = fault
    may_fail a fault false left = fault

    failed_may : (a : Answer) → PieceFails kind before after old new k a → IsReadFault m.settings.servers a
        → MayFailPiece m.settings.servers (piece_answer k m.parts_left) a
    failed_may a f fault = by old.beside.gc.running refl f.runs
      where
        by : (o : Option RunView) → old.beside.gc.running ≡ o → is_some o ≡ true → MayFailPiece m.settings.servers (piece_answer k m.parts_left) a
        by None is some = absurd (true≢false (sym some))
        by (Some r) is some =
            subst (λ o. MayFailPiece m.settings.servers (piece_answer k o) a) (sym (parts_of (Some r) is)) (may_fail a fault (nat_lt k r.left) (r.left - k))

    -- where a fault of a list is one of a server that is there
    may_by : ((a : Answer) → PieceFails kind before after old new k a → IsReadFault m.settings.servers a) → (a : Answer)
        → PieceTurn kind before after old new k a → May m (Event.Piece k) a
    may_by known (Answer.Refused NoScan) h = inl (sym (piece_due m k None (Answer.Refused NoScan) (parts_of None h.2) refl))
    may_by known (Answer.More left) h =
        let run = h.1.does.run in
        let some = h.0 in
        let is = h.1.does.left_is in
        inl (sym (piece_due m k (Some run.left) (Answer.More left) (parts_of (Some run) h.1.does.was)
        (piece_more k run.left (omega (arith, some, is)) ∙ ap (λ n. Answer.More n) (sym is))))
    may_by known Answer.Done h =
        let run = h.does.run in
        let is = h.does.left_is in
        inl (sym (piece_due m k (Some run.left) Answer.Done (parts_of (Some run) h.does.was) (piece_done k run.left (omega (arith, is)))))
    may_by known a f = inr (failed_may a f (known a f))

    -- ---- parts that were done
    module _ (left : ℕ) (sound : AreSound old) (h : DoesTurn kind before after old new k left) where
      abbrev done : RunView
      done = run_on h.does.run k h.does.found

      done_kinds : (n : ℕ) → IsTrue (is_live new.kv n) → HasKinds (metadata_at new.kv n)
      done_kinds n live =
          let was = does_reads kind before after old new k left sound h n live in
          subst (λ (w : Map). HasKinds w) (sym (h.prunes.maps n was)) (st.kinds n was)

      gc_by : (b : Bool) → nat_eq done.left 0 ≡ b
          → new.beside.gc ≡ cond b (with_finished old.beside.gc done.scan) (record old.beside.gc { running = Some done })
      gc_by b is = h.does.is ∙ ap (λ c. cond c (with_finished old.beside.gc done.scan) (record old.beside.gc { running = Some done })) is

      more_stands : 0 < left → ScansStand new (record m { parts_left = Some left })
      more_stands some =
          let is = h.does.left_is in
          let gc : new.beside.gc ≡ record old.beside.gc { running = Some done } =
          gc_by false (ne_eqb done.left 0 (λ none. omega (arith, some, is, none))) in
          record {
            stamps = with_parts new m (Some left) m.scans (but_stamps old new m st.stamps h.keeps);
            parts = ap (λ n. Some n) is ∙ sym (ap (λ (g : GcView). option_map (λ (r : RunView). r.left) g.running) gc);
            some = λ r there.
                let same : done ≡ r = some_same done r (sym (ap (λ (g : GcView). g.running) gc) ∙ there) in
                let of : done.left ≡ r.left = ap (λ (q : RunView). q.left) same in
                omega (arith, some, is, of);
            scans = ap (λ (g : GcView). g.finished) gc ∙ st.scans;
            kinds = done_kinds;
          }

      ended_stands : left ≡ 0 → ScansStand new (record m { parts_left = None; scans = m.scans + 1 })
      ended_stands none =
          let is = h.does.left_is in
          let gc : new.beside.gc ≡ with_finished old.beside.gc done.scan = gc_by true (eq-eqb done.left 0 (omega (arith, none, is))) in
          let finished : new.beside.gc.finished ≡ min (old.beside.gc.finished + 1) (2 ^ 64 - 1) = ap (λ (g : GcView). g.finished) gc in
          let was = st.scans in
          record {
            stamps = with_parts new m None (m.scans + 1) (but_stamps old new m st.stamps h.keeps);
            parts = sym (ap (λ (g : GcView). option_map (λ (r : RunView). r.left) g.running) gc);
            some = λ r there. absurd (nothing r (sym (ap (λ (g : GcView). g.running) gc) ∙ there));
            scans = omega (arith, finished, was);
            kinds = done_kinds;
          }
        where
          nothing : (r : RunView) → ◌≡◌ {A = Option RunView} None (Some r) → ⊥
          nothing r e = cc

    pub piece_stands : AreSound old → (a : Answer) → PieceTurn kind before after old new k a → ScansStand new (scanned m a)
    piece_stands sound (Answer.Refused NoScan) h = subst (λ (t : TablesView). ScansStand t m) (sym h.0) st
    piece_stands sound (Answer.More left) h = more_stands left sound h.1 h.0
    piece_stands sound Answer.Done h = ended_stands 0 sound h refl
    piece_stands sound a f = pruned_stands old new m st f.pruned

-- the machine allows what they answer
pub piece_may : {S : Type 0} {kind : StoreKind S} → KindLaws kind → (before after : Dev S) → IsSoundDev kind before → (old new : TablesView)
    → AreInside kind before old → (k : ℕ) (m : Machine) → ScansStand old m
    → m.settings ≡ before.settings → (a : Answer) → PieceTurn kind before after old new k a → May m (Event.Piece k) a
piece_may {kind = kind} laws before after lent old new inside k m st settings a turn =
    may_by kind before after old new k m st
    (λ b f. subst (λ s. IsReadFault s.servers b) (sym settings)
    (piece_known laws before after lent old inside k new.kv f.pruned.kv f.why b f.answer f.cause)) a turn

-- ---- a collection
abbrev refused : Bool → Bool → Option Word
refused server few = if server then (if few then Some NoScan else None) else Some NoServer

module _ {S : Type 0} (kind : StoreKind S) (before after : Dev S) (old new : TablesView) (k : ℕ) where
  module _ (m : Machine) (st : ScansStand old m) where
    pub collect_may : m.settings ≡ before.settings → (a : Answer) → CollectTurn kind before after old new k a → May m (Event.Collect k) a
    collect_may settings a h = by a h
      where
        servers : m.settings.servers ≡ before.settings.servers
        servers = ap (λ s. s.servers) settings

        there : k < before.settings.servers → nat_lt k m.settings.servers ≡ true
        there lt = lt-ltb k m.settings.servers (let same = servers in omega (arith, lt, same))

        -- two scans have finished
        free : k < before.settings.servers → 2 ≤ old.beside.gc.finished → collect_refusal m k ≡ None
        free lt twice =
            let scans = st.scans in
            ap (λ b. refused b (nat_lt m.scans 2)) (there lt) ∙ ap (refused true) (le-ltb m.scans 2 (omega (arith, scans, twice)))

        by : (b : Answer) → CollectTurn kind before after old new k b → May m (Event.Collect k) b
        by (Answer.Refused NoServer) g =
            at_some (collect_refusal m k) NoServer (MayCollect k (Answer.Refused NoServer)) (λ w. Answer.Refused NoServer ≡ Answer.Refused w)
            (ap (λ b. refused b (nat_lt m.scans 2)) (le-ltb k m.settings.servers (let same = servers in let le = g.2 in omega (arith, le, same)))) refl
        by (Answer.Refused NoScan) g =
            let scans = st.scans in
            let few = g.3 in
            at_some (collect_refusal m k) NoScan (MayCollect k (Answer.Refused NoScan)) (λ w. Answer.Refused NoScan ≡ Answer.Refused w)
            (ap (λ b. refused b (nat_lt m.scans 2)) (there g.2) ∙ ap (refused true) (lt-ltb m.scans 2 (omega (arith, scans, few)))) refl
        by (Answer.Collected n) g =
            at_none (collect_refusal m k) (MayCollect k (Answer.Collected n)) (λ w. Answer.Collected n ≡ Answer.Refused w) (free g.0 g.1.twice) tt
        by (Answer.FaultPunch j) g =
            at_none (collect_refusal m k) (MayCollect k (Answer.FaultPunch j)) (λ w. Answer.FaultPunch j ≡ Answer.Refused w) (free g.0 g.1.twice) g.1.server
        by b g = absurd g

    freed_stands : KeepsStore old new → new.beside.gc.running ≡ old.beside.gc.running → new.beside.gc.finished ≡ old.beside.gc.finished → ScansStand new m
    freed_stands keeps running finished =
        same_stands old new m st (but_stamps old new m st.stamps keeps.keeps) running finished
        (λ n live. subst (λ (s : Store Key Value). IsTrue (is_live s n)) keeps.kv live)
        (λ n live. ap (λ (s : Store Key Value). metadata_at s n) keeps.kv)

    pub collect_stands : (a : Answer) → CollectTurn kind before after old new k a → ScansStand new m
    collect_stands (Answer.Refused NoServer) h = subst (λ (t : TablesView). ScansStand t m) (sym h.0) st
    collect_stands (Answer.Refused NoScan) h = subst (λ (t : TablesView). ScansStand t m) (sym h.0) st
    collect_stands (Answer.Collected n) h = freed_stands h.1.keeps h.1.frees.counts.running h.1.frees.counts.finished
    collect_stands (Answer.FaultPunch j) h = freed_stands h.1.keeps h.1.frees.counts.running h.1.frees.counts.finished
    collect_stands a h = absurd h
