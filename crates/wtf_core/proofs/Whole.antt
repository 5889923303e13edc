-- What a core answers to a line is what the machine may, and the core goes on to stand for it.
use Rattle.wtf_core.proofs.Common.{MatchBool, get, Contains, Settings, StoreKind, KindLaws, versions_of, byte_at, is_down, Span, key_cmp, Answer, Word}
use Rattle.wtf_core.proofs.Common.{NoServer, ScanBusy, NoScan, JobKind, Event, Verb, Machine, root_alone, MaySave, server_answer, dump_answer, MayFailRead}
use Rattle.wtf_core.proofs.Common.{after, scanning, scanned, scanning-rest, scanned-rest, is_down-event, any_slice, Told, Stands, TellsOn, Dev, stores}
use Rattle.wtf_core.proofs.Common.{is_inside, TablesBytes, IsSafe, AreUp, SaveTurn, ScanTurn, StartsTurn, PieceTurn, DoesTurn, seeing, AreSound, HasKinds}
use Rattle.wtf_core.proofs.Common.{IsImageTree, StandsForSlot, StandsForLabel, TablesStand, ScansStand, AreTrue, BesideView, TablesView, of_client, of_label}
use Rattle.wtf_core.proofs.Common.{metadata_now, collect_tables, Freed, collect_freed, number_cases, pruned_stand, start_maps, scan_may, scan_stands, piece_may}
use Rattle.wtf_core.proofs.Common.{piece_stands, collect_may, collect_stands, pruned_keeps, none_moved, stays_stand, IsEvent, StandsFor, IsSmall, TellsCore}
use Rattle.wtf_core.proofs.Common.{ServerTurn, Switches, LineTurn, CoreView, KnowsLists, lent_of, ShowsAlike, alike_stand, ◌≡◌, ◌≢◌, ◌<◌, ◌⊎◌, ℕ, Bool, true}
use Rattle.wtf_core.proofs.Common.{false, nat_eq, nat_lt, if◌then◌else◌, List, refl, sym, ap, subst, ◌∙◌, inl, inr, arith, ne_eqb, eq-eqb}
use Rattle.wtf_model.specs.Machines as machine
use Rattle.wtf_core.proofs.{Aged.kinds_of, Aged.scans_on, Answering.server_plain, JobLines.label_none, JobLines.plan_stands, JobLines.put_stand}
use Rattle.wtf_core.proofs.{JobLines.drop_stand, Lines.client_stands, Moves.line_moves, Moves.planned_free, Plain.tables_later, SaveLaws.save_stands}
use Rattle.wtf_core.proofs.{Stamped.IsOther, Stamped.IsFree, Stamped.event_stamped}

-- ---- a core that stays stands for the same over stores that tell more
stays : (told later : Told) (core : CoreView) (m : Machine) → AreSound core.tables → StandsFor told core m → TellsOn told later → StandsFor later core m
stays told later core m sound stands on = record {
  settings = stands.settings;
  tables = tables_later core.settings.region told later core.tables m sound stands.tables on;
  down = stands.down;
  scans = stands.scans;
}

-- tables stand for a machine of the same tree, the same number, and the same that is open and that may be saved
machine_beside : (size : ℕ) (told : Told) (tables : TablesView) (m next : Machine) → TablesStand size told tables m → next.number ≡ m.number
    → next.now ≡ m.now → next.transactions ≡ m.transactions → next.may_be_saved ≡ m.may_be_saved → next.jobs ≡ m.jobs → TablesStand size told tables next
machine_beside size told tables m next same number now transactions may jobs = record {
  number = number ∙ same.number;
  each = λ c. subst (λ t. StandsForSlot size told tables.kv t (of_client tables.clients c) (get next.transactions c)) (sym now)
      (subst (λ ts. StandsForSlot size told tables.kv m.now (of_client tables.clients c) (get ts c)) (sym transactions) (same.each c));
  later = λ tx le. subst (λ t. Stands size told tx 0 (metadata_now tables.kv) t) (sym now) (same.later tx le);
  jobs = λ j. subst (λ js. StandsForLabel size told tables.kv (of_label tables.beside.jobs j) (get js j)) (sym jobs) (same.jobs j);
  before = same.before;
  none = λ is. subst (λ l. Contains l root_alone) (sym may) (same.none is);
  images = λ n there. subst (λ l. IsImageTree size told tables n l) (sym may) (same.images n there);
}

-- ---- a server goes down, or comes up
module _ (told later : Told) (old new : CoreView) (m : Machine) (k : ℕ) (to : Bool) (a : Answer) (sound : AreSound old.tables) (stands : StandsFor told old m)
    (on : TellsOn told later) where
  -- the machine's servers are the same, but for this one
  abbrev IsSwitch : Machine → Type 0
  IsSwitch next = (j : ℕ) → machine.is_down next j ≡ (if nat_eq j k then to else machine.is_down m j)

  switched : Switches old new k to a → (next : Machine) → next.settings ≡ m.settings → TablesStand old.settings.region later old.tables next → IsSwitch next
      → ScansStand new.tables next → StandsFor later new next
  switched turn next settings tables is scans =
      let down : (j : ℕ) → is_down new.replicas j ≡ machine.is_down next j = λ j. by j (number_cases j k) in
      subst (λ (core : CoreView). StandsFor later core next) (sym turn.rest) (record {
        settings = settings ∙ stands.settings;
        tables = tables;
        down = down;
        scans = subst (λ (core : CoreView). ScansStand core.tables next) turn.rest scans;
      })
    where
      by : (j : ℕ) → (j ≡ k) ⊎ (j ≢ k) → is_down new.replicas j ≡ machine.is_down next j
      by j (inl same) = subst (λ i. is_down new.replicas i ≡ to) (sym same) turn.is ∙ sym (ap (λ b. if b then to else machine.is_down m j) (eq-eqb j k same))
          ∙ sym (is j)
      by j (inr ne) = turn.others j ne ∙ stands.down j ∙ sym (ap (λ b. if b then to else machine.is_down m j) (ne_eqb j k ne)) ∙ sym (is j)

  -- the tables stand for a machine that differs in its servers alone
  tables_beside : (next : Machine) → next.number ≡ m.number → next.now ≡ m.now → next.transactions ≡ m.transactions → next.may_be_saved ≡ m.may_be_saved
      → next.jobs ≡ m.jobs → TablesStand old.settings.region later old.tables next
  tables_beside next number now transactions may jobs =
      machine_beside old.settings.region later old.tables m next (tables_later old.settings.region told later old.tables m sound stands.tables on) number now
      transactions may jobs

  -- where there is such a server, and where there is none
  switch_line : (e : Event) → ((c : Answer) → c ≡ Answer.Okay → IsSwitch (after m e c)) → ((c : Answer) → (after m e c).settings ≡ m.settings)
      → TablesStand old.settings.region later old.tables (after m e Answer.Okay) → ((w : Word) → after m e (Answer.Refused w) ≡ m)
      → ScansStand new.tables (after m e a) → ServerTurn old new k to a → (a ≡ server_answer m k) × StandsFor later new (after m e a)
  switch_line e moves settings tables stay scans turn = by (nat_lt k old.settings.servers) refl turn
    where
      servers : nat_lt k m.settings.servers ≡ nat_lt k old.settings.servers
      servers = ap (λ (s : Settings). nat_lt k s.servers) stands.settings

      by : (b : Bool) → nat_lt k old.settings.servers ≡ b → MatchBool b (Switches old new k to a) ((a ≡ Answer.Refused NoServer) × (new ≡ old))
          → (a ≡ server_answer m k) × StandsFor later new (after m e a)
      by true is t = (
        t.answer ∙ sym (ap (λ b. if b then Answer.Okay else Answer.Refused NoServer) (servers ∙ is)),
        switched t (after m e a) (settings a) (subst (λ c. TablesStand old.settings.region later old.tables (after m e c)) (sym t.answer) tables)
            (moves a t.answer) scans,
      )
      by false is t = (
        t.0 ∙ sym (ap (λ b. if b then Answer.Okay else Answer.Refused NoServer) (servers ∙ is)),
        subst (λ (next : Machine). StandsFor later new next) (sym (ap (after m e) t.0 ∙ stay NoServer))
            (subst (λ (core : CoreView). StandsFor later core m) (sym t.1) (stays told later old m sound stands on)),
      )

down_line : (told later : Told) (old new : CoreView) (m : Machine) (k : ℕ) (a : Answer) → AreSound old.tables → StandsFor told old m → TellsOn told later →
    ScansStand new.tables (after m (Event.Down k) a) → ServerTurn old new k true a
    → (a ≡ server_answer m k) × StandsFor later new (after m (Event.Down k) a)
down_line told later old new m k a sound stands on scans turn =
    switch_line told later old new m k true a sound stands on (Event.Down k)
    (λ c is. subst (λ d. IsSwitch told later old new m k true a sound stands on (after m (Event.Down k) d)) (sym is)
    (is_down-event m (Event.Down k) Answer.Okay))
    (λ c. (event_stamped m (Event.Down k) c tt tt).settings)
    (tables_beside told later old new m k true a sound stands on (after m (Event.Down k) Answer.Okay) refl refl refl refl refl) (λ w. refl) scans turn

up_line : (told later : Told) (old new : CoreView) (m : Machine) (k : ℕ) (a : Answer) → AreSound old.tables → StandsFor told old m → TellsOn told later →
    ScansStand new.tables (after m (Event.Up k) a) → ServerTurn old new k false a
    → (a ≡ server_answer m k) × StandsFor later new (after m (Event.Up k) a)
up_line told later old new m k a sound stands on scans turn = switch_line told later old new m k false a sound stands on (Event.Up k)
    (λ c is. subst (λ d. IsSwitch told later old new m k false a sound stands on (after m (Event.Up k) d)) (sym is) (is_down-event m (Event.Up k) Answer.Okay))
    (λ c. (event_stamped m (Event.Up k) c tt tt).settings)
    (tables_beside told later old new m k false a sound stands on (after m (Event.Up k) Answer.Okay) refl refl refl refl refl) (λ w. refl) scans turn

-- ---- each line that collects nothing
-- the stores tell, and go on to
module _ {S : Type 0} (kind : StoreKind S) (t : Span S) (old new : CoreView) (m : Machine) (a : Answer) (sound : AreSound old.tables)
    (stands : StandsFor (byte_at kind t.before) old m) (on : TellsOn (byte_at kind t.before) (byte_at kind t.after)) (tells : TellsCore kind t.before old) where
  abbrev told : Told
  told = byte_at kind t.before

  abbrev later : Told
  later = byte_at kind t.after

  abbrev size : ℕ
  size = old.settings.region

  -- the lists that are remembered
  lists : AreTrue size told (KnowsLists kind t.before old) old.tables
  lists = record { ranges = tells.tables.punched; cache = tells.tables.cache; away = tells.tables.away }

  region : m.settings.region ≡ old.settings.region
  region = ap (λ (s : Settings). s.region) stands.settings

  count : m.settings.servers ≡ old.settings.servers
  count = ap (λ (s : Settings). s.servers) stands.settings

  -- the scans stand as before, where none began and no part was done
  scans_by : (e : Event) → IsOther e → IsFree m e a → LineTurn kind t old new e a → HasKinds (metadata_now new.tables.kv) → ScansStand new.tables (after m e a)
  scans_by e other free turn kinds =
      scans_on size told old.tables new.tables e a m (after m e a) sound stands.tables (line_moves kind t old new sound a e turn) other
      (event_stamped m e a other free) kinds stands.scans

  -- also where the tables are the same
  server_scans : (e : Event) → IsOther e → IsFree m e a → LineTurn kind t old new e a → new.tables ≡ old.tables → ScansStand new.tables (after m e a)
  server_scans e other free turn same = scans_by e other free turn
      (subst (λ (tables : TablesView). HasKinds (metadata_now tables.kv)) (sym same)
      (kinds_of size told old.tables.next_tx 0 (metadata_now old.tables.kv) m.now (stands.tables.later old.tables.next_tx (omega arith))))

  -- so the core does, with its tables
  stands_by : (e : Event) → IsOther e → IsFree m e a → LineTurn kind t old new e a → new.settings ≡ old.settings → new.replicas ≡ old.replicas
      → ((k : ℕ) → machine.is_down (after m e a) k ≡ machine.is_down m k) → TablesStand size later new.tables (after m e a) → StandsFor later new (after m e a)
  stands_by e other free turn same replicas down tables = record {
    settings = (event_stamped m e a other free).settings ∙ stands.settings ∙ sym same;
    tables = subst (λ (s : Settings). TablesStand s.region later new.tables (after m e a)) (sym same) tables;
    down = λ k. ap (λ r. is_down r k) replicas ∙ stands.down k ∙ sym (down k);
    scans = scans_by e other free turn
        (kinds_of size later new.tables.next_tx 0 (metadata_now new.tables.kv) (after m e a).now (tables.later new.tables.next_tx (omega arith)));
  }

  -- what a line leaves of a core
  abbrev Rest : Type 0
  Rest = new ≡ record old { tables = new.tables; lists = new.lists }

  rest_settings : Rest → new.settings ≡ old.settings
  rest_settings h = ap (λ (c : CoreView). c.settings) h

  rest_replicas : Rest → new.replicas ≡ old.replicas
  rest_replicas h = ap (λ (c : CoreView). c.replicas) h

  client_event : (c : ℕ) (v : Verb) → IsSmall m → LineTurn kind t old new (Event.Client c v) a → IsEvent later new m (Event.Client c v) a
  client_event c v small h =
      let both = client_stands (seeing kind t (lent_of old new)) old.tables new.tables m c v a sound region count small stands.tables on
      (tells.tables.all, lists) h.0 in
      record {
        may = both.0;
        stands = stands_by (Event.Client c v) tt tt h (rest_settings h.1) (rest_replicas h.1) (is_down-event m (Event.Client c v) a) both.1;
      }

  plan_event : (j : ℕ) (job : JobKind) (p : List ℕ) (r : ℕ) → LineTurn kind t old new (Event.Plan j job p r) a → IsEvent later new m (Event.Plan j job p r) a
  plan_event j job p r h =
      let both = plan_stands old.tables new.tables j sound (seeing kind t (lent_of old new)) m stands.tables on job p r a
      region count (tells.tables.all, lists) h.0 in
      record {
        may = both.0;
        stands = stands_by (Event.Plan j job p r) tt
            (λ is. label_none size told old.tables.kv (of_label old.tables.beside.jobs j) (get m.jobs j) (stands.tables.jobs j)
            (planned_free old.tables new.tables j sound (seeing kind t (lent_of old new)) job p r a h.0 is))
            h (rest_settings h.1) (rest_replicas h.1) (is_down-event m (Event.Plan j job p r) a) both.1;
      }

  put_event : (j : ℕ) → LineTurn kind t old new (Event.Put j) a → IsEvent later new m (Event.Put j) a
  put_event j h =
      let both = put_stand old.tables new.tables j sound size told later m stands.tables on a h.0 in
      record {
        may = both.0;
        stands = stands_by (Event.Put j) tt tt h (ap (λ (c : CoreView). c.settings) h.1) (ap (λ (c : CoreView). c.replicas) h.1)
            (is_down-event m (Event.Put j) a) both.1;
      }

  drop_event : (j : ℕ) → LineTurn kind t old new (Event.DropJob j) a → IsEvent later new m (Event.DropJob j) a
  drop_event j h =
      let both = drop_stand old.tables new.tables j sound size told later m stands.tables on a h.0 in
      record {
        may = both.0;
        stands = stands_by (Event.DropJob j) tt tt h (ap (λ (c : CoreView). c.settings) h.1) (ap (λ (c : CoreView). c.replicas) h.1)
            (is_down-event m (Event.DropJob j) a) both.1;
      }

  dump_event : (p : List ℕ) → LineTurn kind t old new (Event.Dump p) a → IsEvent later new m (Event.Dump p) a
  dump_event p h =
      let due : (a ≡ dump_answer m p) ⊎ MayFailRead m.settings.servers (dump_answer m p) a =
      subst (λ n. (a ≡ dump_answer m p) ⊎ MayFailRead n (dump_answer m p) a) (sym count)
      (h.0.shows lists old.tables.next_tx 0 m.now (stands.tables.later old.tables.next_tx (omega arith))) in
      record {
        may = due;
        stands = stands_by (Event.Dump p) tt tt h (rest_settings h.1) (rest_replicas h.1) (λ k. refl)
            (stays_stand old.tables new.tables 0 sound (h.0.stays 0) size told later m stands.tables on);
      }

  save_may : SaveTurn (AreUp old.replicas old.settings.servers) old.tables new.tables a → MaySave m a
  save_may turn = by a turn
    where
      by : (b : Answer) → SaveTurn (AreUp old.replicas old.settings.servers) old.tables new.tables b → MaySave m b
      by (Answer.Saved n) (number, up, saves) =
          (number ∙ sym stands.tables.number, λ k lt. sym (stands.down k) ∙ up k (subst (λ (s : Settings). k < s.servers) stands.settings lt))
      by Answer.FaultSave t = tt
      by b t = absurd t

  save_event : LineTurn kind t old new Event.Save a → IsEvent later new m Event.Save a
  save_event h = record {
    may = save_may h.0;
    stands = stands_by Event.Save tt tt h (ap (λ (c : CoreView). c.settings) h.1) (ap (λ (c : CoreView). c.replicas) h.1)
        (is_down-event m Event.Save a)
        (save_stands (AreUp old.replicas old.settings.servers) old.tables new.tables sound size told later m a stands.tables on h.0);
  }

  tree_event : LineTurn kind t old new Event.Tree a → IsEvent later new m Event.Tree a
  tree_event h = record {
    may = h.0 told old.tables.next_tx 0 m.now (stands.tables.later old.tables.next_tx (omega arith));
    stands = subst (λ (core : CoreView). StandsFor later core m) (sym h.1) (stays told later old m sound stands on);
  }

  -- ---- a scan, and its parts
  -- a scan changes pins and the scans alone
  started_alike : StartsTurn kind t.before old.tables new.tables → ShowsAlike old.tables new.tables
  started_alike turn = record {
    number = turn.starts.pins.number;
    maps = λ n live. start_maps kind t.before old.tables new.tables sound turn n;
    moved = λ b. none_moved old.tables.kv new.tables.kv b (λ q.
        ap (λ (n : ℕ). versions_of key_cmp (record new.tables.kv { number = n }) q) turn.starts.pins.number
        ∙ ap (λ c. versions_of key_cmp (record old.tables.kv { cells = c }) q) turn.starts.pins.cells);
    next_tx = turn.next_tx;
    clients = turn.clients;
    jobs = ap (λ (b : BesideView). b.jobs) turn.beside;
    images = ap (λ (b : BesideView). b.images) turn.beside;
    none = ap (λ (b : BesideView). b.none) turn.beside;
  }

  before_later : TablesStand size later old.tables m
  before_later = tables_later size told later old.tables m sound stands.tables on

  -- so a machine of other scans
  scan_tables : (b : Answer) → ScanTurn kind t.before old.tables new.tables b → TablesStand size later new.tables (scanning m b)
  scan_tables (Answer.Refused ScanBusy) h = subst (λ (tables : TablesView). TablesStand size later tables m) (sym h.0) before_later
  scan_tables (Answer.Held who) h = subst (λ (tables : TablesView). TablesStand size later tables m) (sym h.0) before_later
  scan_tables Answer.Scanning h = machine_beside size later new.tables m (scanning m Answer.Scanning)
      (alike_stand old.tables new.tables sound (started_alike h) size later m before_later) refl refl refl refl refl
  scan_tables b h = absurd h

  scan_event : LineTurn kind t old new Event.Scan a → IsEvent later new m Event.Scan a
  scan_event h =
      let same : new.settings ≡ old.settings = ap (λ (c : CoreView). c.settings) h.1 in
      record {
        may = scan_may kind t.before size told old.tables new.tables m sound stands.tables stands.scans a h.0;
        stands = record {
          settings = ap (λ (x : Machine). x.settings) (scanning-rest m a) ∙ stands.settings ∙ sym same;
          tables = subst (λ (s : Settings). TablesStand s.region later new.tables (scanning m a)) (sym same) (scan_tables a h.0);
          down = λ k. ap (λ (c : CoreView). is_down c.replicas k) h.1 ∙ stands.down k ∙ sym (is_down-event m Event.Scan a k);
          scans = scan_stands kind t.before size told old.tables new.tables m sound stands.tables stands.scans a h.0;
        };
      }

  does_tables : (before after : Dev S) (n left : ℕ) → DoesTurn kind before after old.tables new.tables n left → TablesStand size later new.tables m
  does_tables before after n left h = pruned_stand old.tables new.tables sound h.prunes h.keeps size later m before_later

  piece_tables : (before after : Dev S) (n : ℕ) (b : Answer) → PieceTurn kind before after old.tables new.tables n b
      → TablesStand size later new.tables (scanned m b)
  piece_tables before after n (Answer.Refused NoScan) h = subst (λ (tables : TablesView). TablesStand size later tables m) (sym h.0) before_later
  piece_tables before after n (Answer.More left) h =
      machine_beside size later new.tables m (scanned m (Answer.More left)) (does_tables before after n left h.1) refl refl refl refl refl
  piece_tables before after n Answer.Done h =
      machine_beside size later new.tables m (scanned m Answer.Done) (does_tables before after n 0 h) refl refl refl refl refl
  piece_tables before after n b h = pruned_stand old.tables new.tables sound h.pruned.kv (pruned_keeps old.tables new.tables h.pruned) size later m before_later

  piece_event : KindLaws kind → TablesBytes (is_inside kind t.before old.settings) any_slice old.tables → (n : ℕ) → LineTurn kind t old new (Event.Piece n) a
      → IsEvent later new m (Event.Piece n) a
  piece_event laws inside n h =
      let by = h.0 in
      let same : new.settings ≡ old.settings = rest_settings h.1 in
      record {
        may = piece_may laws by.before by.after by.sound old.tables new.tables
            (subst (λ (s : Settings). TablesBytes (is_inside kind (stores by.before) s) any_slice old.tables) (sym by.lent.settings_are)
            (subst (λ (shelf : List S). TablesBytes (is_inside kind shelf old.settings) any_slice old.tables)
            (sym (ap (λ (s : Span S). s.before) by.lent.span_is)) inside)) n m stands.scans (stands.settings ∙ sym by.lent.settings_are) a by.did;
        stands = record {
          settings = ap (λ (x : Machine). x.settings) (scanned-rest m a) ∙ stands.settings ∙ sym same;
          tables = subst (λ (s : Settings). TablesStand s.region later new.tables (scanned m a)) (sym same) (piece_tables by.before by.after n a by.did);
          down = λ k. ap (λ (c : CoreView). is_down c.replicas k) h.1 ∙ stands.down k ∙ sym (is_down-event m (Event.Piece n) a k);
          scans = piece_stands kind by.before by.after old.tables new.tables n m stands.scans sound a by.did;
        };
      }

-- ---- a collection
module _ {S : Type 0} {kind : StoreKind S} (laws : KindLaws kind) (old new : CoreView) (m : Machine) (sound : AreSound old.tables) where
  -- over devices that were lent
  collected_tables : (before after : Dev S) → Freed kind before after old.tables new.tables → before.settings ≡ old.settings
      → TellsCore kind (stores before) old → TablesStand old.settings.region (byte_at kind (stores before)) old.tables m
      → TablesStand old.settings.region (byte_at kind (stores after)) new.tables m
  collected_tables before after freed settings tells tables =
      subst (λ (s : Settings). TablesStand s.region (byte_at kind (stores after)) new.tables m) settings
      (collect_tables laws freed (subst (λ (s : Settings). IsSafe s.region (byte_at kind (stores before)) old.tables) (sym settings) tells.safe) m sound
      (subst (λ (s : Settings). TablesStand s.region (byte_at kind (stores before)) old.tables m) (sym settings) tables))

  collect_event : (t : Span S) (k : ℕ) (a : Answer) → StandsFor (byte_at kind t.before) old m → TellsCore kind t.before old
      → LineTurn kind t old new (Event.Collect k) a → IsEvent (byte_at kind t.after) new m (Event.Collect k) a
  collect_event t k a stands tells h =
      let by = h.0 in
      let freed = collect_freed laws by.before by.after old.tables new.tables k a by.did in
      let same : new.settings ≡ old.settings = ap (λ (c : CoreView). c.settings) h.1 in
      record {
        may = collect_may kind by.before by.after old.tables new.tables k m stands.scans (stands.settings ∙ sym by.lent.settings_are) a by.did;
        stands = record {
          settings = stands.settings ∙ sym same;
          tables = subst (λ (s : Settings). TablesStand s.region (byte_at kind t.after) new.tables m) (sym same)
              (subst (λ (s : Span S). TellsCore kind s.before old → TablesStand old.settings.region (byte_at kind s.before) old.tables m
              → TablesStand old.settings.region (byte_at kind s.after) new.tables m) by.lent.span_is
              (collected_tables by.before by.after freed by.lent.settings_are) tells stands.tables);
          down = λ j. ap (λ (c : CoreView). is_down c.replicas j) h.1 ∙ stands.down j;
          scans = collect_stands kind by.before by.after old.tables new.tables k m stands.scans a by.did;
        };
      }

-- ---- each line
module _ {S : Type 0} {kind : StoreKind S} (laws : KindLaws kind) (t : Span S) (old new : CoreView) (m : Machine) (a : Answer) (sound : AreSound old.tables)
    (stands : StandsFor (byte_at kind t.before) old m) (tells : TellsCore kind t.before old)
    (inside : TablesBytes (is_inside kind t.before old.settings) any_slice old.tables) where
  pub line_stands : (e : Event) → IsSmall m → (((k : ℕ) → e ≢ Event.Collect k) → TellsOn (byte_at kind t.before) (byte_at kind t.after))
      → LineTurn kind t old new e a → IsEvent (byte_at kind t.after) new m e a
  line_stands (Event.Client c v) small on h = client_event kind t old new m a sound stands (on (λ k is. absurd (cc))) tells c v small h
  line_stands (Event.Plan j job p r) small on h = plan_event kind t old new m a sound stands (on (λ k is. absurd (cc))) tells j job p r h
  line_stands (Event.Put j) small on h = put_event kind t old new m a sound stands (on (λ k is. absurd (cc))) tells j h
  line_stands (Event.DropJob j) small on h = drop_event kind t old new m a sound stands (on (λ k is. absurd (cc))) tells j h
  line_stands (Event.Down k) small on h =
      let still : TellsOn (byte_at kind t.before) (byte_at kind t.after) = on (λ j is. absurd (cc)) in
      let both = down_line (byte_at kind t.before) (byte_at kind t.after) old new m k a sound stands still
      (server_scans kind t old new m a sound stands still tells (Event.Down k) tt tt h (server_plain old new k true (nat_lt k old.settings.servers) a h).1) h in
      record { may = both.0; stands = both.1 }
  line_stands (Event.Up k) small on h =
      let still : TellsOn (byte_at kind t.before) (byte_at kind t.after) = on (λ j is. absurd (cc)) in
      let both = up_line (byte_at kind t.before) (byte_at kind t.after) old new m k a sound stands still
      (server_scans kind t old new m a sound stands still tells (Event.Up k) tt tt h (server_plain old new k false (nat_lt k old.settings.servers) a h).1) h in
      record { may = both.0; stands = both.1 }
  line_stands (Event.Dump p) small on h = dump_event kind t old new m a sound stands (on (λ k is. absurd (cc))) tells p h
  line_stands Event.Tree small on h = tree_event kind t old new m a sound stands (on (λ k is. absurd (cc))) tells h
  line_stands Event.Save small on h = save_event kind t old new m a sound stands (on (λ k is. absurd (cc))) tells h
  line_stands Event.Scan small on h = scan_event kind t old new m a sound stands (on (λ k is. absurd (cc))) tells h
  line_stands (Event.Piece n) small on h = piece_event kind t old new m a sound stands (on (λ k is. absurd (cc))) tells laws inside n h
  line_stands (Event.Collect k) small on h = collect_event laws old new m sound t k a stands tells h
